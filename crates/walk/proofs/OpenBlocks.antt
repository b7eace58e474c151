-- The number of the open blocks, and the step over it.
use Rattle.std.specs.Prelude.{Some, Ok, Err}
use Rattle.std.proofs.Common.{◌≡◌, ℕ, zero, suc, ◌+◌, ◌*◌, ◌/◌, ◌%◌, ◌^◌, ◌<◌, ◌≤◌, Bool, true, false, not, ◌&&◌, ◌||◌, eqb, ltb, List, [], ◌∷◌, length, refl, ap, ◌∙◌, pow-suc, arith, ltb-false, ltb-true, le-ltb, lt-ltb, ne_eqb}
use Rattle.paper.proofs.Bools.{apart, or_false}
use Rattle.paper.proofs.OneToOne.{told_back}
use Rattle.paper.specs.Notation.{pick}
use Rattle.paper.specs.Blocks.{most_open, may_stand, is_phase, class_phase, is_zero}
use Rattle.paper.specs.Walk.{Kind, opened, past_else, loops, in_loop, WalkState, nested, marked, is_end, closes, elses, close_at, step, go, bad, finish}
use Rattle.paper.specs.declared.Class.{Class}
use Rattle.paper.specs.declared.Class.TheVariants.{One, Opens, Closes}
use Rattle.paper.specs.declared.Single.{Single}
use Rattle.paper.specs.declared.Single.TheVariants.{Comment, Plain, Break, Label, Return, Phase}
use Rattle.paper.specs.declared.Opener.{Opener}
use Rattle.paper.specs.declared.Opener.TheVariants.{If, Loop, Rep}
use Rattle.paper.specs.declared.Closer.{Closer}
use Rattle.paper.specs.declared.Closer.TheVariants.{Else, EndIf, EndLoop, EndRep, End}
use Rattle.paper.specs.declared.Reason.{Reason}
use Rattle.paper.specs.declared.Reason.TheVariants.{Block as BLOCK, Depth as DEPTH}
use Rattle.walk.specs.Kinds.{base, opener_digit, digit_of, kinds_number, numbered, loop_digit, loop_within, in_loop_by, allowed_by, stands_by, opens_by, closes_by, next_by}

digit_small : (k : Kind) → (1 ≤ digit_of k) × (digit_of k ≤ 4)
digit_small (opened If) = omega arith
digit_small (opened Loop) = omega arith
digit_small (opened Rep) = omega arith
digit_small past_else = omega arith

-- one-to-one

kind_from : ℕ → Kind
kind_from digit =
    pick (eqb digit (opener_digit If)) (opened If)
    (pick (eqb digit (opener_digit Loop)) (opened Loop) (pick (eqb digit (opener_digit Rep)) (opened Rep) past_else))

kind_back : (k : Kind) → kind_from (digit_of k) ≡ k
unfolding kind_from
kind_back (opened If) = refl
kind_back (opened Loop) = refl
kind_back (opened Rep) = refl
kind_back past_else = refl

digit_same : (k l : Kind) → digit_of k ≡ digit_of l → k ≡ l
digit_same = told_back digit_of kind_from kind_back

-- equal numbers are of equal open blocks
pub number_same : (ks ls : List Kind) → kinds_number ks ≡ kinds_number ls → ks ≡ ls
unfolding kinds_number
number_same [] [] e = refl
number_same [] (l ∷ ls) e = absurd (omega (arith, digit_small l))
number_same (k ∷ ks) [] e = absurd (omega (arith, digit_small k))
number_same (k ∷ ks) (l ∷ ls) e =
    let first : k ≡ l = digit_same k l (omega (arith, digit_small k, digit_small l)) in
    let rest : ks ≡ ls = number_same ks ls (omega (arith, digit_small k, digit_small l)) in
    cc

-- how many blocks are open is seen from their number

pub number_below : (n : ℕ) (ks : List Kind) → length ks ≤ n → kinds_number ks < base ^ n
unfolding kinds_number
number_below zero [] h = omega arith
number_below zero (k ∷ ks) h = absurd (omega arith)
number_below (suc n) [] h = rw pow-suc (omega (arith, number_below n [] (omega arith)))
number_below (suc n) (k ∷ ks) h = rw pow-suc (omega (arith, number_below n ks (omega arith), digit_small k))

pub number_above : (n : ℕ) (ks : List Kind) → n < length ks → base ^ n ≤ kinds_number ks
unfolding kinds_number
number_above n [] h = absurd (omega arith)
number_above zero (k ∷ ks) h = omega (arith, digit_small k)
number_above (suc n) (k ∷ ks) h = rw pow-suc (omega (arith, number_above n ks (omega arith)))

depth_seen : (ks : List Kind) (below : Bool) → ltb (length ks) most_open ≡ below → ltb (kinds_number ks) (base ^ 23) ≡ below
depth_seen ks true e = lt-ltb (kinds_number ks) (base ^ 23) (number_below 23 ks (omega (arith, ltb-true (length ks) most_open e)))
depth_seen ks false e = le-ltb (kinds_number ks) (base ^ 23) (number_above 23 ks (omega (arith, ltb-false (length ks) most_open e)))

-- the digits

last : (n : ℕ) (k : Kind) → (n * base + digit_of k) % base ≡ digit_of k
last n k = omega (arith, digit_small k)

others : (n : ℕ) (k : Kind) → (n * base + digit_of k) / base ≡ n
others n k = omega (arith, digit_small k)

none_open : (ks : List Kind) → eqb (kinds_number ks) 0 ≡ is_zero (length ks)
unfolding kinds_number
none_open [] = refl
none_open (k ∷ ks) = ne_eqb (kinds_number ks * base + digit_of k) 0 (λ e. omega (arith, digit_small k))

-- the bound on the digits does not matter where it is enough
pub digits_enough : (f g kinds : ℕ) → kinds ≤ f → kinds ≤ g → loop_within f kinds ≡ loop_within g kinds
digits_enough zero zero kinds h j = refl
digits_enough zero (suc g) kinds h j =
    let none : kinds ≡ 0 = omega arith in
    rw none (digits_enough zero g 0 (omega arith) (omega arith))
digits_enough (suc f) zero kinds h j =
    let none : kinds ≡ 0 = omega arith in
    rw none (digits_enough f zero 0 (omega arith) (omega arith))
digits_enough (suc f) (suc g) kinds h j = ap (◌||◌ (loop_digit (kinds % base))) (digits_enough f g (kinds / base) (omega arith) (omega arith))

pub loop_none : in_loop_by 0 ≡ false
unfolding in_loop_by
loop_none = refl

pub loop_first : (kinds : ℕ) → (kinds ≡ 0 → ⊥) → in_loop_by kinds ≡ loop_digit (kinds % base) || in_loop_by (kinds / base)
unfolding in_loop_by
loop_first zero h = absurd (h refl)
loop_first (suc n) h = ap (◌||◌ (loop_digit (suc n % base))) (digits_enough n (suc n / base) (suc n / base) (omega arith) (omega arith))

loop_digit_lem : (k : Kind) (within : Bool) → loop_digit (digit_of k) || within ≡ loops k within
loop_digit_lem (opened If) within = refl
loop_digit_lem (opened Loop) within = refl
loop_digit_lem (opened Rep) within = refl
loop_digit_lem past_else within = refl

loop_seen : (ks : List Kind) → in_loop_by (kinds_number ks) ≡ in_loop ks
unfolding kinds_number
loop_seen [] = loop_none
loop_seen (k ∷ ks) =
    loop_first (kinds_number ks * base + digit_of k) (λ e. omega (arith, digit_small k))
    ∙ rw (last (kinds_number ks) k, others (kinds_number ks) k, loop_seen ks) (loop_digit_lem k (in_loop ks))

-- the step over numbers is the step over lists

numbered_pick : (b : Bool) (w : WalkState) → allowed_by b (kinds_number w.kinds) ≡ numbered (pick b (go w) (bad BLOCK))
numbered_pick true w = refl
numbered_pick false w = refl

stands_is : (w : WalkState) (s : Single) → stands_by (kinds_number w.kinds) w.phased s ≡ numbered (step w (One s))
stands_is w Comment = refl
stands_is w Plain = refl
stands_is w Break = rw (loop_seen w.kinds) (numbered_pick (in_loop w.kinds) (marked false w))
stands_is w Label = rw (none_open w.kinds) (numbered_pick (is_zero (length w.kinds)) (marked false w))
stands_is w Return = rw (none_open w.kinds) (numbered_pick (is_zero (length w.kinds)) (marked false w))
stands_is w Phase = rw (none_open w.kinds) (numbered_pick (is_zero (length w.kinds) && not w.phased) (marked true w))

opens_cases : (w : WalkState) (o : Opener) (below : Bool) →
    pick below (Ok (Some (kinds_number w.kinds * base + opener_digit o))) (Err DEPTH) ≡ numbered (pick below (go (nested (opened o ∷ w.kinds) w)) (bad DEPTH))
unfolding kinds_number
opens_cases w o true = refl
opens_cases w o false = refl

opens_is : (w : WalkState) (o : Opener) → opens_by (kinds_number w.kinds) o ≡ numbered (step w (Opens o))
opens_is w o = rw (depth_seen w.kinds (ltb (length w.kinds) most_open) refl) (opens_cases w o (ltb (length w.kinds) most_open))

module _ (ks : List Kind) (w : WalkState) where
  closes_top : (k : Kind) (c : Closer) → closes_by (kinds_number ks * base + digit_of k) c ≡ numbered (close_at c (k ∷ ks) w)
  unfolding kinds_number
  closes_top (opened If) Else = rw (last (kinds_number ks) (opened If)) (ap (λ (n : ℕ). Ok (Some n)) (omega arith))
  closes_top (opened If) EndIf = rw (last (kinds_number ks) (opened If), others (kinds_number ks) (opened If))
  closes_top (opened If) EndLoop = rw (last (kinds_number ks) (opened If))
  closes_top (opened If) EndRep = rw (last (kinds_number ks) (opened If))
  closes_top (opened If) End = rw (none_open (opened If ∷ ks))
  closes_top (opened Loop) Else = rw (last (kinds_number ks) (opened Loop))
  closes_top (opened Loop) EndIf = rw (last (kinds_number ks) (opened Loop))
  closes_top (opened Loop) EndLoop = rw (last (kinds_number ks) (opened Loop), others (kinds_number ks) (opened Loop))
  closes_top (opened Loop) EndRep = rw (last (kinds_number ks) (opened Loop))
  closes_top (opened Loop) End = rw (none_open (opened Loop ∷ ks))
  closes_top (opened Rep) Else = rw (last (kinds_number ks) (opened Rep))
  closes_top (opened Rep) EndIf = rw (last (kinds_number ks) (opened Rep))
  closes_top (opened Rep) EndLoop = rw (last (kinds_number ks) (opened Rep))
  closes_top (opened Rep) EndRep = rw (last (kinds_number ks) (opened Rep), others (kinds_number ks) (opened Rep))
  closes_top (opened Rep) End = rw (none_open (opened Rep ∷ ks))
  closes_top past_else Else = rw (last (kinds_number ks) past_else)
  closes_top past_else EndIf = rw (last (kinds_number ks) past_else, others (kinds_number ks) past_else)
  closes_top past_else EndLoop = rw (last (kinds_number ks) past_else)
  closes_top past_else EndRep = rw (last (kinds_number ks) past_else)
  closes_top past_else End = rw (none_open (past_else ∷ ks))

closes_is : (ks : List Kind) (w : WalkState) (c : Closer) → closes_by (kinds_number ks) c ≡ numbered (close_at c ks w)
unfolding kinds_number
closes_is [] w Else = refl
closes_is [] w EndIf = refl
closes_is [] w EndLoop = refl
closes_is [] w EndRep = refl
closes_is [] w End = refl
closes_is (k ∷ ks) w c = closes_top ks w k c

pub next_is : (w : WalkState) (c : Class) → next_by (kinds_number w.kinds) w.phased c ≡ numbered (step w c)
next_is w (One s) = stands_is w s
next_is w (Opens o) = opens_is w o
next_is w (Closes c) = closes_is w.kinds w c

-- what a step goes on with has what every state has that it may go on with
module _ (Has : WalkState → Type 0) where
  pick_has : (b : Bool) (w u : WalkState) (reason : Reason) → (b ≡ true → Has w) → pick b (go w) (bad reason) ≡ go u → Has u
  pick_has true w u reason h e = let same : w ≡ u = cc in rw same at (h refl)
  pick_has false w u reason h e = apart (cc)

  else_has : (elsed closed : Bool) (x w u : WalkState) → Has x → Has w → pick elsed (go x) (pick closed (go w) (bad BLOCK)) ≡ go u → Has u
  else_has true closed x w u h j e = pick_has true x u BLOCK (λ t. h) e
  else_has false closed x w u h j e = pick_has closed w u BLOCK (λ t. j) e

  none_has : (b : Bool) (u : WalkState) → pick b finish (bad BLOCK) ≡ go u → Has u
  none_has true u e = apart (cc)
  none_has false u e = apart (cc)

  close_has : (c : Closer) (ks : List Kind) (w u : WalkState) →
      ((k : Kind) (ls : List Kind) → ks ≡ k ∷ ls → Has (nested (past_else ∷ ls) w) × Has (nested ls w)) → close_at c ks w ≡ go u → Has u
  close_has c [] w u h e = none_has (is_end c) u e
  close_has c (k ∷ ks) w u h e = else_has (elses c k) (closes c k) (nested (past_else ∷ ks) w) (nested ks w) u (h k ks refl).0 (h k ks refl).1 e

-- the step keeps at most mostOpen blocks open
abbrev Few : WalkState → Type 0
Few w = length w.kinds ≤ most_open

closed_few : (w : WalkState) → Few w → (k : Kind) (ks : List Kind) → w.kinds ≡ k ∷ ks → Few (nested (past_else ∷ ks) w) × Few (nested ks w)
closed_few w h k ks e = let long : length w.kinds ≡ length (k ∷ ks) = ap length e in (omega arith, omega arith)

pub step_few : (w u : WalkState) (c : Class) → Few w → step w c ≡ go u → Few u
step_few w u (One s) h e =
    pick_has Few (may_stand (length w.kinds) (in_loop w.kinds) w.phased s) (marked (is_phase s) w) u BLOCK (λ t. h) e
step_few w u (Opens o) h e =
    pick_has Few (ltb (length w.kinds) most_open) (nested (opened o ∷ w.kinds) w) u DEPTH
    (λ t. omega (arith, ltb-true (length w.kinds) most_open t)) e
step_few w u (Closes c) h e = close_has Few c w.kinds w u (closed_few w h) e

-- and marks a PHASE
module _ (w u : WalkState) where
  abbrev Marked : Bool → WalkState → Type 0
  Marked phase x = w.phased || phase ≡ x.phased

  pub step_mark : (c : Class) → step w c ≡ go u → Marked (class_phase c) u
  step_mark (One s) e =
      pick_has (Marked (is_phase s)) (may_stand (length w.kinds) (in_loop w.kinds) w.phased s) (marked (is_phase s) w) u BLOCK (λ t. refl) e
  step_mark (Opens o) e =
      pick_has (Marked false) (ltb (length w.kinds) most_open) (nested (opened o ∷ w.kinds) w) u DEPTH (λ t. or_false w.phased) e
  step_mark (Closes c) e = close_has (Marked false) c w.kinds w u (λ k ks f. (or_false w.phased, or_false w.phased)) e
