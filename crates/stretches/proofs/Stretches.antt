-- A stretch of plain instructions: where it leads, and that there is one answer.
use Prim.Native.Nat.{ℕ, suc, ◌+◌, ◌*◌, ◌-◌, ◌/◌, ◌%◌, ◌<◌, ◌≤◌}
use mathlib.Core.Path.{◌≡◌, refl, sym, ap, ◌∙◌}
use mathlib.Core.Bool.{Bool, true, false, ◌&&◌}
use mathlib.Core.List.{List, ◌++◌}
use native.Mathlib.Nat.{add-zero}
use native.Mathlib.Omega.{arith}
use lib.Dec.{eqb, leb, ltb, leb-zero}
use lib.ListN.{length, take, drop, get_or, length-drop}
use lib.Seq.{length-take-le, take_all, take-take, take-add, drop-drop, drop-append_seam, get_or-take, get_or-drop}
use borrow.Author.Tests.{eqb-true, eqb-false, lt-ltb, le-ltb, ltb-true, ltb-false, leb-true}
use Rattle.paper.specs.Notation.{pick}
use Rattle.paper.specs.Numbers.{refusal}
use Rattle.paper.specs.InstructionToken.{opcode_of}
use Rattle.paper.specs.Blocks.{class_of}
use Rattle.paper.specs.Instruction.{Head, broken, end, comment, operation, token_head, operands_of, on_operands, judged}
use Rattle.paper.specs.declared.Version.{Version}
use Rattle.paper.specs.declared.Refusal.{Refusal}
use Rattle.paper.specs.declared.Reason.TheVariants.{RunOut as RUN_OUT}
use Rattle.paper.specs.Judgements.{Operands, good_operands, bad_operands, Judged, good_instruction, bad_instruction}
use Rattle.paper.specs.declared.Class.{Class}
use Rattle.paper.specs.declared.Class.TheVariants.{One}
use Rattle.paper.specs.declared.Single.TheVariants.{Comment, Plain}
use Rattle.shapes.proofs.Shapes.{class_few}
use Rattle.told.specs.Numbered.{refusal_number, judged_number, judged_from, is_plain, size_in}
use Rattle.stretches.specs.declared.Stretch.{Stretch}
use Rattle.instruction.specs.Shown.{judged_with, judged_in}
use Rattle.stretches.specs.Stretch.{told_at, next_at, PlainTo, here, past, Stretched}
use Rattle.told.proofs.Numbers.{good_back}
use Rattle.instruction.proofs.Judging.{judged_none, judged_shown}

-- a refusal is not plain, and a plain instruction takes tokens that are shown
odd_plain : (r : Refusal) → is_plain (refusal_number r) ≡ true → ⊥
odd_plain r h = let e : refusal_number r % 32 ≡ 2 = eqb-true (refusal_number r % 32) 2 h in omega arith

module _ (v : Version) (first : ℕ) (behind : List ℕ) (left : ℕ) where
  on_operands_lem : (o : Operands) (size : ℕ) (class : Class) (fits : Bool) → leb size (length behind) ≡ fits →
      is_plain (judged_number (pick fits (on_operands o size class) (bad_instruction (refusal RUN_OUT 0)))) ≡ true →
      size_in (judged_number (pick fits (on_operands o size class) (bad_instruction (refusal RUN_OUT 0)))) ≤ length behind
  on_operands_lem good_operands size class true e h = let few = class_few class in omega (arith, leb-true size (length behind) e)
  on_operands_lem (bad_operands r) size class true e h = absurd (odd_plain r h)
  on_operands_lem o size class false e h = absurd (odd_plain (refusal RUN_OUT 0) h)

  on_comment_lem : (n : ℕ) (fits : Bool) → is_plain (judged_number (pick fits (good_instruction n (One Comment)) (bad_instruction (refusal RUN_OUT 0)))) ≡ true → ⊥
  on_comment_lem n true h = let e : 32 * n % 32 ≡ 2 = eqb-true (32 * n % 32) 2 (rw (add-zero (32 * n)) at h) in omega arith
  on_comment_lem n false h = odd_plain (refusal RUN_OUT 0) h

  plain_by : (h : Head) → is_plain (judged_number (judged_with v h first behind left)) ≡ true →
      size_in (judged_number (judged_with v h first behind left)) ≤ length behind
  plain_by (broken reason) p = absurd (odd_plain (refusal reason 0) (rw (leb-zero (length behind)) at p))
  plain_by end p = absurd (let e : 24 % 32 ≡ 2 = eqb-true (24 % 32) 2 (rw (leb-zero (length behind)) at p) in omega arith)
  plain_by (comment n) p = absurd (on_comment_lem n (leb n left) p)
  plain_by (operation places size) p =
      on_operands_lem (operands_of v (opcode_of first) places (take size behind)) size (class_of (opcode_of first)) (leb size (length behind)) refl p

  plain_size : is_plain (judged_number (judged_in v first behind left)) ≡ true → size_in (judged_number (judged_in v first behind left)) ≤ length behind
  unfolding judged_in
  plain_size p = plain_by (token_head v first) p

module _ (v : Version) (tokens : List ℕ) (beyond at : ℕ) where
  -- what is told where a token is, and where none is
  pub told_here : at < length tokens →
      told_at v tokens beyond at ≡ judged_number (judged_in v (get_or tokens at 0) (drop (at + 1) tokens) (length (drop (at + 1) tokens) + beyond))
  unfolding told_at
  told_here h = rw (lt-ltb at (length tokens) h) refl

  pub told_none : length tokens ≤ at → told_at v tokens beyond at ≡ refusal_number (refusal RUN_OUT 0)
  unfolding told_at
  told_none h = rw (le-ltb at (length tokens) h) refl

  plain_some : (b : Bool) → ltb at (length tokens) ≡ b → is_plain (told_at v tokens beyond at) ≡ true → at < length tokens
  plain_some true e p = ltb-true at (length tokens) e
  plain_some false e p = absurd (odd_plain (refusal RUN_OUT 0) (rw (told_none (ltb-false at (length tokens) e)) at p))

  -- a plain instruction is followed by a place of these tokens, or by their end
  pub plain_here : is_plain (told_at v tokens beyond at) ≡ true → at < length tokens
  plain_here p = plain_some (ltb at (length tokens)) refl p

  pub plain_next : is_plain (told_at v tokens beyond at) ≡ true → next_at at (told_at v tokens beyond at) ≤ length tokens
  plain_next p =
      let h = plain_here p in
      let few = plain_size v (get_or tokens at 0) (drop (at + 1) tokens) (length (drop (at + 1) tokens) + beyond) (rw (told_here h) at p) in
      omega (arith, rw (← told_here h) at few, length-drop (at + 1) tokens)

  -- what is told where all tokens behind the first are shown
  pub told_is : at < length tokens → (told : ℕ) →
      told ≡ judged_number (judged_in v (get_or tokens at 0) (take (length tokens - (at + 1)) (drop (at + 1) tokens)) (length (take (length tokens - (at + 1)) (drop (at + 1) tokens)) + beyond)) →
      told ≡ told_at v tokens beyond at
  told_is h told e =
      rw (take_all (length tokens - (at + 1)) (drop (at + 1) tokens) (omega (arith, length-drop (at + 1) tokens))) at e ∙ sym (told_here h)

-- one turn of a stretch, at an instruction of which this is told
module _
    (v : Version)
    (tokens : List ℕ)
    (beyond stop start at count told : ℕ)
    (l : PlainTo v tokens beyond stop start at count)
    (h : at < length tokens)
    (e : told ≡ judged_number (judged_in v (get_or tokens at 0) (take (length tokens - (at + 1)) (drop (at + 1) tokens)) (length (take (length tokens - (at + 1)) (drop (at + 1) tokens)) + beyond)))
  where
    is : told ≡ told_at v tokens beyond at
    is = told_is v tokens beyond at h told e

    pub turn_inside : is_plain told ≡ true → next_at at told ≤ length tokens
    turn_inside p = rw is (plain_next v tokens beyond at (rw is at p))

    pub turn_on : is_plain told ≡ true → next_at at told < stop → PlainTo v tokens beyond stop start (next_at at told) (count + 1)
    turn_on p before =
        let one : count + 1 ≡ suc count = omega arith in
        rw (is, one) (past l (rw is at p) (rw is at before))

    pub turn_last : is_plain told ≡ false → Stretched v tokens start stop beyond (record { at = at; count = count; told = told })
    turn_last other = record { leads = l; is = is; ends = rw other refl }

    pub turn_stop : is_plain told ≡ true → stop ≤ next_at at told → Stretched v tokens start stop beyond (record { at = at; count = count; told = told })
    turn_stop p stops = record { leads = l; is = is; ends = rw (p, le-ltb (next_at at told) stop stops) refl }

-- a turn of the walk
pub ruleset turns = (told_none, turn_inside, turn_on, turn_last, turn_stop)

-- where the next instruction may not begin before a stop, the stretch has no more than one
pub leads_one : {v : Version} {tokens : List ℕ} {beyond start at n : ℕ} → PlainTo v tokens beyond 0 start at n → at ≡ start
leads_one here = refl
leads_one (past l p s) = absurd (omega arith)

-- what is told in a whole stream, and in a part of it behind which enough is shown, is of the instruction there
module _ (v : Version) (s : List ℕ) where
  whole_by : (at : ℕ) (b : Bool) → ltb at (length s) ≡ b → told_at v s 0 at ≡ judged_number (judged v (drop at s))
  whole_by at true e =
      let h = ltb-true at (length s) e in
      told_here v s 0 at h
      ∙ ap judged_number (judged_shown v s (drop (at + 1) s) at (length (drop (at + 1) s) + 0) h (omega (arith, length-drop (at + 1) s)) refl)
  whole_by at false e =
      let h = ltb-false at (length s) e in
      told_none v s 0 at h ∙ ap judged_number (sym (judged_none v (drop at s) (omega (arith, length-drop at s))))

  pub told_whole : (at : ℕ) → told_at v s 0 at ≡ judged_number (judged v (drop at s))
  told_whole at = whole_by at (ltb at (length s)) refl

  -- a part of n tokens from `start` on
  module _ (start n beyond : ℕ) (inside : start + n + beyond ≡ length s) (at : ℕ) (h : at < n) where
    part_length : length (take n (drop start s)) ≡ n
    part_length = length-take-le n (drop start s) (omega (arith, length-drop start s))

    part_token : get_or (take n (drop start s)) at 0 ≡ get_or s (start + at) 0
    part_token = get_or-take n (drop start s) at 0 h ∙ get_or-drop start s at 0

    part_rest : drop (at + 1) (take n (drop start s)) ≡ take (n - (at + 1)) (drop (start + at + 1) s)
    part_rest =
        let l = drop start s in
        let rest = take (n - (at + 1)) (drop (at + 1) l) in
        let sum : n ≡ at + 1 + (n - (at + 1)) = omega arith in
        let parts : take n l ≡ take (at + 1) l ++ rest = ap (λ (k : ℕ). take k l) sum ∙ take-add (at + 1) (n - (at + 1)) l in
        let front : length (take (at + 1) l) ≡ at + 1 = length-take-le (at + 1) l (omega (arith, length-drop start s)) in
        let place : start + (at + 1) ≡ start + at + 1 = omega arith in
        ap (drop (at + 1)) parts
        ∙ rw front at (drop-append_seam (take (at + 1) l) rest)
        ∙ ap (take (n - (at + 1))) (drop-drop (at + 1) start s ∙ ap (λ (k : ℕ). drop k s) place)

    told_shown : take 15 (drop (at + 1) (take n (drop start s))) ≡ take 15 (drop (start + at + 1) s) →
        told_at v (take n (drop start s)) beyond at ≡ judged_number (judged v (drop (start + at) s))
    told_shown same =
        let part = take n (drop start s) in
        told_here v part beyond at (omega (arith, part_length))
        ∙ rw part_token
        (ap judged_number
        (judged_shown v s (drop (at + 1) part) (start + at) (length (drop (at + 1) part) + beyond) (omega arith) (omega (arith, length-drop (at + 1) part, part_length)) same))

    -- behind it at least fifteen tokens are shown, or all
    pub told_far : at + 16 ≤ n → told_at v (take n (drop start s)) beyond at ≡ judged_number (judged v (drop (start + at) s))
    told_far far = told_shown (ap (take 15) part_rest ∙ take-take 15 (n - (at + 1)) (drop (start + at + 1) s) (omega arith))

    pub told_end : beyond ≡ 0 → told_at v (take n (drop start s)) beyond at ≡ judged_number (judged v (drop (start + at) s))
    told_end none =
        told_shown
        (ap (take 15) (part_rest ∙ take_all (n - (at + 1)) (drop (start + at + 1) s) (omega (arith, length-drop (start + at + 1) s))))

-- a plain instruction, told back
pub plain_from : (told : ℕ) → is_plain told ≡ true → judged_from told ≡ good_instruction (size_in told) (One Plain)
unfolding judged_from
plain_from told p =
    let kind : told % 32 ≡ 2 = eqb-true (told % 32) 2 p in
    let halved : told / 2 ≡ 16 * size_in told + 1 = omega arith in
    let even : told % 2 ≡ 0 = omega arith in
    let plainly : told / 2 % 16 ≡ 1 = rw halved (omega arith) in
    rw (even, plainly) refl

pub plain_judged : (j : Judged) (told : ℕ) → told ≡ judged_number j → is_plain told ≡ true → j ≡ good_instruction (size_in told) (One Plain)
plain_judged (good_instruction size class) told e p = sym (ap judged_from e ∙ good_back size class) ∙ plain_from told p
plain_judged (bad_instruction r) told e p = absurd (odd_plain r (sym (ap is_plain e) ∙ p))

-- a stretch has one answer
module _ (v : Version) (tokens : List ℕ) (beyond stop start : ℕ) where
  leads_same : {at at' n : ℕ} → PlainTo v tokens beyond stop start at n → PlainTo v tokens beyond stop start at' n → at ≡ at'
  leads_same here here = refl
  leads_same (past l p s) (past l' p' s') = ap (λ (x : ℕ). next_at x (told_at v tokens beyond x)) (leads_same l l')

  -- it goes on behind each place on its way
  abbrev GoesOnAt : ℕ → Type 0
  GoesOnAt m =
      (on : ℕ) × PlainTo v tokens beyond stop start on m × (is_plain (told_at v tokens beyond on) ≡ true) ×
      (next_at on (told_at v tokens beyond on) < stop)

  leads_before : (m : ℕ) {at n : ℕ} → PlainTo v tokens beyond stop start at n → m < n → GoesOnAt m
  leads_before m here h = absurd (omega arith)
  leads_before m (past {at} {n} l p s) h = by (eqb m n) refl (λ less. leads_before m l less)
    where
      by : (b : Bool) → eqb m n ≡ b → (m < n → GoesOnAt m) → GoesOnAt m
      by true e earlier = (at, rw (eqb-true m n e) l, p, s)
      by false e earlier = let other = eqb-false m n e in earlier (omega arith)

  no_less : (r r' : Stretch) → Stretched v tokens start stop beyond r → Stretched v tokens start stop beyond r' → r.count < r'.count → ⊥
  no_less r r' a b less =
      let before = leads_before r.count b.leads less in
      let same : before.0 ≡ r.at = leads_same before.1 a.leads in
      let on : is_plain (told_at v tokens beyond r.at) ≡ true = rw same at before.2 in
      let further : next_at r.at (told_at v tokens beyond r.at) < stop = rw same at before.3 in
      let ends : (is_plain (told_at v tokens beyond r.at) && ltb (next_at r.at (told_at v tokens beyond r.at)) stop) ≡ false = rw a.is at a.ends in
      let z : true ≡ false = rw (on, lt-ltb (next_at r.at (told_at v tokens beyond r.at)) stop further) at ends in
      let apart : ◌≡◌ {A = ℕ} 0 1 = cc in
      omega arith

  stretch_same : {at at' count count' told told' : ℕ} → at ≡ at' → count ≡ count' → told ≡ told' →
      ◌≡◌ {A = Stretch} (record { at = at; count = count; told = told }) (record { at = at'; count = count'; told = told' })
  stretch_same a b c = rw (a, b, c) refl

  pub one_stretch : (r r' : Stretch) → Stretched v tokens start stop beyond r → Stretched v tokens start stop beyond r' → r ≡ r'
  one_stretch r r' a b =
      let fewer = no_less r r' a b in
      let more = no_less r' r b a in
      let counts : r.count ≡ r'.count = omega arith in
      let places : r.at ≡ r'.at = leads_same a.leads (rw counts b.leads) in
      let tells : r.told ≡ r'.told = a.is ∙ ap (told_at v tokens beyond) places ∙ sym b.is in
      stretch_same places counts tells
