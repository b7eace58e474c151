-- The descent does not depend on its bound where that is enough: it has the equations of the grammar.
use Prim.Native.Nat.{ℕ, zero, suc, ◌+◌, ◌≤◌}
use mathlib.Core.Path.{◌≡◌, refl, ap, ◌∙◌}
use mathlib.Core.Bool.{Bool, true, false, ◌||◌}
use native.Mathlib.Omega.{arith}
use lib.Dec.{ltb}
use Rattle.paper.specs.Notation.{pick}
use Rattle.paper.specs.Numbers.{refusal}
use Rattle.paper.specs.Blocks.{Cut, out, wrong, then, may_stand, class_phase, loops_in, most_open}
use Rattle.paper.specs.Walk.{Kind, opened, past_else, closes, elses}
use Rattle.paper.specs.declared.Class.{Class}
use Rattle.paper.specs.declared.Class.TheVariants.{One, Opens, Closes}
use Rattle.paper.specs.declared.Opener.{Opener}
use Rattle.paper.specs.declared.Opener.TheVariants.{If, Loop, Rep}
use Rattle.paper.specs.declared.Closer.{Closer}
use Rattle.paper.specs.declared.Single.{Single}
use Rattle.paper.specs.declared.Refusal.{Refusal}
use Rattle.paper.specs.declared.Reason.TheVariants.{RunOut as RUN_OUT, Block as BLOCK, Depth as DEPTH}
use Rattle.blocks.specs.Descent.{BodyEnd, stopped, broken, ItemEnd, passed, closer, refused, on_item, closing, on_last, on_first, body, item, block, fuel, body_of, item_of, block_of}

-- what is left has at least one instruction less, which is three of a bound n
abbrev pub BodyLeaves : ℕ → BodyEnd → Type 0
BodyLeaves n (stopped c p a) = fuel a + 3 ≤ n
BodyLeaves n (broken r) = Unit

abbrev pub ItemLeaves : ℕ → ItemEnd → Type 0
ItemLeaves n (passed a) = fuel a + 3 ≤ n
ItemLeaves n (closer c p a) = fuel a + 3 ≤ n
ItemLeaves n (refused r) = Unit

wider : (m n : ℕ) → m ≤ n → (e : BodyEnd) → BodyLeaves m e → BodyLeaves n e
wider m n le (stopped c p a) h = omega (arith, h)
wider m n le (broken r) h = tt

wider_item : (m n : ℕ) → m ≤ n → (e : ItemEnd) → ItemLeaves m e → ItemLeaves n e
wider_item m n le (passed a) h = omega (arith, h)
wider_item m n le (closer c p a) h = omega (arith, h)
wider_item m n le (refused r) h = tt

module _ (n : ℕ) where
  leaves_pick : (test : Bool) (x y : ItemEnd) → ItemLeaves n x → ItemLeaves n y → ItemLeaves n (pick test x y)
  leaves_pick true x y h j = h
  leaves_pick false x y h j = j

  leaves_item : (next : Cut → BodyEnd) → ((a : Cut) → BodyLeaves (fuel a) (next a)) → (e : ItemEnd) → ItemLeaves n e → BodyLeaves n (on_item e next)
  leaves_item next less (passed a) h = wider (fuel a) n (omega (arith, h)) (next a) (less a)
  leaves_item next less (closer c p a) h = h
  leaves_item next less (refused r) h = tt

  leaves_last : (k : Kind) (e : BodyEnd) → BodyLeaves n e → ItemLeaves n (on_last k e)
  leaves_last k (stopped c p a) h = leaves_pick (closes c k) (passed a) (refused (refusal BLOCK p)) h tt
  leaves_last k (broken r) h = tt

  leaves_first : (o : Opener) (second : Cut → BodyEnd) → ((a : Cut) → BodyLeaves (fuel a) (second a)) →
      (e : BodyEnd) → BodyLeaves n e → ItemLeaves n (on_first o e second)
  leaves_first o second less (stopped c p a) h =
      leaves_pick (elses c (opened o)) (on_last past_else (second a)) (closing (opened o) c p a)
      (leaves_last past_else (second a) (wider (fuel a) n (omega (arith, h)) (second a) (less a))) (leaves_last (opened o) (stopped c p a) h)
  leaves_first o second less (broken r) h = tt

mutual
  unfolding body fuel

  pub leaves_body : (most depth : ℕ) (in_loop phased : Bool) (a : Cut) → BodyLeaves (fuel a) (body most depth in_loop phased a)
  leaves_body zero depth in_loop phased a = tt
  leaves_body (suc most) depth in_loop phased (out p) = tt
  leaves_body (suc most) depth in_loop phased (wrong p r) = tt
  leaves_body (suc most) depth in_loop phased (then c p a) =
      leaves_item (fuel (then c p a)) (λ b. body most depth in_loop (phased || class_phase c) b) (λ b. leaves_body most depth in_loop (phased || class_phase c) b)
      (item most depth in_loop phased c p a)
      (wider_item (fuel a + 3) (fuel (then c p a)) (omega arith) (item most depth in_loop phased c p a) (leaves_one most depth in_loop phased c p a))

  pub leaves_one : (most depth : ℕ) (in_loop phased : Bool) (c : Class) (p : ℕ) (a : Cut) → ItemLeaves (fuel a + 3) (item most depth in_loop phased c p a)
  leaves_one zero depth in_loop phased c p a = tt
  leaves_one (suc most) depth in_loop phased (One s) p a =
      leaves_pick (fuel a + 3) (may_stand depth in_loop phased s) (passed a) (refused (refusal BLOCK p)) (omega arith) tt
  leaves_one (suc most) depth in_loop phased (Opens o) p a =
      leaves_pick (fuel a + 3) (ltb depth most_open) (block most depth in_loop phased o a) (refused (refusal DEPTH p))
      (wider_item (fuel a) (fuel a + 3) (omega arith) (block most depth in_loop phased o a) (leaves_block most depth in_loop phased o a)) tt
  leaves_one (suc most) depth in_loop phased (Closes c) p a = omega arith

  pub leaves_block : (most depth : ℕ) (in_loop phased : Bool) (o : Opener) (a : Cut) → ItemLeaves (fuel a) (block most depth in_loop phased o a)
  leaves_block zero depth in_loop phased o a = tt
  leaves_block (suc most) depth in_loop phased o a =
      leaves_first (fuel a) o (λ b. body most (suc depth) in_loop phased b) (λ b. leaves_body most (suc depth) in_loop phased b)
      (body most (suc depth) (loops_in o in_loop) phased a) (leaves_body most (suc depth) (loops_in o in_loop) phased a)

-- a continuation matters only where it is asked
module _ (n : ℕ) (f g : Cut → BodyEnd) (same : (a : Cut) → fuel a + 3 ≤ n → f a ≡ g a) where
  same_item : (e : ItemEnd) → ItemLeaves n e → on_item e f ≡ on_item e g
  same_item (passed a) h = same a h
  same_item (closer c p a) h = refl
  same_item (refused r) h = refl

  same_first : (o : Opener) (e : BodyEnd) → BodyLeaves n e → on_first o e f ≡ on_first o e g
  same_first o (stopped c p a) h = ap (λ x. pick (elses c (opened o)) (on_last past_else x) (closing (opened o) c p a)) (same a h)
  same_first o (broken r) h = refl

pub fuel_some : (a : Cut) → 3 ≤ fuel a
unfolding fuel
fuel_some (out p) = omega arith
fuel_some (wrong p r) = omega arith
fuel_some (then c p a) = omega arith

mutual
  unfolding body fuel

  pub same_body : (m n depth : ℕ) (in_loop phased : Bool) (a : Cut) → fuel a ≤ m + 2 → fuel a ≤ n + 2 → body m depth in_loop phased a ≡ body n depth in_loop phased a
  same_body zero n depth in_loop phased a h j = absurd (omega (arith, fuel_some a))
  same_body (suc m) zero depth in_loop phased a h j = absurd (omega (arith, fuel_some a))
  same_body (suc m) (suc n) depth in_loop phased (out p) h j = refl
  same_body (suc m) (suc n) depth in_loop phased (wrong p r) h j = refl
  same_body (suc m) (suc n) depth in_loop phased (then c p a) h j =
      same_item (fuel a + 3) (λ b. body m depth in_loop (phased || class_phase c) b) (λ b. body n depth in_loop (phased || class_phase c) b)
      (λ b lt. same_body m n depth in_loop (phased || class_phase c) b (omega arith) (omega arith))
      (item m depth in_loop phased c p a) (leaves_one m depth in_loop phased c p a)
      ∙ ap (λ e. on_item e (λ b. body n depth in_loop (phased || class_phase c) b)) (same_one m n depth in_loop phased c p a (omega arith) (omega arith))

  pub same_one : (m n depth : ℕ) (in_loop phased : Bool) (c : Class) (p : ℕ) (a : Cut) → fuel a ≤ m → fuel a ≤ n →
      item m depth in_loop phased c p a ≡ item n depth in_loop phased c p a
  same_one zero n depth in_loop phased c p a h j = absurd (omega (arith, fuel_some a))
  same_one (suc m) zero depth in_loop phased c p a h j = absurd (omega (arith, fuel_some a))
  same_one (suc m) (suc n) depth in_loop phased (One s) p a h j = refl
  same_one (suc m) (suc n) depth in_loop phased (Opens o) p a h j =
      ap (λ e. pick (ltb depth most_open) e (refused (refusal DEPTH p))) (same_block m n depth in_loop phased o a (omega arith) (omega arith))
  same_one (suc m) (suc n) depth in_loop phased (Closes c) p a h j = refl

  pub same_block : (m n depth : ℕ) (in_loop phased : Bool) (o : Opener) (a : Cut) → fuel a ≤ m + 1 → fuel a ≤ n + 1 →
      block m depth in_loop phased o a ≡ block n depth in_loop phased o a
  same_block zero n depth in_loop phased o a h j = absurd (omega (arith, fuel_some a))
  same_block (suc m) zero depth in_loop phased o a h j = absurd (omega (arith, fuel_some a))
  same_block (suc m) (suc n) depth in_loop phased o a h j =
      same_first (fuel a) (λ b. body m (suc depth) in_loop phased b) (λ b. body n (suc depth) in_loop phased b)
      (λ b lt. same_body m n (suc depth) in_loop phased b (omega arith) (omega arith))
      o (body m (suc depth) (loops_in o in_loop) phased a) (leaves_body m (suc depth) (loops_in o in_loop) phased a)
      ∙ ap (λ e. on_first o e (λ b. body n (suc depth) in_loop phased b)) (same_body m n (suc depth) (loops_in o in_loop) phased a (omega arith) (omega arith))

-- no token where an instruction must start
pub body_out : (depth : ℕ) (in_loop phased : Bool) (p : ℕ) → body_of depth in_loop phased (out p) ≡ broken (refusal RUN_OUT p)
unfolding body_of body fuel
body_out depth in_loop phased p = refl

-- an instruction that is refused by itself
pub body_wrong : (depth : ℕ) (in_loop phased : Bool) (p : ℕ) (r : Refusal) → body_of depth in_loop phased (wrong p r) ≡ broken r
unfolding body_of body fuel
body_wrong depth in_loop phased p r = refl

-- an item, and the rest of the body
pub body_then : (depth : ℕ) (in_loop phased : Bool) (c : Class) (p : ℕ) (a : Cut) →
    body_of depth in_loop phased (then c p a) ≡ on_item (item_of depth in_loop phased c p a) (λ b. body_of depth in_loop (phased || class_phase c) b)
unfolding body_of item_of body fuel
body_then depth in_loop phased c p a =
    let most = suc (suc (fuel a)) in
    same_item (fuel a + 3) (λ b. body most depth in_loop (phased || class_phase c) b) (λ b. body_of depth in_loop (phased || class_phase c) b)
    (λ b lt. same_body most (fuel b) depth in_loop (phased || class_phase c) b (omega arith) (omega arith))
    (item most depth in_loop phased c p a) (leaves_one most depth in_loop phased c p a)
    ∙ ap (λ e. on_item e (λ b. body_of depth in_loop (phased || class_phase c) b)) (same_one most (fuel a) depth in_loop phased c p a (omega arith) (omega arith))

item_more : (depth : ℕ) (in_loop phased : Bool) (c : Class) (p : ℕ) (a : Cut) → item_of depth in_loop phased c p a ≡ item (suc (fuel a)) depth in_loop phased c p a
unfolding item_of
item_more depth in_loop phased c p a = same_one (fuel a) (suc (fuel a)) depth in_loop phased c p a (omega arith) (omega arith)

-- one instruction stands where its rule lets it
pub item_one : (depth : ℕ) (in_loop phased : Bool) (s : Single) (p : ℕ) (a : Cut) →
    item_of depth in_loop phased (One s) p a ≡ pick (may_stand depth in_loop phased s) (passed a) (refused (refusal BLOCK p))
unfolding item
item_one depth in_loop phased s p a = item_more depth in_loop phased (One s) p a

-- a block is opened where fewer than 24 are open
pub item_opens : (depth : ℕ) (in_loop phased : Bool) (o : Opener) (p : ℕ) (a : Cut) →
    item_of depth in_loop phased (Opens o) p a ≡ pick (ltb depth most_open) (block_of depth in_loop phased o a) (refused (refusal DEPTH p))
unfolding item block_of
item_opens depth in_loop phased o p a = item_more depth in_loop phased (Opens o) p a

-- a closer is no item
pub item_closes : (depth : ℕ) (in_loop phased : Bool) (c : Closer) (p : ℕ) (a : Cut) → item_of depth in_loop phased (Closes c) p a ≡ closer c p a
unfolding item
item_closes depth in_loop phased c p a = item_more depth in_loop phased (Closes c) p a

-- a body, its closer, and of an IF perhaps a second body
pub block_opened : (depth : ℕ) (in_loop phased : Bool) (o : Opener) (a : Cut) →
    block_of depth in_loop phased o a ≡ on_first o (body_of (suc depth) (loops_in o in_loop) phased a) (λ b. body_of (suc depth) in_loop phased b)
unfolding block_of body_of body
block_opened depth in_loop phased o a =
    same_block (fuel a) (suc (fuel a)) depth in_loop phased o a (omega arith) (omega arith)
    ∙ same_first (fuel a) (λ b. body (fuel a) (suc depth) in_loop phased b) (λ b. body_of (suc depth) in_loop phased b)
    (λ b lt. same_body (fuel a) (fuel b) (suc depth) in_loop phased b (omega arith) (omega arith))
    o (body (fuel a) (suc depth) (loops_in o in_loop) phased a) (leaves_body (fuel a) (suc depth) (loops_in o in_loop) phased a)

-- IF: the body ends at ENDIF, or at ELSE and a second one at ENDIF
pub block_if : (depth : ℕ) (in_loop phased : Bool) (a : Cut) →
    block_of depth in_loop phased If a ≡ on_first If (body_of (suc depth) in_loop phased a) (λ b. body_of (suc depth) in_loop phased b)
block_if depth in_loop phased a = block_opened depth in_loop phased If a

first_is_last : (o : Opener) (second : Cut → BodyEnd) → ((c : Closer) → elses c (opened o) ≡ false) → (e : BodyEnd) →
    on_first o e second ≡ on_last (opened o) e
first_is_last o second h (stopped c p a) = rw (h c)
first_is_last o second h (broken r) = refl

-- LOOP: the body ends at ENDLOOP
pub block_loop : (depth : ℕ) (in_loop phased : Bool) (a : Cut) → block_of depth in_loop phased Loop a ≡ on_last (opened Loop) (body_of (suc depth) true phased a)
block_loop depth in_loop phased a =
    block_opened depth in_loop phased Loop a ∙ first_is_last Loop (λ b. body_of (suc depth) in_loop phased b) (λ c. refl) (body_of (suc depth) true phased a)

-- REP: the body ends at ENDREP
pub block_rep : (depth : ℕ) (in_loop phased : Bool) (a : Cut) → block_of depth in_loop phased Rep a ≡ on_last (opened Rep) (body_of (suc depth) true phased a)
block_rep depth in_loop phased a =
    block_opened depth in_loop phased Rep a ∙ first_is_last Rep (λ b. body_of (suc depth) in_loop phased b) (λ c. refl) (body_of (suc depth) true phased a)
