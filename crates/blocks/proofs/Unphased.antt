-- A PHASE stands in no block: whether one has stood before a block decides nothing in it.
use Prim.Native.Nat.{ℕ, zero, suc}
use mathlib.Core.Path.{◌≡◌, refl, ap, ◌∙◌}
use mathlib.Core.Bool.{Bool, ◌||◌}
use lib.Dec.{ltb}
use Rattle.paper.specs.Notation.{pick}
use Rattle.paper.specs.Numbers.{refusal}
use Rattle.paper.specs.Blocks.{Cut, out, wrong, then, may_stand, class_phase, loops_in, most_open}
use Rattle.paper.specs.Walk.{opened, past_else, elses}
use Rattle.paper.specs.declared.Class.{Class}
use Rattle.paper.specs.declared.Class.TheVariants.{One, Opens, Closes}
use Rattle.paper.specs.declared.Opener.{Opener}
use Rattle.paper.specs.declared.Single.{Single}
use Rattle.paper.specs.declared.Single.TheVariants.{Comment, Plain, Break, Label, Return, Phase}
use Rattle.paper.specs.declared.Reason.TheVariants.{Block as BLOCK, Depth as DEPTH}
use Rattle.blocks.specs.Descent.{BodyEnd, stopped, broken, ItemEnd, passed, closer, refused, on_item, closing, on_last, on_first, body, item, block, fuel, block_of}

-- two continuations that agree everywhere
module _ (f g : Cut → BodyEnd) (same : (a : Cut) → f a ≡ g a) where
  same_item : (e : ItemEnd) → on_item e f ≡ on_item e g
  same_item (passed a) = same a
  same_item (closer c p a) = refl
  same_item (refused r) = refl

  same_first : (o : Opener) (e : BodyEnd) → on_first o e f ≡ on_first o e g
  same_first o (stopped c p a) = ap (λ x. pick (elses c (opened o)) (on_last past_else x) (closing (opened o) c p a)) (same a)
  same_first o (broken r) = refl

module _ (depth : ℕ) (in_loop x y : Bool) where
  stands_unphased : (s : Single) → may_stand (suc depth) in_loop x s ≡ may_stand (suc depth) in_loop y s
  stands_unphased Comment = refl
  stands_unphased Plain = refl
  stands_unphased Break = refl
  stands_unphased Label = refl
  stands_unphased Return = refl
  stands_unphased Phase = refl

mutual
  unfolding body

  body_same : (most depth : ℕ) (in_loop x y : Bool) (a : Cut) → body most (suc depth) in_loop x a ≡ body most (suc depth) in_loop y a
  body_same zero depth in_loop x y a = refl
  body_same (suc most) depth in_loop x y (out p) = refl
  body_same (suc most) depth in_loop x y (wrong p r) = refl
  body_same (suc most) depth in_loop x y (then c p a) =
      same_item (λ b. body most (suc depth) in_loop (x || class_phase c) b) (λ b. body most (suc depth) in_loop (y || class_phase c) b)
      (λ b. body_same most depth in_loop (x || class_phase c) (y || class_phase c) b) (item most (suc depth) in_loop x c p a)
      ∙ ap (λ e. on_item e (λ b. body most (suc depth) in_loop (y || class_phase c) b)) (item_same most depth in_loop x y c p a)

  item_same : (most depth : ℕ) (in_loop x y : Bool) (c : Class) (p : ℕ) (a : Cut) → item most (suc depth) in_loop x c p a ≡ item most (suc depth) in_loop y c p a
  item_same zero depth in_loop x y c p a = refl
  item_same (suc most) depth in_loop x y (One s) p a = ap (λ t. pick t (passed a) (refused (refusal BLOCK p))) (stands_unphased depth in_loop x y s)
  item_same (suc most) depth in_loop x y (Opens o) p a =
      ap (λ e. pick (ltb (suc depth) most_open) e (refused (refusal DEPTH p))) (block_same most (suc depth) in_loop x y o a)
  item_same (suc most) depth in_loop x y (Closes c) p a = refl

  block_same : (most depth : ℕ) (in_loop x y : Bool) (o : Opener) (a : Cut) → block most depth in_loop x o a ≡ block most depth in_loop y o a
  block_same zero depth in_loop x y o a = refl
  block_same (suc most) depth in_loop x y o a =
      same_first (λ b. body most (suc depth) in_loop x b) (λ b. body most (suc depth) in_loop y b)
      (λ b. body_same most depth in_loop x y b) o (body most (suc depth) (loops_in o in_loop) x a)
      ∙ ap (λ e. on_first o e (λ b. body most (suc depth) in_loop y b)) (body_same most depth (loops_in o in_loop) x y a)

-- what a block takes is the same where a PHASE has stood and where none has
pub block_unphased : (depth : ℕ) (in_loop x y : Bool) (o : Opener) (a : Cut) → block_of depth in_loop x o a ≡ block_of depth in_loop y o a
unfolding block_of
block_unphased depth in_loop x y o a = block_same (fuel a) depth in_loop x y o a
