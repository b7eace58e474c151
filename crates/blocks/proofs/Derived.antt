-- What the descent takes, the grammar derives.
use Prim.Native.Nat.{ℕ, zero, suc, ◌<◌}
use mathlib.Core.Path.{◌≡◌, refl}
use mathlib.Core.Bool.{Bool, true, false, ◌||◌}
use lib.Dec.{ltb}
use borrow.Author.Tests.{ltb-true}
use Rattle.paper.proofs.Bools.{never}
use Rattle.paper.specs.Notation.{pick}
use Rattle.paper.specs.Numbers.{refusal}
use Rattle.paper.specs.Blocks.{Cut, out, wrong, then, may_stand, class_phase, begins_phase, loops_in, closer_of, most_open, Body, no_item, more, Item, one, block, Block, closed, with_else}
use Rattle.paper.specs.Walk.{opened, past_else, is_end_if, is_end, closes_opener, closes, elses}
use Rattle.paper.specs.declared.Class.{Class}
use Rattle.paper.specs.declared.Class.TheVariants.{One, Opens, Closes}
use Rattle.paper.specs.declared.Opener.{Opener}
use Rattle.paper.specs.declared.Opener.TheVariants.{If, Loop, Rep}
use Rattle.paper.specs.declared.Closer.{Closer}
use Rattle.paper.specs.declared.Closer.TheVariants.{Else, EndIf, EndLoop, EndRep, End}
use Rattle.paper.specs.declared.Single.{Single}
use Rattle.paper.specs.declared.Reason.TheVariants.{Block as BLOCK, Depth as DEPTH}
use Rattle.blocks.specs.Descent.{BodyEnd, stopped, broken, ItemEnd, passed, closer, refused, on_item, closing, on_last, on_first, body, item}
use Rattle.blocks.specs.Descent

-- a closer is known by its name
pub is_end_lem : (c : Closer) → is_end c ≡ true → c ≡ End
is_end_lem Else e = never e
is_end_lem EndIf e = never e
is_end_lem EndLoop e = never e
is_end_lem EndRep e = never e
is_end_lem End e = refl

is_end_if_lem : (c : Closer) → is_end_if c ≡ true → c ≡ EndIf
is_end_if_lem Else e = never e
is_end_if_lem EndIf e = refl
is_end_if_lem EndLoop e = never e
is_end_if_lem EndRep e = never e
is_end_if_lem End e = never e

is_own : (c : Closer) (o : Opener) → closes_opener c o ≡ true → c ≡ closer_of o
is_own c If e = is_end_if_lem c e
is_own Else Loop e = never e
is_own EndIf Loop e = never e
is_own EndLoop Loop e = refl
is_own EndRep Loop e = never e
is_own End Loop e = never e
is_own Else Rep e = never e
is_own EndIf Rep e = never e
is_own EndLoop Rep e = never e
is_own EndRep Rep e = refl
is_own End Rep e = never e

else_at_if : (c : Closer) (o : Opener) → elses c (opened o) ≡ true → (c ≡ Else) × (o ≡ If)
else_at_if Else If e = (refl, refl)
else_at_if EndIf If e = never e
else_at_if EndLoop If e = never e
else_at_if EndRep If e = never e
else_at_if End If e = never e
else_at_if c Loop e = never e
else_at_if c Rep e = never e

-- what is taken is derived; what is refused says nothing
abbrev pub BodyDerived : ℕ → Bool → Bool → Cut → BodyEnd → Type 0
BodyDerived depth loop phased a (stopped c p b) = Body depth loop phased a (then (Closes c) p b)
BodyDerived depth loop phased a (broken r) = Unit

abbrev ItemDerived : ℕ → Bool → Bool → Cut → ItemEnd → Type 0
ItemDerived depth loop phased a (passed b) = Item depth loop phased a b
ItemDerived depth loop phased a (closer c p b) = Body depth loop phased a (then (Closes c) p b)
ItemDerived depth loop phased a (refused r) = Unit

abbrev BlockDerived : ℕ → Bool → Bool → Cut → ItemEnd → Type 0
BlockDerived depth loop phased a (passed b) = Block depth loop phased a b
BlockDerived depth loop phased a (closer c p b) = ⊥
BlockDerived depth loop phased a (refused r) = Unit

module _ (depth : ℕ) (loop phased : Bool) where
  more_derived : (a b : Cut) → Item depth loop phased a b → (e : BodyEnd) →
      BodyDerived depth loop (phased || begins_phase a) b e → BodyDerived depth loop phased a e
  more_derived a b x (stopped c p d) y = more x y
  more_derived a b x (broken r) y = tt

  on_item_derived : (a : Cut) (next : Cut → BodyEnd) → ((b : Cut) → BodyDerived depth loop (phased || begins_phase a) b (next b)) →
      (e : ItemEnd) → ItemDerived depth loop phased a e → BodyDerived depth loop phased a (on_item e next)
  on_item_derived a next h (passed b) x = more_derived a b x (next b) (h b)
  on_item_derived a next h (closer c p b) x = x
  on_item_derived a next h (refused r) x = tt

  one_derived : (s : Single) (p : ℕ) (a : Cut) (test : Bool) → may_stand depth loop phased s ≡ test →
      ItemDerived depth loop phased (then (One s) p a) (pick test (passed a) (refused (refusal BLOCK p)))
  one_derived s p a true e = one e
  one_derived s p a false e = tt

  block_item : (a : Cut) → depth < most_open → (e : ItemEnd) → BlockDerived depth loop phased a e → ItemDerived depth loop phased a e
  block_item a lt (passed b) x = block lt x
  block_item a lt (closer c p b) x = absurd x
  block_item a lt (refused r) x = tt

  opens_derived : (a : Cut) (p : ℕ) (e : ItemEnd) → BlockDerived depth loop phased a e → (test : Bool) → ltb depth most_open ≡ test →
      ItemDerived depth loop phased a (pick test e (refused (refusal DEPTH p)))
  opens_derived a p e x true lt = block_item a (ltb-true depth most_open lt) e x
  opens_derived a p e x false lt = tt

  closed_derived : (o : Opener) (p : ℕ) (a : Cut) (c : Closer) (q : ℕ) (b : Cut) → Body (suc depth) (loops_in o loop) phased a (then (Closes c) q b) →
      (test : Bool) → closes c (opened o) ≡ test → BlockDerived depth loop phased (then (Opens o) p a) (pick test (passed b) (refused (refusal BLOCK q)))
  closed_derived o p a c q b x true e = closed (rw (is_own c o e) at x)
  closed_derived o p a c q b x false e = tt

  second_derived : (p : ℕ) (a : Cut) (q : ℕ) (b : Cut) → Body (suc depth) loop phased a (then (Closes Else) q b) →
      (e : BodyEnd) → BodyDerived (suc depth) loop phased b e → BlockDerived depth loop phased (then (Opens If) p a) (on_last past_else e)
  second_derived p a q b x (stopped c r d) y = go_on (closes c past_else) refl
    where
      go_on : (test : Bool) → closes c past_else ≡ test →
          BlockDerived depth loop phased (then (Opens If) p a) (pick test (passed d) (refused (refusal BLOCK r)))
      go_on true e = with_else x (rw (is_end_if_lem c e) at y)
      go_on false e = tt
  second_derived p a q b x (broken r) y = tt

  first_derived : (o : Opener) (p : ℕ) (a : Cut) (second : Cut → BodyEnd) → ((b : Cut) → BodyDerived (suc depth) loop phased b (second b)) →
      (e : BodyEnd) → BodyDerived (suc depth) (loops_in o loop) phased a e → BlockDerived depth loop phased (then (Opens o) p a) (on_first o e second)
  first_derived o p a second h (stopped c q b) x = go_on (elses c (opened o)) refl
    where
      if_else : (d : Closer) (k : Opener) → d ≡ Else → k ≡ If → Body (suc depth) (loops_in k loop) phased a (then (Closes d) q b) →
          BlockDerived depth loop phased (then (Opens k) p a) (on_last past_else (second b))
      if_else d k e f y = rw f (second_derived p a q b (rw (e, f) at y) (second b) (h b))

      go_on : (test : Bool) → elses c (opened o) ≡ test →
          BlockDerived depth loop phased (then (Opens o) p a) (pick test (on_last past_else (second b)) (closing (opened o) c q b))
      go_on true e = if_else c o (else_at_if c o e).0 (else_at_if c o e).1 x
      go_on false e = closed_derived o p a c q b x (closes c (opened o)) refl
  first_derived o p a second h (broken r) x = tt

mutual
  unfolding body

  pub body_derived : (most depth : ℕ) (loop phased : Bool) (a : Cut) → BodyDerived depth loop phased a (body most depth loop phased a)
  body_derived zero depth loop phased a = tt
  body_derived (suc most) depth loop phased (out p) = tt
  body_derived (suc most) depth loop phased (wrong p r) = tt
  body_derived (suc most) depth loop phased (then c p a) =
      on_item_derived depth loop phased (then c p a) (λ b. body most depth loop (phased || class_phase c) b) (λ b. body_derived most depth loop (phased || class_phase c) b) (item most depth loop phased c p a)
      (item_derived most depth loop phased c p a)

  item_derived : (most depth : ℕ) (loop phased : Bool) (c : Class) (p : ℕ) (a : Cut) → ItemDerived depth loop phased (then c p a) (item most depth loop phased c p a)
  item_derived zero depth loop phased c p a = tt
  item_derived (suc most) depth loop phased (One s) p a = one_derived depth loop phased s p a (may_stand depth loop phased s) refl
  item_derived (suc most) depth loop phased (Opens o) p a =
      opens_derived depth loop phased (then (Opens o) p a) p (Descent.block most depth loop phased o a) (block_derived most depth loop phased o p a)
      (ltb depth most_open) refl
  item_derived (suc most) depth loop phased (Closes c) p a = no_item

  block_derived : (most depth : ℕ) (loop phased : Bool) (o : Opener) (p : ℕ) (a : Cut) →
      BlockDerived depth loop phased (then (Opens o) p a) (Descent.block most depth loop phased o a)
  block_derived zero depth loop phased o p a = tt
  block_derived (suc most) depth loop phased o p a =
      first_derived depth loop phased o p a (λ b. body most (suc depth) loop phased b) (λ b. body_derived most (suc depth) loop phased b)
      (body most (suc depth) (loops_in o loop) phased a) (body_derived most (suc depth) (loops_in o loop) phased a)
