-- The walk with open blocks accepts what the grammar derives, and refuses what the descent refuses.
use Rattle.std.specs.Prelude.{Ok, Err}
use Prim.Native.Nat.{ℕ, zero, suc, ◌+◌, ◌<◌, ◌≤◌}
use mathlib.Core.Path.{◌≡◌, refl, ap, sym, ◌∙◌}
use mathlib.Core.Bool.{Bool, true, false, ◌||◌}
use mathlib.Core.List.{List, [], ◌∷◌}
use native.Mathlib.Omega.{arith}
use lib.Dec.{ltb}
use lib.ListN.{length}
use borrow.Author.Tests.{lt-ltb}
use Rattle.paper.proofs.Bools.{never, or_false}
use Rattle.paper.proofs.StreamVerdict.{unlike}
use Rattle.paper.specs.Notation.{pick}
use Rattle.paper.specs.Numbers.{refusal}
use Rattle.paper.specs.Blocks.{Cut, out, wrong, then, is_zero, may_stand, is_phase, class_phase, begins_phase, loops_in, closer_of, most_open, Body, no_item, more, Item, one, block, Block, closed, with_else}
use Rattle.paper.specs.Walk.{Kind, opened, past_else, in_loop, WalkState, begin, nested, marked, is_end, closes, elses, Next, go, bad, finish, on_next, at_end}
use Rattle.paper.specs.declared.Class.{Class}
use Rattle.paper.specs.declared.Class.TheVariants.{One, Opens, Closes}
use Rattle.paper.specs.declared.Single.{Single}
use Rattle.paper.specs.declared.Single.TheVariants.{Comment, Plain, Break, Label, Return, Phase}
use Rattle.paper.specs.declared.Opener.{Opener}
use Rattle.paper.specs.declared.Opener.TheVariants.{If, Loop, Rep}
use Rattle.paper.specs.declared.Closer.{Closer}
use Rattle.paper.specs.declared.Closer.TheVariants.{End}
use Rattle.paper.specs.declared.Reason.TheVariants.{Block as BLOCK, Depth as DEPTH}
use Rattle.paper.specs.Judgements.{Verdict}
use Rattle.blocks.specs.Nesting.{nesting}
use Rattle.blocks.specs.Begins.{Lawful}
use Rattle.blocks.specs.Descent.{BodyEnd, stopped, broken, ItemEnd, passed, closer, refused, on_item, closing, on_last, on_first, body, item, fuel, body_of, on_stream, descended}
use Rattle.blocks.specs.Descent
use Rattle.blocks.proofs.Unfold.{BodyLeaves, ItemLeaves, leaves_body, leaves_one, fuel_some}
use Rattle.blocks.proofs.Derived.{is_end_lem, BodyDerived, body_derived}

-- a body that the grammar derives is walked from its start to its end, and the open blocks are as they were

walk_opens : (n : ℕ) (o : Opener) (p : ℕ) (a : Cut) (w : WalkState) → length w.kinds < most_open →
    nesting n (then (Opens o) p a) w ≡ nesting n a (nested (opened o ∷ w.kinds) w)
unfolding nesting
walk_opens n o p a w h = rw (lt-ltb (length w.kinds) most_open h)

walk_closes : (n : ℕ) (o : Opener) (p : ℕ) (a : Cut) (w : WalkState) →
    nesting n (then (Closes (closer_of o)) p a) (nested (opened o ∷ w.kinds) w) ≡ nesting n a w
unfolding nesting
walk_closes n If p a w = refl
walk_closes n Loop p a w = refl
walk_closes n Rep p a w = refl

-- what is no PHASE leaves the state's mark
unmarked : (w : WalkState) {phase : Bool} → phase ≡ false → marked phase w ≡ w
unmarked w e = rw (e, or_false w.phased)

-- no PHASE stands in a block, and none begins one
single_unphased : (depth : ℕ) (loop phased : Bool) (s : Single) → may_stand depth loop phased s ≡ true → is_zero depth ≡ false → is_phase s ≡ false
single_unphased depth loop phased Comment h z = refl
single_unphased depth loop phased Plain h z = refl
single_unphased depth loop phased Break h z = refl
single_unphased depth loop phased Label h z = refl
single_unphased depth loop phased Return h z = refl
single_unphased depth loop phased Phase h z = never (rw z at h)

block_unphased : {depth : ℕ} {loop phased : Bool} {a b : Cut} → Block depth loop phased a b → begins_phase a ≡ false
block_unphased (closed x) = refl
block_unphased (with_else x y) = refl

item_unphased : {depth : ℕ} {loop phased : Bool} {a b : Cut} → Item depth loop phased a b → is_zero depth ≡ false → begins_phase a ≡ false
item_unphased {depth} {loop} {phased} (one {s = s} h) z = single_unphased depth loop phased s h z
item_unphased (block lt x) z = block_unphased x

-- where a walk at a in the state w comes to b: with the same blocks open, and in a block with the same mark
record Walked (n depth : ℕ) (w : WalkState) (a b : Cut) : Type 0 where
  state : WalkState
  kept : state.kinds ≡ w.kinds
  comes : nesting n a w ≡ nesting n b state
  same : is_zero depth ≡ false → state ≡ w

within : {n depth : ℕ} {w : WalkState} {a b : Cut} → Walked n (suc depth) w a b → nesting n a w ≡ nesting n b w
within {n} {b = b} l = l.comes ∙ ap (nesting n b) (l.same refl)

mutual
  unfolding nesting

  walked_body : {depth : ℕ} {loop phased : Bool} {a b : Cut} → Body depth loop phased a b →
      (n : ℕ) (w : WalkState) → length w.kinds ≡ depth → in_loop w.kinds ≡ loop → w.phased ≡ phased → Walked n depth w a b
  walked_body no_item n w e i m = record { state = w; kept = refl; comes = refl; same = λ z. refl }
  walked_body (more {a = a} x y) n w e i m =
      let later = walked_body y n (marked (begins_phase a) w) e i (ap (λ (b : Bool). b || begins_phase a) m) in
      record {
        state = later.state;
        kept = later.kept;
        comes = walked_item x n w e i m ∙ later.comes;
        same = λ z. later.same z ∙ unmarked w (item_unphased x z);
      }

  walked_item : {depth : ℕ} {loop phased : Bool} {a b : Cut} → Item depth loop phased a b →
      (n : ℕ) (w : WalkState) → length w.kinds ≡ depth → in_loop w.kinds ≡ loop → w.phased ≡ phased →
      nesting n a w ≡ nesting n b (marked (begins_phase a) w)
  walked_item (one h) n w e i m = rw (e, i, m, h)
  walked_item (block {b = b} lt x) n w e i m = walked_block x n w e i m (rw e lt) ∙ ap (nesting n b) (sym (unmarked w (block_unphased x)))

  walked_block : {depth : ℕ} {loop phased : Bool} {a b : Cut} → Block depth loop phased a b →
      (n : ℕ) (w : WalkState) → length w.kinds ≡ depth → in_loop w.kinds ≡ loop → w.phased ≡ phased →
      length w.kinds < most_open → nesting n a w ≡ nesting n b w
  walked_block (closed {o = o} {p = p} {q = q} {a = a} {b = b} x) n w e i m lt =
      walk_opens n o p a w lt ∙ within (walked_body x n (nested (opened o ∷ w.kinds) w) (ap suc e) (ap (loops_in o) i) m) ∙ walk_closes n o q b w
  walked_block (with_else {p = p} {a = a} x y) n w e i m lt =
      walk_opens n If p a w lt ∙ within (walked_body x n (nested (opened If ∷ w.kinds) w) (ap suc e) i m)
      ∙ within (walked_body y n (nested (past_else ∷ w.kinds) w) (ap suc e) i m)

-- a stream that is a body and END is accepted
pub accepts : {a : Cut} {p q : ℕ} → Body 0 false false a (then (Closes End) p (out q)) → (n : ℕ) → nesting n a begin ≡ Ok n
unfolding nesting
accepts x n = let l = walked_body x n begin refl refl refl in l.comes ∙ rw l.kept

-- the walk goes on from where the descent comes to

abbrev after_body : ℕ → WalkState → BodyEnd → Verdict
after_body n w (stopped c p a) = nesting n (then (Closes c) p a) w
after_body n w (broken r) = Err r

abbrev after_item : ℕ → WalkState → ItemEnd → Verdict
after_item n w (passed a) = nesting n a w
after_item n w (closer c p a) = nesting n (then (Closes c) p a) w
after_item n w (refused r) = Err r

module _ (n : ℕ) (w : WalkState) where
  on_item_lem : (most : ℕ) (next : Cut → BodyEnd) → ((a : Cut) → fuel a + 3 ≤ most → nesting n a w ≡ after_body n w (next a)) →
      (e : ItemEnd) → ItemLeaves most e → after_item n w e ≡ after_body n w (on_item e next)
  on_item_lem most next h (passed a) lt = h a lt
  on_item_lem most next h (closer c p a) lt = refl
  on_item_lem most next h (refused r) lt = refl

  on_one : (p : ℕ) (a : Cut) (test : Bool) →
      on_next (pick test (go w) (bad BLOCK)) n p a (λ next. nesting n a next) ≡ after_item n w (pick test (passed a) (refused (refusal BLOCK p)))
  on_one p a true = refl
  on_one p a false = refl

  on_opens : (o : Opener) (p : ℕ) (a : Cut) (test : Bool) (e : ItemEnd) → nesting n a (nested (opened o ∷ w.kinds) w) ≡ after_item n w e →
      on_next (pick test (go (nested (opened o ∷ w.kinds) w)) (bad DEPTH)) n p a (λ next. nesting n a next) ≡
      after_item n w (pick test e (refused (refusal DEPTH p)))
  on_opens o p a true e h = h
  on_opens o p a false e h = refl

  on_last_lem : (e : BodyEnd) → after_body n (nested (past_else ∷ w.kinds) w) e ≡ after_item n w (on_last past_else e)
  unfolding nesting
  on_last_lem (stopped c p a) = on_one p a (closes c past_else)
  on_last_lem (broken r) = refl

  on_closer : (p : ℕ) (a : Cut) (test : Bool) (x : Next) (e y : ItemEnd) → nesting n a (nested (past_else ∷ w.kinds) w) ≡ after_item n w e →
      on_next x n p a (λ next. nesting n a next) ≡ after_item n w y →
      on_next (pick test (go (nested (past_else ∷ w.kinds) w)) x) n p a (λ next. nesting n a next) ≡ after_item n w (pick test e y)
  on_closer p a true x e y h j = h
  on_closer p a false x e y h j = j

  on_first_lem : (o : Opener) (most : ℕ) (second : Cut → BodyEnd) →
      ((a : Cut) → fuel a + 3 ≤ most → nesting n a (nested (past_else ∷ w.kinds) w) ≡ after_body n (nested (past_else ∷ w.kinds) w) (second a)) →
      (e : BodyEnd) → BodyLeaves most e → after_body n (nested (opened o ∷ w.kinds) w) e ≡ after_item n w (on_first o e second)
  unfolding nesting
  on_first_lem o most second h (stopped c p a) lt =
      on_closer p a (elses c (opened o)) (pick (closes c (opened o)) (go w) (bad BLOCK)) (on_last past_else (second a)) (closing (opened o) c p a)
      (h a lt ∙ on_last_lem (second a)) (on_one p a (closes c (opened o)))
  on_first_lem o most second h (broken r) lt = refl

-- where no block is open a closer does not see the mark
outside : (n : ℕ) (w x : WalkState) → w.kinds ≡ [] → x.kinds ≡ [] → (e : BodyEnd) → after_body n w e ≡ after_body n x e
unfolding nesting
outside n w x e f (stopped c p a) = rw (e, f)
outside n w x e f (broken r) = refl

-- and in a block no item marks it, so that a body's answer needs no mark
module _ (n : ℕ) (p : ℕ) (a : Cut) (next : Cut → BodyEnd) where
  abbrev body_at : ℕ → WalkState → Class → BodyEnd
  body_at most w c = on_item (item most (length w.kinds) (in_loop w.kinds) w.phased c p a) next

  one_mark : (w : WalkState) (s : Single) → is_zero (length w.kinds) ≡ false → (test : Bool) →
      may_stand (length w.kinds) (in_loop w.kinds) w.phased s ≡ test →
      let e = on_item (pick test (passed a) (refused (refusal BLOCK p))) next in after_body n (marked (is_phase s) w) e ≡ after_body n w e
  one_mark w s z true h = ap (λ (x : WalkState). after_body n x (next a)) (unmarked w (single_unphased (length w.kinds) (in_loop w.kinds) w.phased s h z))
  one_mark w s z false h = refl

  block_mark : (most : ℕ) (w : WalkState) (c : Class) → is_zero (length w.kinds) ≡ false →
      after_body n (marked (class_phase c) w) (body_at most w c) ≡ after_body n w (body_at most w c)
  unfolding item
  block_mark zero w c z = refl
  block_mark (suc most) w (One s) z = one_mark w s z (may_stand (length w.kinds) (in_loop w.kinds) w.phased s) refl
  block_mark (suc most) w (Opens o) z = ap (λ (x : WalkState). after_body n x (body_at (suc most) w (Opens o))) (unmarked w refl)
  block_mark (suc most) w (Closes c) z = ap (λ (x : WalkState). after_body n x (body_at (suc most) w (Closes c))) (unmarked w refl)

  mark_unseen : (most : ℕ) (w : WalkState) (c : Class) (ks : List Kind) → w.kinds ≡ ks →
      after_body n (marked (class_phase c) w) (body_at most w c) ≡ after_body n w (body_at most w c)
  mark_unseen most w c [] e = outside n (marked (class_phase c) w) w e e (body_at most w c)
  mark_unseen most w c (k ∷ ks) e = block_mark most w c (rw e)

mutual
  unfolding body nesting fuel

  body_walked : (most n : ℕ) (a : Cut) (w : WalkState) → fuel a ≤ most + 2 →
      nesting n a w ≡ after_body n w (body most (length w.kinds) (in_loop w.kinds) w.phased a)
  body_walked zero n a w h = absurd (omega (arith, fuel_some a))
  body_walked (suc most) n (out p) w h = refl
  body_walked (suc most) n (wrong p r) w h = refl
  body_walked (suc most) n (then c p a) w h =
      let next = marked (class_phase c) w in
      let rest : Cut → BodyEnd = λ b. body most (length w.kinds) (in_loop w.kinds) next.phased b in
      item_walked most n c p a w (omega arith)
      ∙ on_item_lem n next (fuel a + 3) rest (λ b lt. body_walked most n b next (omega arith))
      (item most (length w.kinds) (in_loop w.kinds) w.phased c p a) (leaves_one most (length w.kinds) (in_loop w.kinds) w.phased c p a)
      ∙ mark_unseen n p a rest most w c w.kinds refl

  item_walked : (most n : ℕ) (c : Class) (p : ℕ) (a : Cut) (w : WalkState) → fuel a ≤ most →
      nesting n (then c p a) w ≡ after_item n (marked (class_phase c) w) (item most (length w.kinds) (in_loop w.kinds) w.phased c p a)
  item_walked zero n c p a w h = absurd (omega (arith, fuel_some a))
  item_walked (suc most) n (One s) p a w h =
      on_one n (marked (is_phase s) w) p a (may_stand (length w.kinds) (in_loop w.kinds) w.phased s)
  item_walked (suc most) n (Opens o) p a w h =
      rw (unmarked w refl)
      (on_opens n w o p a (ltb (length w.kinds) most_open) (Descent.block most (length w.kinds) (in_loop w.kinds) w.phased o a)
      (block_walked most n o a w (omega arith)))
  item_walked (suc most) n (Closes c) p a w h = rw (unmarked w refl)

  block_walked : (most n : ℕ) (o : Opener) (a : Cut) (w : WalkState) → fuel a ≤ most + 1 →
      nesting n a (nested (opened o ∷ w.kinds) w) ≡ after_item n w (Descent.block most (length w.kinds) (in_loop w.kinds) w.phased o a)
  block_walked zero n o a w h = absurd (omega (arith, fuel_some a))
  block_walked (suc most) n o a w h =
      let depth = suc (length w.kinds) in
      body_walked most n a (nested (opened o ∷ w.kinds) w) (omega arith)
      ∙ on_first_lem n w o (fuel a) (λ b. body most depth (in_loop w.kinds) w.phased b)
      (λ b lt. body_walked most n b (nested (past_else ∷ w.kinds) w) (omega arith))
      (body most depth (loops_in o (in_loop w.kinds)) w.phased a) (leaves_body most depth (loops_in o (in_loop w.kinds)) w.phased a)

on_end_lem : (n p : ℕ) (a : Cut) (test : Bool) →
    pick test (at_end n a) (Err (refusal BLOCK p)) ≡ on_next (pick test finish (bad BLOCK)) n p a (λ next. nesting n a next)
on_end_lem n p a true = refl
on_end_lem n p a false = refl

on_stream_lem : (n : ℕ) (e : BodyEnd) → on_stream n e ≡ after_body n begin e
unfolding nesting
on_stream_lem n (stopped c p a) = on_end_lem n p a (is_end c)
on_stream_lem n (broken r) = refl

-- the descent's verdict is the walk's: a yes and every refusal, with its position
pub descent_is_walk : (n : ℕ) (a : Cut) → descended n a ≡ nesting n a begin
unfolding descended body_of
descent_is_walk n a = on_stream_lem n (body (fuel a) 0 false false a) ∙ sym (body_walked (fuel a) n a begin (omega arith))

module _ (n m : ℕ) (a : Cut) where
  end_accepted : (p : ℕ) (b : Cut) → Body 0 false false a (then (Closes End) p b) → at_end n b ≡ Ok m → (m ≡ n) × Lawful a
  end_accepted p (out q) x e = (cc, (p, q, x))
  end_accepted p (wrong q r) x e = unlike e
  end_accepted p (then c q b) x e = unlike e

  stopped_accepted : (c : Closer) (p : ℕ) (b : Cut) → Body 0 false false a (then (Closes c) p b) → (test : Bool) →
      is_end c ≡ test →
      pick test (at_end n b) (Err (refusal BLOCK p)) ≡ Ok m → (m ≡ n) × Lawful a
  stopped_accepted c p b x true t e = end_accepted p b (rw (is_end_lem c t) at x) e
  stopped_accepted c p b x false t e = unlike e

  stream_accepted : (e : BodyEnd) → BodyDerived 0 false false a e → on_stream n e ≡ Ok m → (m ≡ n) × Lawful a
  stream_accepted (stopped c p b) x e = stopped_accepted c p b x (is_end c) refl e
  stream_accepted (broken r) x e = unlike e

  -- a stream that the walk accepts is a body and END, with nothing behind, and the count is the one given
  pub accepted : nesting n a begin ≡ Ok m → (m ≡ n) × Lawful a
  unfolding descended body_of
  accepted e = stream_accepted (body (fuel a) 0 false false a) (body_derived (fuel a) 0 false false a) (descent_is_walk n a ∙ e)
