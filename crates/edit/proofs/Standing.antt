-- What stands at a position is reached: a boundary is a position that the walk comes to, and its state is the one that the walk has there.
use Prim.Native.Nat.{ℕ, zero, suc, ◌+◌, ◌≤◌, ◌<◌}
use mathlib.Core.Path.{◌≡◌, refl, ap, sym, ◌∙◌}
use mathlib.Core.Bool.{Bool, true, false}
use mathlib.Core.List.{List}
use native.Mathlib.Omega.{arith}
use lib.Dec.{eqb, leb}
use lib.ListN.{length, drop}
use borrow.Author.Tests.{eqb-true, eq-eqb, ne_eqb, leb-true, leb-false}
use Rattle.paper.proofs.Bools.{apart}
use Rattle.paper.specs.Notation.{pick}
use Rattle.paper.specs.Instruction.{judged}
use Rattle.paper.specs.Blocks.{Cut, out, then}
use Rattle.paper.specs.Walk.{WalkState, begin, Next, go, bad, finish, step}
use Rattle.paper.specs.Stream.{cut_one, cut_from}
use Rattle.paper.specs.declared.Version.{Version}
use Rattle.paper.specs.declared.Class.{Class}
use Rattle.paper.specs.Judgements.{Judged, good_instruction, bad_instruction}
use Rattle.blocks.specs.Reach.{Reaches, here, past, start_of}
use Rattle.blocks.proofs.Cutting.{cut_none, cut_at, start_at}
use Rattle.edit.specs.Boundaries.{nowhere, stands_with, onward, standing, standing_at}

-- two constructors are never equal
-- a walk of a stream, at p in the state w, comes to q in the state u: instruction by instruction, by their tokens
pub data Comes (v : Version) (s : List ℕ) : ℕ → WalkState → ℕ → WalkState → Type 0 where
  stays : {p : ℕ} {w : WalkState} → Comes v s p w p w
  passes : {size : ℕ} {class : Class} {p q : ℕ} {w u z : WalkState} →
      judged v (drop p s) ≡ good_instruction size class → step w class ≡ go u → p < length s → Comes v s (p + suc size) u q z → Comes v s p w q z

-- a walk comes only to what lies ahead
pub ahead : {v : Version} {s : List ℕ} {p q : ℕ} {w u : WalkState} → Comes v s p w q u → p ≤ q
ahead stays = omega arith
ahead (passes j e h c) = omega (arith, ahead c)

-- what a walk comes to, it reaches
pub comes_reaches : {v : Version} {s : List ℕ} {p q : ℕ} {w u : WalkState} → Comes v s p w q u → Reaches (cut_from v s p) w (cut_from v s q) u
comes_reaches stays = here
comes_reaches {v} {s} (passes {p = p} j e h c) = rw (cut_at v s p h, j) (past e (comes_reaches c))

-- and what a walk comes to is found standing
standing_here : (p : ℕ) (w : WalkState) (rest : ℕ → Cut) (judgement : Judged) → standing p (cut_one judgement p rest) w ≡ stands_with w
unfolding standing
standing_here p w rest (good_instruction size class) = rw (eq-eqb p p refl)
standing_here p w rest (bad_instruction r) = rw (eq-eqb p p refl)

standing_on : (class : Class) (p q : ℕ) (w u : WalkState) (rest : Cut) → p < q → step w class ≡ go u →
    standing q (then class p rest) w ≡ standing q rest u
unfolding standing
standing_on class p q w u rest h e = rw (ne_eqb p q (λ x. omega arith), e)

pub comes_standing : {v : Version} {s : List ℕ} {p q : ℕ} {w u : WalkState} → q < length s → Comes v s p w q u →
    standing q (cut_from v s p) w ≡ stands_with u
comes_standing {v} {s} l (stays {p = p} {w = w}) = rw (cut_at v s p l) (standing_here p w (λ n. cut_from v s (p + n)) (judged v (drop p s)))
comes_standing {v} {s} {q = q} l (passes {size = size} {class = class} {p = p} {w = w} {u = u} j e h c) =
    rw (cut_at v s p h, j) (standing_on class p q w u (cut_from v s (p + suc size)) (omega (arith, ahead c)) e ∙ comes_standing l c)

-- what is found standing, a walk comes to
abbrev Found : Version → List ℕ → ℕ → WalkState → ℕ → WalkState → Type 0
Found v s p w q u = Comes v s p w q u × (q < length s)

module _ (v : Version) (s : List ℕ) (q : ℕ) (u : WalkState) (p : ℕ) (w : WalkState) (inside : p < length s) where
  found_here : p ≡ q → stands_with w ≡ stands_with u → Found v s p w q u
  found_here at e = let same : w ≡ u = cc in rw (← at, ← same) (stays, inside)

  module _ (size : ℕ) (class : Class) (judgement : judged v (drop p s) ≡ good_instruction size class)
      (later : (z : WalkState) → standing q (cut_from v s (p + suc size)) z ≡ stands_with u → Found v s (p + suc size) z q u) where
    found_on : (x : Next) → step w class ≡ x → onward x (λ next. standing q (cut_from v s (p + suc size)) next) ≡ stands_with u → Found v s p w q u
    found_on (go z) e h = let l = later z h in (passes judgement e inside l.0, l.1)
    found_on (bad reason) e h = apart (cc)
    found_on finish e h = apart (cc)

    found_good : (b : Bool) → eqb p q ≡ b →
        pick b (stands_with w) (onward (step w class) (λ next. standing q (cut_from v s (p + suc size)) next)) ≡ stands_with u → Found v s p w q u
    found_good true at h = found_here (eqb-true p q at) h
    found_good false at h = found_on (step w class) refl h

  found_refused : (b : Bool) → eqb p q ≡ b → pick b (stands_with w) nowhere ≡ stands_with u → Found v s p w q u
  found_refused true at h = found_here (eqb-true p q at) h
  found_refused false at h = apart (cc)

  found_one : (judgement : Judged) → judged v (drop p s) ≡ judgement →
      ((n : ℕ) (z : WalkState) → standing q (cut_from v s (p + suc n)) z ≡ stands_with u → Found v s (p + suc n) z q u) →
      standing q (cut_one judgement p (λ n. cut_from v s (p + n))) w ≡ stands_with u → Found v s p w q u
  unfolding standing
  found_one (good_instruction size class) e later h = found_good size class e (later size) (eqb p q) refl h
  found_one (bad_instruction r) e later h = found_refused (eqb p q) refl h

nothing_found : (v : Version) (s : List ℕ) (p q : ℕ) (w u : WalkState) → length s ≤ p → standing q (cut_from v s p) w ≡ stands_with u → Found v s p w q u
unfolding standing
nothing_found v s p q w u h e = let none : standing q (out p) w ≡ stands_with u = rw (cut_none v s p h) at e in apart (cc)

-- the first number bounds how many tokens are left
found : (most : ℕ) (v : Version) (s : List ℕ) (p q : ℕ) (w u : WalkState) → length s ≤ p + most →
    standing q (cut_from v s p) w ≡ stands_with u → Found v s p w q u
found zero v s p q w u h e = nothing_found v s p q w u (omega arith) e
found (suc most) v s p q w u h e =
    this (leb (length s) p) refl (λ n z f. found most v s (p + suc n) q z u (omega arith) f)
  where
    this : (b : Bool) → leb (length s) p ≡ b →
        ((n : ℕ) (z : WalkState) → standing q (cut_from v s (p + suc n)) z ≡ stands_with u → Found v s (p + suc n) z q u) → Found v s p w q u
    this true l later = nothing_found v s p q w u (leb-true (length s) p l) e
    this false l later =
        let inside = leb-false (length s) p l in
        found_one v s q u p w inside (judged v (drop p s)) refl later (rw (cut_at v s p inside) at e)

pub standing_comes : (v : Version) (s : List ℕ) (q : ℕ) (w : WalkState) → standing_at v s q ≡ stands_with w → Comes v s 1 begin q w × (q < length s)
unfolding standing_at
standing_comes v s q w e = found (length s) v s 1 q begin w (omega arith) e

-- What stands at a position is reached by the walk from behind the version on, in that state; the position lies behind the version and before the token count.
pub standing_reached : (v : Version) (s : List ℕ) (q : ℕ) (w : WalkState) → standing_at v s q ≡ stands_with w →
    (1 ≤ q) × (q < length s) × Reaches (cut_from v s 1) begin (cut_from v s q) w
standing_reached v s q w e = let f = standing_comes v s q w e in (ahead f.0, f.1, comes_reaches f.0)

-- what a walk reaches, it comes to
module _ (v : Version) (s : List ℕ) (q : ℕ) where
  comes_past : {class : Class} {at : ℕ} {a : Cut} {w u z : WalkState} (p : ℕ) → then class at a ≡ cut_from v s p → step w class ≡ go u →
      ((next : ℕ) → a ≡ cut_from v s next → Comes v s next u q z) → Comes v s p w q z
  comes_past {class} {at} {a} {w} {u} {z} p e go_on later = this (leb (length s) p) refl
    where
      one : (judgement : Judged) → judged v (drop p s) ≡ judgement → p < length s → then class at a ≡ cut_one judgement p (λ n. cut_from v s (p + n)) → Comes v s p w q z
      one (good_instruction size other) j inside f =
          let same : other ≡ class = cc in
          passes (j ∙ ap (good_instruction size) same) go_on inside (later (p + suc size) (cc))
      one (bad_instruction r) j inside f = apart (cc)

      this : (b : Bool) → leb (length s) p ≡ b → Comes v s p w q z
      this true l = let none : then class at a ≡ out p = e ∙ cut_none v s p (leb-true (length s) p l) in apart (cc)
      this false l = let inside = leb-false (length s) p l in one (judged v (drop p s)) refl inside (e ∙ cut_at v s p inside)

  reaches_comes : {a b : Cut} {w u : WalkState} → Reaches a w b u → b ≡ cut_from v s q → (p : ℕ) → a ≡ cut_from v s p → Comes v s p w q u
  reaches_comes (here {a = a}) e p f =
      let at : p ≡ q = sym (start_at v s p) ∙ ap start_of (sym f ∙ e) ∙ start_at v s q in
      rw at stays
  reaches_comes (past g r) e p f = comes_past p f g (reaches_comes r e)

-- And an instruction's position that the walk reaches is a boundary, with the state that the walk has there.
pub reached_standing : (v : Version) (s : List ℕ) (q : ℕ) (w : WalkState) → q < length s → Reaches (cut_from v s 1) begin (cut_from v s q) w →
    standing_at v s q ≡ stands_with w
unfolding standing_at
reached_standing v s q w h r = comes_standing h (reaches_comes v s q r refl 1 refl)
