-- The walk up to a boundary reads only the tokens before it: each instruction before a boundary lies wholly before it.
use Prim.Native.Nat.{ℕ, zero, suc, ◌+◌, ◌-◌, ◌≤◌, ◌<◌}
use mathlib.Core.Path.{◌≡◌, ap, sym, ◌∙◌}
use mathlib.Core.List.{List, [], ◌∷◌, ◌++◌}
use native.Mathlib.Nat.{zero-add, suc-add}
use native.Mathlib.Omega.{arith}
use lib.ListN.{length, take, drop, length-append, length-drop, length-take, take-append-drop}
use lib.Seq.{take-nil, take-take, take_at, length-take-le}
use Rattle.paper.specs.Instruction.{judged}
use Rattle.paper.specs.Walk.{WalkState}
use Rattle.paper.specs.declared.Version.{Version}
use Rattle.paper.specs.declared.Class.{Class}
use Rattle.paper.specs.Judgements.{good_instruction}
use Rattle.paper.proofs.OwnTokens.{good_alone}
use Rattle.edit.specs.Boundaries.{stands_with, standing_at}
use Rattle.edit.specs.Edit.{splice}
use Rattle.edit.proofs.Standing.{Comes, stays, passes, ahead, comes_standing, standing_comes}

-- a part in the middle of a list
pub part : (p n : ℕ) (l : List ℕ) → drop p (take (p + n) l) ≡ take n (drop p l)
part zero n l = rw zero-add
part (suc p) n [] = rw (take-nil {A = ℕ} (suc p + n), take-nil {A = ℕ} n)
part (suc p) n (x ∷ l) = rw suc-add (part p n l)

-- lists with one beginning have the same parts in it
pub same_part : (s t : List ℕ) (q p n : ℕ) → take q s ≡ take q t → p + n ≤ q → take n (drop p s) ≡ take n (drop p t)
same_part s t q p n e h =
    sym (part p n s)
    ∙ ap (drop p) (sym (take-take (p + n) q s h) ∙ ap (take (p + n)) e ∙ take-take (p + n) q t h)
    ∙ part p n t

-- and a position in it lies in both
pub same_length : (s t : List ℕ) (q p : ℕ) → take q s ≡ take q t → q ≤ length s → p < q → p < length t
same_length s t q p e h l = omega (arith, length-take q s, length-take q t, ap length e)

-- a good instruction is good wherever its own tokens stand
pub same_good : (v : Version) (size : ℕ) (class : Class) (a b : List ℕ) → take (suc size) a ≡ take (suc size) b →
    judged v a ≡ good_instruction size class → judged v b ≡ good_instruction size class
same_good v size class a b e j =
    ap (judged v) (sym (take-append-drop (suc size) b) ∙ ap (λ (l : List ℕ). l ++ drop (suc size) b) (sym e))
    ∙ good_alone size class v a (drop (suc size) b) j

-- a walk that comes to q comes there wherever the first q tokens are the same
pub same_comes : {v : Version} {s t : List ℕ} {p q : ℕ} {w u : WalkState} → take q s ≡ take q t → q ≤ length s → Comes v s p w q u → Comes v t p w q u
same_comes e h stays = stays
same_comes {v} {s} {t} {q = q} e h (passes {size = size} {class = class} {p = p} j g inside c) =
    let a = ahead c in
    passes (same_good v size class (drop p s) (drop p t) (same_part s t q p (suc size) e a) j) g
    (same_length s t q p e h (omega arith)) (same_comes e h c)

-- Two streams with the same first q tokens, both longer than q: a boundary q of the one is a boundary of the other, in the same state.
pub same_boundary : (v : Version) (s t : List ℕ) (q : ℕ) (w : WalkState) → take q s ≡ take q t → q < length t →
    standing_at v s q ≡ stands_with w → standing_at v t q ≡ stands_with w
unfolding standing_at
same_boundary v s t q w e h b =
    let f = standing_comes v s q w b in
    comes_standing h (same_comes e (omega arith) f.0)

-- how long a splice is, and its first tokens
module _ (old : List ℕ) (i j : ℕ) (run : List ℕ) (inside : i ≤ length old) where
  pub splice_length : length (splice old i j run) ≡ i + length run + (length old - j)
  splice_length = simp (length-append, length-take-le i old inside, length-drop) (omega arith)

  pub splice_begins : take i (splice old i j run) ≡ take i old
  splice_begins = take_at (take i old) (run ++ drop j old) i (length-take-le i old inside)

-- The prefix is not walked a second time: the edit's first place is a boundary of the splice too, in the state that the old stream has there.
pub prefix_stands : (v : Version) (old : List ℕ) (i j : ℕ) (run : List ℕ) (w : WalkState) → j < length old →
    standing_at v old i ≡ stands_with w → standing_at v (splice old i j run) i ≡ stands_with w
prefix_stands v old i j run w h b =
    let f = standing_comes v old i w b in
    same_boundary v old (splice old i j run) i w (sym (splice_begins old i j run (omega arith)))
    (omega (arith, splice_length old i j run (omega arith))) b
