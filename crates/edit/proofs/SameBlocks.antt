-- The test of the open blocks says yes exactly of equal ones, and so does that of the states.
use mathlib.Core.Path.{◌≡◌, refl, ap, sym}
use mathlib.Core.Bool.{Bool, true, false, beq}
use mathlib.Core.List.{List, [], ◌∷◌}
use Rattle.paper.specs.Walk.{Kind, opened, past_else, WalkState}
use Rattle.paper.specs.declared.Opener.{Opener}
use Rattle.paper.specs.declared.Opener.TheVariants.{If, Loop, Rep}
use Rattle.edit.specs.Boundaries.{Standing, nowhere, stands_with, same_opener, same_kind, same_blocks, same_state, meets, is_boundary}
use Rattle.paper.proofs.Bools.{apart, both}

same_opener_lem : (o p : Opener) → same_opener o p ≡ true → o ≡ p
same_opener_lem If If e = refl
same_opener_lem If Loop e = apart (cc)
same_opener_lem If Rep e = apart (cc)
same_opener_lem Loop If e = apart (cc)
same_opener_lem Loop Loop e = refl
same_opener_lem Loop Rep e = apart (cc)
same_opener_lem Rep If e = apart (cc)
same_opener_lem Rep Loop e = apart (cc)
same_opener_lem Rep Rep e = refl

same_kind_lem : (k l : Kind) → same_kind k l ≡ true → k ≡ l
same_kind_lem (opened o) (opened p) e = ap opened (same_opener_lem o p e)
same_kind_lem (opened o) past_else e = apart (cc)
same_kind_lem past_else (opened o) e = apart (cc)
same_kind_lem past_else past_else e = refl

kind_itself : (k : Kind) → same_kind k k ≡ true
kind_itself (opened If) = refl
kind_itself (opened Loop) = refl
kind_itself (opened Rep) = refl
kind_itself past_else = refl

-- Where the test says yes, the blocks are equal.
pub same_blocks_lem : (ks ls : List Kind) → same_blocks ks ls ≡ true → ks ≡ ls
same_blocks_lem [] [] e = refl
same_blocks_lem [] (l ∷ ls) e = apart (cc)
same_blocks_lem (k ∷ ks) [] e = apart (cc)
same_blocks_lem (k ∷ ks) (l ∷ ls) e =
    let b = both (same_kind k l) (same_blocks ks ls) e in
    let first : k ≡ l = same_kind_lem k l b.0 in
    let rest : ks ≡ ls = same_blocks_lem ks ls b.1 in
    cc

itself : (ks : List Kind) → same_blocks ks ks ≡ true
itself [] = refl
itself (k ∷ ks) = rw (kind_itself k) (itself ks)

-- And of equal blocks the test says yes.
pub blocks_same : (ks ls : List Kind) → ks ≡ ls → same_blocks ks ls ≡ true
blocks_same ks ls e = rw (← e) (itself ks)

-- the mark of a PHASE
pub same_mark : (a b : Bool) → beq a b ≡ true → a ≡ b
same_mark true true e = refl
same_mark true false e = apart (cc)
same_mark false true e = apart (cc)
same_mark false false e = refl

pub mark_itself : (a : Bool) → beq a a ≡ true
mark_itself true = refl
mark_itself false = refl

-- what meets, stands in the same state
pub state_same : (w u : WalkState) → w.kinds ≡ u.kinds → w.phased ≡ u.phased → w ≡ u
state_same w u e f = rw (e, f)

same_state_lem : (w u : WalkState) → same_state w u ≡ true → w ≡ u
same_state_lem w u e =
    let b = both (same_blocks w.kinds u.kinds) (beq w.phased u.phased) e in
    state_same w u (same_blocks_lem w.kinds u.kinds b.0) (same_mark w.phased u.phased b.1)

pub met : (x y : Standing) → meets x y ≡ true → (w : WalkState) × (x ≡ stands_with w) × (y ≡ stands_with w)
met nowhere y e = apart (cc)
met (stands_with w) nowhere e = apart (cc)
met (stands_with w) (stands_with u) e = (w, refl, ap stands_with (sym (same_state_lem w u e)))

pub meeting : (x y : Standing) (w : WalkState) → x ≡ stands_with w → y ≡ stands_with w → meets x y ≡ true
meeting x y w e f = rw (e, f, itself w.kinds) (mark_itself w.phased)

pub boundary : (x : Standing) → is_boundary x ≡ true → (w : WalkState) × (x ≡ stands_with w)
boundary nowhere e = apart (cc)
boundary (stands_with w) e = (w, refl)
