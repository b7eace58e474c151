use Prim.Native.Nat.{ℕ, ◌+◌, ◌≤◌}
use mathlib.Core.Path.{◌≡◌, sym, ◌∙◌}
use mathlib.Core.List.{List, [], ◌∷◌, ◌++◌, append_assoc}
use native.Mathlib.Omega.{arith}
use lib.ListN.{length, drop, length-append}
use lib.Seq.{sets, sets-eq, drop-drop}
use borrow.Author.Tests.{eqb-true}
use Rattle.writer.proofs.put.Goals as goal

module _ (room tokens : List ℕ) where
  both : (behind : List ℕ) → length tokens + length behind ≤ length room →
      tokens ++ (behind ++ drop (length behind) (drop (length tokens) room)) ≡ sets room 0 (tokens ++ behind)
  both behind fits =
      let count : 0 + length (tokens ++ behind) ≡ length tokens + length behind = omega (arith, length-append tokens behind) in
      rw (drop-drop (length behind) (length tokens) room, sets-eq (tokens ++ behind) room 0 (omega arith), count) (sym (append_assoc tokens behind _))

  first : (behind : List ℕ) → length behind ≡ 0 → length tokens + length behind ≤ length room → tokens ++ drop (length tokens) room ≡ sets room 0 (tokens ++ behind)
  first [] none fits = both [] fits
  first (token ∷ behind) none fits = absurd (omega arith)

pub returns-then-not-is_empty : goal.returns-then-not-is_empty
returns-then-not-is_empty c =
    let g = c.args in
    rw (c.copy_from_slice.ensures.after, c.copy.ensures, c.split_at_mut-front.ensures.back)
    (both g.room.now g.tokens.now g.behind.now c.requires)

pub returns-else-not-is_empty : goal.returns-else-not-is_empty
returns-else-not-is_empty c =
    let g = c.args in
    rw (c.copy_from_slice.ensures.after, c.split_at_mut-front.ensures.back)
    (first g.room.now g.tokens.now g.behind.now (eqb-true _ _ (sym c.is_empty.ensures ∙ c.if-not-is_empty.false)) c.requires)
