use Prim.Native.Nat.{◌+◌}
use mathlib.Core.Path.{◌≡◌, subst}
use native.Mathlib.Omega.{arith}
use lib.ListN.{set, get_or}
use lib.Seq.{paste}
use Rattle.std.proofs.lemmas.List.Edits.{paste_more}
use Rattle.writer.proofs.copy.Goals as goal

pub loop-k-preserved : goal.loop-k-preserved
loop-k-preserved c =
    let g = c.args in
    let l = c.loop-k in
    let from_front : 0 + l.k ≡ l.k = omega arith in
    rw l.invariant
    (subst (λ n. set (paste g.room.now 0 g.tokens.now l.k) n (get_or g.tokens.now l.k 0) ≡ paste g.room.now 0 g.tokens.now (l.k + 1)) from_front
    (paste_more g.room.now 0 g.tokens.now l.k 0 (omega arith) (omega arith)))
