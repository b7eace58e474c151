use native.Mathlib.Omega.{arith}
use Rattle.std.proofs.lemmas.List.Edits.{paste_more}
use Rattle.splicer.proofs.write_run.Goals as goal

pub loop-k-preserved : goal.loop-k-preserved
loop-k-preserved c =
    let g = c.args in
    let l = c.loop-k in
    rw l.invariant (paste_more g.buffer.now g.at g.run.now l.k 0 (omega arith) (omega arith))
