use Prim.Native.Nat.{◌+◌}
use mathlib.Core.Path.{◌≡◌, ◌∙◌}
use lib.ListN.{length}
use native.Mathlib.Omega.{arith}
use Rattle.std.specs.List.{copy_within}
use Rattle.std.proofs.lemmas.Bool.Decides.{nat_tests}
use Rattle.splicer.proofs.Moving.{stayed, run_put}
use Rattle.splicer.proofs.Answers.{run_taken, run_left}
use Rattle.splicer.proofs.splice_in.Goals as goal
use Rattle.splicer.proofs.splice_in.Goals.{then-end-j, else-end-j}

pub returns-then-j-i : goal.returns-then-j-i
returns-then-j-i c =
    let g = c.args in
    run_left g.buffer.now g.n g.i g.j g.run.now (grind (arith, nat_tests))

pub returns : goal.returns
returns c =
    let g = c.args in
    let moved : c.if-end-j.buffer ≡ copy_within g.buffer.now g.j g.n (g.i + length g.run.now) =
    elim c.if-end-j.branch [ then-end-j w ↦ w.buffer-is ∙ w.copy_within.ensures.after | else-end-j w ↦ w.buffer-is ∙ stayed g.buffer.now g.n g.j _ (omega arith) ] in
    c.write_run.ensures
    ∙ rw (moved, run_taken g.buffer.now g.n g.i g.j g.run.now (omega arith) (omega arith) (omega arith) (omega arith))
    (run_put g.buffer.now g.run.now g.n g.i g.j (omega arith) (omega arith) (omega arith))
