use mathlib.Core.Path.{◌≡◌}
use lib.Seq.{paste}
use Rattle.splicer.proofs.write_run.Given as goal

abbrev pub invariant-loop-k : goal.invariant-loop-k
invariant-loop-k l = l.buffer ≡ paste l.initial.buffer l.at l.run l.k
