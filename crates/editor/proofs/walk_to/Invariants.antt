use Rattle.walk.specs.Stands.{Comes}
use Rattle.walk.proofs.Comes.{left_to}
use Rattle.editor.proofs.Onward.{Misses}
use Rattle.editor.proofs.walk_to.Given as goal

abbrev pub invariant-loop-version : goal.invariant-loop-version
invariant-loop-version l = Comes l.version l.tokens 0 l.step × Misses l.version l.tokens l.target l.step

abbrev pub decreases-loop-version : goal.decreases-loop-version
decreases-loop-version l = left_to l.step l.target
