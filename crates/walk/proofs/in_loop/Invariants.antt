use Rattle.std.proofs.Common.{◌≡◌, ◌≤◌}
use Rattle.walk.specs.Kinds.{in_loop_by}
use Rattle.walk.proofs.in_loop.Given as goal

abbrev pub invariant-loop-left : goal.invariant-loop-left
invariant-loop-left l = (l.left ≤ l.kinds) × (in_loop_by l.left ≡ in_loop_by l.kinds)

abbrev pub decreases-loop-left : goal.decreases-loop-left
decreases-loop-left l = l.left
