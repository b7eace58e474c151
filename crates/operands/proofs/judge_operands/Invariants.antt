use mathlib.Core.Path.{◌≡◌}
use Prim.Native.Nat.{◌+◌, ◌*◌, ◌≤◌}
use lib.ListN.{length, drop}
use Rattle.paper.specs.Instruction.{operands}
use Rattle.places.specs.Places.{decoded}
use Rattle.operands.proofs.judge_operands.Given as goal

abbrev pub invariant-loop-left : goal.invariant-loop-left
invariant-loop-left l =
    (l.at ≤ length l.behind)
    × (l.left ≤ l.places)
    × (l.at + 2 * length (decoded l.left) ≤ 20)
    × (operands l.version (decoded l.left) (l.at + 1) (drop l.at l.behind) ≡ operands l.version (decoded l.places) 1 l.behind)

abbrev pub decreases-loop-left : goal.decreases-loop-left
decreases-loop-left l = l.left
