use Rattle.std.proofs.Common.{false, ◌+◌, ◌*◌, ◌-◌, length}
use Rattle.paper.specs.Blocks.{most_open}
use Rattle.checker.proofs.BodyEnds.{Reached}
use Rattle.checker.proofs.+block_body_item.Given as goal

-- the allowed depth falls from a block to its bodies; at one depth a body stands over its items, and an item over its block
abbrev pub decreases-block : goal.decreases-block
decreases-block l = 3 * (most_open - l.around.depth)

abbrev pub decreases-body : goal.decreases-body
decreases-body l = 3 * (most_open - l.around.depth) + 2

abbrev pub decreases-item : goal.decreases-item
decreases-item l = 3 * (most_open - l.around.depth) + 1

abbrev pub invariant-body-loop-behind : goal.invariant-body-loop-behind
invariant-body-loop-behind l = Reached l.version l.tokens l.around false l.fn.start l.place l.phased

abbrev pub decreases-body-loop-behind : goal.decreases-body-loop-behind
decreases-body-loop-behind l = length l.tokens - l.place.at
