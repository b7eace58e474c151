use Rattle.std.proofs.Common.{length, ◌-◌}
use Rattle.shader_check.proofs.print_notes.Given as goal

abbrev pub decreases-loop-at : goal.decreases-loop-at
decreases-loop-at g l = length l.tokens - l.at
