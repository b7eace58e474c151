use Rattle.std.proofs.Common.{length, ◌-◌, ◌≤◌}
use Rattle.shader_check.proofs.input.read_input.Given as goal

-- what was read lies within the buffer
abbrev pub invariant-loop-done : goal.invariant-loop-done
invariant-loop-done g l = l.done ≤ length l.buffer

-- the room that is left
abbrev pub decreases-loop-done : goal.decreases-loop-done
decreases-loop-done g l = length l.initial.buffer - l.done
