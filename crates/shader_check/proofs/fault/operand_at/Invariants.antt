use Rattle.shader_check.proofs.fault.operand_at.Given as goal

abbrev pub decreases-loop-left : goal.decreases-loop-left
decreases-loop-left l = l.left
