use native.Mathlib.Omega.{arith}
use Rattle.stretches.specs.Stretch.{here}
use Rattle.stretches.proofs.judge_stretch.Goals as goal

pub loop-at-init : goal.loop-at-init
loop-at-init c = (here, omega arith)
