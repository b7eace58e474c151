use Rattle.std.proofs.Common.{arith}
use Rattle.walk.proofs.Stretching.{leads_ahead}
use Rattle.walk.proofs.pass.Goals as goal

pub returns : goal.returns
returns c =
    record { stretch = c.judge_stretch-stretch.result; stretched = c.judge_stretch-stretch.ensures; steps = c.step_over.ensures }

pub overflow_sub-stretch : goal.overflow_sub-stretch
overflow_sub-stretch c = omega (arith, leads_ahead c.judge_stretch-stretch.ensures.leads)
