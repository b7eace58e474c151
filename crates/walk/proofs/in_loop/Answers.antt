use Rattle.std.proofs.Common.{arith}
use Rattle.walk.proofs.OpenBlocks.{loop_none, loop_first}
use Rattle.walk.proofs.in_loop.Goals as goal

pub loop-left-preserved : goal.loop-left-preserved
loop-left-preserved c = grind (arith, loop_first)

pub returns-then-kind-eq-LOOP : goal.returns-then-kind-eq-LOOP
returns-then-kind-eq-LOOP c = grind (arith, loop_first)

pub returns : goal.returns
returns c = grind (arith, loop_none)
