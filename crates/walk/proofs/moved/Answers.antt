use Rattle.paper.proofs.OneToOne.{same_instruction}
use Rattle.walk.proofs.moved.Goals as goal

pub returns-in-Ok : goal.returns-in-Ok
returns-in-Ok c = rw (← (same_instruction _ _ c.judged_of.ensures), c.in-Ok.is) c.nested.ensures

pub returns-in-Err : goal.returns-in-Err
returns-in-Err c = rw (← (same_instruction _ _ c.judged_of.ensures), c.in-Err.is)
