use Rattle.writer.specs.Row.{row_number}
use Rattle.writer.proofs.row_of.Goals as goal

pub returns-then-marked : goal.returns-then-marked
unfolding row_number
returns-then-marked c = rw c.if-marked.true c.places_of.ensures

pub returns : goal.returns
unfolding row_number
returns c = rw c.if-marked.false c.places_of-2.ensures
