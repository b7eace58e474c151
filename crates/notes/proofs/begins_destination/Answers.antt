use mathlib.Core.Path.{◌∙◌}
use Rattle.notes.proofs.FirstPlace.{begins_destination_lem}
use Rattle.notes.proofs.begins_destination.Goals as goal

pub returns : goal.returns
returns c =
    let g = c.args in
    rw (c.places_in.ensures, c.shape_of-shape.ensures) at c.is_destination.ensures ∙ begins_destination_lem g.version g.opcode
