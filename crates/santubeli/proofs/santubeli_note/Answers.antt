use mathlib.Core.Path.{ap, ◌∙◌}
use Rattle.notes.proofs.OneAnswer.{same_noted}
use Rattle.santubeli.specs.Entries.{note_answer_of}
use Rattle.santubeli.proofs.santubeli_note.Goals as goal

pub returns : goal.returns
returns c = c.note_answer_of.ensures ∙ ap note_answer_of (same_noted _ _ c.next_note.ensures)
