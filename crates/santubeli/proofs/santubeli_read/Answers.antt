use mathlib.Core.Path.{ap, ◌∙◌}
use Rattle.reader.proofs.ReadingUnique.{told_one}
use Rattle.santubeli.specs.Entries.{read_answer_of}
use Rattle.santubeli.proofs.santubeli_read.Goals as goal

pub returns : goal.returns
returns c = c.read_answer_of.ensures ∙ ap read_answer_of (told_one _ _ c.read.ensures)
