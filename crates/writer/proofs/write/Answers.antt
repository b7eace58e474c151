use mathlib.Core.Path.{sym, ◌∙◌}
use Rattle.paper.proofs.OneToOne.{same_named}
use Rattle.writer.specs.Writing.{unnamed}
use Rattle.writer.proofs.Exactly.{known_writes}
use Rattle.writer.proofs.write.Goals as goal

pub returns : goal.returns
returns c =
    let g = c.args in
    let n = sym (same_named _ _ c.version_of.ensures) ∙ c.in-Some.is in
    rw (c.write_known.ensures.0, c.write_known.ensures.1)
    (known_writes g.version g.instruction g.body.now g.buffer.now g.at _ n)

pub returns-in_default : goal.returns-in_default
returns-in_default c = unnamed (sym (same_named _ _ c.version_of.ensures) ∙ c.in_default.is)
