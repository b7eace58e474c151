use mathlib.Core.Path.{sym, ◌∙◌}
use Rattle.tokens.proofs.TokenAt.{plain_laid, of_its_kind}
use Rattle.tokens.proofs.tabled_laid.Goals as goal

pub returns-then-plain_at : goal.returns-then-plain_at
returns-then-plain_at c =
    let g = c.args in
    c.if-plain_at.true ∙ sym (plain_laid g.version g.token g.place c.requires (sym c.plain_at.ensures ∙ c.if-plain_at.true))

pub returns-else-plain_at : goal.returns-else-plain_at
returns-else-plain_at c =
    let g = c.args in
    c.kind_laid.ensures ∙ of_its_kind g.version g.token g.place c.requires
