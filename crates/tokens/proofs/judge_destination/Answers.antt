use mathlib.Core.Path.{sym, ◌∙◌}
use Rattle.versions.proofs.Types.{destination_types}
use Rattle.tokens.proofs.judge_destination.Goals as goal

pub returns : goal.returns
returns c =
    rw (c.judge_type.ensures, c.type_in.ensures, c.free_destination_types.ensures, destination_types _ _, sym c.free_destination_laid.ensures ∙ c.if-not-free_destination_laid.false)
