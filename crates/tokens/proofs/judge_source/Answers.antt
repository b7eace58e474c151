use mathlib.Core.Path.{sym, ◌∙◌}
use Rattle.versions.proofs.Types.{source_types}
use Rattle.tokens.proofs.judge_source.Goals as goal

pub returns : goal.returns
returns c =
    rw (c.judge_type.ensures, c.type_in.ensures, c.free_source_types.ensures, source_types _ _, sym c.free_source_laid.ensures ∙ c.if-not-free_source_laid.false)
