use mathlib.Core.Path.{sym, ◌∙◌}
use Rattle.tokens.proofs.TokenAt.{tabled_by, types_tabled, of_its_types}
use Rattle.tokens.proofs.judge_tabled.Goals as goal

pub tabled_laid-requires : goal.tabled_laid-requires
tabled_laid-requires c = (tabled_by c.args.place c.args.types c.requires).0

pub returns : goal.returns
returns c =
    let g = c.args in
    let tabled = (tabled_by g.place g.types c.requires).0 in
    rw (
      c.judge_type.ensures,
      c.type_in.ensures,
      types_tabled g.place g.types g.token c.requires,
      ← (of_its_types g.version g.token g.place tabled),
      sym c.tabled_laid.ensures ∙ c.if-not-tabled_laid.false,
    )
