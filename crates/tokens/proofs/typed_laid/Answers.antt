use mathlib.Core.Path.{◌∙◌}
use native.Mathlib.Omega.{arith}
use Rattle.places.proofs.Places.{predicate_place, relative_place}
use Rattle.tokens.proofs.TokenAt.{kind_laid_at}
use Rattle.tokens.proofs.typed_laid.Goals as goal

pub returns-in-93 : goal.returns-in-93
returns-in-93 c = rw (c.in-93.is, predicate_place) c.predicate_laid.ensures

pub returns-in-94 : goal.returns-in-94
returns-in-94 c = rw (c.in-94.is, relative_place) c.relative_laid.ensures

pub returns-in_default : goal.returns-in_default
returns-in_default c =
    let g = c.args in
    c.kind_laid.ensures ∙ kind_laid_at g.version g.token g.place c.requires.0 c.requires.1 (λ e. omega arith) (λ e. omega arith)
