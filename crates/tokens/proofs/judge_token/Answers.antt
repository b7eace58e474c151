use mathlib.Core.Path.{sym, ◌∙◌}
use Rattle.places.proofs.Places.{free_source_place, free_destination_place}
use Rattle.places.proofs.PlaceKinds.{not_free}
use Rattle.tokens.proofs.TokenAt.{untabled_by}
use Rattle.tokens.proofs.judge_token.Goals as goal

pub returns-then-place-eq-FREE_SOURCE : goal.returns-then-place-eq-FREE_SOURCE
returns-then-place-eq-FREE_SOURCE c = rw (c.if-place-eq-FREE_SOURCE.true, free_source_place) c.judge_source.ensures

pub returns-then-place-eq-FREE_DESTINATION : goal.returns-then-place-eq-FREE_DESTINATION
returns-then-place-eq-FREE_DESTINATION c = rw (c.if-place-eq-FREE_DESTINATION.true, free_destination_place) c.judge_destination.ensures

pub judge_tabled-requires : goal.judge_tabled-requires
judge_tabled-requires c = sym c.types_at.ensures ∙ c.in-Some.is

pub typed_laid-requires : goal.typed_laid-requires
typed_laid-requires c =
    (sym c.is_raw.ensures ∙ c.if-is_raw.false, not_free c.args.place c.if-place-eq-FREE_SOURCE.false c.if-place-eq-FREE_DESTINATION.false)

pub typed_at-requires : goal.typed_at-requires
typed_at-requires c = (
  sym c.is_raw.ensures ∙ c.if-is_raw.false,
  not_free c.args.place c.if-place-eq-FREE_SOURCE.false c.if-place-eq-FREE_DESTINATION.false,
  untabled_by c.args.place (sym c.types_at.ensures ∙ c.in_default.is),
)
