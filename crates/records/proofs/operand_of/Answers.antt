use mathlib.Core.Path.{sym, ◌∙◌}
use Rattle.records.specs.Record.{operand_of}
use Rattle.records.proofs.operand_of.Goals as goal

pub returns-then-is_raw : goal.returns-then-is_raw
unfolding operand_of
returns-then-is_raw c = c.raw_operand.ensures ∙ rw (sym c.is_raw.ensures ∙ c.if-is_raw.true)

pub returns-then-is_destination : goal.returns-then-is_destination
unfolding operand_of
returns-then-is_destination c =
    c.destination_operand.ensures
    ∙ rw (
      sym c.is_raw.ensures ∙ c.if-is_raw.false,
      sym c.is_destination.ensures ∙ c.if-is_destination.true,
    )

pub returns : goal.returns
unfolding operand_of
returns c =
    c.source_operand.ensures
    ∙ rw (
      sym c.is_raw.ensures ∙ c.if-is_raw.false,
      sym c.is_destination.ensures ∙ c.if-is_destination.false,
    )
