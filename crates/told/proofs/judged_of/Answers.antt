use Rattle.std.proofs.Common.{sym, ◌∙◌}
use Rattle.told.specs.Numbered.{judged_from}
use Rattle.told.proofs.judged_of.Goals as goal

pub returns-then-is_refused : goal.returns-then-is_refused
unfolding judged_from
returns-then-is_refused c =
    simp (
      c.position_of.ensures,
      c.bit_of.ensures,
      c.reason_by.ensures,
      sym c.is_refused.ensures ∙ c.if-is_refused.true,
    )

pub returns : goal.returns
unfolding judged_from
returns c =
    simp (
      c.size_of.ensures,
      c.class_by.ensures,
      sym c.is_refused.ensures ∙ c.if-is_refused.false,
    )
