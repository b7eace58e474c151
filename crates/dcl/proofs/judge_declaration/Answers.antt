use mathlib.Core.Path.{sym, ap, ◌∙◌}
use Rattle.paper.specs.Numbers.{told_token}
use Rattle.told.specs.Numbered.{fault_number, operands_number}
use Rattle.dcl.proofs.Declarations.{no_destination, destination_fault, destination_type, usage_refused, then_rest}
use Rattle.dcl.proofs.judge_declaration.Goals as goal

pub returns-in_default : goal.returns-in_default
returns-in_default c = c.refused_first.ensures ∙ ap operands_number (sym (no_destination _ _ c.in_default.len_below))

pub returns-then-not-destination_laid : goal.returns-then-not-destination_laid
returns-then-not-destination_laid c =
    c.refused_by.ensures
    ∙ ap (λ t. fault_number (told_token t) 2) c.declaration_fault.ensures
    ∙ sym (destination_fault _ _ c.in-len2-up.len_at_least (sym c.destination_laid.ensures ∙ c.if-not-destination_laid.true))

pub returns-then-not-is_declared : goal.returns-then-not-is_declared
returns-then-not-is_declared c =
    (rw c.of.ensures at c.refused_by-then-not-is_declared.ensures)
    ∙ sym
    (destination_type _ _ c.in-len2-up.len_at_least (sym c.destination_laid.ensures ∙ c.if-not-destination_laid.false)
    (sym c.is_declared.ensures ∙ c.if-not-is_declared.true))

pub returns-then-not-usage_laid : goal.returns-then-not-usage_laid
returns-then-not-usage_laid c =
    c.refused_by-then-not-usage_laid.ensures
    ∙ ap (λ t. fault_number (told_token t) 1) c.declaration_fault-then-not-usage_laid.ensures
    ∙ sym
    (usage_refused _ _ c.in-len2-up.len_at_least (sym c.destination_laid.ensures ∙ c.if-not-destination_laid.false)
    (sym c.is_declared.ensures ∙ c.if-not-is_declared.false)
    (sym c.usage_laid.ensures ∙ c.if-not-usage_laid.true))

pub returns-then-behind-eq2 : goal.returns-then-behind-eq2
returns-then-behind-eq2 c =
    ap operands_number
    (sym
    ((then_rest _ _ c.in-len2-up.len_at_least (sym c.destination_laid.ensures ∙ c.if-not-destination_laid.false)
    (sym c.is_declared.ensures ∙ c.if-not-is_declared.false)
    (sym c.usage_laid.ensures ∙ c.if-not-usage_laid.false)).0 c.if-behind-eq2.true))

pub returns : goal.returns
returns c =
    c.refused_first-2.ensures
    ∙ ap operands_number
    (sym
    ((then_rest _ _ c.in-len2-up.len_at_least (sym c.destination_laid.ensures ∙ c.if-not-destination_laid.false)
    (sym c.is_declared.ensures ∙ c.if-not-is_declared.false)
    (sym c.usage_laid.ensures ∙ c.if-not-usage_laid.false)).1 c.if-behind-eq2.false))
