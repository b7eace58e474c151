use mathlib.Core.Path.{sym, ap, ◌∙◌}
use Rattle.uniform.specs.Uniform.{free_count, first_row}
use Rattle.instruction_token.specs.ByShape.{unsized_by}
use Rattle.door.proofs.Asking.{asks_free, asks_no_row, asks_row}
use Rattle.door.proofs.asked_by.Goals as goal

pub returns-then-has_sizes : goal.returns-then-has_sizes
returns-then-has_sizes c =
    let g = c.args in
    asks_free g.version g.first (sym c.has_sizes.ensures ∙ c.if-has_sizes.true) (sym c.has_zeros.ensures ∙ c.if-not-has_zeros.false) _ _ _
    (c.in_ok-free_count.ensures ∙ ap (free_count g.version) c.opcode_of-opcode.ensures)
    c.free_destination_types.ensures
    c.free_source_types.ensures

pub returns-in_err-row : goal.returns-in_err-row
returns-in_err-row c =
    let g = c.args in
    rw c.from_residual-in_err-row.ensures
    (asks_no_row g.version g.first (sym c.has_sizes.ensures ∙ c.if-has_sizes.false)
    (sym (ap (λ coissued. unsized_by coissued g.first) c.has_coissue.ensures) ∙ sym c.unsized_laid.ensures ∙ c.if-not-unsized_laid.false)
    (c.in_err-row.ensures ∙ ap (first_row g.version) c.opcode_of-opcode.ensures))

pub returns : goal.returns
returns c =
    let g = c.args in
    asks_row g.version g.first (sym c.has_sizes.ensures ∙ c.if-has_sizes.false)
    (sym (ap (λ coissued. unsized_by coissued g.first) c.has_coissue.ensures) ∙ sym c.unsized_laid.ensures ∙ c.if-not-unsized_laid.false)
    c.in_ok-row.row
    (c.in_ok-row.ensures ∙ ap (first_row g.version) c.opcode_of-opcode.ensures)
