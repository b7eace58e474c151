use mathlib.Core.Path.{sym, ◌∙◌}
use borrow.Author.Tests.{le-ltb}
use Rattle.uniform.proofs.Tables.{sized_rank, row_found}
use Rattle.uniform.proofs.first_row.Goals as goal

pub returns : goal.returns
returns c =
    let g = c.args in
    let sizeless = sym (sized_rank g.version) ∙ (rw c.rank_of-rank.ensures at (le-ltb _ 4 c.if-rank-lt-FIRST.false)) in
    c.row_by.ensures ∙ row_found g.version g.opcode _ _ sizeless c.rank_of-rank.ensures c.first_cells.ensures
