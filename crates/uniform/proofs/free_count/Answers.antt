use borrow.Author.Tests.{eq-eqb, ne_eqb}
use Rattle.uniform.proofs.Tables.{count_found}
use Rattle.uniform.proofs.free_count.Goals as goal

pub returns-then-cells-rank-eq0 : goal.returns-then-cells-rank-eq0
returns-then-cells-rank-eq0 c =
    let found = count_found c.args.version c.args.opcode _ _ c.rank_of-rank.ensures c.free_cells-cells.ensures in
    rw (eq-eqb _ _ c.if-cells-rank-eq0.true) at found

pub returns : goal.returns
returns c =
    let found = count_found c.args.version c.args.opcode _ _ c.rank_of-rank.ensures c.free_cells-cells.ensures in
    rw (ne_eqb _ _ c.if-cells-rank-eq0.false) at found
