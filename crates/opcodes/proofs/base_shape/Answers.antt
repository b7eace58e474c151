use mathlib.Core.Path.{◌≡◌}
use native.Mathlib.Omega.{arith}
use borrow.Author.Tests.{eq-eqb, ne_eqb}
use Rattle.paper.specs.OpcodeTable.{rows}
use Rattle.paper.specs.Blocks.{classes, class_of}
use Rattle.paper.specs.Places.{entry_of, typed_places}
use Rattle.shapes.specs.Shape.{shape_of}
use Rattle.versions.proofs.Rows.{rank_small}
use Rattle.opcodes.proofs.Table.{found, looked_up}
use Rattle.opcodes.proofs.base_shape.Goals as goal

-- each way through the code is one of the choices of `found`
looks : (c : goal.After-row_of-row) →
    let g = c.args in
    found c.rank_of-rank.result c.has_predicates-predicates.result g.opcode c.row_of-row.result ≡ shape_of g.version g.opcode
looks c =
    let g = c.args in
    looked_up g.version g.opcode _ _ _ c.requires c.rank_of-rank.ensures c.has_predicates-predicates.ensures c.row_of-row.ensures

pub overflow_shr-row : goal.overflow_shr-row
overflow_shr-row c = omega (arith, rank_small c.args.version)

pub returns-then-opcode-predicates : goal.returns-then-opcode-predicates
unfolding rows entry_of typed_places class_of classes shape_of
returns-then-opcode-predicates c = rw (eq-eqb _ _ c.if-row-rank-eq0.true, c.if-opcode-predicates.true) at (looks c.before.before)

pub returns-then-row-rank-eq0 : goal.returns-then-row-rank-eq0
returns-then-row-rank-eq0 c = rw (eq-eqb _ _ c.if-row-rank-eq0.true, c.if-opcode-predicates.false) at (looks c.before.before)

pub returns-then-predicates : goal.returns-then-predicates
returns-then-predicates c = rw (ne_eqb _ _ c.if-row-rank-eq0.false, c.if-predicates.true) at (looks c.before.before)

pub returns : goal.returns
returns c = rw (ne_eqb _ _ c.if-row-rank-eq0.false, c.if-predicates.false) at (looks c.before.before)
