use mathlib.Core.Path.{◌≡◌, ap, ◌∙◌}
use Prim.Native.Nat.{ℕ}
use Rattle.paper.specs.declared.Version.{Version}
use Rattle.paper.specs.InstructionToken.{opcode_of}
use Rattle.records.proofs.RowRead.{bare_row, row_readable, row_is}
use borrow.Author.Tests.{eq-eqb, ne_eqb}
use Rattle.shapes.specs.Shape.{shape_of, places_field}
use Rattle.records.proofs.read_record.Goals as goal

-- the row is that of the token's opcode
row_told : (v : Version) (first opcode shape row : ℕ) → opcode ≡ opcode_of first → shape ≡ shape_of v opcode → row ≡ places_field shape →
    row ≡ places_field (shape_of v (opcode_of first))
row_told v first opcode shape row o s r = r ∙ ap places_field (s ∙ ap (shape_of v) o)

pub returns-then-class-eq-COMMENT : goal.returns-then-class-eq-COMMENT
returns-then-class-eq-COMMENT c = rw (eq-eqb _ _ c.if-class-eq-COMMENT.true, ← c.comment_length.ensures) c.empty_record.ensures

pub returns-then-class-eq-END : goal.returns-then-class-eq-END
returns-then-class-eq-END c = rw (ne_eqb _ _ c.if-class-eq-COMMENT.false, eq-eqb _ _ c.if-class-eq-END.true) c.empty_record-then-class-eq-END.ensures

pub unplaced_operands-requires : goal.unplaced_operands-requires
unplaced_operands-requires c =
    let g = c.args in
    let row = row_told g.version g.first _ _ _ c.opcode_of.ensures c.shape_of-shape.ensures c.places_in-row.ensures in
    rw (ne_eqb _ _ c.if-class-eq-COMMENT.false, ne_eqb _ _ c.if-class-eq-END.false, bare_row g.version g.first (rw row at c.if-predicated-row.true)) at c.requires

pub returns-then-predicated-row : goal.returns-then-predicated-row
returns-then-predicated-row c =
    let g = c.args in
    let row = row_told g.version g.first _ _ _ c.opcode_of.ensures c.shape_of-shape.ensures c.places_in-row.ensures in
    rw (
      ne_eqb _ _ c.if-class-eq-COMMENT.false,
      ne_eqb _ _ c.if-class-eq-END.false,
      bare_row g.version g.first (rw row at c.if-predicated-row.true),
      ← c.unplaced_operands.ensures,
    )
    c.instruction_record.ensures

pub read_operands-requires : goal.read_operands-requires
read_operands-requires c =
    let g = c.args in
    let row = row_told g.version g.first _ _ _ c.opcode_of.ensures c.shape_of-shape.ensures c.places_in-row.ensures in
    rw row
    (row_readable g.version g.first (rw row at c.if-predicated-row.false)
    (rw (ne_eqb _ _ c.if-class-eq-COMMENT.false, ne_eqb _ _ c.if-class-eq-END.false) at c.requires))

pub returns : goal.returns
returns c =
    let g = c.args in
    let row = row_told g.version g.first _ _ _ c.opcode_of.ensures c.shape_of-shape.ensures c.places_in-row.ensures in
    rw (
      ne_eqb _ _ c.if-class-eq-COMMENT.false,
      ne_eqb _ _ c.if-class-eq-END.false,
      row_is g.version g.first (rw row at c.if-predicated-row.false),
      ← row,
      ← c.read_operands.ensures,
    )
    c.instruction_record-2.ensures
