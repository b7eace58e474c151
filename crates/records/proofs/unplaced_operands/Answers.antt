use mathlib.Core.Path.{◌≡◌}
use native.Mathlib.Omega.{arith}
use Rattle.places.specs.Places.{place_by}
use Rattle.places.proofs.Places.{predicate_place}
use Rattle.records.specs.Record.{width_at}
use Rattle.records.proofs.RowRead.{unplaced_row, unplaced_there, unplaced_array}
use Rattle.records.proofs.Unused.{all_zero}
use Rattle.records.proofs.unplaced_operands.Goals as goal

pub read_operand-unplaced-requires : goal.read_operand-unplaced-requires
read_operand-unplaced-requires c = omega (arith, unplaced_there c.args.behind.now (rw unplaced_row at c.requires))

pub read_operand-predicate-requires : goal.read_operand-predicate-requires
read_operand-predicate-requires c =
    let next : c.read_operand-unplaced.result.next ≡ width_at (place_by 0) c.args.behind.now = omega (arith, c.read_operand-unplaced.ensures.1) in
    rw (next, predicate_place) (unplaced_there c.args.behind.now (rw unplaced_row at c.requires))

pub returns : goal.returns
returns c =
    let next : c.read_operand-unplaced.result.next ≡ width_at (place_by 0) c.args.behind.now = omega (arith, c.read_operand-unplaced.ensures.1) in
    rw (
      unplaced_row,
      unplaced_array c.args.behind.now,
      c.read_operand-unplaced.ensures.0,
      c.read_operand-predicate.ensures.0,
      next,
      predicate_place,
      all_zero c.default-none.result c.default-none.ensures,
    )
