use Prim.Native.Nat.{◌+◌, ◌*◌, ◌≤◌}
use mathlib.Core.Path.{◌≡◌}
use lib.ListN.{length, drop, get_or}
use Rattle.places.specs.Places.{decoded}
use Rattle.records.specs.Record.{operand_count, predicate_slot, no_operand}
use Rattle.records.specs.ByClass.{ordered}
use Rattle.record_tokens.specs.Tokens.{row_tokens}
use Rattle.writer.specs.Laid.{row_fits, unused_from}
use Rattle.writer.proofs.Paste.{Rest}
use Rattle.writer.proofs.put_row.Given as goal

abbrev pub invariant-loop-left : goal.invariant-loop-left
invariant-loop-left l =
    let operands = l.instruction.operands in
    let p = get_or operands predicate_slot no_operand in
    (l.left ≤ l.row)
    × (length l.room ≡ length l.initial.room)
    × (l.held + length (decoded l.left) ≤ operand_count)
    × (l.next + 2 * length (decoded l.left) ≤ 2 * operand_count)
    × Rest (row_tokens (decoded l.row) operands p) l.initial.room (row_tokens (decoded l.left) (drop l.held operands) p) l.next l.room
    × (row_fits (decoded l.row) operands p ≡ row_fits (decoded l.left) (drop l.held operands) p)
    × (ordered (decoded l.row) ≡ l.held + ordered (decoded l.left))

abbrev pub decreases-loop-left : goal.decreases-loop-left
decreases-loop-left l = l.left

abbrev pub invariant-loop-slot : goal.invariant-loop-slot
invariant-loop-slot l = unused_from l.held l.instruction.operands ≡ unused_from l.slot l.instruction.operands
