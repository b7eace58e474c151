use Prim.Native.Nat.{◌+◌, ◌-◌, ◌/◌, ◌%◌}
use native.Mathlib.Omega.{arith}
use mathlib.Core.Path.{◌≡◌, refl, sym, ◌∙◌}
use lib.ListN.{length, drop, get_or}
use borrow.Rule.Slice.PartMut.{same_len_mid}
use Rattle.paper.specs.Notation.{pick}
use Rattle.places.specs.Places.{place_by, decoded}
use Rattle.records.specs.Record.{predicate_slot, no_operand}
use Rattle.records.specs.ByClass.{ordered}
use Rattle.record_tokens.specs.Tokens.{row_tokens}
use Rattle.writer.specs.Laid.{array_fits}
use Rattle.writer.proofs.Paste.{put_length, lent_length, put_on, put_failed, put_passed, rest_on, rest_none}
use Rattle.writer.proofs.Row.{places_step, row_step, row_none, operand_few, held_few, fits_step, ordered_step, fits_none, ordered_none, unused_step, unused_done, unmarked}
use Rattle.writer.proofs.put_row.Goals.{then-predicate, else-predicate, then-not-predicate, else-not-predicate}
use Rattle.writer.proofs.put_row.Goals as goal

pub loop-left-init : goal.loop-left-init
loop-left-init c = (omega arith, refl, omega arith, omega arith, record { ends = omega arith; leaves = refl }, refl, omega arith)

-- the operand that stands at a place is one of the array's
pub bounds-instruction-slot : goal.bounds-instruction-slot
bounds-instruction-slot c =
    let l = c.loop-left in
    let places = places_step l.left (omega arith) c.loop-left-test.true in
    elim c.if-predicate.branch [ then-predicate w ↦ omega (arith, w.slot-is) | else-predicate w ↦ omega (arith, w.slot-is, places, l.invariant.2) ]

pub put_operand-requires : goal.put_operand-requires
put_operand-requires c =
    let l = c.loop-left in
    rw lent_length (omega (arith, places_step l.left (omega arith) c.loop-left-test.true))

-- an operand that fits takes one token or two
pub overflow_add-next : goal.overflow_add-next
overflow_add-next c =
    omega (
      arith,
      (c.put_operand.ensures.put c.in_ok-taken.was).next_is,
      operand_few (place_by (c.loop-left.left % 128)) (get_or c.args.instruction.now.operands c.if-predicate.slot no_operand),
    )

-- the test of the row so far, and of the operand at this place
pub returns-in_err-taken : goal.returns-in_err-taken
unfolding array_fits
returns-in_err-taken c =
    let l = c.loop-left in
    let predicate = c.is_predicate-predicate in
    let slot : c.if-predicate.slot ≡ pick predicate.result predicate_slot l.held =
    elim c.if-predicate.branch [ then-predicate w ↦ rw w.if-predicate.true w.slot-is | else-predicate w ↦ rw w.if-predicate.false w.slot-is ]
    in
    let test = l.invariant.5 ∙ fits_step l.left (omega arith) c.loop-left-test.true l.held predicate.result predicate.ensures c.args.instruction.now.operands in
    let long = same_len_mid l.next (length l.room - l.next) l.room c.put_operand.new.room c.put_operand.ensures.long ∙ l.invariant.1 in
    rw c.from_residual.ensures (put_failed (rw (test, rw slot at (c.put_operand.ensures.fails c.in_err-taken.was))) long)

pub loop-left-preserved : goal.loop-left-preserved
loop-left-preserved c =
    let operands = c.args.instruction.now.operands in
    let l = c.loop-left in
    let some = c.loop-left-test.true in
    let predicate = c.is_predicate-predicate in
    let slot : c.if-predicate.slot ≡ pick predicate.result predicate_slot l.held =
    elim c.if-predicate.branch [ then-predicate w ↦ rw w.if-predicate.true w.slot-is | else-predicate w ↦ rw w.if-predicate.false w.slot-is ]
    in
    let held : c.if-not-predicate.held ≡ pick predicate.result l.held (l.held + 1) =
    elim c.if-not-predicate.branch [ then-not-predicate w ↦ rw w.if-not-predicate.true w.held-is | else-not-predicate w ↦ rw w.if-not-predicate.false w.held-is ]
    in
    let taken = c.put_operand.ensures.put c.in_ok-taken.was in
    let put = put_on l.room l.next (omega arith) _ _ _ taken in
    let places = places_step l.left (omega arith) some in
    let step = row_step l.left (omega arith) some l.held operands predicate.result predicate.ensures in
    let test = l.invariant.5 ∙ fits_step l.left (omega arith) some l.held predicate.result predicate.ensures operands in
    let few =
    operand_few (place_by (l.left % 128)) (get_or operands c.if-predicate.slot no_operand) in (
      omega arith,
      put_length put ∙ l.invariant.1,
      held_few predicate.result l.held c.if-not-predicate.held (length (decoded (l.left / 128))) (omega arith) held,
      omega (arith, taken.next_is),
      rw held
          (rest_on (row_tokens (decoded c.args.row) operands (get_or operands predicate_slot no_operand)) c.args.room.now l.next l.room _ _ _ _
          (rw step at l.invariant.4) (rw slot at put)),
      rw held (rw (rw slot at (c.put_operand.ensures.passes c.in_ok-taken.was)) at test),
      l.invariant.6 ∙ ordered_step l.left (omega arith) some l.held predicate.result predicate.ensures c.if-not-predicate.held held,
    )

-- behind the row, and behind the predicate's place
pub returns-then-not-marked-is_unused : goal.returns-then-not-marked-is_unused
unfolding array_fits
returns-then-not-marked-is_unused c =
    let l = c.loop-left in
    let fit = l.invariant.5 ∙ fits_none l.left _ _ c.loop-left-test.false in
    put_failed (rw (fit, unmarked _ _, ← c.is_unused.ensures, c.if-not-marked-is_unused.true)) l.invariant.1

pub returns-then-not-is_unused : goal.returns-then-not-is_unused
unfolding array_fits
returns-then-not-is_unused c =
    let l = c.loop-left in
    let fit = l.invariant.5 ∙ fits_none l.left _ _ c.loop-left-test.false in
    let held : ordered (decoded c.args.row) ≡ l.held = omega (arith, l.invariant.6, ordered_none l.left c.loop-left-test.false) in
    let step = unused_step c.loop-slot.slot c.args.instruction.now.operands (omega arith) c.loop-slot-test.true in
    put_failed
    (rw (
      fit,
      unmarked _ _,
      ← c.is_unused.ensures,
      c.if-not-marked-is_unused.false,
      held,
      c.loop-slot.invariant,
      step,
      sym c.is_unused-in-loop-slot.ensures ∙ c.if-not-is_unused.true,
    ))
    l.invariant.1

pub loop-slot-preserved : goal.loop-slot-preserved
loop-slot-preserved c =
    let step = unused_step c.loop-slot.slot c.args.instruction.now.operands (omega arith) c.loop-slot-test.true in
    c.loop-slot.invariant ∙ (rw (sym c.is_unused-in-loop-slot.ensures ∙ c.if-not-is_unused.false) at step)

pub returns : goal.returns
unfolding array_fits
returns c =
    let l = c.loop-left in
    let operands = c.args.instruction.now.operands in
    let fit = l.invariant.5 ∙ fits_none l.left _ _ c.loop-left-test.false in
    let held : ordered (decoded c.args.row) ≡ l.held = omega (arith, l.invariant.6, ordered_none l.left c.loop-left-test.false) in
    put_passed
    (rw (fit, unmarked _ _, ← c.is_unused.ensures, c.if-not-marked-is_unused.false, held, c.loop-slot.invariant)
    (unused_done c.loop-slot.slot operands (omega arith) c.loop-slot-test.false))
    (rest_none _ c.args.room.now l.next l.room _ (row_none l.left (drop l.held operands) (get_or operands predicate_slot no_operand) c.loop-left-test.false) l.invariant.4)
