use Prim.Native.Nat.{◌+◌}
use mathlib.Core.Path.{sym, ap, ◌∙◌}
use native.Mathlib.Omega.{arith}
use Rattle.paper.specs.Places.{destination}
use Rattle.operands.proofs.OperandAt.{operand_none}
use Rattle.door.specs.Door.{took_in}
use Rattle.door.proofs.Taking.{written_good, operand_bad, operand_one, operand_more, unmarked_brings, written_brings}
use Rattle.door.proofs.take_written.Goals as goal

pub returns-in_err-token-clause-took : goal.returns-in_err-token-clause-took
returns-in_err-token-clause-took c written m offset =
    let g = c.args in
    c.from_residual.ensures ∙ sym (ap took_in (operand_none g.version (destination written) offset 0 g.behind.now c.in_err-token.ensures.item.3))

pub returns-then-not-good_written-clause-took : goal.returns-then-not-good_written-clause-took
returns-then-not-good_written-clause-took c written m offset =
    let g = c.args in
    let found = c.in_ok-token.ensures.item in
    sym
    (operand_bad g.version (destination written) offset 0 _ g.behind.now found.3.0 (found.4 (omega arith) 0)
    (written_good g.version g.types _ written m ∙ sym c.good_written.ensures ∙ c.if-not-good_written.true))

pub returns-then-token-eq0-clause-took : goal.returns-then-token-eq0-clause-took
returns-then-token-eq0-clause-took c written m offset =
    let g = c.args in
    let found = c.in_ok-token.ensures.item in
    sym
    (operand_one g.version (destination written) offset 0 _ g.behind.now found.3.0 (found.4 (omega arith) 0)
    (written_good g.version g.types _ written m ∙ sym c.good_written.ensures ∙ c.if-not-good_written.false)
    (unmarked_brings g.version _ (destination written) c.if-token-eq0.true))

pub returns-clause-took : goal.returns-clause-took
returns-clause-took c written m offset =
    let g = c.args in
    let found = c.in_ok-token.ensures.item in
    let good = sym c.good_written.ensures ∙ c.if-not-good_written.false in
    c.take_relative.ensures.took (offset + 1)
    ∙ sym
    (operand_more g.version (destination written) offset 0 _ g.behind.now found.3.0 (found.4 (omega arith) 0)
    (written_good g.version g.types _ written m ∙ good)
    (written_brings g.version _ g.types written m good c.if-token-eq0.false))
