use Prim.Native.Nat.{◌+◌}
use mathlib.Core.Path.{sym, ap, ◌∙◌}
use native.Mathlib.Omega.{arith}
use Rattle.paper.specs.Places.{source}
use Rattle.operands.proofs.OperandAt.{operand_none}
use Rattle.std.specs.Bool.{then_some}
use Rattle.door.specs.Door.{took_in}
use Rattle.door.proofs.Taking.{read_good, plain_good, operand_plain, operand_bad, operand_one, operand_more, unmarked_brings, plain_brings, read_brings, marked_brings}
use Rattle.door.proofs.take_read.Goals as goal

pub returns-in_err-token-clause-took : goal.returns-in_err-token-clause-took
returns-in_err-token-clause-took c read m offset =
    let g = c.args in
    c.from_residual.ensures ∙ sym (ap took_in (operand_none g.version (source read) offset g.at g.behind.now c.in_err-token.ensures.lookup.3))

pub returns-then-plain_source-clause-took : goal.returns-then-plain_source-clause-took
returns-then-plain_source-clause-took c read m offset =
    let g = c.args in
    let found = c.in_ok-token.ensures.lookup in
    let plain = sym c.plain_source.ensures ∙ c.if-plain_source.true in
    c.then_some.ensures
    ∙ ap (λ good. then_some good 1) (c.type_in.ensures ∙ sym (plain_good g.version g.types _ read m plain))
    ∙ operand_plain g.version (source read) offset g.at _ g.behind.now found.3.0 (found.4 (omega arith) 0) (plain_brings g.version _ (source read) plain)

pub returns-then-not-good_read-clause-took : goal.returns-then-not-good_read-clause-took
returns-then-not-good_read-clause-took c read m offset =
    let g = c.args in
    let found = c.in_ok-token.ensures.lookup in
    sym
    (operand_bad g.version (source read) offset g.at _ g.behind.now found.3.0 (found.4 (omega arith) 0)
    (read_good g.version g.types _ read m ∙ sym c.good_read.ensures ∙ c.if-not-good_read.true))

pub returns-then-token-eq0-clause-took : goal.returns-then-token-eq0-clause-took
returns-then-token-eq0-clause-took c read m offset =
    let g = c.args in
    let found = c.in_ok-token.ensures.lookup in
    sym
    (operand_one g.version (source read) offset g.at _ g.behind.now found.3.0 (found.4 (omega arith) 0)
    (read_good g.version g.types _ read m ∙ sym c.good_read.ensures ∙ c.if-not-good_read.false)
    (unmarked_brings g.version _ (source read) c.if-token-eq0.true))

pub returns-then-marked_sources-clause-took : goal.returns-then-marked_sources-clause-took
returns-then-marked_sources-clause-took c read m offset =
    let g = c.args in
    let found = c.in_ok-token.ensures.lookup in
    sym
    (operand_one g.version (source read) offset g.at _ g.behind.now found.3.0 (found.4 (omega arith) 0)
    (read_good g.version g.types _ read m ∙ sym c.good_read.ensures ∙ c.if-not-good_read.false)
    (marked_brings g.version _ g.types read m (sym c.marked_sources.ensures ∙ c.if-marked_sources.true)))

pub returns-clause-took : goal.returns-clause-took
returns-clause-took c read m offset =
    let g = c.args in
    let found = c.in_ok-token.ensures.lookup in
    let good = sym c.good_read.ensures ∙ c.if-not-good_read.false in
    c.take_relative.ensures.took (offset + 1)
    ∙ sym
    (operand_more g.version (source read) offset g.at _ g.behind.now found.3.0 (found.4 (omega arith) 0)
    (read_good g.version g.types _ read m ∙ good)
    (read_brings g.version _ g.types read m good c.if-token-eq0.false (sym c.marked_sources.ensures ∙ c.if-marked_sources.false)))
