use mathlib.Core.Path.{◌∙◌}
use mathlib.Core.Bool.{true, ◌||◌}
use mathlib.Core.List.{[]}
use lib.Dec.{eqb}
use Rattle.paper.specs.Notation.{bit}
use Rattle.paper.specs.OperandTokens.{written_zeros}
use Rattle.faults.proofs.FaultAt.{fault_sets, written_agrees, none_agrees}
use Rattle.faults.proofs.written_fault.Goals as goal

pub returns : goal.returns
returns c =
    let g = c.args in
    c.fault_by.ensures
    ∙ rw c.written_zeros-zeros.ensures (fault_sets (written_zeros g.version) [] g.token (eqb (bit 13 g.token) 0 || g.may_be_relative) true (written_agrees g.version) none_agrees)
