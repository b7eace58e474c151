use mathlib.Core.Path.{◌∙◌}
use mathlib.Core.Bool.{true}
use lib.Dec.{eqb}
use Rattle.paper.specs.Notation.{bit}
use Rattle.paper.specs.Dcl.{declared_zeros, declared_fields, declared_fault}
use Rattle.paper.proofs.Bools.{or_false}
use Rattle.faults.proofs.FaultAt.{fault_sets, declared_agrees, fields_agree}
use Rattle.faults.proofs.declared_fault.Goals as goal

pub returns : goal.returns
unfolding declared_fault
returns c =
    let g = c.args in
    c.fault_by.ensures
    ∙ rw (c.declared_fields-fields.ensures, c.declared_zeros-zeros.ensures, or_false (eqb (bit 13 g.token) 0))
    (fault_sets (declared_zeros g.version g.token) (declared_fields g.version g.token) g.token (eqb (bit 13 g.token) 0) true (declared_agrees g.version g.token) (fields_agree g.version g.token))
