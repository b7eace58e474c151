use mathlib.Core.Path.{◌∙◌}
use mathlib.Core.Bool.{◌||◌}
use mathlib.Core.List.{[]}
use lib.Dec.{eqb}
use Rattle.paper.specs.Notation.{bit}
use Rattle.paper.specs.Faults.{span}
use Rattle.faults.proofs.FaultAt.{fault_sets, common_agrees, none_agrees}
use Rattle.faults.proofs.read_fault.Goals as goal

pub returns : goal.returns
returns c =
    let g = c.args in
    c.fault_by.ensures
    ∙ fault_sets (span 15 14) [] g.token (eqb (bit 13 g.token) 0 || g.may_be_relative) g.modifier_laid common_agrees none_agrees
