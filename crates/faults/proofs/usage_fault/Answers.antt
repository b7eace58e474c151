use mathlib.Core.Path.{◌∙◌}
use Rattle.paper.specs.OperandTokens.{type_of}
use Rattle.versions.specs.declared.Form.TheVariants.{Sampler, Plain, Usage}
use Rattle.faults.proofs.FaultAt.{usage_forms}
use Rattle.faults.proofs.usage_fault.Goals as goal

pub returns-in-Sampler : goal.returns-in-Sampler
returns-in-Sampler c =
    let g = c.args in
    c.fault_by.ensures
    ∙ rw c.texture_field.ensures (usage_forms g.version g.usage (type_of g.destination) c.form_of.result Sampler c.form_of.ensures (cc))

pub returns-in-Plain : goal.returns-in-Plain
returns-in-Plain c =
    let g = c.args in
    c.fault_by-in-Plain.ensures ∙ usage_forms g.version g.usage (type_of g.destination) c.form_of.result Plain c.form_of.ensures (cc)

pub returns-in-Usage : goal.returns-in-Usage
returns-in-Usage c =
    let g = c.args in
    c.fault_by-in-Usage.ensures
    ∙ rw c.usage_field.ensures (usage_forms g.version g.usage (type_of g.destination) c.form_of.result Usage c.form_of.ensures (cc))
