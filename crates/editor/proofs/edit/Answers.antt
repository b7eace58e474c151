use Rattle.std.specs.Prelude.{Err}
use mathlib.Core.Path.{◌≡◌, ap, sym, ◌∙◌}
use native.Mathlib.Omega.{arith}
use Rattle.std.proofs.lemmas.Result.{err_from_is_err_and}
use Rattle.paper.specs.Numbers.{refusal}
use Rattle.paper.specs.declared.Reason.TheVariants.{Length as LENGTH}
use Rattle.edit.specs.Edit.{told_edit, edited_in}
use Rattle.edit.proofs.BufferHoldsTheSplice.{refused_keeps}
use Rattle.editor.proofs.Answers.{not_held, held, after_yes}
use Rattle.editor.proofs.edit.Goals as goal

pub returns-then-room-n : goal.returns-then-room-n
returns-then-room-n c =
    let g = c.args in
    let is = not_held g.buffer.now g.n g.i g.j g.run.now (omega arith) in
    record { told = rw c.at.ensures (ap told_edit (sym is)); held = sym (refused_keeps g.buffer.now g.n g.i g.j g.run.now (refusal LENGTH 0) is) }

pub returns-in_err-edited : goal.returns-in_err-edited
returns-in_err-edited c =
    let g = c.args in
    let p = err_from_is_err_and c.from_residual.result c.from_residual.ensures.1 in
    let r = c.in_err-edited.field-0.0 in
    let is : edited_in g.buffer.now g.n g.i g.j g.run.now ≡ Err r =
    held g.buffer.now g.n g.i g.j g.run.now (omega arith) ∙ sym c.edit_stream.ensures ∙ c.in_err-edited.was in
    record { told = rw (p.1, p.2) (ap told_edit (sym is)); held = sym (refused_keeps g.buffer.now g.n g.i g.j g.run.now r is) }

pub returns : goal.returns
returns c =
    let g = c.args in
    let is = held g.buffer.now g.n g.i g.j g.run.now (omega arith) ∙ sym c.edit_stream.ensures ∙ c.in_ok-edited.was in
    record { told = ap told_edit (sym is); held = c.splice_in.ensures ∙ after_yes g.buffer.now g.n g.i g.j g.run.now c.in_ok-edited.edited is }
