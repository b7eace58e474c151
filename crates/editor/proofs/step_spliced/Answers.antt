use Prim.Native.Nat.{◌+◌, ◌-◌}
use mathlib.Core.Path.{◌≡◌, ◌∙◌}
use native.Mathlib.Omega.{arith}
use Rattle.walk.proofs.Stretching.{pass_one}
use Rattle.editor.proofs.Tokens.{step_in_old, step_in_run, step_gathered}
use Rattle.editor.proofs.step_spliced.Goals as goal

pub returns-then-run-at : goal.returns-then-run-at
returns-then-run-at c =
    let g = c.args in
    pass_one g.version g.old.now g.state _ 0 c.pass.result (omega arith) (omega arith) c.pass.ensures
    ∙ step_in_old g.run.now g.old.now g.j g.i (omega arith) g.version g.state (omega arith) (omega arith)

pub returns-then-own-ge-MOST_SHOWN : goal.returns-then-own-ge-MOST_SHOWN
returns-then-own-ge-MOST_SHOWN c =
    let g = c.args in
    pass_one g.version g.run.now g.state _ _ c.pass-then-own-ge-MOST_SHOWN.result (omega arith) (omega arith) c.pass-then-own-ge-MOST_SHOWN.ensures
    ∙ step_in_run g.run.now g.old.now g.j g.i (omega arith) g.version g.state (omega arith) (omega arith)

pub returns : goal.returns
returns c =
    let g = c.args in
    pass_one g.version _ g.state 0 _ c.pass-2.result (omega arith) (omega arith) c.pass-2.ensures
    ∙ step_gathered g.run.now g.old.now g.j g.i (omega arith) g.version g.state (omega arith) c.min-more.result _ _ _ (omega arith) (omega arith) (omega arith)
    c.min-more.ensures c.copy_from_slice.ensures.after (let size : g.j + c.min-more.result - g.j ≡ c.min-more.result = omega arith in rw size at c.copy_from_slice-2.ensures.after)
