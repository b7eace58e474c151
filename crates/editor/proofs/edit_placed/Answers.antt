use mathlib.Core.Path.{sym, ◌∙◌}
use native.Mathlib.Omega.{arith}
use Rattle.editor.proofs.Answers.{too_long, no_room, has_room_lem}
use Rattle.editor.proofs.edit_placed.Goals as goal
use Rattle.editor.proofs.edit_placed.Goals.{then-kept-run-via-then-kept-run, then-kept-run-via-else-kept-run+then-room-kept}

pub returns-then-kept-run : goal.returns-then-kept-run
returns-then-kept-run c =
    let g = c.args in
    let b = c.requires.0 in
    let o = b.order in
    let i = b.inside in
    rw c.at.ensures
    (elim c.then-kept-run.branch [
      | then-kept-run-via-then-kept-run w ↦ sym (too_long g.version g.old.now g.room g.first.at g.last.at g.run.now (omega arith))
      | then-kept-run-via-else-kept-run+then-room-kept w ↦ sym (no_room g.version g.old.now g.room g.first.at g.last.at g.run.now (omega arith))
    ])

pub returns : goal.returns
returns c =
    let g = c.args in
    let b = c.requires.0 in
    let o = b.order in
    let i = b.inside in
    c.walk_spliced.ensures ∙ sym (has_room_lem g.version g.old.now g.room g.first.at g.last.at g.run.now (omega arith) (omega arith))
