use mathlib.Core.Path.{sym, ◌∙◌}
use native.Mathlib.Omega.{arith}
use Rattle.walk.proofs.OnStream.{stands_first}
use Rattle.editor.proofs.Answers.{exit, before_first, behind_last, no_first, no_second, crossed, both_placed}
use Rattle.editor.proofs.edit_known.Goals as goal
use Rattle.editor.proofs.edit_known.Goals.{then-i-lt1-via-then-i-lt1, then-i-lt1-via-else-i-lt1+then-j-i, then-i-lt1-via-else-i-lt1+else-j-i+then-old-j}

pub returns-then-i-lt1 : goal.returns-then-i-lt1
returns-then-i-lt1 c =
    let g = c.args in
    rw c.at-misplaced.ensures
    (elim c.then-i-lt1.branch [
      | then-i-lt1-via-then-i-lt1 w ↦ sym (no_first g.version g.old.now g.room g.i g.j g.run.now (before_first g.version g.old.now g.i (omega arith)))
      | then-i-lt1-via-else-i-lt1+then-j-i w ↦ sym (crossed g.version g.old.now g.room g.i g.j g.run.now (omega arith))
      | then-i-lt1-via-else-i-lt1+else-j-i+then-old-j w ↦ sym (no_second g.version g.old.now g.room g.i g.j g.run.now (behind_last g.version g.old.now g.j (omega arith)))
    ])

pub walk_to-requires : goal.walk_to-requires
walk_to-requires c =
    let g = c.args in
    rw c.start.ensures (stands_first g.version g.old.now (omega arith), omega arith, omega arith)

pub returns-in_err-first : goal.returns-in_err-first
returns-in_err-first c =
    let g = c.args in
    let e = c.in_err-first.ensures in
    (rw c.at-misplaced.ensures at (exit c.from_residual.ensures.1 (rw e.ok_part at e.value)))
    ∙ sym (no_first g.version g.old.now g.room g.i g.j g.run.now (rw e.ok_part at c.walk_to.ensures))

pub returns-in_err-last : goal.returns-in_err-last
returns-in_err-last c =
    let g = c.args in
    let e = c.in_err-last.ensures in
    (rw c.at-misplaced.ensures at (exit c.from_residual-in_err-last.ensures.1 (rw e.ok_part at e.value)))
    ∙ sym (no_second g.version g.old.now g.room g.i g.j g.run.now (rw e.ok_part at c.walk_to-2.ensures))

pub returns : goal.returns
returns c =
    let g = c.args in
    let f = rw c.in_ok-first.ensures.ok_part at c.walk_to.ensures in
    let l = rw c.in_ok-last.ensures.ok_part at c.walk_to-2.ensures in
    rw (f.1, l.1) at
    (c.edit_placed.ensures
    ∙ sym (both_placed g.version g.old.now g.room c.in_ok-first.first c.in_ok-last.last g.run.now (record { from = f.0; upto = l.0; order = omega (arith, f.1, l.1); inside = omega (arith, l.1) })))
