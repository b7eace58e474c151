use mathlib.Core.Path.{sym, ◌∙◌}
use native.Mathlib.Omega.{arith}
use Rattle.paper.proofs.OneToOne.{same_named}
use Rattle.editor.proofs.Answers.{exit, too_few, too_many, by_version}
use Rattle.editor.proofs.edit_stream.Goals as goal
use Rattle.editor.proofs.edit_stream.Goals.{then-old-lt-FEWEST_TOKENS-via-then-old-lt-FEWEST_TOKENS, then-old-lt-FEWEST_TOKENS-via-else-old-lt-FEWEST_TOKENS+then-old-gt-MOST_TOKENS}

pub returns-then-old-lt-FEWEST_TOKENS : goal.returns-then-old-lt-FEWEST_TOKENS
returns-then-old-lt-FEWEST_TOKENS c =
    let g = c.args in
    rw c.at.ensures
    (elim c.then-old-lt-FEWEST_TOKENS.branch [
      | then-old-lt-FEWEST_TOKENS-via-then-old-lt-FEWEST_TOKENS w ↦ sym (too_few g.room g.old.now g.i g.j g.run.now (omega arith))
      | then-old-lt-FEWEST_TOKENS-via-else-old-lt-FEWEST_TOKENS+then-old-gt-MOST_TOKENS w ↦ sym (too_many g.room g.old.now g.i g.j g.run.now (omega arith) (omega arith))
    ])

pub returns-in_err-version : goal.returns-in_err-version
returns-in_err-version c =
    let g = c.args in
    let e = c.in_err-version.ensures in
    (rw c.at-2.ensures at (exit c.from_residual.ensures.1 (rw e.ok_part at e.value)))
    ∙ sym (by_version g.room g.old.now g.i g.j g.run.now (omega arith) (omega arith) ∙ rw (← (same_named _ _ c.version_of.ensures), e.ok_part))

pub returns : goal.returns
returns c =
    let g = c.args in
    c.edit_known.ensures
    ∙ sym (by_version g.room g.old.now g.i g.j g.run.now (omega arith) (omega arith) ∙ rw (← (same_named _ _ c.version_of.ensures), c.in_ok-version.ensures.ok_part))
