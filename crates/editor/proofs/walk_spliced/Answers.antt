use Prim.Native.Nat.{ℕ, ◌+◌, ◌-◌, ◌≤◌, ◌<◌}
use mathlib.Core.Path.{◌≡◌, ap, sym, subst, ◌∙◌}
use mathlib.Core.Bool.{true, false, ◌&&◌, beq}
use mathlib.Core.List.{List}
use native.Mathlib.Omega.{arith}
use lib.ListN.{length}
use lib.Dec.{eqb}
use borrow.Author.Tests.{ltb-false, eq-eqb, ne_eqb}
use Rattle.std.proofs.lemmas.Result.{err_from_is_err_and}
use Rattle.paper.specs.Stream.{most_tokens}
use Rattle.paper.specs.declared.Version.{Version}
use Rattle.paper.specs.Judgements.{Verdict}
use Rattle.paper.proofs.Bools.{and_false}
use Rattle.paper.proofs.OneToOne.{same_verdict}
use Rattle.edit.specs.Edit.{splice, new_length, on_verdict}
use Rattle.edit.proofs.Prefix.{splice_length}
use Rattle.walk.specs.declared.State.{State}
use Rattle.walk.specs.declared.Step.{Step}
use Rattle.walk.specs.Steps.{goes_on, verdict_of}
use Rattle.walk.specs.Stands.{Stands, step_at, Comes}
use Rattle.walk.proofs.OnStream.{step_comes}
use Rattle.walk.proofs.Comes.{left_to, comes_on, comes_turn}
use Rattle.editor.specs.Found.{Between, InSplice}
use Rattle.editor.proofs.Prefix.{stands_spliced}
use Rattle.editor.proofs.Meeting.{Unmet, turn_joined, turn_unmet, turn_last}
use Rattle.editor.proofs.walk_spliced.Goals as goal
use Rattle.editor.proofs.walk_spliced.Goals.{else-state-end-via-then-state-end+then-state-last+else-state-last-2, else-state-end-via-then-state-end+else-state-last, else-state-end-via-else-state-end}

-- a turn of the loop: it begins where the walk of the splice stands
module _
    (version : Version)
    (old run : List ℕ)
    (first last : State)
    (b : Between version old first last)
    (few_old : length old ≤ most_tokens)
    (few : new_length (length old) first.at last.at (length run) ≤ most_tokens)
    (step : Step)
    (comes : Comes version (splice old first.at last.at run) first.at step)
    (on : goes_on step (first.at + length run + (length old - last.at)) ≡ true)
  where
    abbrev stream : List ℕ
    stream = splice old first.at last.at run

    abbrev whole : ℕ
    whole = first.at + length run + (length old - last.at)

    stands : Stands version stream step.state × (first.at ≤ step.state.at) × (step.state.at < whole)
    stands = comes_on version stream step first.at comes whole on

    in_splice : InSplice old first.at last.at run step.state.at
    in_splice =
        let h = stands in
        record {
          order = b.order;
          inside = omega (arith, b.inside);
          few_old = few_old;
          few_run = omega (arith, b.order, b.inside);
          behind = h.1;
          before = omega (arith, h.2, b.order, b.inside);
        }

    -- and comes further, not past the run's end where the walks may meet
    turned : (next : Step) → next ≡ step_at version stream step.state → (left_to next whole < left_to step whole) × Comes version stream first.at next
    turned next is =
        let state = step.state in
        let long = splice_length old first.at last.at run (omega (arith, b.order, b.inside)) in
        let h = stands in
        comes_turn version stream step first.at comes whole on next (state.at + 1)
        (subst (Comes version stream (state.at + 1)) (sym is)
        (step_comes version stream state h.0 (omega (arith, long, h.2)) (omega (arith, long, b.order, b.inside))))
        (omega arith)

pub loop-version-init : goal.loop-version-init
loop-version-init c =
    let g = c.args in
    let b = c.requires.0 in (
      (stands_spliced g.version g.old.now g.last.at g.run.now g.first b.from b.order b.inside, omega arith),
      λ off. absurd (omega (arith, ltb-false g.first.at (g.first.at + length g.run.now + 1) off)),
    )

pub returns-then-state-last-2 : goal.returns-then-state-last-2
returns-then-state-last-2 c =
    let l = c.loop-version in
    let g = c.args in
    let h =
    stands g.version g.old.now g.run.now g.first g.last c.requires.0 c.requires.1 c.requires.2 l.step l.invariant.0 (sym c.goes_on.ensures ∙ c.loop-version-test.true) in
    turn_joined g.version g.old.now g.first g.last g.run.now c.requires.0 l.step.state h.0
    (rw (eq-eqb _ _ c.if-state-end.true, eq-eqb _ _ c.if-state-last.true) c.if-state-last-2.true)

pub step_spliced-step-requires : goal.step_spliced-step-requires
step_spliced-step-requires c =
    let l = c.loop-version in
    let g = c.args in
    in_splice g.version g.old.now g.run.now g.first g.last c.requires.0 c.requires.1 c.requires.2 l.step l.invariant.0
    (sym c.goes_on.ensures ∙ c.loop-version-test.true)

pub returns : goal.returns
returns c =
    let l = c.loop-version in
    let g = c.args in
    let whole : ℕ = g.first.at + length g.run.now + (length g.old.now - g.last.at) in
    let verdict = same_verdict c.verdict_of.result (verdict_of l.step whole) c.verdict_of.ensures in
    let read =
    turn_last g.version g.old.now g.first g.last g.run.now c.requires.0 l.step l.invariant.0 l.invariant.1 (sym c.goes_on.ensures ∙ c.loop-version-test.false) in
    ap (λ (x : Verdict). on_verdict x whole) (sym c.in_ok-verdict_of.was ∙ verdict) ∙ read

pub returns-in_err-verdict_of : goal.returns-in_err-verdict_of
returns-in_err-verdict_of c =
    let l = c.loop-version in
    let g = c.args in
    let whole : ℕ = g.first.at + length g.run.now + (length g.old.now - g.last.at) in
    let verdict = same_verdict c.verdict_of.result (verdict_of l.step whole) c.verdict_of.ensures in
    let p = err_from_is_err_and c.from_residual.result c.from_residual.ensures.1 in
    let read =
    turn_last g.version g.old.now g.first g.last g.run.now c.requires.0 l.step l.invariant.0 l.invariant.1 (sym c.goes_on.ensures ∙ c.loop-version-test.false) in
    rw (p.1, p.2) (ap (λ (x : Verdict). on_verdict x whole) (sym c.in_err-verdict_of.was ∙ verdict) ∙ read)

pub loop-version-smaller : goal.loop-version-smaller
loop-version-smaller c =
    let l = c.loop-version in
    let g = c.args in
    (turned g.version g.old.now g.run.now g.first g.last c.requires.0 c.requires.1 c.requires.2 l.step l.invariant.0 (sym c.goes_on.ensures ∙ c.loop-version-test.true)
    c.step_spliced-step.result c.step_spliced-step.ensures).0

pub loop-version-preserved : goal.loop-version-preserved
loop-version-preserved c =
    let l = c.loop-version in
    let g = c.args in
    let on : goes_on l.step (g.first.at + length g.run.now + (length g.old.now - g.last.at)) ≡ true = sym c.goes_on.ensures ∙ c.loop-version-test.true in
    let h = stands g.version g.old.now g.run.now g.first g.last c.requires.0 c.requires.1 c.requires.2 l.step l.invariant.0 on in
    let other : eqb l.step.state.at (g.first.at + length g.run.now) && (eqb l.step.state.kinds g.last.kinds && beq l.step.state.phased g.last.phased) ≡ false =
    elim c.else-state-end.branch [
      | else-state-end-via-then-state-end+then-state-last+else-state-last-2 w ↦ rw (w.if-state-last-2.false, and_false, and_false)
      | else-state-end-via-then-state-end+else-state-last w ↦ rw (ne_eqb _ _ w.if-state-last.false, and_false)
      | else-state-end-via-else-state-end w ↦ rw (ne_eqb _ _ w.if-state-end.false)
    ] in (
      (turned g.version g.old.now g.run.now g.first g.last c.requires.0 c.requires.1 c.requires.2 l.step l.invariant.0 on c.step_spliced-step.result
          c.step_spliced-step.ensures).1,
      subst (Unmet g.version g.old.now g.first g.last g.run.now) (sym c.step_spliced-step.ensures)
          (turn_unmet g.version g.old.now g.first g.last g.run.now c.requires.0 l.step l.invariant.1 h.0 h.2 other),
    )
