use Prim.Native.Nat.{ℕ, ◌+◌, ◌-◌, ◌<◌, ◌^◌}
use mathlib.Core.Path.{◌≡◌, sym, subst, ◌∙◌}
use mathlib.Core.Bool.{true}
use mathlib.Core.List.{List}
use native.Mathlib.Omega.{arith}
use lib.ListN.{length}
use Rattle.paper.specs.declared.Version.{Version}
use Rattle.walk.specs.declared.Step.{Step}
use Rattle.walk.specs.Steps.{goes_on, told_step, Passes}
use Rattle.walk.specs.Stands.{Comes}
use Rattle.walk.proofs.Stretching.{Steps, steps_comes, pass_steps, shows_whole}
use Rattle.walk.proofs.Comes.{left_to, comes_on, comes_turn}
use Rattle.editor.proofs.Onward.{Misses, none_ahead, found_is}
use Rattle.editor.proofs.walk_to.Goals as goal

-- a turn of the loop: it begins where the walk stands, before the target, and steps from somewhere before it
module _
    (version : Version)
    (s : List ℕ)
    (fits : length s < 2 ^ 64)
    (target : ℕ)
    (inside : target < length s)
    (step : Step)
    (comes : Comes version s 0 step)
    (on : goes_on step target ≡ true)
    (next : Step)
    (passes : Passes version s step.state step.state.at target 0 (told_step next))
  where
    steps : Steps version s step.state.at (step.state.at + (target - step.state.at)) next × (step.state.at + (target - step.state.at) ≡ target)
    steps =
        let state = step.state in
        let h = comes_on version s step 0 comes target on in (
          pass_steps version s fits s 0 target state.at target state h.0 (shows_whole version s fits state.at target h.2 (omega arith)) h.2 (omega arith) next passes,
          omega (arith, h.2),
        )

    turned : (left_to next target < left_to step target) × Comes version s 0 next
    turned =
        let at = step.state.at in
        let t = steps in
        comes_turn version s step 0 comes target on next (at + 1)
        (steps_comes version s fits at (at + (target - at)) next t.0 (omega (arith, t.1)))
        (omega arith)

    misses : Misses version s target next
    misses =
        let t = steps in
        subst (Misses version s target) t.0.steps
        (none_ahead version s t.0.last t.0.stands (omega (arith, t.0.before, t.1)) target (omega (arith, t.0.before, t.1)))

pub returns : goal.returns
returns c =
    let l = c.loop-version in
    let g = c.args in
    rw c.then_some.ensures
    (found_is g.version g.tokens.now g.target l.step l.invariant.0 (sym c.goes_on.ensures ∙ c.loop-version-test.false) l.invariant.1
    c.goes_on-there.result (sym c.goes_on-there.ensures))

pub loop-version-smaller : goal.loop-version-smaller
loop-version-smaller c =
    let l = c.loop-version in
    let g = c.args in
    (turned g.version g.tokens.now (omega arith) g.target (omega arith) l.step l.invariant.0 (sym c.goes_on.ensures ∙ c.loop-version-test.true)
    c.pass-step.result c.pass-step.ensures).0

pub loop-version-preserved : goal.loop-version-preserved
loop-version-preserved c =
    let l = c.loop-version in
    let g = c.args in
    let on : goes_on l.step g.target ≡ true = sym c.goes_on.ensures ∙ c.loop-version-test.true in (
      (turned g.version g.tokens.now (omega arith) g.target (omega arith) l.step l.invariant.0 on c.pass-step.result c.pass-step.ensures).1,
      misses g.version g.tokens.now (omega arith) g.target (omega arith) l.step l.invariant.0 on c.pass-step.result c.pass-step.ensures,
    )
