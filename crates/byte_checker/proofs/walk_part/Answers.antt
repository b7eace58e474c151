use Rattle.std.proofs.Common.{sym, ◌∙◌, arith}
use Rattle.walk.proofs.Stretching.{passes_over, leads_ahead}
use Rattle.byte_checker.proofs.Turn.{turned}
use Rattle.byte_checker.proofs.walk_part.Goals as goal

pub overflow_sub-stretch : goal.overflow_sub-stretch
overflow_sub-stretch c = omega (arith, leads_ahead c.judge_stretch-stretch.ensures.leads)

pub loop-version-smaller : goal.loop-version-smaller
loop-version-smaller c =
    let g = c.args in
    let l = c.loop-version in
    let r = c.judge_stretch-stretch in
    let x = c.step_over-step in
    (turned g.version g.tokens.now (omega arith) g.part.now g.from c.requires.begins c.requires.size c.requires.held c.if-beyond-eq0.stop
    l.invariant.1 l.invariant.2 l.step l.invariant.3 (sym c.goes_on.ensures ∙ c.loop-version-test.true) x.result (passes_over l.step.state r.result x.result r.ensures x.ensures)).0

pub loop-version-preserved : goal.loop-version-preserved
loop-version-preserved c =
    let g = c.args in
    let l = c.loop-version in
    let r = c.judge_stretch-stretch in
    let x = c.step_over-step in
    let turn =
    turned g.version g.tokens.now (omega arith) g.part.now g.from c.requires.begins c.requires.size c.requires.held c.if-beyond-eq0.stop
    l.invariant.1 l.invariant.2 l.step l.invariant.3 (sym c.goes_on.ensures ∙ c.loop-version-test.true) x.result (passes_over l.step.state r.result x.result r.ensures x.ensures) in
    (l.invariant.0, l.invariant.1, l.invariant.2, turn.1)
