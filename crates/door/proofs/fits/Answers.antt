use Prim.Native.Nat.{suc, ◌+◌, ◌-◌}
use mathlib.Core.Path.{◌≡◌, sym, ap, ◌∙◌}
use native.Mathlib.Omega.{arith}
use lib.ListN.{drop}
use lib.Seq.{drop-drop}
use Rattle.paper.specs.Places.{destination, source}
use Rattle.paper.specs.Instruction.{operands}
use Rattle.operands.proofs.OperandAt.{operand_within}
use Rattle.uniform.specs.Uniform.{sources}
use Rattle.door.specs.Door.{is_fit}
use Rattle.door.proofs.Taking.{fit_refused, taken_is, fit_taken, sources_step, fit_end}
use Rattle.door.proofs.fits.Goals as goal

pub returns-in_default : goal.returns-in_default
returns-in_default c d s md ms =
    let g = c.args in
    sym (fit_refused g.version (destination d) 1 (sources (g.row.count - 1) s) g.behind.now (sym (c.in_default.ensures.took d md 1)))

pub loop-init : goal.loop-init
loop-init c =
    let g = c.args in (
      c.in-Some.ensures.few,
      λ d s md ms.
          let rest = sources (g.row.count - 1) s in
          let e = sym (c.in-Some.ensures.took d md 1) in (
            omega (arith, operand_within g.version (destination d) 1 _ 0 g.behind.now (omega arith) (taken_is g.version (destination d) 1 rest g.behind.now _ e)),
            sym (fit_taken g.version (destination d) 1 rest g.behind.now _ e),
          ),
    )

pub returns-in_default-take_read : goal.returns-in_default-take_read
returns-in_default-take_read c d s md ms =
    let l = c.loop in
    let g = c.args in
    let further = g.row.count - (l.counter + 1) in
    let left : g.row.count - l.counter ≡ suc further = omega (arith, c.loop-test.true) in
    sym (fit_refused g.version (source s) (1 + l.at) (sources further s) (drop l.at g.behind.now) (sym (c.in_default-take_read.ensures.took s ms (1 + l.at))))
    ∙ ap (λ places. is_fit (operands g.version places (1 + l.at) (drop l.at g.behind.now))) (sym (sources_step (g.row.count - l.counter) further s left))
    ∙ (l.invariant.1 d s md ms).1

pub loop-preserved : goal.loop-preserved
loop-preserved c =
    let l = c.loop in
    let g = c.args in
    let taken = c.in-Some-take_read.taken in
    let further = g.row.count - (l.counter + 1) in
    let left : g.row.count - l.counter ≡ suc further = omega (arith, c.loop-test.true) in (
      omega (arith, l.invariant.0, c.in-Some-take_read.ensures.few),
      λ d s md ms.
          let before = l.invariant.1 d s md ms in
          let tokens = drop l.at g.behind.now in
          let e = sym (c.in-Some-take_read.ensures.took s ms (1 + l.at)) in
          let place : 1 + l.at + taken ≡ 1 + (l.at + taken) = omega arith in (
            operand_within g.version (source s) (1 + l.at) _ l.at g.behind.now before.0 (taken_is g.version (source s) (1 + l.at) (sources further s) tokens _ e),
            rw (← place, ← drop-drop taken l.at g.behind.now)
                (sym (fit_taken g.version (source s) (1 + l.at) (sources further s) tokens _ e))
                ∙ ap (λ places. is_fit (operands g.version places (1 + l.at) tokens)) (sym (sources_step (g.row.count - l.counter) further s left))
                ∙ before.1,
          ),
    )

pub returns : goal.returns
returns c d s md ms =
    let l = c.loop in
    let g = c.args in
    let before = l.invariant.1 d s md ms in
    let last : g.row.count - l.counter ≡ 0 = omega (arith, c.loop-test.false) in
    sym (fit_end g.version (1 + l.at) l.at g.behind.now before.0)
    ∙ ap (λ n. is_fit (operands g.version (sources n s) (1 + l.at) (drop l.at g.behind.now))) (sym last)
    ∙ before.1
