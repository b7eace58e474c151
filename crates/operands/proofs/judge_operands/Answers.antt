use mathlib.Core.Path.{refl, sym, ap, ◌∙◌}
use Prim.Native.Nat.{◌+◌, ◌%◌}
use native.Mathlib.Omega.{arith}
use lib.ListN.{drop}
use Rattle.paper.specs.Instruction.{operand}
use Rattle.places.specs.Places.{place_by}
use Rattle.told.specs.Numbered.{operands_number}
use Rattle.told.proofs.Numbers.{taken_even, taken_odd}
use Rattle.operands.proofs.OperandAt.{operand_within, operand_few, decoded_few, decoded_less, operands_on, operands_refused, operands_fit, operands_over}
use Rattle.operands.proofs.judge_operands.Goals as goal

pub loop-left-init : goal.loop-left-init
loop-left-init c = (omega arith, omega arith, omega (arith, decoded_few c.args.places), refl)

pub take_operand-taken-requires : goal.take_operand-taken-requires
take_operand-taken-requires c = (omega arith, omega arith)

pub returns-then-is_refused : goal.returns-then-is_refused
returns-then-is_refused c =
    let s = c.before.before.before in
    let g = s.args in
    let l = s.loop-left in
    let odd = taken_odd (operand g.version (place_by (l.left % 128)) (l.at + 1) (drop l.at g.behind.now)) _ c.take_operand-taken.ensures (sym c.is_refused.ensures ∙ c.if-is_refused.true) in
    odd.2
    ∙ ap operands_number
    (sym (operands_refused g.version l.left l.at g.behind.now (omega arith) s.loop-left-test.true _ odd.1) ∙ l.invariant.3)

pub overflow_add-at : goal.overflow_add-at
overflow_add-at c =
    let s = c.before.before.before.before in
    let g = s.args in
    let l = s.loop-left in
    let took = taken_even (operand g.version (place_by (l.left % 128)) (l.at + 1) (drop l.at g.behind.now)) _ c.take_operand-taken.ensures (sym c.is_refused.ensures ∙ c.if-is_refused.false) in
    let within = operand_within g.version (place_by (l.left % 128)) (l.at + 1) _ l.at g.behind.now l.invariant.0 took in
    omega arith

pub loop-left-smaller : goal.loop-left-smaller
loop-left-smaller c = omega arith

pub loop-left-preserved : goal.loop-left-preserved
loop-left-preserved c =
    let s = c.before.before.before.before in
    let g = s.args in
    let l = s.loop-left in
    let took = taken_even (operand g.version (place_by (l.left % 128)) (l.at + 1) (drop l.at g.behind.now)) _ c.take_operand-taken.ensures (sym c.is_refused.ensures ∙ c.if-is_refused.false) in
    let within = operand_within g.version (place_by (l.left % 128)) (l.at + 1) _ l.at g.behind.now l.invariant.0 took in
    let few = operand_few g.version (place_by (l.left % 128)) (l.at + 1) _ (drop l.at g.behind.now) took in
    let less = decoded_less l.left (omega arith) s.loop-left-test.true in (
      omega arith,
      omega arith,
      omega arith,
      rw c.taken_of-at.ensures (operands_on g.version l.left l.at g.behind.now (omega arith) s.loop-left-test.true _ took ∙ l.invariant.3),
    )

pub returns-then-at-behind : goal.returns-then-at-behind
returns-then-at-behind c =
    let g = c.args in
    let l = c.loop-left in
    ap operands_number
    (sym (operands_fit g.version l.left (l.at + 1) l.at g.behind.now c.loop-left-test.false c.if-at-behind.true) ∙ l.invariant.3)

pub returns : goal.returns
returns c =
    let g = c.args in
    let l = c.loop-left in
    c.refused_first.ensures
    ∙ ap operands_number
    (sym (operands_over g.version l.left (l.at + 1) l.at g.behind.now c.loop-left-test.false l.invariant.0 c.if-at-behind.false) ∙ l.invariant.3)
