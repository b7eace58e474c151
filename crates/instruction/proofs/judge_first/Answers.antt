use mathlib.Core.Path.{sym, ap, ◌∙◌}
use Prim.Native.Nat.{◌+◌}
use lib.ListN.{length}
use Rattle.shapes.specs.Shape.{shape_of}
use Rattle.instruction_token.proofs.ByShape.{claim_there}
use Rattle.instruction.proofs.Judging.{judged_shaped}
use Rattle.instruction.proofs.judge_first.Goals as goal

pub returns-in-Some : goal.returns-in-Some
returns-in-Some c =
    let g = c.args in
    let shape = c.shape_of-shape.ensures ∙ ap (shape_of g.version) c.opcode_of.ensures in
    let there = claim_there c.shape_of-shape.result g.first c.in-Some.claim (sym c.claim_of.ensures ∙ c.in-Some.is) in
    rw (
      judged_shaped g.version g.first g.behind.now (length g.behind.now + g.beyond) (λ z. c.if-shape-eq0.false (shape ∙ z)),
      ← shape,
      there.0,
      ← there.1,
    )
    c.judge_listed.ensures
