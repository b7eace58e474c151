use mathlib.Core.Path.{◌≡◌, refl, sym, ap, ◌∙◌}
use Prim.Native.Nat.{◌+◌}
use native.Mathlib.Omega.{arith}
use lib.ListN.{get_or}
use Rattle.paper.specs.Places.{relative}
use Rattle.places.proofs.Places.{relative_place}
use Rattle.tokens.specs.Brief.{brief}
use Rattle.operands.proofs.OperandAt.{relative_number}
use Rattle.operands.proofs.take_relative.Goals as goal

pub refused_at-requires : goal.refused_at-requires
refused_at-requires c = (rw relative_place (sym c.judge_relative.ensures ∙ c.in-Err.is), omega arith)

pub returns-in-Ok : goal.returns-in-Ok
returns-in-Ok c =
    let g = c.args in
    let there = c.in-Some.ensures.lookup.3 in
    let told : c.judge_relative.result ≡ brief g.version relative (get_or g.behind.now g.at 0) =
    c.judge_relative.ensures ∙ ap (brief g.version relative) (there.1 0) in
    rw (relative_number g.version (g.at + 1) g.at _ g.behind.now there.0 told, c.in-Ok.is) refl

pub returns-in-Err : goal.returns-in-Err
returns-in-Err c =
    let g = c.args in
    let there = c.in-Some.ensures.lookup.3 in
    let told : c.judge_relative.result ≡ brief g.version relative (get_or g.behind.now g.at 0) =
    c.judge_relative.ensures ∙ ap (brief g.version relative) (there.1 0) in
    rw (relative_number g.version (g.at + 1) g.at _ g.behind.now there.0 told, c.in-Err.is) (rw (relative_place, there.1 0) at c.refused_at.ensures)
