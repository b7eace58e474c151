use mathlib.Core.Path.{◌≡◌, refl, sym, ap, ◌∙◌}
use Prim.Native.Nat.{◌+◌}
use lib.ListN.{get_or}
use mathlib.Core.Bool.{true, false}
use Rattle.paper.specs.OperandTokens.{brings_relative}
use Rattle.places.specs.Places.{place_by}
use Rattle.tokens.specs.Brief.{brief}
use Rattle.operands.proofs.OperandAt.{operand_none, operand_number}
use Rattle.operands.proofs.take_operand.Goals as goal

pub returns-in_default : goal.returns-in_default
returns-in_default c =
    let g = c.args in
    rw (operand_none g.version (place_by g.place) (g.at + 1) g.at g.behind.now c.in_default.ensures.lookup.3) c.refused_first.ensures

pub returns-in-Err : goal.returns-in-Err
returns-in-Err c =
    let g = c.args in
    let there = c.in-Some.ensures.lookup.3 in
    let told : c.judge_token.result ≡ brief g.version (place_by g.place) (get_or g.behind.now g.at 0) =
    c.judge_token.ensures ∙ ap (brief g.version (place_by g.place)) (there.1 0) in
    rw (operand_number g.version (place_by g.place) (g.at + 1) g.at _ g.behind.now there.0 told, c.in-Err.is) (rw (there.1 0) at c.refused_at.ensures)

pub returns-then-brings_relative : goal.returns-then-brings_relative
returns-then-brings_relative c =
    let g = c.args in
    let there = c.in-Some.ensures.lookup.3 in
    let told : c.judge_token.result ≡ brief g.version (place_by g.place) (get_or g.behind.now g.at 0) =
    c.judge_token.ensures ∙ ap (brief g.version (place_by g.place)) (there.1 0) in
    let brings : brings_relative (place_by g.place) (get_or g.behind.now g.at 0) ≡ true =
    rw (there.1 0) at (sym c.brings_relative.ensures ∙ c.if-brings_relative.true) in
    rw (operand_number g.version (place_by g.place) (g.at + 1) g.at _ g.behind.now there.0 told, c.in_default-judge_token.is, brings) c.take_relative.ensures

pub returns : goal.returns
returns c =
    let g = c.args in
    let there = c.in-Some.ensures.lookup.3 in
    let told : c.judge_token.result ≡ brief g.version (place_by g.place) (get_or g.behind.now g.at 0) =
    c.judge_token.ensures ∙ ap (brief g.version (place_by g.place)) (there.1 0) in
    let brings : brings_relative (place_by g.place) (get_or g.behind.now g.at 0) ≡ false =
    rw (there.1 0) at (sym c.brings_relative.ensures ∙ c.if-brings_relative.false) in
    rw (operand_number g.version (place_by g.place) (g.at + 1) g.at _ g.behind.now there.0 told, c.in_default-judge_token.is, brings) refl
