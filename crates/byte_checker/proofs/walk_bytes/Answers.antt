use Rattle.std.proofs.Common.{◌≡◌, sym, refl, ◌∙◌, length, take, drop, arith, take_all, length-take-le}
use Rattle.std.proofs.lemmas.List.{length-map, drop-map, take_rest, take-append-le}
use Rattle.std.specs.Int.{w32, from_le_bytes}
use Rattle.paper.proofs.OneToOne.{same_verdict}
use Rattle.walk.specs.Steps.{verdict_of}
use Rattle.walk.proofs.OnStream.{stands_first}
use Rattle.walk.proofs.Comes.{comes_verdict}
use Rattle.byte_checker.specs.Bytes.{tokens_of}
use Rattle.byte_checker.proofs.walk_bytes.Goals as goal

pub loop-version-init : goal.loop-version-init
loop-version-init c =
    let g = c.args in
    let first = stands_first g.version (tokens_of g.tokens.now) (omega (arith, c.requires, length-map g.tokens.now (from_le_bytes w32))) in
    (refl, (rw c.start.ensures first, omega arith))

pub walk_part-step-requires-clause-held : goal.walk_part-step-requires-clause-held
walk_part-step-requires-clause-held c =
    let g = c.args in
    let n = c.read-held.result in
    let at = c.loop-version.step.state.at in
    let rest = tokens_of (drop at g.tokens.now) in
    let held = rw (take_rest g.tokens.now at) at c.read-held.ensures.held in
    let count = rw (take_rest g.tokens.now at) at c.read-held.ensures.count in
    let long : length (take n rest) ≡ n = length-take-le n rest (omega (arith, count, length-map (drop at g.tokens.now) (from_le_bytes w32))) in
    let front : take n c.read-held.new.room ≡ take n rest = rw held (take-append-le n (take n rest) _ (omega (arith, long)) ∙ take_all n (take n rest) (omega (arith, long))) in
    rw (front, long, drop-map (from_le_bytes w32) at g.tokens.now) refl

pub returns : goal.returns
returns c =
    let g = c.args in
    let step = c.loop-version.step in
    let long = length-map g.tokens.now (from_le_bytes w32) in
    let over = sym c.goes_on.ensures ∙ c.loop-version-test.false in
    let verdict = comes_verdict g.version (tokens_of g.tokens.now) step 0 c.loop-version.invariant.1 (rw long over) in
    same_verdict c.verdict_of.result (verdict_of step (length g.tokens.now)) c.verdict_of.ensures ∙ rw long at verdict
