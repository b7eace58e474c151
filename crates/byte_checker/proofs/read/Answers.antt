use Rattle.std.proofs.Common.{◌≡◌, ◌<◌, ◌≤◌, [], length, take, arith, add-one, length-take-le, drop_of_length-le, refl, sym, ◌∙◌}
use Rattle.std.proofs.lemmas.List.{get_or-map, length-map, append-nil}
use Rattle.std.specs.Int.{w32, from_le_bytes}
use Rattle.byte_checker.specs.Bytes.{tokens_of}
use Rattle.byte_checker.proofs.Tokens.{one_more}
use Rattle.byte_checker.proofs.read.Goals as goal

pub loop-place-preserved : goal.loop-place-preserved
loop-place-preserved c =
    let g = c.args in
    let n = c.min-n.result in
    let at = c.loop-place.place in
    let fits : n ≤ length g.room.now = omega (arith, c.min-n.ensures) in
    let long : length (take n g.room.now) ≡ n = length-take-le n g.room.now fits in
    let here : at < length g.tokens.now = omega (arith, c.min-n.ensures, long, c.loop-place-test.true) in
    let there : at < length (tokens_of g.tokens.now) = omega (arith, here, length-map g.tokens.now (from_le_bytes w32)) in
    rw (c.loop-place.invariant, add-one)
    (one_more (tokens_of g.tokens.now) (take n g.room.now) at c.token_of.result there c.loop-place-test.true
    (c.token_of.ensures ∙ sym (get_or-map (from_le_bytes w32) g.tokens.now at [] 0 here)))

pub returns-clause-held : goal.returns-clause-held
returns-clause-held c =
    let g = c.args in
    let n = c.min-n.result in
    let fits : n ≤ length g.room.now = omega (arith, c.min-n.ensures) in
    let long : length (take n g.room.now) ≡ n = length-take-le n g.room.now fits in
    let all : c.loop-place.place ≡ n = omega (arith, long, c.loop-place-test.false, c.loop-place.auto.place-end) in
    rw (c.loop-place.invariant, all, drop_of_length-le (take n g.room.now) {i = n} (omega (arith, long)), append-nil) refl
