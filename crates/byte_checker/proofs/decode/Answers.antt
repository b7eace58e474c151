use Rattle.std.proofs.Common.{◌≡◌, ◌/◌, min, length, take, arith, length-take-le, zero-add, sym, ◌∙◌}
use Rattle.std.proofs.lemmas.List.Edits.{sets-eq}
use Rattle.byte_checker.specs.Bytes.{tokens_in}
use Rattle.byte_checker.proofs.Tokens.{fours, tokens_there}
use Rattle.byte_checker.proofs.decode.Goals as goal

pub returns-clause-held : goal.returns-clause-held
returns-clause-held c =
    let g = c.args in
    let n = min (length g.bytes.now / 4) (length g.room.now) in
    let same = fours (length g.bytes.now / 4) g.bytes.now (omega arith) (omega arith) in
    let count : c.read.result ≡ n = rw c.as_chunks.ensures.front_len at c.read.ensures.count in
    let long : length (take n (tokens_in g.bytes.now)) ≡ n = length-take-le n (tokens_in g.bytes.now) (omega (arith, tokens_there g.bytes.now (length g.bytes.now / 4) (omega arith))) in
    let held = rw (count, c.as_chunks.ensures.front, same) at c.read.ensures.held in
    held ∙ sym (rw (long, zero-add) at (sets-eq (take n (tokens_in g.bytes.now)) g.room.now 0 (omega (arith, long))))
