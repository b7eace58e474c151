use mathlib.Core.Path.{refl, sym}
use Rattle.writer.specs.Decided.{writing_in, content_in}
use Rattle.writer.proofs.Answers.{refused_record}
use Rattle.writer.proofs.write_known.Goals as goal

pub returns-in_default : goal.returns-in_default
returns-in_default c =
    let g = c.args in
    let e = refused_record g.known g.instruction.now g.body.now g.buffer.now g.at (c.encode.ensures.fails c.in_default.is) in
    (sym e.0, sym e.1)

pub returns : goal.returns
unfolding writing_in content_in
returns c =
    let some = c.in-Some.is in
    let placed = c.place.ensures in
    rw (c.encode.ensures.passes some, c.encode.ensures.stands some c.args.body.now refl) (placed.0, rw placed.0 at placed.1)
