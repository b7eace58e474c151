-- The measure decreases: the place behind a noted instruction lies behind the place from which it was looked for.
use Rattle.std.proofs.Common.{arith}
use Rattle.notes.proofs.Places.{told_lies}
use Rattle.shader_check.proofs.print_notes.Goals as goal

pub loop-at-smaller : goal.loop-at-smaller
loop-at-smaller g c =
    let noted = c.next_note in
    let lies = told_lies c.args.tokens.now c.loop-at.at c.args.version noted.result noted.ensures c.in-Ok.note c.in-Ok.is in
    omega (arith, lies.comes, lies.ends, lies.inside)
