use mathlib.Core.Path.{◌≡◌}
use Prim.Native.Nat.{◌-◌}
use lib.ListN.{length}
use Rattle.paper.specs.Stream.{cut_from}
use Rattle.notes.specs.Noted.{noted_in, noted_from}
use Rattle.notes.proofs.note_from.Given as goal

abbrev pub invariant-loop-at : goal.invariant-loop-at
invariant-loop-at l =
    noted_from l.version l.tokens l.from ≡ noted_in l.version l.tokens (cut_from l.version l.tokens l.at) l.before l.comments

abbrev pub decreases-loop-at : goal.decreases-loop-at
decreases-loop-at l = length l.tokens - l.at
