use Prim.Native.Nat.{◌+◌}
use mathlib.Core.Path.{◌≡◌}
use mathlib.Core.Bool.{false}
use Rattle.edit.specs.Edit.{splice, meets_at_end}
use Rattle.walk.specs.Steps.{goes_on}
use Rattle.walk.specs.Stands.{Comes}
use Rattle.walk.proofs.Comes.{left_to}
use Rattle.editor.proofs.walk_spliced.Given as goal

abbrev pub invariant-loop-version : goal.invariant-loop-version
invariant-loop-version l =
    Comes l.version (splice l.old l.i l.j l.run) l.i l.step
    × (goes_on l.step (l.end + 1) ≡ false → meets_at_end l.version l.old l.i l.j l.run ≡ false)

abbrev pub decreases-loop-version : goal.decreases-loop-version
decreases-loop-version l = left_to l.step l.length
