use Prim.Native.Nat.{◌*◌, ◌≤◌}
use Rattle.door.proofs.Taking.{Left}
use Rattle.door.proofs.fits.Given as goal

abbrev pub invariant-loop : goal.invariant-loop
invariant-loop l = (l.at ≤ 2 * l.counter) × Left l.version l.row l.behind l.at l.counter
