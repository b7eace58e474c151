use Prim.Native.Nat.{◌+◌}
use lib.ListN.{length}
use Rattle.door.proofs.Passing.{door_law}
use Rattle.door.proofs.tell.Goals as goal

pub returns-in-Some-pass : goal.returns-in-Some-pass
returns-in-Some-pass c =
    let g = c.args in
    door_law g.version g.first g.behind.now (length g.behind.now + g.beyond) _ c.in-Some-pass.ensures
