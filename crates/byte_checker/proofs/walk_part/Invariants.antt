use Rattle.std.proofs.Common.{◌≡◌, ◌+◌, ◌<◌, ◌≤◌, ◌⊎◌, length}
use Rattle.walk.specs.Shown.{most_claimed}
use Rattle.walk.specs.Stands.{Comes}
use Rattle.walk.proofs.Comes.{left_to}
use Rattle.byte_checker.specs.Bytes.{tokens_of}
use Rattle.byte_checker.proofs.walk_part.Given as goal

abbrev pub invariant-loop-version : goal.invariant-loop-version
invariant-loop-version l =
    (0 < l.stop) × (l.stop ≤ length l.part) × ((l.beyond ≡ 0) ⊎ (l.stop + most_claimed ≤ length l.part)) × Comes l.version (tokens_of l.tokens) l.from.at l.step

abbrev pub decreases-loop-version : goal.decreases-loop-version
decreases-loop-version l = left_to l.step (l.from.at + l.stop)
