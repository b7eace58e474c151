use Rattle.std.proofs.Common.{◌≡◌, length}
use Rattle.walk.specs.Stands.{Comes}
use Rattle.walk.proofs.Comes.{left_to}
use Rattle.byte_checker.specs.Bytes.{tokens_of}
use Rattle.byte_checker.proofs.walk_bytes.Given as goal

abbrev pub invariant-loop-version : goal.invariant-loop-version
invariant-loop-version l = (length l.window ≡ 192) × Comes l.version (tokens_of l.tokens) 0 l.step

abbrev pub decreases-loop-version : goal.decreases-loop-version
decreases-loop-version l = left_to l.step (length l.tokens)
