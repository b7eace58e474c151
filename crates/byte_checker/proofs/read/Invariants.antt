use Rattle.std.proofs.Common.{◌≡◌, ◌++◌, take, drop}
use Rattle.byte_checker.specs.Bytes.{tokens_of}
use Rattle.byte_checker.proofs.read.Given as goal

abbrev pub invariant-loop-place : goal.invariant-loop-place
invariant-loop-place l = l.token-items ≡ take l.place (tokens_of l.tokens) ++ drop l.place l.initial.token-items
