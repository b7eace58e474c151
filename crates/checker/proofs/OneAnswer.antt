-- The promise of the check leaves one answer for every stream: no two verdicts tell the same.
use Prim.Native.Nat.{ℕ}
use mathlib.Core.Path.{◌≡◌, sym, ◌∙◌}
use mathlib.Core.List.{List}
use Rattle.paper.specs.Numbers.{told}
use Rattle.paper.specs.Stream.{verdict, checked}
use Rattle.paper.specs.Judgements.{Verdict}
use Rattle.paper.proofs.OneToOne.{same_verdict}

-- an answer that keeps the promise of the check is the verdict of the stream
pub answer_is_verdict : (stream : List ℕ) (a : Verdict) → told a ≡ checked stream → a ≡ verdict stream
answer_is_verdict stream a e = same_verdict a (verdict stream) e

-- so there is one
pub one_answer : (stream : List ℕ) (a b : Verdict) → told a ≡ checked stream → told b ≡ checked stream → a ≡ b
one_answer stream a b e f = same_verdict a b (e ∙ sym f)
