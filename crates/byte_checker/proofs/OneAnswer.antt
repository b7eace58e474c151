-- The promise of the check of bytes leaves one answer.
use Prim.Native.Nat.{ℕ}
use mathlib.Core.Path.{◌≡◌, sym, ◌∙◌}
use mathlib.Core.List.{List}
use Rattle.paper.specs.Numbers.{told}
use Rattle.paper.specs.Judgements.{Verdict}
use Rattle.paper.proofs.OneToOne.{same_verdict}
use Rattle.byte_checker.specs.Bytes.{bytes_verdict}

pub one_answer : (bytes : List ℕ) (a b : Verdict) → told a ≡ told (bytes_verdict bytes) → told b ≡ told (bytes_verdict bytes) → a ≡ b
one_answer bytes a b e f = same_verdict a b (e ∙ sym f)
