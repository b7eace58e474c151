-- The verdict of a stream, by its length and by the version that its first token names.
use Rattle.std.specs.Prelude.{Some, None, Ok, Err}
use Prim.Native.Nat.{ℕ, ◌≤◌}
use mathlib.Core.Path.{◌≡◌}
use mathlib.Core.Bool.{true, false}
use mathlib.Core.List.{List}
use lib.Dec.{leb}
use lib.ListN.{length, get_or}
use borrow.Author.Tests.{leb-true}
use Rattle.paper.specs.Numbers.{refusal}
use Rattle.paper.specs.Versions.{named}
use Rattle.paper.specs.Stream.{walked, most_tokens, length_laid, verdict}
use Rattle.paper.specs.declared.Version.{Version}
use Rattle.paper.specs.declared.Refusal.{Refusal}
use Rattle.paper.specs.declared.Reason.TheVariants.{Length as LENGTH, Version as VERSION}
use Rattle.paper.proofs.Bools.{apart, both_left}

-- a refusal is no yes
pub unlike : {A : Type 0} {r : Refusal} {n : ℕ} → Err r ≡ Ok n → A
unlike e = apart (cc)

pub laid_two : (n : ℕ) → length_laid n ≡ true → 2 ≤ n
laid_two n e = leb-true 2 n (both_left (leb 2 n) (leb n most_tokens) e)

module _ (s : List ℕ) where
  pub verdict_length : length_laid (length s) ≡ false → verdict s ≡ Err (refusal LENGTH 0)
  unfolding verdict
  verdict_length e = rw e

  pub verdict_version : length_laid (length s) ≡ true → named (get_or s 0 0) ≡ None → verdict s ≡ Err (refusal VERSION 0)
  unfolding verdict
  verdict_version e f = rw (e, f)

  pub verdict_walked : (v : Version) → length_laid (length s) ≡ true → named (get_or s 0 0) ≡ Some v → verdict s ≡ walked v s
  unfolding verdict
  verdict_walked v e f = rw (e, f)
