-- A rule at every number below a bound, proved by one test that is computed.
use Prim.Native.Nat.{ℕ, zero, suc, ◌<◌}
use mathlib.Core.Path.{◌≡◌, ap, ◌∙◌}
use mathlib.Core.Bool.{Bool, true, ◌&&◌}
use mathlib.Core.Logic.{⊎_elim}
use native.Mathlib.Nat.{eq-or-lt_of_le, le_of_suc-le-suc}
use native.Mathlib.Omega.{arith}
use Rattle.paper.proofs.Bools.{both_left, both_right}

abbrev pub below : (ℕ → Bool) → ℕ → Bool
below rule zero = true
below rule (suc n) = rule n && below rule n

pub below_at : (rule : ℕ → Bool) (n k : ℕ) → below rule n ≡ true → k < n → rule k ≡ true
below_at rule zero k t h = absurd (omega arith)
below_at rule (suc n) k t h =
    ⊎_elim (λ same. ap rule same ∙ both_left (rule n) (below rule n) t)
    (λ less. below_at rule n k (both_right (rule n) (below rule n) t) less)
    (eq-or-lt_of_le (le_of_suc-le-suc h))
