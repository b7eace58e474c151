-- A table as code has it, an arm for each key below a bound that has a number: what is known behind its last arm.
use Prim.Native.Nat.{ℕ, zero, suc, ◌≤◌}
use mathlib.Core.Path.{◌≡◌, refl, sym}
use mathlib.Core.Bool.{Bool, true, false}
use mathlib.Core.Logic.{⊎_elim}
use native.Mathlib.Nat.{eq-or-lt_of_le}
use native.Mathlib.Omega.{arith}
use lib.Dec.{eqb}
use borrow.Author.Tests.{eqb-true}

module _ (number_of : ℕ → ℕ) (key : ℕ) where
  -- the key is none of those below n that have a number
  abbrev Passed : ℕ → Bool → Type 0 → Type 0
  Passed n true others = others
  Passed n false others = others × (key ≡ n → ⊥)

  abbrev pub NoneBelow : ℕ → Type 0
  NoneBelow zero = Unit
  NoneBelow (suc n) = Passed n (eqb (number_of n) 0) (NoneBelow n)

  passed_at : (n : ℕ) (without : Bool) (others : Type 0) → eqb (number_of n) 0 ≡ without → Passed n without others →
      (n ≡ key → number_of key ≡ 0) × others
  passed_at n true others t rest = (λ e. rw e at (eqb-true (number_of n) 0 t), rest)
  passed_at n false others t rest = (λ e. absurd (rest.1 (sym e)), rest.0)

  -- it has none, if it has none from n on
  pub none_left : (n : ℕ) → (n ≤ key → number_of key ≡ 0) → NoneBelow n → number_of key ≡ 0
  none_left zero from rest = from (omega arith)
  none_left (suc n) from rest =
      let passed = passed_at n (eqb (number_of n) 0) (NoneBelow n) refl rest in
      none_left n (λ h. ⊎_elim passed.0 from (eq-or-lt_of_le h)) passed.1
