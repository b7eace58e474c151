-- A set of numbers below 32 holds what its list holds: one test that is computed.
use mathlib.Core.Path.{◌≡◌, refl, sym}
use mathlib.Core.Bool.{Bool, true, false, not}
use mathlib.Core.List.{List, [], ◌∷◌}
use Prim.Native.Nat.{ℕ, ◌^◌, ◌<◌}
use Rattle.paper.specs.Notation.{among}
use Rattle.paper.proofs.Below.{below, below_at}
use Rattle.versions.specs.Sets.{set_of, holds}

abbrev pub same : Bool → Bool → Bool
same true b = b
same false b = not b

pub same_true : (a b : Bool) → same a b ≡ true → a ≡ b
same_true true true t = refl
same_true true false t = sym t
same_true false true t = t
same_true false false t = refl

abbrev pub agrees : List ℕ → ℕ → Bool
agrees ks k = same (holds (set_of ks) k) (among k ks)

-- the test of one list, by computation
abbrev pub Agrees : List ℕ → Type 0
Agrees ks = below (agrees ks) 32 ≡ true

pub set_among : (ks : List ℕ) → Agrees ks → (k : ℕ) → k < 32 → holds (set_of ks) k ≡ among k ks
set_among ks tested k h = same_true (holds (set_of ks) k) (among k ks) (below_at (agrees ks) 32 k tested h)

abbrev one : ℕ → ℕ → Bool
one type k = same (holds (2 ^ type) k) (among k (type ∷ []))

ones : below (λ type. below (one type) 32) 32 ≡ true
unfolding holds
ones = refl

-- a set of one
pub one_among : (type k : ℕ) → type < 32 → k < 32 → holds (2 ^ type) k ≡ among k (type ∷ [])
one_among type k ht hk =
    same_true (holds (2 ^ type) k) (among k (type ∷ []))
    (below_at (one type) 32 k (below_at (λ type. below (one type) 32) 32 type ones ht) hk)
