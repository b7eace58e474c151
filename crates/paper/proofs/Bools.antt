-- Small laws on Bools, and contradictions.
use Prim.Native.Nat.{ℕ}
use mathlib.Core.Path.{◌≡◌, refl}
use mathlib.Core.Bool.{Bool, true, false, ◌&&◌, ◌||◌}
use native.Mathlib.Omega.{arith}

-- two answers that differ are not one: `apart (cc)`
pub apart : {A : Type 0} → ◌≡◌ {A = ℕ} 0 1 → A
apart e = absurd (omega arith)

pub never : {A : Type 0} → ◌≡◌ {A = Bool} false true → A
never e = apart (cc)

pub both_left : (a b : Bool) → a && b ≡ true → a ≡ true
both_left true b t = refl
both_left false b t = t

pub both_right : (a b : Bool) → a && b ≡ true → b ≡ true
both_right true b t = t
both_right false b t = apart (cc)

pub both : (a b : Bool) → a && b ≡ true → (a ≡ true) × (b ≡ true)
both a b t = (both_left a b t, both_right a b t)

pub and_true : (a : Bool) → a && true ≡ a
and_true true = refl
and_true false = refl

pub and_false : (a : Bool) → a && false ≡ false
and_false true = refl
and_false false = refl

pub or_false : (a : Bool) → a || false ≡ a
or_false true = refl
or_false false = refl
