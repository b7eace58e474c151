-- A rule of kinds, tested on each of a list, holds of the one that is found there.
use Prim.Native.Nat.{ℕ, zero, suc}
use mathlib.Core.Path.{◌≡◌, refl}
use mathlib.Core.Bool.{Bool, true, ◌&&◌}
use mathlib.Core.List.{List, [], ◌∷◌}
use Rattle.paper.specs.Versions.{versions}
use Rattle.paper.specs.declared.Version.{Version}
use Rattle.paper.proofs.Bools.{both_left, both_right}
use Rattle.paper.proofs.VersionTokens.{in_each, each}
use Rattle.uniform.specs.Uniform.{Kind, no_kind, kinds_in, kind_at, kind_of, uniform_of}

abbrev every : (Kind → Bool) → List Kind → Bool
every rule [] = true
every rule (k ∷ ks) = rule k && every rule ks

-- none is found at 0
pub at_zero : (ks : List Kind) → kind_at ks 0 ≡ no_kind
at_zero [] = refl
at_zero (k ∷ ks) = refl

module _ (rule : Kind → Bool) (Law : Kind → Type 0) (none : Law no_kind) (some : (k : Kind) → rule k ≡ true → Law k) where
  pub at_kind : (ks : List Kind) → every rule ks ≡ true → (n : ℕ) → Law (kind_at ks n)
  at_kind [] t n = none
  at_kind (k ∷ ks) t zero = none
  at_kind (k ∷ ks) t (suc zero) = some k (both_left (rule k) (every rule ks) t)
  at_kind (k ∷ ks) t (suc (suc n)) = at_kind ks (both_right (rule k) (every rule ks) t) (suc n)

-- a rule of the kinds of each version holds of the operands of an opcode, if there are any
abbrev InKinds : (Version → Kind → Bool) → Type 0
InKinds rule = in_each (λ v. every (rule v) (kinds_in v)) versions ≡ true

module _ (rule : Version → Kind → Bool) (tested : InKinds rule) (v : Version) (opcode : ℕ) where
  abbrev Ruled : Kind → Type 0
  Ruled k = (k.count ≡ 0 → ⊥) → rule v k ≡ true

  pub in_kinds : Ruled (uniform_of v opcode)
  unfolding uniform_of
  in_kinds =
      at_kind (rule v) Ruled (λ some. absurd (some refl)) (λ k t some. t) (kinds_in v) (each (λ v. every (rule v) (kinds_in v)) tested v) (kind_of v opcode)
