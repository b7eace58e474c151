-- Laws of the register types that a version allows.
use mathlib.Core.Path.{◌≡◌, refl}
use mathlib.Core.Bool.{true}
use mathlib.Core.List.{List}
use Prim.Native.Nat.{ℕ, ◌<◌}
use native.Mathlib.Omega.{arith}
use Rattle.paper.specs.Notation.{among}
use Rattle.paper.specs.Versions.{versions}
use Rattle.paper.specs.OperandTokens.{type_of, free_destination_types, free_source_types}
use Rattle.paper.specs.declared.Version.{Version}
use Rattle.paper.proofs.Below.{below}
use Rattle.paper.proofs.VersionTokens.{in_each, each}
use Rattle.versions.specs.Sets.{set_of, holds}
use Rattle.versions.proofs.Sets.{agrees, set_among}

pub type_small : (token : ℕ) → type_of token < 32
type_small token = omega arith

-- the lists of every version, by their sets
types_agree : (types : Version → List ℕ) → in_each (λ v. below (agrees (types v)) 32) versions ≡ true → (v : Version) (token : ℕ) →
    holds (set_of (types v)) (type_of token) ≡ among (type_of token) (types v)
types_agree types tested v token = set_among (types v) (each (λ v. below (agrees (types v)) 32) tested v) (type_of token) (type_small token)

pub destination_types : (v : Version) (token : ℕ) → holds (set_of (free_destination_types v)) (type_of token) ≡ among (type_of token) (free_destination_types v)
unfolding holds
destination_types = types_agree free_destination_types refl

pub source_types : (v : Version) (token : ℕ) → holds (set_of (free_source_types v)) (type_of token) ≡ among (type_of token) (free_source_types v)
unfolding holds
source_types = types_agree free_source_types refl
