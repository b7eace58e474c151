-- What the number of a version tells of the forms of U, by one test that is computed.
use Prim.Native.Nat.{ℕ, ◌*◌, ◌/◌, ◌%◌, ◌^◌, ◌<◌}
use mathlib.Core.Path.{◌≡◌, refl}
use mathlib.Core.Bool.{Bool}
use lib.Dec.{eqb, ltb}
use borrow.Author.Tests.{eqb-true, ltb-true}
use Rattle.paper.proofs.Below.{below, below_at}
use Rattle.paper.proofs.VersionTokens.{each}
use Rattle.paper.specs.declared.Version.{Version}
use Rattle.versions.specs.Rows.{form_of, rank, row_number}

abbrev formed : Version → ℕ → Bool
formed v type = eqb (row_number v % 2 ^ 40 / 2 ^ (2 * type) % 4) (form_of v type)

-- the digit of a register type is its form
pub form_in : (v : Version) (row type : ℕ) → row ≡ row_number v → type < 32 → row % 2 ^ 40 / 2 ^ (2 * type) % 4 ≡ form_of v type
form_in v row type is h = rw is (eqb-true _ _ (below_at (formed v) 32 type (each (λ v. below (formed v) 32) refl v) h))

pub rank_small : (v : Version) → rank v < 64
rank_small v = ltb-true _ _ (each (λ v. ltb (rank v) 64) refl v)
