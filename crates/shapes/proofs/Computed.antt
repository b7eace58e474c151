-- A rule of the tables, proved at every opcode by a test that is computed below 97 and at PHASE.
use Prim.Native.Nat.{ℕ, ◌≤◌}
use mathlib.Core.Path.{◌≡◌, refl}
use mathlib.Core.Bool.{Bool, true, false}
use lib.Dec.{eqb, ltb}
use borrow.Author.Tests.{ltb-true, ltb-false, eqb-true, eqb-false}
use Rattle.paper.proofs.Below.{below, below_at}
use Rattle.paper.proofs.VersionTokens.{in_each, each}
use Rattle.paper.specs.Versions.{versions}
use Rattle.paper.specs.OpcodeTable.{PHASE}
use Rattle.paper.specs.Places.{absent, entry_of}
use Rattle.paper.specs.declared.Version.{Version}
use Rattle.shapes.proofs.Table.{limit, beyond}

-- an opcode that no table names
abbrev pub Beyond : ℕ → Type 0
Beyond opcode = (limit ≤ opcode) × (opcode ≡ PHASE → ⊥)

-- a law that holds of opcodes below 97, of PHASE and of those that no table names holds of every opcode
module _ (Law : ℕ → Type 0) (opcode : ℕ) (phase : Law PHASE) (none : Beyond opcode → Law opcode) where
  pub from_limit : limit ≤ opcode → Law opcode
  from_limit h = by (eqb opcode PHASE) refl
    where
      by : (b : Bool) → eqb opcode PHASE ≡ b → Law opcode
      by true p = rw (eqb-true opcode PHASE p) phase
      by false p = none (h, eqb-false opcode PHASE p)

module _ (rule : ℕ → Bool) (tested : below rule limit ≡ true) (phase : rule PHASE ≡ true) where
  pub at_opcode : (opcode : ℕ) → (Beyond opcode → rule opcode ≡ true) → rule opcode ≡ true
  at_opcode opcode none = by (ltb opcode limit) refl
    where
      by : (b : Bool) → ltb opcode limit ≡ b → rule opcode ≡ true
      by true h = below_at rule limit opcode tested (ltb-true opcode limit h)
      by false h = from_limit (λ n. rule n ≡ true) opcode phase none (ltb-false opcode limit h)

-- a rule in every version, which holds of an opcode that is in no row
abbrev pub everywhere : (Version → ℕ → Bool) → ℕ → Bool
everywhere rule opcode = in_each (λ v. rule v opcode) versions

module _ (rule : Version → ℕ → Bool) (tested : below (everywhere rule) limit ≡ true) (phase : everywhere rule PHASE ≡ true)
    (unlisted : (v : Version) (opcode : ℕ) → Beyond opcode → entry_of v opcode ≡ absent → rule v opcode ≡ true) (v : Version) (opcode : ℕ) where
  further : limit ≤ opcode → rule v opcode ≡ true
  further =
      from_limit (λ n. rule v n ≡ true) opcode (each (λ v. rule v PHASE) phase v)
      (λ b. unlisted v opcode b (beyond v opcode b.0 b.1))

  pub computed : rule v opcode ≡ true
  computed = by (ltb opcode limit) refl
    where
      by : (b : Bool) → ltb opcode limit ≡ b → rule v opcode ≡ true
      by true h = each (λ v. rule v opcode) (below_at (everywhere rule) limit opcode tested (ltb-true opcode limit h)) v
      by false h = further (ltb-false opcode limit h)
