-- The code's tables are the paper's: behind the last arm there is no opcode, and a row of ps_1_1 to ps_1_3 gives the shape in each.
use Prim.Native.Nat.{ℕ}
use mathlib.Core.Path.{◌≡◌, refl}
use mathlib.Core.Bool.{Bool, true}
use lib.Dec.{eqb}
use borrow.Author.Tests.{eqb-true}
use Rattle.paper.specs.OpcodeTable.{rows, PHASE}
use Rattle.paper.specs.FirstVersions.{first_rows}
use Rattle.paper.specs.Places.{absent, entry_of, typed_places}
use Rattle.paper.specs.Blocks.{classes, class_of}
use Rattle.paper.specs.declared.Version.{Version}
use Rattle.paper.specs.declared.Version.TheVariants.{V1, P11, P12, P13, P14}
use Rattle.shapes.specs.Shape.{shape_of}
use Rattle.shapes.proofs.Table.{limit, beyond}
use Rattle.shapes.proofs.Computed.{Beyond, from_limit, computed}
use Rattle.shapes.proofs.Shapes.{shape_absent}
use Rattle.paper.proofs.Arms.{NoneBelow, none_left}
use Rattle.first_opcodes.specs.Rows.{early_row, early_shape}

no_shape : (v : Version) (opcode : ℕ) → Beyond opcode → shape_of v opcode ≡ 0
no_shape v opcode b = shape_absent v opcode (beyond v opcode b.0 b.1)

-- from 97 on there is nothing but PHASE, which is ps_1_4's
module _ (number_of : ℕ → ℕ) (phase : number_of PHASE ≡ 0) (none : (opcode : ℕ) → Beyond opcode → number_of opcode ≡ 0) where
  no_opcode : (opcode : ℕ) → NoneBelow number_of opcode limit → number_of opcode ≡ 0
  no_opcode opcode rest = none_left number_of opcode limit (from_limit (λ n. number_of n ≡ 0) opcode phase (none opcode)) rest

pub no_vertex : (opcode : ℕ) → NoneBelow (shape_of V1) opcode limit → shape_of V1 opcode ≡ 0
unfolding shape_of entry_of first_rows
no_vertex = no_opcode (shape_of V1) refl (no_shape V1)

no_row_lem : (opcode : ℕ) → Beyond opcode → early_row opcode ≡ 0
unfolding early_row
no_row_lem opcode b = rw (no_shape P11 opcode b, no_shape P12 opcode b, no_shape P13 opcode b) refl

pub no_early : (opcode : ℕ) → NoneBelow early_row opcode limit → early_row opcode ≡ 0
unfolding early_row shape_of entry_of first_rows
no_early = no_opcode early_row refl no_row_lem

pub no_late : (opcode : ℕ) → NoneBelow (shape_of P14) opcode limit × (opcode ≡ PHASE → ⊥) → shape_of P14 opcode ≡ 0
no_late opcode rest = none_left (shape_of P14) opcode limit (λ h. no_shape P14 opcode (h, rest.1)) rest.0

-- what a row of ps_1_1 to ps_1_3 says of each
abbrev said : Version → ℕ → ℕ → Bool
said v rank opcode = eqb (early_shape (early_row opcode) rank) (shape_of v opcode)

abbrev right : Version → ℕ → Bool
right P11 opcode = said P11 0 opcode
right P12 opcode = said P12 1 opcode
right P13 opcode = said P13 2 opcode
right v opcode = true

right_unlisted : (v : Version) (opcode : ℕ) → Beyond opcode → entry_of v opcode ≡ absent → right v opcode ≡ true
right_unlisted P11 opcode b e = rw (no_row_lem opcode b, no_shape P11 opcode b) refl
right_unlisted P12 opcode b e = rw (no_row_lem opcode b, no_shape P12 opcode b) refl
right_unlisted P13 opcode b e = rw (no_row_lem opcode b, no_shape P13 opcode b) refl
right_unlisted v opcode b e = refl

agrees : (v : Version) (opcode : ℕ) → right v opcode ≡ true
unfolding early_row shape_of entry_of first_rows rows typed_places class_of classes
agrees = computed right refl refl right_unlisted

pub early_first : (opcode : ℕ) → early_shape (early_row opcode) 0 ≡ shape_of P11 opcode
early_first opcode = eqb-true _ _ (agrees P11 opcode)

pub early_second : (opcode : ℕ) → early_shape (early_row opcode) 1 ≡ shape_of P12 opcode
early_second opcode = eqb-true _ _ (agrees P12 opcode)

pub early_third : (opcode : ℕ) → early_shape (early_row opcode) 2 ≡ shape_of P13 opcode
early_third opcode = eqb-true _ _ (agrees P13 opcode)

pub ruleset early_shapes = (early_first, early_second, early_third)
