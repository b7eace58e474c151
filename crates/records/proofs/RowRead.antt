-- The row of an instruction, read from its shape: the places but for the predicate's, and where the predicate stands.
use Prim.Native.Nat.{ℕ, ◌+◌, ◌*◌, ◌/◌, ◌%◌, ◌^◌, ◌<◌, ◌≤◌}
use mathlib.Core.Path.{◌≡◌, refl, ◌∙◌}
use mathlib.Core.Bool.{Bool, true, false, ◌&&◌}
use mathlib.Core.List.{List, [], ◌∷◌, ◌++◌}
use native.Mathlib.Omega.{arith}
use lib.Dec.{eqb}
use lib.ListN.{length, drop}
use borrow.Author.Tests.{eqb-true, eqb-false}
use Rattle.paper.proofs.Bools.{both_left, both_right}
use Rattle.paper.specs.InstructionToken.{opcode_of, is_predicated, with_predicate}
use Rattle.paper.specs.Places.{absent, listed, Entry, entry_of, Place, predicate}
use Rattle.paper.specs.declared.Version.{Version}
use Rattle.places.specs.Places.{place_by, types_by, predicated_row, decoded}
use Rattle.places.proofs.Places.{predicate_place}
use Rattle.places.proofs.Decoding.{decoded_zero, decoded_step, without_predicate}
use Rattle.shapes.specs.Shape.{shape_of, places_field}
use Rattle.shapes.proofs.Shapes.{shape_places, decoded_digits, row_unpredicated}
use Rattle.instruction_token.specs.ByShape.{places_by}
use Rattle.records.specs.Record.{width_at, operand_at, in_order, predicate_or, padded, array_of}
use Rattle.records.specs.ByClass.{row_of, width_of, ordered, Readable, ReadableRow}
use Rattle.records.proofs.Rows.{unpredicated_in_order}

-- a row with the predicate behind its first place, read back
predicated_decoded : (row : ℕ) → row < 2 ^ 35 → (row ≡ 0 → ⊥) → decoded (predicated_row row) ≡ with_predicate true (decoded row)
predicated_decoded row small some =
    let p = predicated_row row in
    let first : p % 128 ≡ row % 128 = omega arith in
    let rest : p / 128 ≡ 93 + 128 * (row / 128) = omega arith in
    let second : (93 + 128 * (row / 128)) % 128 ≡ 93 = omega arith in
    let behind : (93 + 128 * (row / 128)) / 128 ≡ row / 128 = omega arith in
    decoded_step p (omega arith) (λ e. omega arith)
    ∙ rw (first, rest, decoded_step (93 + 128 * (row / 128)) (omega arith) (λ e. omega arith), second, behind, predicate_place, decoded_step row (omega arith) some) refl

module _ (v : Version) (first : ℕ) where
  abbrev row : ℕ
  row = places_field (shape_of v (opcode_of first))

  row_small : row < 2 ^ 35
  row_small = omega arith

  -- no place of the row is the predicate's
  row_ordered : ordered (decoded row) ≡ length (decoded row)
  unfolding shape_of ordered
  row_ordered = by (entry_of v (opcode_of first)) refl
    where
      by : (e : Entry) → entry_of v (opcode_of first) ≡ e → ordered (decoded row) ≡ length (decoded row)
      by absent e = rw (e, decoded_zero) refl
      by (listed places) e =
          rw (shape_places v (opcode_of first) places e, decoded_digits v (opcode_of first) places e)
          (unpredicated_in_order places (row_unpredicated v (opcode_of first) places e))

  -- an instruction that is predicated has operands
  abbrev bare : Bool
  bare = is_predicated first && eqb row 0

  pub row_is : bare ≡ false → row_of v first ≡ with_predicate (is_predicated first) (decoded row)
  unfolding places_by
  row_is some = by (is_predicated first) refl some
    where
      by : (predicated : Bool) → is_predicated first ≡ predicated → (predicated && eqb row 0) ≡ false → row_of v first ≡ with_predicate (is_predicated first) (decoded row)
      by true p s = rw (p, predicated_decoded row row_small (eqb-false row 0 s)) refl
      by false p s = rw (p, without_predicate (decoded row)) refl

  pub row_readable : {behind : List ℕ} → bare ≡ false → Readable (row_of v first) behind → ReadableRow (is_predicated first) (decoded row) behind
  row_readable some r = record { there = rw (row_is some) at r.there; all_ordered = row_ordered }

  -- one that is predicated and has none
  pub bare_row : bare ≡ true → row_of v first ≡ decoded (predicated_row 0)
  unfolding places_by
  bare_row b = rw (both_left (is_predicated first) (eqb row 0) b, eqb-true row 0 (both_right (is_predicated first) (eqb row 0) b)) refl

-- what a predicated instruction without operands would have
abbrev pub unplaced : List Place
unplaced = place_by 0 ∷ (predicate ∷ [])

pub unplaced_row : decoded (predicated_row 0) ≡ unplaced
unplaced_row =
    decoded_step (predicated_row 0) (omega arith) (λ e. omega arith)
    ∙ rw (decoded_step 93 (omega arith) (λ e. omega arith), predicate_place, decoded_zero) refl

module _ (behind : List ℕ) where
  abbrev opening : ℕ
  opening = width_at (place_by 0) behind

  pub unplaced_there : Readable unplaced behind → opening + width_at predicate (drop opening behind) ≤ length behind
  unfolding width_of
  unplaced_there r = omega (arith, r.there)

  pub unplaced_array : array_of unplaced behind ≡ operand_at (place_by 0) behind ∷ (padded 4 [] ++ (operand_at predicate (drop opening behind) ∷ []))
  unfolding array_of in_order predicate_or place_by types_by
  unplaced_array = refl
