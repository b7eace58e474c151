-- The first place of an opcode's operands, by the shape of the opcode.
use mathlib.Core.Path.{◌≡◌, refl, sym, ap, ◌∙◌}
use mathlib.Core.List.{List, [], ◌∷◌}
use Prim.Native.Nat.{ℕ, ◌%◌, ◌<◌, ◌^◌}
use native.Mathlib.Omega.{arith}
use lib.ListN.{length}
use Rattle.paper.specs.Places.{Place, Entry, absent, listed, entry_of, is_destination, raw}
use Rattle.paper.specs.declared.Version.{Version}
use Rattle.places.specs.Places.{place_by, digits, decoded}
use Rattle.places.proofs.Decoding.{decoded_zero, decoded_step}
use Rattle.shapes.specs.Shape.{shape_of, places_field}
use Rattle.shapes.proofs.Shapes.{shape_absent, shape_places, digits_small, decoded_digits}
use Rattle.notes.specs.NotedShapes.{begins_destination}

-- the first of a row, if it has one
abbrev first_or : Place → List Place → Place
first_or other [] = other
first_or other (place ∷ places) = place

first_decoded : (n : ℕ) (place : Place) (places : List Place) → n < 2 ^ 64 → decoded n ≡ place ∷ places → place_by (n % 128) ≡ place
first_decoded n place places fits e =
    let some : n ≡ 0 → ⊥ = λ none.
    let l : 0 ≡ length (place ∷ places) = ap length (sym decoded_zero ∙ ap decoded (sym none) ∙ e) in
    omega arith in
    ap (first_or raw) (sym (decoded_step n fits some) ∙ e)

module _ (v : Version) (opcode : ℕ) where
  by_entry : (entry : Entry) → entry_of v opcode ≡ entry → is_destination (place_by (places_field (shape_of v opcode) % 128)) ≡ begins_destination entry
  unfolding place_by
  by_entry absent e = rw (shape_absent v opcode e) refl
  by_entry (listed []) e = rw (shape_places v opcode [] e) refl
  by_entry (listed (place ∷ places)) e =
      let row = place ∷ places in
      let small = digits_small v opcode row e in
      rw (shape_places v opcode row e)
      (ap is_destination (first_decoded (digits row) place places (omega arith) (decoded_digits v opcode row e)))

  pub begins_destination_lem : is_destination (place_by (places_field (shape_of v opcode) % 128)) ≡ begins_destination (entry_of v opcode)
  begins_destination_lem = by_entry (entry_of v opcode) refl
