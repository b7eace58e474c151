-- What an instruction's first token says, by the fields of its opcode's shape.
use Rattle.std.specs.Prelude.{ℕ, ◌/◌, ◌^◌, Bool, ◌&&◌, ◌||◌, eqb, leb, Option, Some, None}
use Rattle.paper.specs.Notation.{bits, bit, pick}
use Rattle.paper.specs.InstructionToken.{controls_of, stated_size, is_predicated, is_coissued}
use Rattle.places.specs.Places.{predicated_row}
use Rattle.shapes.specs.Shape.{sizeless, places_field, predicable_in, rule_in, coissue_in, unstated_in}

-- the rules of controls where a size is stated; as a rule of these the one without sizes is as rule 1, so that an odd rule alone forbids zero controls
abbrev pub controls_by : ℕ → ℕ → Bool
controls_by rule controls =
    pick (eqb rule 0) (eqb controls 0) (pick (eqb rule 2) (leb controls 2) (leb 1 controls && leb controls 6))

abbrev pub has_zeros : ℕ → Bool
has_zeros token = eqb (token / 2 ^ 28) 0 && eqb (controls_of token) 0

abbrev pub sized_by : ℕ → ℕ → Bool
sized_by shape token =
    eqb (bits 31 29 token) 0
    && (controls_by (rule_in shape) (controls_of token) && (eqb (bit 28 token) 0 || predicable_in shape))

abbrev pub unsized_by : Bool → ℕ → Bool
unsized_by coissued token = eqb (bits 29 16 token) 0 && (eqb (bit 31 token) 0 && (eqb (is_coissued token) 0 || coissued))

unfoldable pub bits_by : ℕ → ℕ → Bool
bits_by shape token = pick (eqb (rule_in shape) sizeless) (unsized_by (coissue_in shape) token) (sized_by shape token)

-- the stated size, or what the opcode claims where none is stated
abbrev pub claim_by : ℕ → ℕ → ℕ
claim_by shape token = pick (eqb (rule_in shape) sizeless) (unstated_in shape) (stated_size token)

-- the same where the bits are laid out
unfoldable pub claim_if : ℕ → ℕ → Option ℕ
claim_if shape token = pick (bits_by shape token) (Some (claim_by shape token)) None

unfoldable pub places_by : ℕ → ℕ → ℕ
places_by shape token =
    pick (is_predicated token) (predicated_row (places_field shape)) (places_field shape)
