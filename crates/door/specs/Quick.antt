-- The tests by which a token of the commonest layout is told: no relative token, and a modifier that every version with sizes has.
use Rattle.std.specs.Prelude.{ℕ, ◌+◌, ◌*◌, ◌/◌, ◌%◌, ◌^◌, ◌≤◌, ◌≡◌, Bool, false, ◌&&◌, List, [], ◌∷◌, eqb, leb, length, take}
use Rattle.paper.specs.Notation.{pick}
use Rattle.paper.specs.Versions.{is_pixel}
use Rattle.paper.specs.OperandTokens.{plain_modifiers, free_destination_types, free_source_types, token_at, brings_relative}
use Rattle.paper.specs.Places.{Place}
use Rattle.paper.specs.Instruction.{operands}
use Rattle.paper.specs.declared.Version.{Version}
use Rattle.paper.specs.Judgements.{good_token, good_operands}
use Rattle.places.specs.Places.{decoded}
use Rattle.versions.specs.Sets.{set_of, holds}
use Rattle.exact.specs.Exact.{size_in, exact_class, places_of}
use Rattle.told.specs.Numbered.{yes_number}

-- bits 31:28 of a token, and above them bits 12:11: its register type, and whether bit 31 is one
abbrev pub spot_of : ℕ → ℕ
spot_of token = token / 2 ^ 28 + 16 * (token / 2 ^ 11 % 4)

-- register types as a set of the spots of tokens whose bit 31 is one
abbrev pub wide_of : List ℕ → ℕ
wide_of [] = 0
wide_of (type ∷ types) = 2 ^ (8 + (type % 8 + 16 * (type / 8))) + wide_of types

-- the modifiers, whatever the bit above them is
abbrev pub modifier_set : ℕ
modifier_set = set_of plain_modifiers + 2 ^ 16 * set_of plain_modifiers

-- bits 15:13 are zero, and the modifier is one of these
unfoldable pub read_laid : ℕ → Bool
read_laid token = eqb (token / 2 ^ 13 % 8) 0 && holds modifier_set (token / 2 ^ 24 % 32)

-- bits 15:13 and 23 are zero, and bits 27:21 but for what a pixel version has there
abbrev pub most_results : Version → ℕ
most_results v = pick (is_pixel v) 3 0

unfoldable pub written_laid : Version → ℕ → Bool
written_laid v token = (eqb (token / 2 ^ 13 % 8) 0 && eqb (token / 2 ^ 23 % 2) 0) && leb (token / 2 ^ 21 % 128) (most_results v)

-- at a free place
unfoldable pub free_read : Version → ℕ → Bool
free_read v token = read_laid token && holds (wide_of (free_source_types v)) (spot_of token)

unfoldable pub free_written : Version → ℕ → Bool
free_written v token = written_laid v token && holds (wide_of (free_destination_types v)) (spot_of token)

-- a token that is good at its place, and brings no relative one
pub record Stands (v : Version) (place : Place) (token : ℕ) : Type 0 where
  pub good : token_at v place token ≡ good_token
  pub alone : brings_relative place token ≡ false

-- what is told of the operands of a row: they are there and fit, and an instruction of its size and class is good
pub record TellsRow (v : Version) (row : ℕ) (behind : List ℕ) (told : ℕ) : Type 0 where
  pub yes : told ≡ yes_number (size_in row) (exact_class row)
  pub there : size_in row ≤ length behind
  pub fit : operands v (decoded (places_of row)) 1 (take (size_in row) behind) ≡ good_operands
