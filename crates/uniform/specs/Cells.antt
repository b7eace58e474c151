-- The cells of an opcode in the code's tables, as one number.
use Rattle.std.specs.Prelude.{ℕ, ◌+◌, ◌*◌, ◌^◌, List, [], ◌∷◌, eqb}
use Rattle.paper.specs.Notation.{pick}
use Rattle.paper.specs.Versions.{base_versions}
use Rattle.paper.specs.declared.Version.{Version}
use Rattle.paper.specs.declared.Version.TheVariants.{V1, P11, P12, P13, P14}
use Rattle.versions.specs.Rows.{rank}
use Rattle.uniform.specs.Uniform.{kind_of, uniform_of}

-- how many operands a version has of an opcode, and the first of the versions with sizes that has any
abbrev pub count_in : Version → ℕ → ℕ
count_in v opcode = (uniform_of v opcode).count

abbrev pub first_count : List Version → ℕ → ℕ
first_count [] opcode = 0
first_count (v ∷ vs) opcode = pick (eqb (count_in v opcode) 0) (first_count vs opcode) (count_in v opcode)

-- the bit of its rank for a version that has so many
abbrev pub count_bits : List Version → ℕ → ℕ → ℕ
count_bits [] opcode count = 0
count_bits (v ∷ vs) opcode count = pick (eqb (count_in v opcode) count) (2 ^ rank v) 0 + count_bits vs opcode count

unfoldable pub free_cells : ℕ → ℕ
free_cells opcode =
    pick (eqb (first_count base_versions opcode) 0) 0
    (first_count base_versions opcode + 8 * count_bits base_versions opcode (first_count base_versions opcode))

-- a digit of base 32 for each version without sizes, the number of the kind
unfoldable pub first_cells : ℕ → ℕ
first_cells opcode = kind_of P11 opcode + 32 * (kind_of P12 opcode + 32 * (kind_of P13 opcode + 32 * (kind_of P14 opcode + 32 * kind_of V1 opcode)))
