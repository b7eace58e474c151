-- The row of an opcode, as one number: what the code's table has for it.
use Rattle.std.specs.Prelude.{ℕ, ◌+◌, ◌*◌, ◌^◌, List, [], ◌∷◌, eqb, length}
use Rattle.paper.specs.Notation.{pick}
use Rattle.paper.specs.Versions.{base_versions}
use Rattle.paper.specs.declared.Version.{Version}
use Rattle.paper.specs.declared.Version.TheVariants.{V3}
use Rattle.paper.specs.Places.{entry_of}
use Rattle.versions.specs.Rows.{rank}
use Rattle.shapes.specs.Shape.{shape_in}

-- the shape of an opcode by the letters of a version, predicable as in V3 and P3
abbrev pub predicable_shape : Version → ℕ → ℕ
predicable_shape v opcode = shape_in V3 opcode (entry_of v opcode)

-- the shape of the row: that of the first version that lists the opcode
abbrev pub first_shape : List Version → ℕ → ℕ
first_shape [] opcode = 0
first_shape (v ∷ vs) opcode = pick (eqb (predicable_shape v opcode) 0) (first_shape vs opcode) (predicable_shape v opcode)

abbrev pub row_shape : ℕ → ℕ
row_shape opcode = first_shape base_versions opcode

-- the opcode that has one shape in V2 and P2 and another in V3 and P3
abbrev pub sincos : ℕ
sincos = 37

-- the bit of its rank for a version that has a shape; SINCOS alone has another in V3 and P3
abbrev pub version_bits : List Version → ℕ → ℕ → ℕ
version_bits [] opcode shape = 0
version_bits (v ∷ vs) opcode shape = pick (eqb (predicable_shape v opcode) shape) (2 ^ rank v) 0 + version_bits vs opcode shape

-- the versions lowest, above them the shape; an opcode that is not in the table has row 0
abbrev pub shape_from : ℕ
shape_from = 2 ^ length base_versions

unfoldable pub row_of : ℕ → ℕ
row_of opcode = pick (eqb (row_shape opcode) 0) 0 (version_bits base_versions opcode (row_shape opcode) + shape_from * row_shape opcode)
