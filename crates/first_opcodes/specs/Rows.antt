-- The row of an opcode in ps_1_1 to ps_1_3, as one number: they have one shape of it, those of them that have it.
use Rattle.std.specs.Prelude.{ℕ, ◌+◌, ◌*◌, ◌/◌, ◌%◌, ◌^◌, not, eqb}
use Rattle.paper.specs.Notation.{pick}
use Rattle.paper.specs.declared.Version.{Version}
use Rattle.paper.specs.declared.Version.TheVariants.{P11, P12, P13}
use Rattle.shapes.specs.Shape.{marked, shape_of}

abbrev listing : Version → ℕ → ℕ
listing v opcode = marked (not (eqb (shape_of v opcode) 0))

-- a bit for each of the three, above them the shape, which ps_1_3 has of every opcode that the others have
unfoldable pub early_row : ℕ → ℕ
early_row opcode = listing P11 opcode + (2 * listing P12 opcode + (4 * listing P13 opcode + 8 * shape_of P13 opcode))

-- what a row says of the version of a rank
abbrev pub early_shape : ℕ → ℕ → ℕ
early_shape row rank = pick (eqb (row / 2 ^ rank % 2) 0) 0 (row / 8)
