-- The shape of an opcode in a version: what the tables say of it, as one number.
use Rattle.std.specs.Prelude.{ℕ, ◌+◌, ◌*◌, ◌/◌, ◌%◌, ◌^◌, Bool, List, [], ◌∷◌, eqb, length}
use Rattle.paper.specs.Notation.{pick, among}
use Rattle.paper.specs.OpcodeTable.{IFC, BREAKC, SETP, TEX}
use Rattle.paper.specs.Versions.{has_sizes, has_coissue}
use Rattle.paper.specs.InstructionToken.{may_be_predicated}
use Rattle.paper.specs.Blocks.{class_of}
use Rattle.paper.specs.declared.Version.{Version}
use Rattle.paper.specs.Places.{Place, Entry, absent, listed, entry_of}
use Rattle.places.specs.Places.{digits}
use Rattle.shapes.specs.Classes.{class_number}

-- which rule the controls obey: 0 they are zero, 1 they are 1 to 6, 2 they are 0 to 2, 3 they are zero and so is the size
abbrev pub sizeless : ℕ
sizeless = 3

abbrev pub controls_rule : Version → ℕ → ℕ
controls_rule v opcode = pick (has_sizes v) (pick (among opcode (IFC ∷ BREAKC ∷ SETP ∷ [])) 1 (pick (eqb opcode TEX) 2 0)) sizeless

-- how many tokens an instruction claims beyond its stated size
abbrev pub unstated : Version → List Place → ℕ
unstated v places = pick (has_sizes v) 0 (length places)

abbrev pub marked : Bool → ℕ
marked mark = pick mark 1 0

-- bits 34:0 the places, bit 35 whether the instruction may be predicated, 37:36 the rule of the controls, bit 38 one, bit 39 whether it may be
-- co-issued, 42:40 what it claims beyond its stated size, 46:43 the class; an opcode that is not in the table has shape 0
abbrev pub shape_in : Version → ℕ → Entry → ℕ
shape_in v opcode absent = 0
shape_in v opcode (listed places) =
    digits places
    + (2 ^ 35 * marked (may_be_predicated v opcode places)
    + (2 ^ 36 * controls_rule v opcode
    + (2 ^ 38 + (2 ^ 39 * marked (has_coissue v) + (2 ^ 40 * unstated v places + 2 ^ 43 * class_number (class_of opcode))))))

unfoldable pub shape_of : Version → ℕ → ℕ
shape_of v opcode = shape_in v opcode (entry_of v opcode)

-- the fields of a shape, read back
abbrev pub places_field : ℕ → ℕ
places_field shape = shape % 2 ^ 35

abbrev pub predicable_in : ℕ → Bool
predicable_in shape = eqb (shape / 2 ^ 35 % 2) 1

abbrev pub rule_in : ℕ → ℕ
rule_in shape = shape / 2 ^ 36 % 4

abbrev pub coissue_in : ℕ → Bool
coissue_in shape = eqb (shape / 2 ^ 39 % 2) 1

abbrev pub unstated_in : ℕ → ℕ
unstated_in shape = shape / 2 ^ 40 % 8

abbrev pub class_in : ℕ → ℕ
class_in shape = shape / 2 ^ 43
