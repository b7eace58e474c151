-- Exact rows: the first token of an instruction without a predicate, controls or relative operands is one number, which its opcode tells.
use Rattle.std.specs.Prelude.{ℕ, ◌+◌, ◌*◌, ◌/◌, ◌%◌, ◌^◌, ◌<◌, ◌≡◌, Bool, true, ◌&&◌, ◌||◌, [], ◌∷◌, Option, Some, None, eqb, length}
use Rattle.paper.specs.Notation.{pick}
use Rattle.paper.specs.Places.{free_destination, free_source, raw, source, only}
use Rattle.places.specs.Places.{digits, decoded}
use Rattle.paper.specs.OpcodeTable.{DCL}
use Rattle.paper.specs.declared.Version.{Version}
use Rattle.shapes.specs.Shape.{shape_of, places_field, rule_in, class_in}
use Rattle.opcodes.specs.Rows.{shape_from, row_of}
use Rattle.versions.specs.Rows.{rank}
use Rattle.exact.specs.declared.Kind.{Kind}
use Rattle.exact.specs.declared.Kind.TheVariants.{Empty, Ds, Dss, Dsss, Sampled, Source, Constant, Other}

-- rows of places as one number: a free destination and so many free sources, and a sampler behind the first source
abbrev pub ds : ℕ
ds = digits (free_destination ∷ free_source ∷ [])

abbrev pub dss : ℕ
dss = digits (free_destination ∷ free_source ∷ free_source ∷ [])

abbrev pub dsss : ℕ
dsss = digits (free_destination ∷ free_source ∷ free_source ∷ free_source ∷ [])

abbrev pub sampled : ℕ
sampled = digits (free_destination ∷ free_source ∷ source (only (10 ∷ [])) ∷ [])

-- one raw operand, and four
abbrev pub one_raw : ℕ
one_raw = digits (raw ∷ [])

abbrev pub four_raws : ℕ
four_raws = digits (raw ∷ raw ∷ raw ∷ raw ∷ [])

-- a place of one type, by its number: what DEF, DEFI and DEFB write; what REP, CALL and LABEL, and BREAKP read
abbrev pub one_destination : ℕ → Bool
one_destination n = eqb n 34 || (eqb n 39 || eqb n 46)

abbrev pub one_source : ℕ → Bool
one_source n = eqb n 71 || (eqb n 82 || eqb n 83)

-- the kinds of rows: 1 no place; 2 to 4 a free destination and one, two or three free sources; 5 with a sampler; 6 one source of one type; 7 a
-- destination of one type and raw operands; 0 any other
abbrev pub kind_of : ℕ → ℕ
kind_of places =
    pick (eqb places 0) 1
    (pick (eqb places ds) 2
    (pick (eqb places dss) 3
    (pick (eqb places dsss) 4
    (pick (eqb places sampled) 5
    (pick (one_source places) 6
    (pick (one_destination (places % 128) && (eqb (places / 128) one_raw || eqb (places / 128) four_raws)) 7 0))))))

-- what the upper half of such a token is: the size in its place, and else zeros
abbrev pub upper_half : ℕ → ℕ
upper_half places = 2 ^ 8 * length (decoded places)

abbrev pub no_row : ℕ
no_row = 0xFFFF

-- bits 15:0 the upper half, 19:16 the versions, 23:20 the kind, 27:24 the class, 34:28 the first place; a comparison, whose controls are never zero,
-- has no such row
abbrev pub exact_by : ℕ → ℕ → ℕ
exact_by versions shape =
    pick (eqb (rule_in shape) 1 || eqb (kind_of (places_field shape)) 0) no_row
    (upper_half (places_field shape)
    + (2 ^ 16 * versions + (2 ^ 20 * kind_of (places_field shape) + (2 ^ 24 * class_in shape + 2 ^ 28 * (places_field shape % 128)))))

unfoldable pub exact_row : ℕ → ℕ
exact_row opcode = pick (eqb (row_of opcode) 0) no_row (exact_by (row_of opcode % shape_from) (row_of opcode / shape_from))

-- the fields of a row
abbrev pub upper_in : ℕ → ℕ
upper_in row = row % 2 ^ 16

abbrev pub size_in : ℕ → ℕ
size_in row = row / 2 ^ 8 % 2 ^ 8

abbrev pub listed_in : ℕ → ℕ → ℕ
listed_in row rank = row / 2 ^ (rank + 16) % 2

abbrev pub kind_in : ℕ → ℕ
kind_in row = row / 2 ^ 20 % 16

abbrev pub kind_by : ℕ → Kind
kind_by number =
    pick (eqb number 1) Empty
    (pick (eqb number 2) Ds
    (pick (eqb number 3) Dss
    (pick (eqb number 4) Dsss
    (pick (eqb number 5) Sampled
    (pick (eqb number 6) Source
    (pick (eqb number 7) Constant (Other number)))))))

-- the numbers of the kinds
abbrev pub kind_number : Kind → ℕ
kind_number Empty = 1
kind_number Ds = 2
kind_number Dss = 3
kind_number Dsss = 4
kind_number Sampled = 5
kind_number Source = 6
kind_number Constant = 7
kind_number (Other number) = number

abbrev pub exact_class : ℕ → ℕ
exact_class row = row / 2 ^ 24 % 16

abbrev pub first_place : ℕ → ℕ
first_place row = row / 2 ^ 28

-- the row of an opcode, if the version lists it
abbrev pub row_in : Version → ℕ → Option ℕ
row_in v opcode = pick (eqb (listed_in (exact_row opcode) (rank v)) 1) (Some (exact_row opcode)) None

-- the places of a kind, from the first one and the upper half
abbrev pub places_of : ℕ → ℕ
places_of row =
    pick (eqb (kind_in row) 1) 0
    (pick (eqb (kind_in row) 2) ds
    (pick (eqb (kind_in row) 3) dss
    (pick (eqb (kind_in row) 4) dsss
    (pick (eqb (kind_in row) 5) sampled
    (pick (eqb (kind_in row) 6) (first_place row)
    (first_place row + 128 * pick (eqb (upper_in row) (2 ^ 8 * 2)) one_raw four_raws))))))

-- what is known of a row by itself
pub record Known (row : ℕ) : Type 0 where
  pub upper : upper_in row ≡ upper_half (places_of row)
  pub kind : kind_in row ≡ 0 → ⊥
  pub few : kind_in row < 8
  pub plain : eqb (kind_in row) 1 || (eqb (kind_in row) 6 || eqb (exact_class row) 1) ≡ true
  pub one_source_lem : kind_in row ≡ 6 → one_source (first_place row) ≡ true
  pub one_destination_lem : kind_in row ≡ 7 → one_destination (first_place row) ≡ true

-- what a row tells of an opcode in a version that it lists
pub record Exactly (v : Version) (opcode row : ℕ) : Type 0 where
  pub places : places_field (shape_of v opcode) ≡ places_of row
  pub rule : rule_in (shape_of v opcode) % 2 ≡ 0
  pub class : class_in (shape_of v opcode) ≡ exact_class row
  pub other : opcode ≡ DCL → ⊥
  pub there : shape_of v opcode ≡ 0 → ⊥
  pub known : Known row
