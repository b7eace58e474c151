-- The record of an instruction by the number of its class and the shape of its opcode, as the code has them.
use Rattle.std.specs.Prelude.{ℕ, suc, ◌+◌, ◌≤◌, ◌≡◌, Bool, List, [], ◌∷◌, eqb, length, drop}
use Rattle.paper.specs.Notation.{pick}
use Rattle.paper.specs.InstructionToken.{opcode_of, with_predicate, comment_length}
use Rattle.paper.specs.Places.{Place, is_predicate}
use Rattle.paper.specs.declared.Version.{Version}
use Rattle.paper.specs.declared.Single.TheVariants.{Comment}
use Rattle.paper.specs.declared.Closer.TheVariants.{End}
use Rattle.paper.specs.declared.Class.TheVariants.{One, Closes}
use Rattle.places.specs.Places.{decoded}
use Rattle.shapes.specs.Classes.{class_number}
use Rattle.shapes.specs.Shape.{shape_of}
use Rattle.instruction_token.specs.ByShape.{places_by}
use Rattle.records.specs.declared.Record.{Record}
use Rattle.records.specs.Record.{predicate_slot, width_at, array_of, end_record, comment_record, instruction_record}

-- a comment's class, END's, or that of an instruction of the table
abbrev pub by_class : {A : Type 0} → ℕ → A → A → A → A
by_class class ofComment ofEnd other =
    pick (eqb class (class_number (One Comment))) ofComment (pick (eqb class (class_number (Closes End))) ofEnd other)

-- the places of the operands
abbrev pub row_of : Version → ℕ → List Place
row_of v first = decoded (places_by (shape_of v (opcode_of first)) first)

abbrev pub row_by : ℕ → Version → ℕ → List Place
row_by class v first = by_class class [] [] (row_of v first)

abbrev pub record_by : ℕ → Version → ℕ → List ℕ → Record
record_by class v first behind =
    by_class class (comment_record (comment_length first)) end_record (instruction_record first (array_of (row_of v first) behind))

-- how many tokens the operands of a row take
unfoldable pub width_of : List Place → List ℕ → ℕ
width_of [] tokens = 0
width_of (place ∷ places) tokens = width_at place tokens + width_of places (drop (width_at place tokens) tokens)

-- how many places the array has to hold in token order
unfoldable pub ordered : List Place → ℕ
ordered [] = 0
ordered (place ∷ places) = pick (is_predicate place) (ordered places) (suc (ordered places))

-- the tokens of a row are there, and the array has a place for each operand
pub record Readable (places : List Place) (tokens : List ℕ) : Type 0 where
  pub there : width_of places tokens ≤ length tokens
  pub few : ordered places ≤ predicate_slot

-- the tokens of a row and of the predicate are there, and no place of the row is the predicate's
pub record ReadableRow (predicated : Bool) (row : List Place) (tokens : List ℕ) : Type 0 where
  pub there : width_of (with_predicate predicated row) tokens ≤ length tokens
  pub all_ordered : ordered row ≡ length row
