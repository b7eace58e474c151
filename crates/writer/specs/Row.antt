-- The tokens of a record that is no comment's, as the code finds them: the places of its operands are one number, the predicate's among
-- them. A record that no reading yields may be given others.
use Rattle.std.specs.Prelude.{ℕ, ◌+◌, ◌*◌, ◌^◌, Bool, List, [], ◌∷◌, eqb, length}
use Rattle.paper.specs.Notation.{pick}
use Rattle.paper.specs.InstructionToken.{end_opcode, end_token}
use Rattle.paper.specs.Places.{Place}
use Rattle.paper.specs.declared.Version.{Version}
use Rattle.places.specs.Places.{decoded}
use Rattle.shapes.specs.Shape.{shape_of}
use Rattle.instruction_token.specs.ByShape.{places_by}
use Rattle.records.specs.declared.Record.{Record}
use Rattle.records.specs.Record.{operand_count}
use Rattle.record_tokens.specs.Tokens.{instruction_token, tokens_behind}

-- an instruction has so many tokens at most: its first one, and two for each operand
abbrev pub most_encoded : ℕ
most_encoded = 1 + 2 * operand_count

-- the places of a shape, and the predicate's where the record is marked
unfoldable pub row_number : ℕ → Bool → ℕ
row_number shape marked = places_by shape (pick marked (2 ^ 28) 0)

abbrev pub row_of : Version → Record → List Place
row_of v r = decoded (row_number (shape_of v r.opcode) (eqb r.predicated 1))

abbrev pub encoded_by : Version → Record → List Place → List ℕ
encoded_by v r places = instruction_token v r (length (tokens_behind r places)) ∷ tokens_behind r places

unfoldable pub encoded_tokens : Version → Record → List ℕ
encoded_tokens v r = pick (eqb r.opcode end_opcode) (end_token ∷ []) (encoded_by v r (row_of v r))
