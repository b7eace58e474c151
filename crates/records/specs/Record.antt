-- Document 01, "Records", with document 02's Q-4: "A record holds opcode, controls, the predicated mark and a fixed array of operands, each with
-- its fields and its relative token's. Unused places are zero, so one instruction has one record. A comment's record holds its length; .. END has a record too."
use Rattle.std.specs.Prelude.{ℕ, zero, suc, List, [], ◌∷◌, ◌++◌, take, drop, get_or}
use Rattle.paper.specs.Notation.{bits, bit, pick}
use Rattle.paper.specs.InstructionToken.{opcode_of, controls_of, is_coissued, comment_opcode, comment_length, end_opcode}
use Rattle.paper.specs.OperandTokens.{number_field, type_of, modifier_of, brings_relative}
use Rattle.paper.specs.Instruction.{Head, broken, end, comment, operation, token_head}
use Rattle.paper.specs.declared.Version.{Version}
use Rattle.paper.specs.Places.{Place, is_raw, is_destination, is_predicate}
use Rattle.records.specs.declared.Operand.{Operand}
use Rattle.records.specs.declared.Record.{Record}

-- the fields that "Operand tokens" names, beside the number, the type and the modifier
abbrev pub mask_of : ℕ → ℕ
mask_of token = bits 19 16 token

abbrev pub result_of : ℕ → ℕ
result_of token = bits 22 20 token

abbrev pub swizzle_of : ℕ → ℕ
swizzle_of token = bits 23 16 token

-- "Destination bits 27:24, the shift scale"
abbrev pub shift_of : ℕ → ℕ
shift_of token = bits 27 24 token

-- R and U are held as they stand
abbrev pub raw_operand : ℕ → Operand
raw_operand token =
    record {
      number = 0;
      kind = 0;
      mask = 0;
      swizzle = 0;
      modifier = 0;
      result = 0;
      shift = 0;
      relative = 0;
      relative_number = 0;
      relative_kind = 0;
      relative_swizzle = 0;
      raw = token;
    }

-- an unused place
abbrev pub no_operand : Operand
no_operand = raw_operand 0

-- a destination and its relative token, 0 where it has none; in vs_1_1 a source whose bit 13 is one has none
abbrev pub destination_operand : ℕ → ℕ → Operand
destination_operand token relative =
    record {
      number = number_field token;
      kind = type_of token;
      mask = mask_of token;
      swizzle = 0;
      modifier = 0;
      result = result_of token;
      shift = shift_of token;
      relative = bit 13 token;
      relative_number = number_field relative;
      relative_kind = type_of relative;
      relative_swizzle = swizzle_of relative;
      raw = 0;
    }

abbrev pub source_operand : ℕ → ℕ → Operand
source_operand token relative =
    record {
      number = number_field token;
      kind = type_of token;
      mask = 0;
      swizzle = swizzle_of token;
      modifier = modifier_of token;
      result = 0;
      shift = 0;
      relative = bit 13 token;
      relative_number = number_field relative;
      relative_kind = type_of relative;
      relative_swizzle = swizzle_of relative;
      raw = 0;
    }

-- the operand of a place, from its token and its relative token
unfoldable pub operand_of : Place → ℕ → ℕ → Operand
operand_of place token relative =
    pick (is_raw place) (raw_operand token)
    (pick (is_destination place) (destination_operand token relative) (source_operand token relative))

-- how many of the tokens that are left an operand takes, and the operand
unfoldable pub width_at : Place → List ℕ → ℕ
width_at place tokens = pick (brings_relative place (get_or tokens 0 0)) 2 1

unfoldable pub operand_at : Place → List ℕ → Operand
operand_at place tokens =
    operand_of place (get_or tokens 0 0) (pick (brings_relative place (get_or tokens 0 0)) (get_or tokens 1 0) 0)

-- the operands of a row of places in token order, but for the predicate's
unfoldable pub in_order : List Place → List ℕ → List Operand
in_order [] tokens = []
in_order (place ∷ places) tokens =
    pick (is_predicate place) (in_order places (drop (width_at place tokens) tokens))
    (operand_at place tokens ∷ in_order places (drop (width_at place tokens) tokens))

-- the predicate's operand, wherever it stands in the row; another where the row has none
unfoldable pub predicate_or : Operand → List Place → List ℕ → Operand
predicate_or other [] tokens = other
predicate_or other (place ∷ places) tokens =
    predicate_or (pick (is_predicate place) (operand_at place tokens) other) places (drop (width_at place tokens) tokens)

-- so many places, the unused ones zero
abbrev pub padded : ℕ → List Operand → List Operand
padded zero operands = []
padded (suc n) [] = no_operand ∷ padded n []
padded (suc n) (operand ∷ operands) = operand ∷ padded n operands

-- "a fixed array of operands": so many, those in token order first, and the predicate's behind them
abbrev pub operand_count : ℕ
operand_count = 6

abbrev pub predicate_slot : ℕ
predicate_slot = 5

unfoldable pub array_of : List Place → List ℕ → List Operand
array_of places tokens = padded predicate_slot (in_order places tokens) ++ (predicate_or no_operand places tokens ∷ [])

-- a record without operands
abbrev pub empty_record : ℕ → ℕ → Record
empty_record opcode n = record { opcode = opcode; controls = 0; predicated = 0; coissue = 0; extent = n; operands = padded operand_count [] }

abbrev pub no_record : Record
no_record = empty_record 0 0

abbrev pub end_record : Record
end_record = empty_record end_opcode 0

abbrev pub comment_record : ℕ → Record
comment_record n = empty_record comment_opcode n

-- any other instruction, from its first token and its operands; "co-issue bit 30, kept in the record"
abbrev pub instruction_record : ℕ → List Operand → Record
instruction_record first operands =
    record { opcode = opcode_of first; controls = controls_of first; predicated = bit 28 first; coissue = is_coissued first; extent = 0; operands = operands }

abbrev pub record_on : Head → ℕ → List ℕ → Record
record_on (broken reason) first rest = no_record
record_on end first rest = end_record
record_on (comment n) first rest = comment_record (comment_length first)
record_on (operation places size) first rest = instruction_record first (array_of places (take size rest))

-- the record of the instruction at the front of these tokens
unfoldable pub record_of : Version → List ℕ → Record
record_of v [] = no_record
record_of v (first ∷ rest) = record_on (token_head v first) first rest
