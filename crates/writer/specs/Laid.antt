-- Whether a record's fields are as reading gives them: each within its bits, and zero where its place has none; and what else the code tests.
use Rattle.std.specs.Prelude.{ℕ, ◌+◌, ◌-◌, ◌^◌, ◌≡◌, Bool, true, false, ◌&&◌, List, [], ◌∷◌, eqb, leb, ltb, length, take, drop, get_or, Option, Some, None}
use Rattle.paper.specs.Notation.{pick, bit}
use Rattle.paper.specs.InstructionToken.{opcode_of, controls_of, is_coissued, comment_opcode, end_opcode, end_token}
use Rattle.paper.specs.OperandTokens.{is_free}
use Rattle.paper.specs.Judgements.{Judged, good_instruction, bad_instruction}
use Rattle.paper.specs.Places.{Place, is_raw, is_destination, is_predicate}
use Rattle.records.specs.declared.Operand.{Operand}
use Rattle.records.specs.Record.{predicate_slot, no_operand, raw_operand}
use Rattle.records.specs.ByClass.{ordered}
use Rattle.record_tokens.specs.Tokens.{comment_token}
use Rattle.writer.specs.Same.{same_operand}
use Rattle.writer.specs.Buffer.{word, Put}
use Rattle.writer.specs.Decided.{longest_comment}

-- a raw operand, a destination and a source, and what is relative to each
abbrev pub raw_fits : Operand → Bool
raw_fits o = same_operand (raw_operand (word o.raw)) o

abbrev pub destination_fits : Operand → Bool
destination_fits o =
    ltb o.number (2 ^ 11)
    && (ltb o.kind 32
    && (ltb o.relative 2
    && (ltb o.mask 16 && (ltb o.result 8 && (ltb o.shift 16 && (eqb o.swizzle 0 && (eqb o.modifier 0 && eqb o.raw 0)))))))

abbrev pub source_fits : Operand → Bool
source_fits o =
    ltb o.number (2 ^ 11)
    && (ltb o.kind 32
    && (ltb o.relative 2
    && (ltb o.swizzle (2 ^ 8) && (ltb o.modifier 16 && (eqb o.mask 0 && (eqb o.result 0 && (eqb o.shift 0 && eqb o.raw 0)))))))

abbrev pub relative_fits : Operand → Bool
relative_fits o = ltb o.relative_number (2 ^ 11) && (ltb o.relative_kind 32 && ltb o.relative_swizzle (2 ^ 8))

abbrev pub relative_none : Operand → Bool
relative_none o = eqb o.relative_number 0 && (eqb o.relative_kind 0 && eqb o.relative_swizzle 0)

-- an operand at a place
unfoldable pub fits : Place → Operand → Bool
fits place o =
    pick (is_raw place) (raw_fits o)
    (pick (is_destination place) (destination_fits o) (source_fits o) && pick (is_free place && eqb o.relative 1) (relative_fits o) (relative_none o))

-- the operands of a row of places, as their tokens are put
unfoldable pub row_fits : List Place → List Operand → Operand → Bool
row_fits [] in_order predicated = true
row_fits (place ∷ places) in_order predicated =
    pick (is_predicate place) (fits place predicated && row_fits places in_order predicated)
    (fits place (get_or in_order 0 no_operand) && row_fits places (drop 1 in_order) predicated)

-- unused places are zero
unfoldable pub all_unused : List Operand → Bool
all_unused [] = true
all_unused (o ∷ rest) = same_operand no_operand o && all_unused rest

-- behind those in token order, and the predicate's where the record is not marked
abbrev pub unused_from : ℕ → List Operand → Bool
unused_from held operands = all_unused (take (predicate_slot - held) (drop held operands))

abbrev pub predicate_unused : Bool → List Operand → Bool
predicate_unused marked operands = pick marked true (same_operand no_operand (get_or operands predicate_slot no_operand))

unfoldable pub array_fits : List Place → Bool → List Operand → Bool
array_fits row marked operands =
    row_fits row operands (get_or operands predicate_slot no_operand) && (predicate_unused marked operands && unused_from (ordered row) operands)

-- a first token that says these fields
abbrev pub says_fields : ℕ → ℕ → ℕ → ℕ → ℕ → Bool
says_fields token opcode controls predicated coissue =
    eqb (opcode_of token) opcode && (eqb (controls_of token) controls && (eqb (bit 28 token) predicated && eqb (is_coissued token) coissue))

-- a record that has nothing but its opcode and its length, lent a body of so many tokens
unfoldable pub bare_fits : ℕ → ℕ → ℕ → Bool
bare_fits opcode size n =
    eqb n size && pick (eqb opcode comment_opcode) (leb n longest_comment) (eqb opcode end_opcode && eqb n 0)

abbrev pub bare_token : ℕ → ℕ → ℕ
bare_token opcode size = pick (eqb opcode comment_opcode) (comment_token size) end_token

-- tokens that are judged good as one instruction
abbrev pub is_whole : Judged → ℕ → Bool
is_whole (good_instruction size class) n = eqb (size + 1) n
is_whole (bad_instruction r) n = false

-- tokens stored at the front of a room if a test holds: how many, or none if it does not
pub record PutIf (test : Bool) (tokens room : List ℕ) (next : Option ℕ) (after : List ℕ) : Type 0 where
  pub fails : next ≡ None → test ≡ false
  pub passes : {n : ℕ} → next ≡ Some n → test ≡ true
  pub put : {n : ℕ} → next ≡ Some n → Put tokens room 0 n after
  pub long : length after ≡ length room
