-- Document 01, "Records": the tokens that a record stands for. "A comment's record holds its length; the writer is lent the body."
use Rattle.std.specs.Prelude.{ℕ, ◌+◌, ◌*◌, ◌/◌, ◌%◌, ◌^◌, ◌<◌, ◌&&◌, List, [], ◌∷◌, ◌++◌, eqb, length, take, drop, get_or}
use Rattle.paper.specs.Notation.{pick}
use Rattle.paper.specs.Versions.{has_sizes}
use Rattle.paper.specs.OperandTokens.{is_free}
use Rattle.paper.specs.InstructionToken.{comment_opcode, end_opcode, end_token, with_predicate}
use Rattle.paper.specs.Instruction.{Head, broken, end, comment, operation, token_head}
use Rattle.paper.specs.declared.Version.{Version}
use Rattle.paper.specs.Places.{Entry, absent, listed, entry_of, Place, is_raw, is_predicate}
use Rattle.records.specs.declared.Operand.{Operand}
use Rattle.records.specs.declared.Record.{Record}
use Rattle.records.specs.Record.{predicate_slot, no_operand}

-- each token is a number of 32 bits
unfoldable pub Words : List ℕ → Type 0
Words tokens = (k : ℕ) → get_or tokens k 0 < 2 ^ 32

-- a token of these fields, each in its bits; bits 15:14 are zero and bit 31 is one
abbrev pub token_of : ℕ → ℕ → ℕ → ℕ → ℕ
token_of number kind relative high =
    number + (2 ^ 11 * (kind / 8) + (2 ^ 13 * relative + (2 ^ 16 * high + (2 ^ 28 * (kind % 8) + 2 ^ 31))))

-- bits 27:16: a destination has its mask, its result modifier and its shift scale there, a source its swizzle and its modifier, and the
-- other's are zero
abbrev pub middle_of : Operand → ℕ
middle_of operand = operand.mask + operand.swizzle + (2 ^ 4 * operand.result + 2 ^ 8 * (operand.modifier + operand.shift))

unfoldable pub operand_token : Operand → ℕ
operand_token operand = token_of operand.number operand.kind operand.relative (middle_of operand)

unfoldable pub relative_token_of : Operand → ℕ
relative_token_of operand = token_of operand.relative_number operand.relative_kind 0 operand.relative_swizzle

unfoldable pub operand_tokens : Place → Operand → List ℕ
operand_tokens place operand =
    pick (is_raw place) (operand.raw ∷ [])
    (operand_token operand ∷ pick (is_free place && eqb operand.relative 1) (relative_token_of operand ∷ []) [])

-- the operands of a row of places: those in token order one after the other, and the predicate where the row has it
unfoldable pub row_tokens : List Place → List Operand → Operand → List ℕ
row_tokens [] in_order predicated = []
row_tokens (place ∷ places) in_order predicated =
    pick (is_predicate place) (operand_tokens place predicated ++ row_tokens places in_order predicated)
    (operand_tokens place (get_or in_order 0 no_operand) ++ row_tokens places (drop 1 in_order) predicated)

-- "Bits 27:24 are the size without this token." "Bit 28 says predicated"; "co-issue bit 30"
abbrev pub head_token : ℕ → ℕ → ℕ → ℕ → ℕ → ℕ
head_token opcode controls size predicated coissue =
    opcode + (2 ^ 16 * controls + (2 ^ 24 * size + (2 ^ 28 * predicated + 2 ^ 30 * coissue)))

-- the size of so many tokens, where the version states one
abbrev pub size_in : Version → ℕ → ℕ
size_in v n = pick (has_sizes v) n 0

abbrev pub instruction_token : Version → Record → ℕ → ℕ
instruction_token v r n = head_token r.opcode r.controls (size_in v n) r.predicated r.coissue

abbrev pub comment_token : ℕ → ℕ
comment_token n = comment_opcode + 2 ^ 16 * n

abbrev pub record_places : Record → List Place → List Place
record_places r places = with_predicate (eqb r.predicated 1) places

abbrev pub tokens_behind : Record → List Place → List ℕ
tokens_behind r places = row_tokens places r.operands (get_or r.operands predicate_slot no_operand)

abbrev pub listed_tokens : Version → Record → Entry → List ℕ
listed_tokens v r absent = []
listed_tokens v r (listed places) = instruction_token v r (length (tokens_behind r (record_places r places))) ∷ tokens_behind r (record_places r places)

-- the tokens of a record, with a comment's body
unfoldable pub tokens_of : Version → Record → List ℕ → List ℕ
tokens_of v r body =
    pick (eqb r.opcode comment_opcode) (comment_token r.extent ∷ body)
    (pick (eqb r.opcode end_opcode) (end_token ∷ [])
    (listed_tokens v r (entry_of v r.opcode)))

-- the body that a comment has among its tokens; any other instruction has none
abbrev pub body_on : Head → List ℕ → List ℕ
body_on (broken reason) rest = []
body_on end rest = []
body_on (comment n) rest = take n rest
body_on (operation places size) rest = []

unfoldable pub comment_body : Version → List ℕ → List ℕ
comment_body v [] = []
comment_body v (first ∷ rest) = body_on (token_head v first) rest
