-- Document 01, "The numbers given back": the order within one instruction. "OPCODE, BITS, RUN-OUT, operands left to right
-- (an operand beyond the stated size is SIZE; each token: layout, then type), SIZE for tokens left over".
-- Positions count from the instruction's first token.
use Rattle.std.specs.Prelude.{ℕ, ◌+◌, List, [], ◌∷◌, eqb, leb, length, take, drop}
use Rattle.paper.specs.Notation.{pick}
use Rattle.paper.specs.Versions.{has_sizes}
use Rattle.paper.specs.Numbers.{refusal, refusal_at_bit}
use Rattle.paper.specs.OpcodeTable.{DCL}
use Rattle.paper.specs.Places.{Place, relative, Entry, absent, listed, entry_of}
use Rattle.paper.specs.InstructionToken.{opcode_of, stated_size, is_predicated, with_predicate, bits_laid, comment_opcode, comment_length, comment_laid, end_opcode, end_token}
use Rattle.paper.specs.OperandTokens.{token_at, brings_relative, left_over}
use Rattle.paper.specs.Dcl.{declaration}
use Rattle.paper.specs.Blocks.{class_of}
use Rattle.paper.specs.declared.Version.{Version}
use Rattle.paper.specs.declared.Reason.{Reason}
use Rattle.paper.specs.declared.Reason.TheVariants.{Opcode as OPCODE, Bits as BITS, RunOut as RUN_OUT, Size as SIZE}
use Rattle.paper.specs.Judgements.{Token, good_token, bad_token, Taken, operand_taken, operand_refused, Operands, good_operands, bad_operands, Judged, good_instruction, bad_instruction}
use Rattle.paper.specs.declared.Class.{Class}
use Rattle.paper.specs.declared.Class.TheVariants.{One, Closes}
use Rattle.paper.specs.declared.Single.TheVariants.{Comment}
use Rattle.paper.specs.declared.Closer.TheVariants.{End}

-- how many tokens an instruction of the table claims behind its first one: its stated size; where there is none "the opcode alone gives the
-- cutting" (document 02, Q-4), a token to an operand
abbrev pub claimed : Version → ℕ → List Place → ℕ
claimed v token places = pick (has_sizes v) (stated_size token) (length places)

-- what an instruction's first token says by itself: a refusal; END; a comment and its length; another instruction, the places of its operands
-- and what it claims
pub data Head : Type 0 where
  broken : Reason → Head
  end : Head
  comment : ℕ → Head
  operation : List Place → ℕ → Head

abbrev pub head_of : Version → ℕ → Entry → Head
head_of v token absent = broken OPCODE
head_of v token (listed places) =
    pick (bits_laid v token places) (operation (with_predicate (is_predicated token) places) (claimed v token places)) (broken BITS)

unfoldable pub token_head : Version → ℕ → Head
token_head v token =
    pick (eqb (opcode_of token) comment_opcode) (pick (comment_laid token) (comment (comment_length token)) (broken BITS))
    (pick (eqb (opcode_of token) end_opcode) (pick (eqb token end_token) end (broken BITS))
    (head_of v token (entry_of v (opcode_of token))))

-- an operand takes one or two of the tokens that are left, or is refused
abbrev pub on_token : Token → ℕ → Taken → Taken
on_token good_token offset next = next
on_token (bad_token reason bit) offset next = operand_refused (refusal_at_bit reason offset bit)

abbrev pub relative_token : Version → ℕ → List ℕ → Taken
relative_token v offset [] = operand_refused (refusal SIZE 0)
relative_token v offset (token ∷ rest) = on_token (token_at v relative token) offset (operand_taken 2)

unfoldable pub operand : Version → Place → ℕ → List ℕ → Taken
operand v place offset [] = operand_refused (refusal SIZE 0)
operand v place offset (token ∷ rest) =
    on_token (token_at v place token) offset
    (pick (brings_relative place token) (relative_token v (offset + 1) rest) (operand_taken 1))

abbrev pub on_taken : Taken → (ℕ → Operands) → Operands
on_taken (operand_taken n) next = next n
on_taken (operand_refused r) next = bad_operands r

-- the places from left to right, with the offset of the next token and the tokens of the stated size that are left
unfoldable pub operands : Version → List Place → ℕ → List ℕ → Operands
operands v [] offset tokens = left_over tokens
operands v (place ∷ rest) offset tokens =
    on_taken (operand v place offset tokens) (λ n. operands v rest (offset + n) (drop n tokens))

-- the operands of an instruction, in the tokens that it claims; DCL's have rules of their own
abbrev pub operands_of : Version → ℕ → List Place → List ℕ → Operands
operands_of v opcode places behind = pick (eqb opcode DCL) (declaration v behind) (operands v places 1 behind)

abbrev pub on_operands : Operands → ℕ → Class → Judged
on_operands good_operands size class = good_instruction size class
on_operands (bad_operands r) size class = bad_instruction r

-- the claim of any instruction
abbrev pub claim : Head → ℕ
claim (broken reason) = 0
claim end = 0
claim (comment size) = size
claim (operation places size) = size

-- an instruction with this opcode, where the tokens that it claims are there
abbrev pub on_claimed : Version → Head → ℕ → List ℕ → Judged
on_claimed v (broken reason) opcode behind = bad_instruction (refusal reason 0)
on_claimed v end opcode behind = good_instruction 0 (Closes End)
on_claimed v (comment size) opcode behind = good_instruction size (One Comment)
on_claimed v (operation places size) opcode behind = on_operands (operands_of v opcode places behind) size (class_of opcode)

-- "stated size or comment length passes the end"
abbrev pub within : ℕ → List ℕ → Judged → Judged
within size rest next = pick (leb size (length rest)) next (bad_instruction (refusal RUN_OUT 0))

abbrev pub by_head : Version → Head → ℕ → List ℕ → Judged
by_head v head opcode rest = within (claim head) rest (on_claimed v head opcode (take (claim head) rest))

-- "no token where an instruction must start" is RUN-OUT at the token count
unfoldable pub judged : Version → List ℕ → Judged
judged v [] = bad_instruction (refusal RUN_OUT 0)
judged v (token ∷ rest) = by_head v (token_head v token) (opcode_of token) rest
