-- Document 01, "Instruction token", with document 02's Q-2 and Q-4: its bits, the comment and END.
use Rattle.std.specs.Prelude.{ℕ, Bool, false, not, ◌&&◌, ◌||◌, List, [], ◌∷◌, eqb, leb}
use Rattle.paper.specs.Notation.{bits, bit, pick, among}
use Rattle.paper.specs.Versions.{has_sizes, has_coissue, has_predicates}
use Rattle.paper.specs.OpcodeTable.{IFC, BREAKC, SETP, TEX, DCL, DEF, DEFI, DEFB}
use Rattle.paper.specs.Places.{Place, predicate, is_destination}
use Rattle.paper.specs.declared.Version.{Version}

abbrev pub opcode_of : ℕ → ℕ
opcode_of token = bits 15 0 token

abbrev pub controls_of : ℕ → ℕ
controls_of token = bits 23 16 token

-- "Bits 27:24 are the size without this token."
abbrev pub stated_size : ℕ → ℕ
stated_size token = bits 27 24 token

-- "Bit 28 says predicated"
abbrev pub is_predicated : ℕ → Bool
is_predicated token = eqb (bit 28 token) 1

-- "a D below"
abbrev pub has_destination : List Place → Bool
has_destination [] = false
has_destination (place ∷ places) = is_destination place || has_destination places

-- "only V3 and P3, and only with a D below other than DCL, DEF, DEFI, DEFB"
abbrev pub may_be_predicated : Version → ℕ → List Place → Bool
may_be_predicated v opcode places =
    has_predicates v && (has_destination places && not (among opcode (DCL ∷ DEF ∷ DEFI ∷ DEFB ∷ [])))

-- "The predicate is then one source token"; document 02, Q-2: "straight behind the destination and its relative token, before the first source".
-- An instruction that may be predicated has its destination first and sources behind it, and a relative token belongs to its operand; one that
-- has no operand may not be, and its bit 28 is BITS.
abbrev pub with_predicate : Bool → List Place → List Place
with_predicate predicated [] = []
with_predicate predicated (first ∷ sources) = first ∷ pick predicated (predicate ∷ sources) sources

-- "Bits 23:16 are 1 to 6 for IFC, BREAKC, SETP; 0 to 2 for TEX; else 0."
abbrev pub controls_laid : ℕ → ℕ → Bool
controls_laid opcode controls =
    pick (among opcode (IFC ∷ BREAKC ∷ SETP ∷ [])) (leb 1 controls && leb controls 6)
    (pick (eqb opcode TEX) (leb controls 2) (eqb controls 0))

-- "Bits 29 to 31 are zero."
abbrev pub sized_bits_laid : Version → ℕ → List Place → Bool
sized_bits_laid v token places =
    eqb (bits 31 29 token) 0
    && (controls_laid (opcode_of token) (controls_of token)
    && (eqb (bit 28 token) 0 || may_be_predicated v (opcode_of token) places))

-- Document 02, Q-4: "They have no size and no predicate (bits 24 to 28 and TEX's controls zero) ..; pixel versions have co-issue bit 30".
-- The other bits, 23:16, 29 and 31, are zero as ever.
abbrev pub is_coissued : ℕ → ℕ
is_coissued token = bit 30 token

abbrev pub unsized_bits_laid : Version → ℕ → Bool
unsized_bits_laid v token =
    eqb (bits 29 16 token) 0 && (eqb (bit 31 token) 0 && (eqb (is_coissued token) 0 || has_coissue v))

abbrev pub bits_laid : Version → ℕ → List Place → Bool
bits_laid v token places = pick (has_sizes v) (sized_bits_laid v token places) (unsized_bits_laid v token)

-- "Comment: bits 15:0 are FFFE, 30:16 the number of tokens of any content that follow, bit 31 zero."
abbrev pub comment_opcode : ℕ
comment_opcode = 0xFFFE

abbrev pub comment_length : ℕ → ℕ
comment_length token = bits 30 16 token

abbrev pub comment_laid : ℕ → Bool
comment_laid token = eqb (bit 31 token) 0

-- "END is exactly 0000FFFF."
abbrev pub end_opcode : ℕ
end_opcode = 0xFFFF

abbrev pub end_token : ℕ
end_token = 0x0000FFFF
