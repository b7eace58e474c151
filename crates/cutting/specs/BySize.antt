-- Cutting by stated sizes alone, as a driver jumps: no operand is looked at, and no table. In a version without sizes "the opcode alone gives the
-- cutting" (document 02, Q-4): the table says how many operands it has.
use Rattle.std.specs.Prelude.{ℕ, List, length}
use Rattle.paper.specs.Notation.{pick}
use Rattle.paper.specs.Versions.{has_sizes}
use Rattle.paper.specs.InstructionToken.{opcode_of, stated_size, comment_length}
use Rattle.paper.specs.Places.{Entry, absent, listed, entry_of}
use Rattle.paper.specs.declared.Version.{Version}
use Rattle.cutting.specs.CutBy.{Rule, is_comment, is_end_token, cut_whole_by}

-- how many operands the opcode has
abbrev operands_in : Entry → ℕ
operands_in absent = 0
operands_in (listed places) = length places

abbrev pub by_opcode : Version → ℕ → ℕ
by_opcode v opcode = operands_in (entry_of v opcode)

-- a comment takes its length, END nothing, anything else its bits 27:24, or what its opcode says
abbrev pub by_stated_size : Version → Rule
by_stated_size v first rest =
    pick (is_comment first) (comment_length first)
    (pick (is_end_token first) 0 (pick (has_sizes v) (stated_size first) (by_opcode v (opcode_of first))))

abbrev pub by_sizes : Version → List ℕ → List (List ℕ)
by_sizes v tokens = cut_whole_by (by_stated_size v) tokens
