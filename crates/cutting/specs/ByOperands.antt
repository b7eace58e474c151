-- Cutting by operands alone: no stated size is looked at.
use Rattle.std.specs.Prelude.{ℕ, suc, List, [], ◌∷◌, eqb, drop}
use Rattle.paper.specs.Notation.{pick}
use Rattle.paper.specs.OpcodeTable.{DCL}
use Rattle.paper.specs.InstructionToken.{opcode_of, comment_length, is_predicated, with_predicate}
use Rattle.paper.specs.OperandTokens.{brings_relative}
use Rattle.paper.specs.declared.Version.{Version}
use Rattle.paper.specs.Places.{Entry, absent, listed, entry_of, Place}
use Rattle.cutting.specs.CutBy.{Rule, is_comment, is_end_token, cut_whole_by}

-- each place takes one token, and one more where that token brings a relative one
abbrev pub places_take : List Place → List ℕ → ℕ
places_take [] tokens = 0
places_take (place ∷ places) [] = 0
places_take (place ∷ places) (token ∷ rest) =
    pick (brings_relative place token) (suc (suc (places_take places (drop 1 rest)))) (suc (places_take places rest))

-- what the opcode's row says of the places decides
abbrev pub entry_takes : ℕ → List ℕ → Entry → ℕ
entry_takes first rest absent = 0
entry_takes first rest (listed places) = places_take (with_predicate (is_predicated first) places) rest

-- a comment takes its length, END nothing, DCL its usage token and its destination, anything else what its places take
abbrev pub by_places : Version → Rule
by_places v first rest =
    pick (is_comment first) (comment_length first)
    (pick (is_end_token first) 0
    (pick (eqb (opcode_of first) DCL) 2 (entry_takes first rest (entry_of v (opcode_of first)))))

abbrev pub by_operands : Version → List ℕ → List (List ℕ)
by_operands v tokens = cut_whole_by (by_places v) tokens
