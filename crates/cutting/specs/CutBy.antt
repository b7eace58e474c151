-- Cutting by a rule that says of an instruction's first token, and of the tokens behind it, how many of these are the instruction's.
use Rattle.std.specs.Prelude.{ℕ, zero, suc, Bool, List, [], ◌∷◌, eqb, length, take, drop}
use Rattle.paper.specs.Notation.{pick}
use Rattle.paper.specs.InstructionToken.{opcode_of, comment_opcode, end_token}

abbrev pub Rule : Type 0
Rule = ℕ → List ℕ → ℕ

abbrev pub is_end_token : ℕ → Bool
is_end_token token = eqb token end_token

abbrev pub is_comment : ℕ → Bool
is_comment token = eqb (opcode_of token) comment_opcode

-- chunk by chunk up to END; the first number bounds how many there are
unfoldable pub cut_by : Rule → ℕ → List ℕ → List (List ℕ)
cut_by rule zero tokens = []
cut_by rule (suc most) [] = []
cut_by rule (suc most) (first ∷ rest) =
    (first ∷ take (rule first rest) rest) ∷ pick (is_end_token first) [] (cut_by rule most (drop (rule first rest) rest))

-- there are no more chunks than tokens
abbrev pub cut_whole_by : Rule → List ℕ → List (List ℕ)
cut_whole_by rule tokens = cut_by rule (length tokens) tokens
