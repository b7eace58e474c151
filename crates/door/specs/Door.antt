-- The door: lawful instructions of the common kind, told of by a few tests.
use Rattle.std.specs.Prelude.{ℕ, ◌≡◌, Bool, true, false, List, Option, Some, None, MatchOption, eqb, length}
use Rattle.paper.specs.Notation.{pick}
use Rattle.paper.specs.Versions.{has_sizes}
use Rattle.paper.specs.OperandTokens.{is_free, typed, type_of}
use Rattle.paper.specs.Places.{Place}
use Rattle.paper.specs.InstructionToken.{opcode_of, stated_size, unsized_bits_laid}
use Rattle.paper.specs.declared.Version.{Version}
use Rattle.paper.specs.Judgements.{Taken, operand_taken, operand_refused, Operands, good_operands, bad_operands, Judged, good_instruction, bad_instruction}
use Rattle.versions.specs.Sets.{holds}
use Rattle.shapes.specs.Classes.{class_number}
use Rattle.uniform.specs.Uniform.{uniform_of, row_of}
use Rattle.instruction_token.specs.ByShape.{has_zeros}
use Rattle.told.specs.Numbered.{yes_number}
use Rattle.instruction.specs.Shown.{judged_in}
use Rattle.door.specs.declared.Wanted.{Wanted}

-- how many tokens an operand takes, if it is not refused
abbrev pub took_in : Taken → Option ℕ
took_in (operand_taken n) = Some n
took_in (operand_refused r) = None

abbrev pub is_fit : Operands → Bool
is_fit good_operands = true
is_fit (bad_operands r) = false

-- a set is that of a place's types, and the place is free exactly if sizes are stated
pub record Meant (v : Version) (place : Place) (set : ℕ) : Type 0 where
  pub types : (token : ℕ) → holds set (type_of token) ≡ typed v place (type_of token)
  pub free : is_free place ≡ has_sizes v

-- the common kind: no predicate and no controls; where no size is stated, bits 31:16 as they must be
abbrev pub is_common : Version → ℕ → Bool
is_common v first = pick (has_sizes v) (has_zeros first) (unsized_bits_laid v first)

-- so many operands of a uniform row, if the instruction is of the common kind; else 0
abbrev pub count_of : Version → ℕ → ℕ
count_of v first = pick (is_common v first) (uniform_of v (opcode_of first)).count 0

-- what it claims
abbrev pub claim_for : Version → ℕ → ℕ → ℕ
claim_for v first count = pick (has_sizes v) (stated_size first) count

-- what is asked of the tokens behind a first one
pub record Wants (v : Version) (first : ℕ) (r : Wanted) : Type 0 where
  pub some : r.row.count ≡ 0 → ⊥
  pub many : r.row.count ≡ count_of v first
  pub claims : r.claim ≡ claim_for v first r.row.count
  pub writes : r.row.written ≡ (row_of v (opcode_of first)).written
  pub reads : r.row.read ≡ (row_of v (opcode_of first)).read

-- nothing, where there are no such operands
abbrev pub Asked : Version → ℕ → Option Wanted → Type 0
Asked v first r = MatchOption r (count_of v first ≡ 0) (Wants v first)

-- what is told of a good instruction
abbrev pub yes_of : Judged → Option ℕ
yes_of (good_instruction size class) = Some (yes_number size (class_number class))
yes_of (bad_instruction r) = None

-- the door tells what the judge does of a good instruction of the common kind with a uniform row, and nothing of any other
unfoldable pub passed : Version → ℕ → List ℕ → Option ℕ
passed v first behind = pick (eqb (count_of v first) 0) None (yes_of (judged_in v first behind (length behind)))
