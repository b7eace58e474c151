-- What is said of a token at its place, of an operand, of the operands of an instruction, of an instruction and of a stream. A refusal of an
-- instruction's tokens counts its position from the instruction.
use Rattle.std.specs.Prelude.{ℕ, Option, Some, None, Result, Ok, Err}
use Rattle.paper.specs.declared.Reason.{Reason}
use Rattle.paper.specs.declared.Fault.{Fault}
use Rattle.paper.specs.declared.Refusal.{Refusal}
use Rattle.paper.specs.declared.Class.{Class}
use Rattle.paper.specs.declared.Instruction.{Instruction}

-- one token, judged at its place: good, or why not, and the bit
pub data Token : Type 0 where
  good_token : Token
  bad_token : Reason → ℕ → Token

-- the same, as code gives back what is wrong with it
abbrev pub as_token : Option Fault → Token
as_token None = good_token
as_token (Some f) = bad_token f.reason f.bit

-- one operand: how many tokens it takes
pub data Taken : Type 0 where
  operand_taken : ℕ → Taken
  operand_refused : Refusal → Taken

-- the operands of an instruction: they take its tokens, no fewer and no more
pub data Operands : Type 0 where
  good_operands : Operands
  bad_operands : Refusal → Operands

-- one instruction: how many tokens it takes behind its first one, and its class
pub data Judged : Type 0 where
  good_instruction : ℕ → Class → Judged
  bad_instruction : Refusal → Judged

-- the same, as code gives it back
abbrev pub as_judged : Result Instruction Refusal → Judged
as_judged (Ok i) = good_instruction i.size i.class
as_judged (Err r) = bad_instruction r

-- a whole stream: the number of its instructions
abbrev pub Verdict : Type 0
Verdict = Result ℕ Refusal
