-- Document 01, "The numbers given back", with document 02's Q-3.
use Rattle.std.specs.Prelude.{ℕ, suc, ◌+◌, ◌*◌, eqb, Option, Some, None, Ok, Err}
use Rattle.paper.specs.Notation.{pick}
use Rattle.paper.specs.Versions.{version_token}
use Rattle.paper.specs.Judgements.{Token, good_token, bad_token, Judged, good_instruction, bad_instruction, Verdict}
use Rattle.paper.specs.declared.Version.{Version}
use Rattle.paper.specs.declared.Reason.{Reason}
use Rattle.paper.specs.declared.Reason.TheVariants.{Length as LENGTH, Version as VERSION, Opcode as OPCODE, Bits as BITS, RunOut as RUN_OUT, Size as SIZE, Register as REGISTER, Block as BLOCK, Depth as DEPTH, Tail as TAIL, Place as PLACE, Room as ROOM, Record as RECORD, Reserved as RESERVED, Modifier as MODIFIER, Relative as RELATIVE}
use Rattle.paper.specs.declared.Refusal.{Refusal}
use Rattle.paper.specs.declared.Single.TheVariants.{Plain}
use Rattle.paper.specs.declared.Class.{Class}
use Rattle.paper.specs.declared.Class.TheVariants.{One}

-- Q-3: "Number 7 goes out of use. Refusals: 16 RESERVED, 17 MODIFIER, 18 RELATIVE"
abbrev pub number_of : Reason → ℕ
number_of LENGTH = 1
number_of VERSION = 2
number_of OPCODE = 3
number_of BITS = 4
number_of RUN_OUT = 5
number_of SIZE = 6
number_of REGISTER = 8
number_of BLOCK = 9
number_of DEPTH = 10
number_of TAIL = 11
number_of PLACE = 12
number_of ROOM = 13
number_of RECORD = 14
number_of RESERVED = 16
number_of MODIFIER = 17
number_of RELATIVE = 18

-- the reason that has a number
abbrev pub reason_by : ℕ → Reason
reason_by n =
    pick (eqb n 1) LENGTH
    (pick (eqb n 2) VERSION
    (pick (eqb n 3) OPCODE
    (pick (eqb n 4) BITS
    (pick (eqb n 5) RUN_OUT
    (pick (eqb n 6) SIZE
    (pick (eqb n 8) REGISTER
    (pick (eqb n 9) BLOCK
    (pick (eqb n 10) DEPTH
    (pick (eqb n 11) TAIL
    (pick (eqb n 12) PLACE
    (pick (eqb n 13) ROOM
    (pick (eqb n 14) RECORD
    (pick (eqb n 16) RESERVED
    (pick (eqb n 17) MODIFIER RELATIVE))))))))))))))

abbrev pub refusal : Reason → ℕ → Refusal
refusal reason position = record { reason = reason; position = position; detail = 0 }

-- Q-3: "each with the bit"
abbrev pub refusal_at_bit : Reason → ℕ → ℕ → Refusal
refusal_at_bit reason position bit = record { reason = reason; position = position; detail = bit }

-- a refusal with its position moved: what else it says stays
abbrev pub moved_by : (ℕ → ℕ) → Refusal → Refusal
moved_by to r = record { reason = r.reason; position = to r.position; detail = r.detail }

-- what a check tells: a number, a position, a detail, and of a yes the number of instructions
pub record ToldVerdict : Type 0 where
  pub number : ℕ
  pub position : ℕ
  pub detail : ℕ
  pub instructions : ℕ

-- a yes has number 0, position 0 and detail 0, a refusal tells of no instructions
abbrev pub told : Verdict → ToldVerdict
told (Ok n) = record { number = 0; position = 0; detail = 0; instructions = n }
told (Err r) = record { number = number_of r.reason; position = r.position; detail = r.detail; instructions = 0 }

-- what is told of a version: a yes has number 0 and gives the first token that names the version; a token that names none is VERSION
pub record ToldNamed : Type 0 where
  pub number : ℕ
  pub token : ℕ

unfoldable pub told_named : Option Version → ToldNamed
told_named (Some v) = record { number = 0; token = version_token v }
told_named None = record { number = number_of VERSION; token = 0 }

-- what is told of one fault: its number, and above it the bit
abbrev pub fault_of : Reason → ℕ → ℕ
fault_of reason bit = number_of reason + 32 * bit

-- what is told of one token: 0, or its fault
abbrev pub told_token : Token → ℕ
told_token good_token = 0
told_token (bad_token reason bit) = fault_of reason bit

-- what is told of one instruction: a yes has number 0, position 0 and detail 0, and gives how many tokens it takes and its class; a refusal takes
-- none
pub record ToldInstruction : Type 0 where
  pub number : ℕ
  pub position : ℕ
  pub detail : ℕ
  pub takes : ℕ
  pub class : Class

unfoldable pub told_instruction : Judged → ToldInstruction
told_instruction (good_instruction size class) = record { number = 0; position = 0; detail = 0; takes = suc size; class = class }
told_instruction (bad_instruction r) =
    record { number = number_of r.reason; position = r.position; detail = r.detail; takes = 0; class = One Plain }
