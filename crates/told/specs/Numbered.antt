-- What is told of an instruction and of its operands, as one number, which a machine hands on in a register: a yes is even, a refusal odd.
use Rattle.std.specs.Prelude.{ℕ, ◌+◌, ◌*◌, ◌/◌, ◌%◌, Bool, ◌==◌}
use Rattle.paper.specs.Notation.{pick}
use Rattle.paper.specs.Numbers.{fault_of, reason_by, refusal_at_bit}
use Rattle.shapes.specs.Classes.{class_number}
use Rattle.paper.specs.declared.Refusal.{Refusal}
use Rattle.paper.specs.declared.Single.TheVariants.{Comment, Plain, Break, Label, Return, Phase}
use Rattle.paper.specs.declared.Opener.TheVariants.{If, Loop, Rep}
use Rattle.paper.specs.declared.Closer.TheVariants.{Else, EndIf, EndLoop, EndRep, End}
use Rattle.paper.specs.declared.Class.{Class}
use Rattle.paper.specs.declared.Class.TheVariants.{One, Opens, Closes}
use Rattle.paper.specs.Judgements.{Taken, operand_taken, operand_refused, Operands, good_operands, bad_operands, Judged, good_instruction, bad_instruction}

-- a yes: the tokens that an instruction takes behind its first one, and the number of its class
abbrev pub yes_number : ℕ → ℕ → ℕ
yes_number size class = 32 * size + 2 * class

-- a refusal: what is told of its fault, which is the paper's number of its reason and above it the bit, and its position
abbrev pub fault_number : ℕ → ℕ → ℕ
fault_number fault position = 2048 * position + (2 * fault + 1)

abbrev pub refusal_number : Refusal → ℕ
refusal_number r = fault_number (fault_of r.reason r.detail) r.position

abbrev pub judged_number : Judged → ℕ
judged_number (good_instruction size class) = yes_number size (class_number class)
judged_number (bad_instruction r) = refusal_number r

-- an operand that takes so many tokens; operands that fit
abbrev pub took_number : ℕ → ℕ
took_number n = 2 * n

abbrev pub taken_number : Taken → ℕ
taken_number (operand_taken n) = took_number n
taken_number (operand_refused r) = refusal_number r

abbrev pub operands_number : Operands → ℕ
operands_number good_operands = 0
operands_number (bad_operands r) = refusal_number r

-- back from the number: whether it is a refusal's; the tokens that an operand takes; of a yes the size and the number of the class, whether it
-- is a plain instruction's, which has class 1, and whether a PHASE's, which has class 13
abbrev pub is_refusal : ℕ → Bool
is_refusal told = told % 2 == 1

abbrev pub taken_in : ℕ → ℕ
taken_in told = told / 2

abbrev pub size_in : ℕ → ℕ
size_in told = told / 32

abbrev pub kind_in : ℕ → ℕ
kind_in told = told / 2 % 16

abbrev pub is_plain : ℕ → Bool
is_plain told = told % 32 == 2

abbrev pub tells_phase : ℕ → Bool
tells_phase told = told % 32 == 26

-- of a refusal the number, the bit and the position
abbrev pub number_in : ℕ → ℕ
number_in told = told / 2 % 32

abbrev pub bit_in : ℕ → ℕ
bit_in told = told / 64 % 32

abbrev pub position_in : ℕ → ℕ
position_in told = told / 2048

-- the class
abbrev pub class_by : ℕ → Class
class_by n =
    pick (n == 0) (One Comment)
    (pick (n == 1) (One Plain)
    (pick (n == 2) (One Break)
    (pick (n == 3) (One Label)
    (pick (n == 4) (One Return)
    (pick (n == 5) (Opens If)
    (pick (n == 6) (Opens Loop)
    (pick (n == 7) (Opens Rep)
    (pick (n == 8) (Closes Else)
    (pick (n == 9) (Closes EndIf)
    (pick (n == 10) (Closes EndLoop)
    (pick (n == 11) (Closes EndRep)
    (pick (n == 13) (One Phase) (Closes End)))))))))))))

unfoldable pub judged_from : ℕ → Judged
judged_from n =
    pick (is_refusal n) (bad_instruction (refusal_at_bit (reason_by (number_in n)) (position_in n) (bit_in n))) (good_instruction (size_in n) (class_by (kind_in n)))
