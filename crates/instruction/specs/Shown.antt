-- An instruction by the shape of its opcode, and by the tokens that are shown of it.
use Rattle.std.specs.Prelude.{ℕ, List, eqb, leb, length, take}
use Rattle.paper.specs.Notation.{pick}
use Rattle.paper.specs.Numbers.{refusal}
use Rattle.paper.specs.InstructionToken.{opcode_of, comment_opcode, comment_length, comment_laid, end_opcode, end_token}
use Rattle.paper.specs.Instruction.{Head, broken, end, comment, operation, token_head, claim, on_claimed}
use Rattle.paper.specs.Places.{Place}
use Rattle.paper.specs.declared.Version.{Version}
use Rattle.paper.specs.declared.Reason.TheVariants.{Opcode as OPCODE, Bits as BITS, RunOut as RUN_OUT}
use Rattle.paper.specs.declared.Single.TheVariants.{Comment}
use Rattle.paper.specs.declared.Closer.TheVariants.{End}
use Rattle.paper.specs.declared.Class.TheVariants.{One, Closes}
use Rattle.paper.specs.Judgements.{Judged, good_instruction, bad_instruction}
use Rattle.places.specs.Places.{decoded}
use Rattle.instruction_token.specs.ByShape.{claim_by, places_by}

-- what a first token says whose opcode has this shape, and whose bits are as they must be
abbrev pub places_in : ℕ → ℕ → List Place
places_in shape first = decoded (places_by shape first)

abbrev pub listed_head : ℕ → ℕ → Head
listed_head shape first = operation (places_in shape first) (claim_by shape first)

-- Of the tokens behind an instruction's first one, these are shown and so many are left in all. A comment claims tokens that need not be
-- shown; what another instruction claims must be.
abbrev pub room_for : Head → ℕ → ℕ → ℕ
room_for (broken reason) shown left = shown
room_for end shown left = shown
room_for (comment size) shown left = left
room_for (operation places size) shown left = shown

abbrev pub judged_with : Version → Head → ℕ → List ℕ → ℕ → Judged
judged_with v h first behind left =
    pick (leb (claim h) (room_for h (length behind) left)) (on_claimed v h (opcode_of first) (take (claim h) behind)) (bad_instruction (refusal RUN_OUT 0))

unfoldable pub judged_in : Version → ℕ → List ℕ → ℕ → Judged
judged_in v first behind left = judged_with v (token_head v first) first behind left

-- the same where no row of the table lists the opcode: a comment, END, or OPCODE
unfoldable pub unlisted_in : ℕ → ℕ → Judged
unlisted_in first left =
    pick (eqb (opcode_of first) comment_opcode)
    (pick (comment_laid first)
    (pick (leb (comment_length first) left) (good_instruction (comment_length first) (One Comment)) (bad_instruction (refusal RUN_OUT 0)))
    (bad_instruction (refusal BITS 0)))
    (pick (eqb (opcode_of first) end_opcode) (pick (eqb first end_token) (good_instruction 0 (Closes End)) (bad_instruction (refusal BITS 0)))
    (bad_instruction (refusal OPCODE 0)))
