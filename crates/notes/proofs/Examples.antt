-- The shortest streams of docs/DRIVERS.md, noted by the definitions.
use mathlib.Core.Path.{◌≡◌, refl}
use mathlib.Core.List.{List, [], ◌∷◌}
use Prim.Native.Nat.{ℕ}
use Rattle.paper.specs.OpcodeTable.{rows}
use Rattle.paper.specs.FirstVersions.{first_rows}
use Rattle.paper.specs.Faults.{lowest_from, lowest}
use Rattle.paper.specs.OperandTokens.{fault_at, token_at}
use Rattle.paper.specs.Dcl.{declaration}
use Rattle.paper.specs.Blocks.{class_of}
use Rattle.paper.specs.Instruction.{token_head, operand, operands, judged}
use Rattle.paper.specs.Places.{entry_of, typed_places}
use Rattle.paper.specs.Stream.{cutting, cut_from}
use Rattle.blocks.specs.Reach.{start_of}
use Rattle.notes.specs.NotedShapes.{on_other}
use Rattle.notes.specs.Noted.{noted_in, noted_from, noted, ToldNoted, told_noted}

tells : List ℕ → ℕ → ℕ → ToldNoted
tells stream version from = told_noted (noted version stream from)

yes : ℕ → ℕ → ℕ → ℕ → ToldNoted
yes notes at comments next = record { number = 0; position = 0; detail = 0; notes = notes; at = at; comments = comments; next = next }

abbrev at_bit : ℕ → ℕ → ℕ → ToldNoted
at_bit number position bit = record { number = number; position = position; detail = bit; notes = 0; at = 0; comments = 0; next = 0 }

no : ℕ → ℕ → ToldNoted
no number position = at_bit number position 0

-- two empty comments before END, from the first one, from the second and from END on
two_empty : List ℕ
two_empty = 0xFFFE0200 ∷ 0x0000FFFE ∷ 0x0000FFFE ∷ 0x0000FFFF ∷ []

end_taken : tells two_empty 0xFFFE0200 1 ∷ tells two_empty 0xFFFE0200 2 ∷ tells two_empty 0xFFFE0200 3 ∷ [] ≡ yes 3 3 1 4 ∷ yes 2 3 2 4 ∷ yes 0 3 3 4 ∷ []
unfolding tells yes two_empty token_head judged cutting cut_from start_of noted_in noted_from noted told_noted
end_taken = refl

-- three empty comments: the third is taken; behind it a comment whose content is two ENDs stands before END
comment_taken : tells (0xFFFF0104 ∷ 0x0000FFFE ∷ 0x0000FFFE ∷ 0x0000FFFE ∷ 0x0002FFFE ∷ 0x0000FFFF ∷ 0x0000FFFF ∷ 0x0000FFFF ∷ []) 0xFFFF0104 1 ≡ yes 1 3 1 4
unfolding tells yes token_head judged cutting cut_from start_of noted_in noted_from noted told_noted
comment_taken = refl

-- sgn r0, r0, r0, r0 in vs_3_0, and in vs_2_0
sgn : List ℕ
sgn = 0xFFFE0300 ∷ 0x04000022 ∷ 0x800F0000 ∷ 0x80E40000 ∷ 0x80E40000 ∷ 0x80E40000 ∷ 0x0000FFFF ∷ []

sgn_short : tells sgn 0xFFFE0300 1 ∷ tells sgn 0xFFFE0200 1 ∷ [] ≡ yes 4 1 1 6 ∷ yes 0 6 6 7 ∷ []
unfolding tells yes sgn rows entry_of typed_places token_at declaration class_of token_head operand operands judged cutting cut_from start_of on_other noted_in noted_from noted told_noted
sgn_short = refl

-- (p0) mov o[aL + 0], c0: a predicate and a relative destination; nop before END, whose token has bit 13
predicate_and_destination :
    tells (0xFFFE0300 ∷ 0x14000001 ∷ 0xE00F2000 ∷ 0xF0E40800 ∷ 0xB0E41000 ∷ 0xA0E40000 ∷ 0x0000FFFF ∷ []) 0xFFFE0300 1 ∷
    tells (0xFFFE0300 ∷ 0x00000000 ∷ 0x0000FFFF ∷ []) 0xFFFE0300 1 ∷ [] ≡ yes 24 1 1 6 ∷ yes 0 2 2 3 ∷ []
unfolding tells yes rows entry_of typed_places token_at declaration class_of token_head operand operands judged cutting cut_from start_of on_other noted_in noted_from noted told_noted
predicate_and_destination = refl

-- (p0) texkill r0 in ps_3_0 has none; + phase in ps_1_4
texkill_and_phase :
    tells (0xFFFF0300 ∷ 0x12000041 ∷ 0x800F0000 ∷ 0xB0E41000 ∷ 0x0000FFFF ∷ []) 0xFFFF0300 1 ∷
    tells (0xFFFF0104 ∷ 0x4000FFFD ∷ 0x0000FFFF ∷ []) 0xFFFF0104 1 ∷ [] ≡ yes 0 4 4 5 ∷ yes 32 1 1 2 ∷ []
unfolding tells yes rows first_rows entry_of typed_places token_at declaration class_of token_head operand operands judged cutting cut_from start_of on_other noted_in noted_from noted told_noted
texkill_and_phase = refl

-- another version, a place past the end, no END, an instruction that is refused, and one for a bit
refused : tells two_empty 0xFFFE0201 1 ∷ tells two_empty 0xFFFE0200 9 ∷ tells (0x0000FFFE ∷ []) 0xFFFE0200 0 ∷ tells (0x0000FFFE ∷ 0x0000002C ∷ []) 0xFFFE0200 0 ∷
    tells (0x0000FFFE ∷ 0x01000028 ∷ 0xE0E46800 ∷ []) 0xFFFE0200 0 ∷ [] ≡ no 2 0 ∷ no 5 4 ∷ no 5 1 ∷ no 3 1 ∷ at_bit 16 2 14 ∷ []
unfolding tells no two_empty rows entry_of typed_places lowest_from lowest fault_at token_at declaration class_of token_head operand operands judged cutting cut_from start_of on_other noted_in noted_from noted told_noted
refused = refl
