-- Document 01, "Shop pieces to run and prove": those marked *, of the definitions, under one claim.
use mathlib.Core.Path.{◌≡◌, refl}
use mathlib.Core.Bool.{Bool, true, ◌&&◌}
use mathlib.Core.List.{List, [], ◌∷◌}
use Prim.Native.Nat.{ℕ}
use lib.Dec.{eqb}
use lib.ListN.{length}
use Rattle.paper.specs.Numbers.{ToldVerdict}
use Rattle.paper.specs.OpcodeTable.{rows}
use Rattle.paper.specs.Faults.{lowest_from, lowest}
use Rattle.paper.specs.OperandTokens.{fault_at, token_at}
use Rattle.paper.specs.Dcl.{declaration}
use Rattle.paper.specs.Instruction.{token_head, operand, operands, judged}
use Rattle.paper.specs.Blocks.{classes, class_of}
use Rattle.paper.specs.Walk.{walk}
use Rattle.paper.specs.Stream.{cutting, cut_from, walked, verdict, checked}
use Rattle.paper.specs.Places.{entry_of, typed_places}
use Rattle.edit.specs.Boundaries.{standing, standing_at}
use Rattle.edit.specs.Edit.{meets_at_end, edited, edited_in, ToldEdit, told_edit}

-- what is asked of a stream: a check, or an edit from i to j by a run, in a buffer that the stream fills
data Asked : Type 0 where
  check : Asked
  edit : ℕ → ℕ → List ℕ → Asked

-- an answer: its number, position and detail; of a yes the count of instructions, or the new length; and whether it is JOINED
record Answer : Type 0 where
  number : ℕ
  position : ℕ
  detail : ℕ
  value : ℕ
  joined : ℕ

abbrev answer : ℕ → ℕ → ℕ → ℕ → Answer
answer number position value joined = record { number = number; position = position; detail = 0; value = value; joined = joined }

-- a fault of an operand's layout, with the bit
abbrev at_bit : ℕ → ℕ → ℕ → Answer
at_bit number position bit = record { number = number; position = position; detail = bit; value = 0; joined = 0 }

abbrev of_check : ToldVerdict → Answer
of_check told =
    record { number = told.number; position = told.position; detail = told.detail; value = told.instructions; joined = 0 }

abbrev of_edit : ToldEdit → Answer
of_edit told =
    record { number = told.number; position = told.position; detail = told.detail; value = told.tokens; joined = told.joined }

abbrev given : List ℕ → Asked → Answer
given tokens check = of_check (checked tokens)
given tokens (edit i j run) = of_edit (told_edit (edited_in tokens (length tokens) i j run))

record Piece : Type 0 where
  tokens : List ℕ
  asked : Asked
  told : Answer

abbrev piece : List ℕ → Asked → Answer → Piece
piece tokens asked told = record { tokens = tokens; asked = asked; told = told }

abbrev same : Answer → Answer → Bool
same a b =
    eqb a.number b.number
    && (eqb a.position b.position && (eqb a.detail b.detail && (eqb a.value b.value && eqb a.joined b.joined)))

abbrev all_told : List Piece → Bool
all_told [] = true
all_told (p ∷ ps) = same (given p.tokens p.asked) p.told && all_told ps

unfoldable pieces : List Piece
pieces =
    -- the empty shader
    piece (0xFFFE0200 ∷ 0x0000FFFF ∷ []) check (answer 0 0 0 0) ∷
    -- one token alone
    piece (0xFFFE0200 ∷ []) check (answer 1 0 0 0) ∷
    -- M: mov r0, c0
    piece (0xFFFE0200 ∷ 0x02000001 ∷ 0x800F0000 ∷ 0xA0E40000 ∷ 0x0000FFFF ∷ []) check (answer 0 0 1 0) ∷
    -- M, one token too few stated
    piece (0xFFFE0200 ∷ 0x01000001 ∷ 0x800F0000 ∷ 0xA0E40000 ∷ 0x0000FFFF ∷ []) check (answer 6 1 0 0) ∷
    -- M, a size that passes the end
    piece (0xFFFE0200 ∷ 0x04000001 ∷ 0x800F0000 ∷ 0xA0E40000 ∷ 0x0000FFFF ∷ []) check (answer 5 1 0 0) ∷
    -- M with a reserved bit
    piece (0xFFFE0200 ∷ 0x02000001 ∷ 0x800F4000 ∷ 0xA0E40000 ∷ 0x0000FFFF ∷ []) check (at_bit 16 2 14) ∷
    -- M, its source given a modifier that vs_2_0 has not
    piece (0xFFFE0200 ∷ 0x02000001 ∷ 0x800F0000 ∷ 0xA0E40000 ∷ 0x0000FFFF ∷ []) (edit 1 4 (0x02000001 ∷ 0x800F0000 ∷ 0xA7E40000 ∷ [])) (at_bit 17 3 24) ∷
    -- M made relative at a destination
    piece (0xFFFE0200 ∷ 0x02000001 ∷ 0x800F2000 ∷ 0xA0E40000 ∷ 0x0000FFFF ∷ []) check (at_bit 18 2 13) ∷
    -- END with a stray bit
    piece (0xFFFE0200 ∷ 0x0001FFFF ∷ []) check (answer 4 1 0 0) ∷
    -- no END
    piece (0xFFFE0200 ∷ 0x00000000 ∷ []) check (answer 5 2 0 0) ∷
    -- a token behind END
    piece (0xFFFE0200 ∷ 0x0000FFFF ∷ 0x0000FFFF ∷ []) check (answer 11 2 0 0) ∷
    -- an IF left open
    piece (0xFFFE0200 ∷ 0x01000028 ∷ 0xE0E40800 ∷ 0x0000FFFF ∷ []) check (answer 9 3 0 0) ∷
    -- BREAK in V2
    piece (0xFFFE0200 ∷ 0x0000002C ∷ 0x0000FFFF ∷ []) check (answer 3 1 0 0) ∷
    -- E without its ELSE
    piece (0xFFFE0200 ∷ 0x01000028 ∷ 0xE0E40800 ∷ 0x0000002A ∷ 0x0000002B ∷ 0x0000FFFF ∷ []) (edit 3 4 []) (answer 0 0 5 0) ∷
    -- E without its IF
    piece (0xFFFE0200 ∷ 0x01000028 ∷ 0xE0E40800 ∷ 0x0000002A ∷ 0x0000002B ∷ 0x0000FFFF ∷ []) (edit 1 3 []) (answer 9 1 0 0) ∷
    []

shop_pieces : all_told pieces ≡ true
unfolding pieces edited_in edited meets_at_end standing_at standing verdict walked cut_from cutting walk class_of classes judged token_head operand operands declaration token_at fault_at lowest lowest_from typed_places entry_of rows
shop_pieces = refl
