-- Instructions, read by the definitions.
use mathlib.Core.Path.{◌≡◌, refl}
use mathlib.Core.List.{List, [], ◌∷◌}
use Prim.Native.Nat.{ℕ}
use Rattle.paper.specs.OpcodeTable.{rows}
use Rattle.paper.specs.FirstVersions.{first_rows}
use Rattle.paper.specs.Faults.{lowest_from, lowest}
use Rattle.paper.specs.OperandTokens.{fault_at, token_at}
use Rattle.paper.specs.Dcl.{declaration}
use Rattle.paper.specs.Blocks.{class_of}
use Rattle.paper.specs.Instruction.{token_head, operand, operands, judged}
use Rattle.paper.specs.Places.{entry_of, typed_places}
use Rattle.records.specs.declared.Operand.{Operand}
use Rattle.records.specs.declared.Record.{Record}
use Rattle.records.specs.Record.{no_operand, raw_operand, no_record, end_record, comment_record, operand_of, operand_at, width_at, in_order, predicate_or, array_of, record_of}
use Rattle.reader.specs.Reading.{reading_at, reading, ToldReading, told_reading}

tells : ℕ → List ℕ → ℕ → ToldReading
tells version tokens at = told_reading (reading version tokens at)

yes : ℕ → Record → ToldReading
yes next instruction = record { number = 0; position = 0; detail = 0; next = next; instruction = instruction }

abbrev at_bit : ℕ → ℕ → ℕ → ToldReading
at_bit number position bit = record { number = number; position = position; detail = bit; next = 0; instruction = no_record }

no : ℕ → ℕ → ToldReading
no number position = at_bit number position 0

-- a register, and the register that it is relative to
abbrev register : ℕ → ℕ → ℕ → ℕ → ℕ → ℕ → ℕ → ℕ → ℕ → Operand
register kind number mask swizzle shift relative by_kind by_number by-swizzle =
    record {
      number = number;
      kind = kind;
      mask = mask;
      swizzle = swizzle;
      modifier = 0;
      result = 0;
      shift = shift;
      relative = relative;
      relative_number = by_number;
      relative_kind = by_kind;
      relative_swizzle = by-swizzle;
      raw = 0;
    }

-- with a mask, with a mask and a shift scale, with a swizzle, and with a swizzle and a relative register
destination : ℕ → ℕ → ℕ → Operand
destination kind number mask = register kind number mask 0 0 0 0 0 0

scaled : ℕ → ℕ → ℕ → ℕ → Operand
scaled kind number mask shift = register kind number mask 0 shift 0 0 0 0

source : ℕ → ℕ → ℕ → Operand
source kind number swizzle = register kind number 0 swizzle 0 0 0 0 0

indexed : ℕ → ℕ → ℕ → ℕ → ℕ → ℕ → Operand
indexed kind number swizzle by_kind by_number by-swizzle = register kind number 0 swizzle 0 1 by_kind by_number by-swizzle

instruction : ℕ → ℕ → List Operand → Record
instruction opcode predicated operands =
    record { opcode = opcode; controls = 0; predicated = predicated; coissue = 0; extent = 0; operands = operands }

coissued : ℕ → List Operand → Record
coissued opcode operands =
    record { opcode = opcode; controls = 0; predicated = 0; coissue = 1; extent = 0; operands = operands }

-- mov r0, c0
mov : List ℕ
mov = 0xFFFE0200 ∷ 0x02000001 ∷ 0x800F0000 ∷ 0xA0E40000 ∷ 0x0000FFFF ∷ []

mov_read : tells 0xFFFE0200 mov 1 ≡
    yes 4 (instruction 1 0 (destination 0 0 0xF ∷ source 2 0 0xE4 ∷ no_operand ∷ no_operand ∷ no_operand ∷ no_operand ∷ []))
unfolding tells yes destination source instruction mov rows entry_of typed_places token_at declaration class_of token_head operand operands judged operand_of operand_at width_at in_order predicate_or array_of record_of reading_at reading told_reading
mov_read = refl

-- (p0) mov r1, c2[a0.x]: the predicate is second among the operands and last in the record, and the index stands with its source
predicated_read : tells 0xFFFE0300 (0x14000001 ∷ 0x800F0001 ∷ 0xB0E41000 ∷ 0xA0E42002 ∷ 0xB0000000 ∷ []) 0 ≡
    yes 5 (instruction 1 1 (destination 0 1 0xF ∷ indexed 2 2 0xE4 3 0 0 ∷ no_operand ∷ no_operand ∷ no_operand ∷ source 19 0 0xE4 ∷ []))
unfolding tells yes destination source indexed instruction rows entry_of typed_places token_at declaration class_of token_head operand operands judged operand_of operand_at width_at in_order predicate_or array_of record_of reading_at reading told_reading
predicated_read = refl

-- dcl_position v0
dcl_read : tells 0xFFFE0200 (0x0200001F ∷ 0x80000000 ∷ 0x900F0000 ∷ []) 0 ≡
    yes 3 (instruction 31 0 (raw_operand 0x80000000 ∷ destination 1 0 0xF ∷ no_operand ∷ no_operand ∷ no_operand ∷ no_operand ∷ []))
unfolding tells yes destination instruction rows entry_of typed_places token_at declaration class_of token_head operand operands judged operand_of operand_at width_at in_order predicate_or array_of record_of reading_at reading told_reading
dcl_read = refl

-- add oPos, c0[a0.x], v0 in vs_1_1: the mark is kept, and no token follows
marked_read : tells 0xFFFE0101 (0x00000002 ∷ 0xC00F0000 ∷ 0xA0E42000 ∷ 0x90E40000 ∷ 0x0000FFFF ∷ []) 0 ≡
    yes 4 (instruction 2 0 (destination 4 0 0xF ∷ indexed 2 0 0xE4 0 0 0 ∷ source 1 0 0xE4 ∷ no_operand ∷ no_operand ∷ no_operand ∷ []))
unfolding tells yes destination source indexed instruction first_rows entry_of token_at declaration class_of token_head operand operands judged operand_of operand_at width_at in_order predicate_or array_of record_of reading_at reading told_reading
marked_read = refl

-- + mov_x2 r0, c0 in ps_1_1: co-issue and the shift scale are kept
coissued_read : tells 0xFFFF0101 (0x40000001 ∷ 0x810F0000 ∷ 0xA0E40000 ∷ []) 0 ≡
    yes 3 (coissued 1 (scaled 0 0 0xF 1 ∷ source 2 0 0xE4 ∷ no_operand ∷ no_operand ∷ no_operand ∷ no_operand ∷ []))
unfolding tells yes scaled source coissued first_rows entry_of token_at declaration class_of token_head operand operands judged operand_of operand_at width_at in_order predicate_or array_of record_of reading_at reading told_reading
coissued_read = refl

comment_and_end_read :
    tells 0xFFFE0200 (0x0002FFFE ∷ 7 ∷ 8 ∷ 0x0000FFFF ∷ []) 0 ∷ tells 0xFFFE0200 (0x0002FFFE ∷ 7 ∷ 8 ∷ 0x0000FFFF ∷ []) 3 ∷ [] ≡
    yes 3 (comment_record 2) ∷ yes 4 end_record ∷ []
unfolding tells yes token_head judged record_of reading_at reading told_reading
comment_and_end_read = refl

-- another version; a place at the end and one past it; a refusal inside an instruction
refused_read :
    tells 0xFFFE0201 mov 1 ∷ tells 0xFFFE0200 mov 5 ∷ tells 0xFFFE0200 mov 9 ∷ tells 0xFFFE0200 [] 0 ∷
    tells 0xFFFE0200 (0 ∷ 0x02000001 ∷ 0x800F4000 ∷ 0xA0E40000 ∷ []) 1 ∷ tells 0xFFFE0200 (0 ∷ 0x02000001 ∷ 0x800F0000 ∷ 0xA7E40000 ∷ []) 1 ∷ [] ≡
    no 2 0 ∷ no 5 5 ∷ no 5 5 ∷ no 5 0 ∷ at_bit 16 2 14 ∷ at_bit 17 3 24 ∷ []
unfolding tells no mov rows entry_of typed_places lowest_from lowest fault_at token_at declaration class_of token_head operand operands judged record_of reading_at reading told_reading
refused_read = refl
