-- One instruction of each kind from documents 01 and 02, the readings of them, and an independent assembler's streams, good and refused: the definitions, computed.
use Rattle.std.specs.Prelude.{Ok, Err}
use mathlib.Core.Path.{◌≡◌, refl}
use mathlib.Core.Bool.{Bool, true, ◌&&◌}
use mathlib.Core.List.{List, [], ◌∷◌}
use Prim.Native.Nat.{ℕ, suc}
use lib.Dec.{eqb}
use Rattle.paper.specs.Numbers.{refusal, ToldInstruction, told_instruction}
use Rattle.paper.specs.OpcodeTable.{rows}
use Rattle.paper.specs.FirstVersions.{first_rows}
use Rattle.paper.specs.Places.{entry_of, typed_places}
use Rattle.paper.specs.Faults.{lowest, lowest_from}
use Rattle.paper.specs.OperandTokens.{fault_at, token_at}
use Rattle.paper.specs.Dcl.{declared_fault, usage_fault, declaration}
use Rattle.paper.specs.Instruction.{token_head, operand, operands, judged}
use Rattle.paper.specs.Blocks.{Cut, out, then, classes, class_of}
use Rattle.paper.specs.Walk.{begin, walk}
use Rattle.paper.specs.Stream.{cutting, cut_from, walked, verdict, checked}
use Rattle.paper.specs.declared.Version.{Version}
use Rattle.paper.specs.declared.Version.TheVariants.{V2, V3, P2, P3, V1, P11, P12, P13, P14}
use Rattle.paper.specs.declared.Single.TheVariants.{Plain, Phase}
use Rattle.paper.specs.declared.Opener.TheVariants.{If}
use Rattle.paper.specs.declared.Closer.TheVariants.{EndIf, End}
use Rattle.paper.specs.declared.Class.{Class}
use Rattle.paper.specs.declared.Class.TheVariants.{One, Opens, Closes}
use Rattle.paper.specs.declared.Reason.TheVariants.{Block as BLOCK}
use Rattle.paper.specs.Judgements.{Verdict}

record Vector : Type 0 where
  version : Version
  tokens : List ℕ
  number : ℕ
  position : ℕ
  detail : ℕ
  takes : ℕ

abbrev vector : Version → List ℕ → ℕ → ℕ → ℕ → Vector
vector version tokens number position takes =
    record { version = version; tokens = tokens; number = number; position = position; detail = 0; takes = takes }

-- a fault of a token's layout, with the bit
abbrev fault : Version → List ℕ → ℕ → ℕ → ℕ → Vector
fault version tokens number position bit =
    record { version = version; tokens = tokens; number = number; position = position; detail = bit; takes = 0 }

unfoldable vectors : List Vector
vectors =
    -- mov r0, c0
    vector V2 (0x02000001 ∷ 0x800F0000 ∷ 0xA0E40000 ∷ []) 0 0 3 ∷
    -- mad r4, c1[a0.x], c2[a0.y], c3[a0.w]
    vector V2 (0x07000004 ∷ 0x800F0004 ∷ 0xA0E42001 ∷ 0xB0000000 ∷ 0xA0E42002 ∷ 0xB0550000 ∷ 0xA0E42003 ∷ 0xB0FF0000 ∷ []) 0 0 8 ∷
    -- add r0, r0, c0[aL]
    vector V3 (0x04000002 ∷ 0x800F0000 ∷ 0x80E40000 ∷ 0xA0E42000 ∷ 0xF0E40800 ∷ []) 0 0 5 ∷
    -- if b0
    vector V2 (0x01000028 ∷ 0xE0E40800 ∷ []) 0 0 2 ∷
    -- texld r0, t0, s0
    vector P2 (0x03000042 ∷ 0x800F0000 ∷ 0xB0E40000 ∷ 0xA0E40800 ∷ 0x0000FFFF ∷ []) 0 0 4 ∷
    -- (p0) texkill r0
    vector P3 (0x12000041 ∷ 0x800F0000 ∷ 0xB0E41000 ∷ []) 0 0 3 ∷
    -- dcl_texcoord v0
    vector V3 (0x0200001F ∷ 0x80000005 ∷ 0x900F0000 ∷ []) 0 0 3 ∷
    -- def c0 that holds 0000FFFF
    vector P3 (0x05000051 ∷ 0xA00F0000 ∷ 0x3F800000 ∷ 0x0000FFFF ∷ 0xC0400000 ∷ 0x3E000000 ∷ []) 0 0 6 ∷
    -- a comment that holds 0000FFFF
    vector V2 (0x0001FFFE ∷ 0x0000FFFF ∷ 0x0000FFFF ∷ []) 0 0 2 ∷
    -- END, whatever follows
    vector V2 (0x0000FFFF ∷ 0x0000FFFF ∷ []) 0 0 1 ∷
    -- no token
    vector V2 [] 5 0 0 ∷
    -- BREAK in V2
    vector V2 (0x0000002C ∷ []) 3 0 0 ∷
    -- END with a stray bit
    vector V2 (0x0001FFFF ∷ []) 4 0 0 ∷
    -- the stated size passes the end
    vector V2 (0x04000001 ∷ 0x800F0000 ∷ 0xA0E40000 ∷ 0x0000FFFF ∷ []) 5 0 0 ∷
    -- one too large
    vector V2 (0x03000001 ∷ 0x800F0000 ∷ 0xA0E40000 ∷ 0x0000FFFF ∷ []) 6 0 0 ∷
    -- one too small
    vector V2 (0x01000001 ∷ 0x800F0000 ∷ 0xA0E40000 ∷ 0x0000FFFF ∷ []) 6 0 0 ∷
    -- the relative token lies beyond the size
    vector V2 (0x02000001 ∷ 0x800F0000 ∷ 0xA0E42000 ∷ []) 6 0 0 ∷
    -- a reserved bit
    fault V2 (0x02000001 ∷ 0x800F4000 ∷ 0xA0E40000 ∷ []) 16 1 14 ∷
    -- an operand before a later size
    fault V2 (0x01000001 ∷ 0x800F4000 ∷ 0xA0E40000 ∷ []) 16 1 14 ∷
    -- bit 13 at a place that is not free
    fault V3 (0x0300002E ∷ 0xB0012000 ∷ 0xF0E40800 ∷ 0xA0E40000 ∷ []) 18 1 13 ∷
    -- modifier D on a constant
    fault V2 (0x02000001 ∷ 0x800F0000 ∷ 0xADE40000 ∷ []) 17 2 24 ∷
    -- modifier D with type 19 where 19 is not allowed
    vector V2 (0x02000001 ∷ 0x800F0000 ∷ 0xBDE41000 ∷ []) 8 2 0 ∷
    -- DCL with no destination
    vector V2 (0x0100001F ∷ 0x00000000 ∷ []) 6 0 0 ∷
    -- the destination of a DCL comes first
    vector V2 (0x0300001F ∷ 0x00000000 ∷ 0x800F0000 ∷ 0x00000000 ∷ []) 8 2 0 ∷
    -- dcl_position v0
    vector P3 (0x0200001F ∷ 0x80000000 ∷ 0x900F0000 ∷ []) 0 0 3 ∷
    -- dcl_color1 v0
    vector P3 (0x0200001F ∷ 0x8001000A ∷ 0x900F0000 ∷ []) 0 0 3 ∷
    -- dcl_color1 t0
    vector P3 (0x0200001F ∷ 0x8001000A ∷ 0xB00F0000 ∷ []) 0 0 3 ∷
    -- the highest usage with the highest index
    vector P3 (0x0200001F ∷ 0x800F000D ∷ 0x900F0000 ∷ []) 0 0 3 ∷
    vector V3 (0x0200001F ∷ 0x800F000D ∷ 0xE00F0000 ∷ []) 0 0 3 ∷
    vector V2 (0x0200001F ∷ 0x800F000D ∷ 0x900F0000 ∷ []) 0 0 3 ∷
    -- usages 14 and 16
    fault P3 (0x0200001F ∷ 0x8000000E ∷ 0x900F0000 ∷ []) 16 1 0 ∷
    fault P3 (0x0200001F ∷ 0x80000010 ∷ 0x900F0000 ∷ []) 16 1 0 ∷
    fault V2 (0x0200001F ∷ 0x8000000E ∷ 0x900F0000 ∷ []) 16 1 0 ∷
    -- a usage form with its lowest and highest reserved bits, and without bit 31
    fault P3 (0x0200001F ∷ 0x80000020 ∷ 0x900F0000 ∷ []) 16 1 5 ∷
    fault P3 (0x0200001F ∷ 0x80008000 ∷ 0x900F0000 ∷ []) 16 1 15 ∷
    fault P3 (0x0200001F ∷ 0x80100000 ∷ 0xB00F0000 ∷ []) 16 1 20 ∷
    fault P3 (0x0200001F ∷ 0xC0000000 ∷ 0xB00F0000 ∷ []) 16 1 30 ∷
    fault P3 (0x0200001F ∷ 0x0001000A ∷ 0x900F0000 ∷ []) 16 1 31 ∷
    -- a usage where the form is plain
    fault P2 (0x0200001F ∷ 0x80000005 ∷ 0x900F0000 ∷ []) 16 1 0 ∷
    fault P2 (0x0200001F ∷ 0x8001000A ∷ 0xB00F0000 ∷ []) 16 1 1 ∷
    fault P3 (0x0200001F ∷ 0x80000005 ∷ 0x900F1000 ∷ []) 16 1 0 ∷
    -- type 6 is declared in V3 alone
    vector P3 (0x0200001F ∷ 0x80000005 ∷ 0xE00F0000 ∷ []) 8 2 0 ∷
    -- dcl vPos.xy
    vector P3 (0x0200001F ∷ 0x80000000 ∷ 0x90031000 ∷ []) 0 0 3 ∷
    -- dcl vFace
    vector P3 (0x0200001F ∷ 0x80000000 ∷ 0x900F1001 ∷ []) 0 0 3 ∷
    -- face with another mask than F
    fault P3 (0x0200001F ∷ 0x80000000 ∷ 0x90011001 ∷ []) 16 2 16 ∷
    -- face with bit 20
    fault P3 (0x0200001F ∷ 0x80000000 ∷ 0x901F1001 ∷ []) 16 2 20 ∷
    -- type 17 with number 2
    fault P3 (0x0200001F ∷ 0x80000000 ∷ 0x900F1002 ∷ []) 16 2 0 ∷
    -- type 17 is declared in P3 alone
    vector P2 (0x0200001F ∷ 0x80000000 ∷ 0x900F1000 ∷ []) 8 2 0 ∷
    -- mov r0, vPos
    vector P3 (0x02000001 ∷ 0x800F0000 ∷ 0x90E41000 ∷ []) 0 0 3 ∷
    -- type 17 as a source in V3
    vector V3 (0x02000001 ∷ 0x800F0000 ∷ 0x90E41000 ∷ []) 8 2 0 ∷
    -- dcl_2d s0
    vector P2 (0x0200001F ∷ 0x90000000 ∷ 0xA00F0800 ∷ []) 0 0 3 ∷
    -- dcl_cube s0
    vector P3 (0x0200001F ∷ 0x98000000 ∷ 0xA00F0800 ∷ []) 0 0 3 ∷
    -- dcl_volume s1
    vector V3 (0x0200001F ∷ 0xA0000000 ∷ 0xA00F0801 ∷ []) 0 0 3 ∷
    -- texture type 1
    fault P2 (0x0200001F ∷ 0x88000000 ∷ 0xA00F0800 ∷ []) 16 1 27 ∷
    -- texture type 5
    fault P3 (0x0200001F ∷ 0xA8000000 ∷ 0xA00F0800 ∷ []) 16 1 27 ∷
    -- a sampler in V2
    vector V2 (0x0200001F ∷ 0x90000000 ∷ 0xA00F0800 ∷ []) 8 2 0 ∷
    -- the second source of TEX is no sampler
    vector P2 (0x03000042 ∷ 0x800F0000 ∷ 0xB0E40000 ∷ 0xA0E40000 ∷ []) 8 3 0 ∷
    -- setp_gt p0, r0, r1
    vector P3 (0x0301005E ∷ 0xB00F1000 ∷ 0x80E40000 ∷ 0x80E40001 ∷ []) 0 0 4 ∷
    -- setp_le p0, r0, r1
    vector V3 (0x0306005E ∷ 0xB00F1000 ∷ 0x80E40000 ∷ 0x80E40001 ∷ []) 0 0 4 ∷
    -- SETP with controls 0
    vector V3 (0x0300005E ∷ 0xB00F1000 ∷ 0x80E40000 ∷ 0x80E40001 ∷ []) 4 0 0 ∷
    -- SETP with controls 7
    vector P3 (0x0307005E ∷ 0xB00F1000 ∷ 0x80E40000 ∷ 0x80E40001 ∷ []) 4 0 0 ∷
    -- if_gt r0.x, r1.x
    vector V3 (0x02010029 ∷ 0x80000000 ∷ 0x80000001 ∷ []) 0 0 3 ∷
    -- if_le r0.x, r1.x
    vector P3 (0x02060029 ∷ 0x80000000 ∷ 0x80000001 ∷ []) 0 0 3 ∷
    -- IFC with controls 0
    vector P3 (0x02000029 ∷ 0x80000000 ∷ 0x80000001 ∷ []) 4 0 0 ∷
    -- IFC with controls 7
    vector V3 (0x02070029 ∷ 0x80000000 ∷ 0x80000001 ∷ []) 4 0 0 ∷
    -- break_eq r0.x, r1.x
    vector P3 (0x0202002D ∷ 0x80000000 ∷ 0x80000001 ∷ []) 0 0 3 ∷
    -- BREAKC with controls 0
    vector V3 (0x0200002D ∷ 0x80000000 ∷ 0x80000001 ∷ []) 4 0 0 ∷
    -- BREAKC in V2
    vector V2 (0x0202002D ∷ 0x80000000 ∷ 0x80000001 ∷ []) 3 0 0 ∷
    -- call l0
    vector V2 (0x01000019 ∷ 0xA0E41000 ∷ []) 0 0 2 ∷
    -- CALL of a boolean
    vector V3 (0x01000019 ∷ 0xE0E40800 ∷ []) 8 1 0 ∷
    -- CALL in P2
    vector P2 (0x01000019 ∷ 0xA0E41000 ∷ []) 3 0 0 ∷
    -- callnz l0, b0
    vector V2 (0x0200001A ∷ 0xA0E41000 ∷ 0xE0E40800 ∷ []) 0 0 3 ∷
    -- callnz l0, !p0
    vector V3 (0x0200001A ∷ 0xA0E41000 ∷ 0xBDE41000 ∷ []) 0 0 3 ∷
    -- callnz l0, p0 in V2
    vector V2 (0x0200001A ∷ 0xA0E41000 ∷ 0xB0E41000 ∷ []) 8 2 0 ∷
    -- callnz l0, !b0
    fault V3 (0x0200001A ∷ 0xA0E41000 ∷ 0xEDE40800 ∷ []) 17 2 24 ∷
    -- loop aL, i0
    vector V3 (0x0200001B ∷ 0xF0E40800 ∷ 0xF0E40000 ∷ []) 0 0 3 ∷
    -- i0 before aL
    vector V3 (0x0200001B ∷ 0xF0E40000 ∷ 0xF0E40800 ∷ []) 8 1 0 ∷
    -- rep i0
    vector P3 (0x01000026 ∷ 0xF0E40000 ∷ []) 0 0 2 ∷
    -- defi i0 that holds 0000FFFF
    vector V2 (0x05000030 ∷ 0xF00F0000 ∷ 0x00000004 ∷ 0x0000FFFF ∷ 0x80000001 ∷ 0x00000000 ∷ []) 0 0 6 ∷
    -- DEFI of a constant register
    vector P3 (0x05000030 ∷ 0xA00F0000 ∷ 0x00000004 ∷ 0x00000000 ∷ 0x00000001 ∷ 0x00000000 ∷ []) 8 1 0 ∷
    -- defb b0, true
    vector V3 (0x0200002F ∷ 0xE00F0800 ∷ 0x00000001 ∷ []) 0 0 3 ∷
    -- DEFB in P2
    vector P2 (0x0200002F ∷ 0xE00F0800 ∷ 0x00000001 ∷ []) 3 0 0 ∷
    -- (p0) mov r0, c0
    vector V3 (0x13000001 ∷ 0x800F0000 ∷ 0xB0E41000 ∷ 0xA0E40000 ∷ []) 0 0 4 ∷
    -- (!p0) mov r0, r1
    vector P3 (0x13000001 ∷ 0x800F0000 ∷ 0xBDE41000 ∷ 0x80E40001 ∷ []) 0 0 4 ∷
    -- the predicate with modifier 1
    fault V3 (0x13000001 ∷ 0x800F0000 ∷ 0xB1E41000 ∷ 0xA0E40000 ∷ []) 17 2 24 ∷
    -- (p0) mov o0[a0.x], c0
    vector V3 (0x14000001 ∷ 0xE00F2000 ∷ 0xB0000000 ∷ 0xB0E41000 ∷ 0xA0E40000 ∷ []) 0 0 5 ∷
    -- the predicate before the destination's relative token
    vector V3 (0x14000001 ∷ 0xE00F2000 ∷ 0xB0E41000 ∷ 0xB0000000 ∷ 0xA0E40000 ∷ []) 8 2 0 ∷
    -- (p0) setp_gt p0, c0, c1
    vector V3 (0x1401005E ∷ 0xB00F1000 ∷ 0xB0E41000 ∷ 0xA0E40000 ∷ 0xA0E40001 ∷ []) 0 0 5 ∷
    -- (p0) texldd r0, v0, s0, r1, r2
    vector P3 (0x1600005D ∷ 0x800F0000 ∷ 0xB0E41000 ∷ 0x90E40000 ∷ 0xA0E40800 ∷ 0x80E40001 ∷ 0x80E40002 ∷ []) 0 0 7 ∷
    -- (p0) texldd r0, c0[aL], s0, c0[aL], c0[aL]
    vector P3 (0x1900005D ∷ 0x800F0000 ∷ 0xB0E41000 ∷ 0xA0E42000 ∷ 0xF0E40800 ∷ 0xA0E40800 ∷ 0xA0E42000 ∷ 0xF0E40800 ∷ 0xA0E42000 ∷ 0xF0E40800 ∷ []) 0 0 10 ∷
    -- the predicate last: the first source stands in its place, by its layout and by its type
    fault V3 (0x13000001 ∷ 0x800F0000 ∷ 0xA1E40000 ∷ 0xB0E41000 ∷ []) 17 2 24 ∷
    vector V3 (0x13000001 ∷ 0x800F0000 ∷ 0xA0E40000 ∷ 0xB0E41000 ∷ []) 8 2 0 ∷
    -- the predicate behind the first source
    vector V3 (0x14000002 ∷ 0x800F0000 ∷ 0x80E40000 ∷ 0xB0E41000 ∷ 0x80E40001 ∷ []) 8 2 0 ∷
    -- no source behind the predicate, and no predicate
    vector V3 (0x12000001 ∷ 0x800F0000 ∷ 0xB0E41000 ∷ []) 6 0 0 ∷
    vector V3 (0x11000001 ∷ 0x800F0000 ∷ []) 6 0 0 ∷
    vector V3 (0x12000001 ∷ 0xE00F2000 ∷ 0xB0000000 ∷ []) 6 0 0 ∷
    -- predicated: 2_0, NOP, IFC, DEF
    vector V2 (0x13000001 ∷ 0x800F0000 ∷ 0xB0E41000 ∷ 0xA0E40000 ∷ []) 4 0 0 ∷
    vector V3 (0x11000000 ∷ 0xB0E41000 ∷ []) 4 0 0 ∷
    vector P3 (0x13010029 ∷ 0x80000000 ∷ 0xB0E41000 ∷ 0x80000001 ∷ []) 4 0 0 ∷
    vector P3 (0x16000051 ∷ 0xA00F0000 ∷ 0xB0E41000 ∷ 0x00000000 ∷ 0x00000000 ∷ 0x00000000 ∷ 0x00000000 ∷ []) 4 0 0 ∷
    -- mov o0[aL], r0
    vector V3 (0x03000001 ∷ 0xE00F2000 ∷ 0xF0E40800 ∷ 0x80E40000 ∷ []) 0 0 4 ∷
    -- a relative destination in P3
    fault P3 (0x03000001 ∷ 0x800F2000 ∷ 0xF0E40800 ∷ 0x80E40000 ∷ []) 18 1 13 ∷
    -- mov r0, c0[aL]
    vector P3 (0x03000001 ∷ 0x800F0000 ∷ 0xA0E42000 ∷ 0xF0E40800 ∷ []) 0 0 4 ∷
    -- c0[a0.x] in P3
    vector P3 (0x03000001 ∷ 0x800F0000 ∷ 0xA0E42000 ∷ 0xB0000000 ∷ []) 8 3 0 ∷
    -- a relative source in P2
    fault P2 (0x03000001 ∷ 0x800F0000 ∷ 0xA0E42000 ∷ 0xF0E40800 ∷ []) 18 2 13 ∷
    -- document 02, Q-4. mov r0, c0 without a size; with one, with bit 28, 29, 31, with controls
    vector V1 (0x00000001 ∷ 0x800F0000 ∷ 0xA0E40000 ∷ 0x0000FFFF ∷ []) 0 0 3 ∷
    vector V1 (0x02000001 ∷ 0x800F0000 ∷ 0xA0E40000 ∷ 0x0000FFFF ∷ []) 4 0 0 ∷
    vector V1 (0x10000001 ∷ 0x800F0000 ∷ 0xA0E40000 ∷ 0x0000FFFF ∷ []) 4 0 0 ∷
    vector P11 (0x20000001 ∷ 0x800F0000 ∷ 0xA0E40000 ∷ 0x0000FFFF ∷ []) 4 0 0 ∷
    vector P11 (0x80000001 ∷ 0x800F0000 ∷ 0xA0E40000 ∷ 0x0000FFFF ∷ []) 4 0 0 ∷
    vector P11 (0x00010042 ∷ 0xB00F0000 ∷ 0x0000FFFF ∷ []) 4 0 0 ∷
    vector P11 (0x01000042 ∷ 0xB00F0000 ∷ 0x0000FFFF ∷ []) 4 0 0 ∷
    -- co-issue in vs_1_1, in ps_1_1, on END, and from 2_0 on
    vector V1 (0x40000000 ∷ 0x0000FFFF ∷ []) 4 0 0 ∷
    vector P11 (0x40000001 ∷ 0x800F0000 ∷ 0xA0E40000 ∷ 0x0000FFFF ∷ []) 0 0 3 ∷
    vector P14 (0x4000FFFD ∷ 0x0000FFFF ∷ []) 0 0 1 ∷
    vector P11 (0x4000FFFF ∷ []) 4 0 0 ∷
    vector P2 (0x42000001 ∷ 0x800F0000 ∷ 0xA0E40000 ∷ 0x0000FFFF ∷ []) 4 0 0 ∷
    -- bit 30 of a comment is length
    vector P11 (0x4001FFFE ∷ 0x00000000 ∷ 0x0000FFFF ∷ []) 5 0 0 ∷
    -- the operands pass the end; END is taken for an operand
    vector V1 (0x00000001 ∷ 0x800F0000 ∷ []) 5 0 0 ∷
    fault V1 (0x00000001 ∷ 0x800F0000 ∷ 0x0000FFFF ∷ []) 16 2 31 ∷
    -- add oPos, c0[a0.x], v0: no token follows bit 13; at any source, at no destination
    vector V1 (0x00000002 ∷ 0xC00F0000 ∷ 0xA0E42000 ∷ 0x90E40000 ∷ 0x0000FFFF ∷ []) 0 0 4 ∷
    vector V1 (0x00000002 ∷ 0xC00F0000 ∷ 0xA0E40000 ∷ 0x90E42000 ∷ 0x0000FFFF ∷ []) 0 0 4 ∷
    fault V1 (0x00000001 ∷ 0x800F2000 ∷ 0xA0E40000 ∷ 0x0000FFFF ∷ []) 18 1 13 ∷
    fault P14 (0x00000001 ∷ 0x800F0000 ∷ 0xA0E42000 ∷ 0x0000FFFF ∷ []) 18 2 13 ∷
    -- the shift scale, on DEF and TEX too; in vs_1_1 and in 2_0
    vector P11 (0x00000001 ∷ 0x810F0000 ∷ 0xA0E40000 ∷ 0x0000FFFF ∷ []) 0 0 3 ∷
    vector P11 (0x00000001 ∷ 0x870F0000 ∷ 0xA0E40000 ∷ 0x0000FFFF ∷ []) 0 0 3 ∷
    vector P14 (0x00000051 ∷ 0xAF0F0000 ∷ 0x00000000 ∷ 0x00000000 ∷ 0x00000000 ∷ 0x00000000 ∷ []) 0 0 6 ∷
    vector P13 (0x00000042 ∷ 0xB10F0000 ∷ 0x0000FFFF ∷ []) 0 0 2 ∷
    fault V1 (0x00000001 ∷ 0x810F0000 ∷ 0xA0E40000 ∷ 0x0000FFFF ∷ []) 16 1 24 ∷
    fault P2 (0x02000001 ∷ 0x810F0000 ∷ 0xA0E40000 ∷ 0x0000FFFF ∷ []) 16 1 24 ∷
    -- modifier 7, and A; B, with bits 21 and 22 of the destination; D
    fault P13 (0x00000001 ∷ 0x800F0000 ∷ 0xA7E40000 ∷ 0x0000FFFF ∷ []) 17 2 24 ∷
    vector P14 (0x00000001 ∷ 0x800F0000 ∷ 0xA7E40000 ∷ 0x0000FFFF ∷ []) 0 0 3 ∷
    vector P14 (0x00000001 ∷ 0x800F0000 ∷ 0xAAE40000 ∷ 0x0000FFFF ∷ []) 0 0 3 ∷
    fault P2 (0x02000001 ∷ 0x800F0000 ∷ 0xAAE40000 ∷ 0x0000FFFF ∷ []) 17 2 24 ∷
    vector P11 (0x00000001 ∷ 0x806F0000 ∷ 0x8BE40000 ∷ 0x0000FFFF ∷ []) 0 0 3 ∷
    fault P14 (0x00000001 ∷ 0x800F0000 ∷ 0xADE40000 ∷ 0x0000FFFF ∷ []) 17 2 24 ∷
    -- tex t0; texld r0, t0, and a sampler behind it is no operand; texcoord t0; texcrd r0, t0
    vector P11 (0x00000042 ∷ 0xB00F0000 ∷ 0x0000FFFF ∷ []) 0 0 2 ∷
    vector P14 (0x00000042 ∷ 0x800F0000 ∷ 0xB0E40000 ∷ 0xA0E40800 ∷ 0x0000FFFF ∷ []) 0 0 3 ∷
    fault P14 (0x00000042 ∷ 0x800F0000 ∷ 0x0000FFFF ∷ []) 16 2 31 ∷
    vector P13 (0x00000040 ∷ 0xB00F0000 ∷ 0x0000FFFF ∷ []) 0 0 2 ∷
    vector P14 (0x00000040 ∷ 0x800F0000 ∷ 0xB0E40000 ∷ 0x0000FFFF ∷ []) 0 0 3 ∷
    vector P14 (0x00000040 ∷ 0x800F0000 ∷ 0x80E40000 ∷ 0x0000FFFF ∷ []) 8 2 0 ∷
    -- PHASE in ps_1_4 and in ps_1_3
    vector P14 (0x0000FFFD ∷ 0x0000FFFF ∷ []) 0 0 1 ∷
    vector P13 (0x0000FFFD ∷ 0x0000FFFF ∷ []) 3 0 0 ∷
    -- dcl_position v0; an output; none in ps_1_x
    vector V1 (0x0000001F ∷ 0x80000000 ∷ 0x900F0000 ∷ 0x0000FFFF ∷ []) 0 0 3 ∷
    vector V1 (0x0000001F ∷ 0x80000000 ∷ 0xE00F0000 ∷ 0x0000FFFF ∷ []) 8 2 0 ∷
    vector P14 (0x0000001F ∷ 0x80000000 ∷ 0x900F0000 ∷ 0x0000FFFF ∷ []) 3 0 0 ∷
    -- mov a0.x, c0; by ADD
    vector V1 (0x00000001 ∷ 0xB0010000 ∷ 0xA0E40000 ∷ 0x0000FFFF ∷ []) 0 0 3 ∷
    vector V1 (0x00000002 ∷ 0xB0010000 ∷ 0xA0E40000 ∷ 0xA0E40000 ∷ 0x0000FFFF ∷ []) 8 1 0 ∷
    -- c2048 as a source in vs_1_1, in ps_1_1, and as DEF's destination
    vector V1 (0x00000001 ∷ 0x800F0000 ∷ 0xB0E40800 ∷ 0x0000FFFF ∷ []) 0 0 3 ∷
    vector P11 (0x00000001 ∷ 0x800F0000 ∷ 0xB0E40800 ∷ 0x0000FFFF ∷ []) 8 2 0 ∷
    vector V1 (0x00000051 ∷ 0xB00F0800 ∷ 0x00000000 ∷ 0x00000000 ∷ 0x00000000 ∷ 0x00000000 ∷ 0x0000FFFF ∷ []) 0 0 6 ∷
    -- texkill r0
    vector P11 (0x00000041 ∷ 0x800F0000 ∷ 0x0000FFFF ∷ []) 0 0 2 ∷
    -- cnd r0, c0, c0, c0 before ps_1_4, and in it
    vector P11 (0x00000050 ∷ 0x800F0000 ∷ 0xA0E40000 ∷ 0xA0E40000 ∷ 0xA0E40000 ∷ 0x0000FFFF ∷ []) 8 2 0 ∷
    vector P14 (0x00000050 ∷ 0x800F0000 ∷ 0xA0E40000 ∷ 0xA0E40000 ∷ 0xA0E40000 ∷ 0x0000FFFF ∷ []) 0 0 5 ∷
    -- t0 as a source of ps_1_4
    vector P14 (0x00000001 ∷ 0x800F0000 ∷ 0xB0E40000 ∷ 0x0000FFFF ∷ []) 8 2 0 ∷
    -- bem r0.xy, c0, r1; the other way round
    vector P14 (0x00000059 ∷ 0x80030000 ∷ 0xA0E40000 ∷ 0x80E40001 ∷ 0x0000FFFF ∷ []) 0 0 4 ∷
    vector P14 (0x00000059 ∷ 0x80030000 ∷ 0x80E40001 ∷ 0xA0E40000 ∷ 0x0000FFFF ∷ []) 8 3 0 ∷
    -- sub in vs_1_1; frc and dp4 in ps_1_1; dp4 in ps_1_2
    vector V1 (0x00000003 ∷ 0x800F0000 ∷ 0xA0E40000 ∷ 0xA0E40001 ∷ 0x0000FFFF ∷ []) 0 0 4 ∷
    vector P11 (0x00000013 ∷ 0x800F0000 ∷ 0x80E40000 ∷ 0x0000FFFF ∷ []) 3 0 0 ∷
    vector P11 (0x00000009 ∷ 0x800F0000 ∷ 0xA0E40000 ∷ 0xA0E40000 ∷ 0x0000FFFF ∷ []) 3 0 0 ∷
    vector P12 (0x00000009 ∷ 0x800F0000 ∷ 0xA0E40000 ∷ 0xA0E40000 ∷ 0x0000FFFF ∷ []) 0 0 4 ∷
    -- m4x4 r0, v0, r0
    vector V1 (0x00000014 ∷ 0x800F0000 ∷ 0x90E40000 ∷ 0x80E40000 ∷ 0x0000FFFF ∷ []) 0 0 4 ∷
    -- reserved bits before bit 13, bit 13 before the modifier, the modifier
    fault P2 (0x02000001 ∷ 0x800F0800 ∷ 0xA7E4E000 ∷ []) 16 2 14 ∷
    fault P2 (0x02000001 ∷ 0x800F0800 ∷ 0xA7E42000 ∷ []) 18 2 13 ∷
    fault P2 (0x02000001 ∷ 0x800F0800 ∷ 0xA7E40000 ∷ []) 17 2 24 ∷
    -- the modifier of a relative token, and its reserved bits
    fault V2 (0x03000001 ∷ 0x800F0000 ∷ 0xA0E42000 ∷ 0xB2000000 ∷ []) 17 3 24 ∷
    fault V2 (0x03000001 ∷ 0x800F0000 ∷ 0xA0E42000 ∷ 0xB200A000 ∷ []) 16 3 15 ∷
    fault V2 (0x03000001 ∷ 0x800F0000 ∷ 0xA0E42000 ∷ 0xB2002000 ∷ []) 18 3 13 ∷
    -- type 17's rules before bit 13, and the lowest of all
    fault P3 (0x0200001F ∷ 0x80000000 ∷ 0x900F3002 ∷ []) 16 2 0 ∷
    fault P3 (0x0200001F ∷ 0x80000000 ∷ 0x900F7002 ∷ []) 16 2 0 ∷
    fault P3 (0x0200001F ∷ 0x80000000 ∷ 0x90071001 ∷ []) 16 2 16 ∷
    fault P3 (0x0200001F ∷ 0x80000000 ∷ 0x91071001 ∷ []) 16 2 16 ∷
    fault P3 (0x0200001F ∷ 0x80000000 ∷ 0x90075001 ∷ []) 16 2 14 ∷
    fault P3 (0x0200001F ∷ 0x80000000 ∷ 0x900F1400 ∷ []) 16 2 0 ∷
    fault P3 (0x0200001F ∷ 0x80000000 ∷ 0x908F1001 ∷ []) 16 2 23 ∷
    fault P3 (0x0200001F ∷ 0x80000000 ∷ 0x900F3001 ∷ []) 18 2 13 ∷
    -- of a destination in a vertex version
    fault V2 (0x02000001 ∷ 0x804F0000 ∷ 0xA0E40000 ∷ []) 16 1 22 ∷
    fault V2 (0x02000001 ∷ 0x810F0000 ∷ 0xA0E40000 ∷ []) 16 1 24 ∷
    fault V2 (0x02000001 ∷ 0x808F8000 ∷ 0xA0E40000 ∷ []) 16 1 15 ∷
    -- bit 31 before all others
    fault V2 (0x02000001 ∷ 0x000F4000 ∷ 0xA0E40000 ∷ []) 16 1 31 ∷
    fault V2 (0x0200001F ∷ 0x0000001F ∷ 0x900F0000 ∷ []) 16 1 31 ∷
    -- U: the lowest bit of all, a usage and a texture type by their lowest bits, and bit 13 is reserved
    fault P3 (0x0200001F ∷ 0x8000002E ∷ 0x900F0000 ∷ []) 16 1 0 ∷
    fault P3 (0x0200001F ∷ 0x80000000 ∷ 0xA00F0800 ∷ []) 16 1 27 ∷
    fault P3 (0x0200001F ∷ 0x90000001 ∷ 0xA00F0800 ∷ []) 16 1 0 ∷
    fault P3 (0x0200001F ∷ 0xA8000100 ∷ 0xA00F0800 ∷ []) 16 1 8 ∷
    fault V2 (0x0200001F ∷ 0x80002000 ∷ 0x900F0000 ∷ []) 16 1 13 ∷
    fault V2 (0x0200001F ∷ 0x80006000 ∷ 0x900F0000 ∷ []) 16 1 13 ∷
    fault P2 (0x0200001F ∷ 0xC0000000 ∷ 0x900F0000 ∷ []) 16 1 30 ∷
    -- the destination of a DCL before U
    fault P3 (0x0200001F ∷ 0x80000020 ∷ 0x900F4000 ∷ []) 16 2 14 ∷
    []

abbrev tells : ToldInstruction → Vector → Bool
tells told row =
    eqb told.number row.number
    && (eqb told.position row.position && (eqb told.detail row.detail && eqb told.takes row.takes))

abbrev all_tell : List Vector → Bool
all_tell [] = true
all_tell (row ∷ more) = tells (told_instruction (judged row.version row.tokens)) row && all_tell more

vectors_hold : all_tell vectors ≡ true
unfolding vectors judged token_head operand operands declaration token_at fault_at declared_fault usage_fault lowest lowest_from typed_places entry_of rows first_rows class_of classes told_instruction
vectors_hold = refl

-- nop; mov with a reserved bit: in its stream the position of a refusal is moved, and its bit stays
moved_on :
    checked (0xFFFE0200 ∷ 0x00000000 ∷ 0x02000001 ∷ 0x800F4000 ∷ 0xA0E40000 ∷ 0x0000FFFF ∷ []) ≡
    record { number = 16; position = 3; detail = 14; instructions = 0 }
unfolding verdict walked cut_from cutting walk judged token_head operand operands token_at fault_at lowest lowest_from typed_places entry_of rows class_of classes
moved_on = refl

-- a cut of instructions of one token each, from a position on
cut_of : List Class → ℕ → Cut
cut_of [] p = out p
cut_of (c ∷ cs) p = then c p (cut_of cs (suc p))

abbrev nests : List Class → Verdict
nests cs = walk 0 (cut_of cs 1) begin

-- one PHASE is accepted and counted
phase_once : nests (One Phase ∷ One Plain ∷ Closes End ∷ []) ≡ Ok 2
unfolding walk cut_of
phase_once = refl

-- a second one is BLOCK at its place, whatever stands between
phase_twice : nests (One Phase ∷ One Phase ∷ Closes End ∷ []) ≡ Err (refusal BLOCK 2)
unfolding walk cut_of
phase_twice = refl

phase_later : nests (One Phase ∷ One Plain ∷ Opens If ∷ Closes EndIf ∷ One Phase ∷ Closes End ∷ []) ≡ Err (refusal BLOCK 5)
unfolding walk cut_of
phase_later = refl

-- and so is one in a block
phase_in_block : nests (Opens If ∷ One Phase ∷ Closes EndIf ∷ Closes End ∷ []) ≡ Err (refusal BLOCK 2)
unfolding walk cut_of
phase_in_block = refl
