-- Document 02, Q-4: the opcodes of vs_1_1 and ps_1_1 to ps_1_4, as docs/FIRST-VERSIONS.md has them, a row to an opcode and a cell to a version.
-- "Take each opcode's versions, operands and register types from source document 001, where it is silent, and for TEX's destination .., from the
-- SDK reference".
use Rattle.std.specs.Prelude.{ℕ, List, [], ◌∷◌}
use Rattle.paper.specs.OpcodeTable.{PHASE}
use Rattle.paper.specs.declared.Version.{Version}
use Rattle.paper.specs.declared.Version.TheVariants.{V2, V3, P2, P3, V1, P11, P12, P13, P14}

-- a destination or a source of these register types; R any 32 bits; DCL's usage token, and its destination
pub data Spot : Type 0 where
  D S : List ℕ → Spot
  R U UD : Spot

-- a version does not have the opcode, or its operands are these
pub data Cell : Type 0 where
  no : Cell
  takes : List Spot → Cell

pub record FirstRow : Type 0 where
  pub opcode : ℕ
  pub vs_1_1 : Cell
  pub ps_1_1 : Cell
  pub ps_1_2 : Cell
  pub ps_1_3 : Cell
  pub ps_1_4 : Cell

abbrev pub cell : Version → FirstRow → Cell
cell V2 row = no
cell V3 row = no
cell P2 row = no
cell P3 row = no
cell V1 row = row.vs_1_1
cell P11 row = row.ps_1_1
cell P12 row = row.ps_1_2
cell P13 row = row.ps_1_3
cell P14 row = row.ps_1_4

abbrev every : ℕ → Cell → Cell → Cell → Cell → Cell → FirstRow
every opcode v p q r s = record { opcode = opcode; vs_1_1 = v; ps_1_1 = p; ps_1_2 = q; ps_1_3 = r; ps_1_4 = s }

-- in vs_1_1; in ps_1_1 to ps_1_3, and from ps_1_2 on; in ps_1_4; in ps_1_1 to ps_1_4, the last with operands of its own
abbrev vertex : ℕ → Cell → FirstRow
vertex opcode v = every opcode v no no no no

abbrev early : ℕ → Cell → FirstRow
early opcode p = every opcode no p p p no

abbrev later : ℕ → Cell → FirstRow
later opcode p = every opcode no no p p no

abbrev last : ℕ → Cell → FirstRow
last opcode s = every opcode no no no no s

abbrev pixel : ℕ → Cell → Cell → FirstRow
pixel opcode p s = every opcode no p p p s

-- the destinations and sources of most instructions: vs_1_1's, those of ps_1_1 to ps_1_3, and those of ps_1_4
abbrev v_d : Spot
v_d = D (0 ∷ 4 ∷ 5 ∷ 6 ∷ [])

abbrev v_s : Spot
v_s = S (0 ∷ 1 ∷ 2 ∷ 11 ∷ 12 ∷ 13 ∷ [])

abbrev e_d : Spot
e_d = D (0 ∷ 3 ∷ [])

abbrev e_s : Spot
e_s = S (0 ∷ 1 ∷ 2 ∷ 3 ∷ [])

abbrev l_d : Spot
l_d = D (0 ∷ [])

abbrev l_s : Spot
l_s = S (0 ∷ 1 ∷ 2 ∷ [])

-- no operands, one, two or three sources behind the destination
abbrev none : Cell
none = takes []

abbrev one : Spot → Cell
one d = takes (d ∷ [])

abbrev two : Spot → Spot → Cell
two d s = takes (d ∷ s ∷ [])

abbrev three : Spot → Spot → Spot → Cell
three d s t = takes (d ∷ s ∷ t ∷ [])

abbrev four : Spot → Spot → Spot → Spot → Cell
four d s t u = takes (d ∷ s ∷ t ∷ u ∷ [])

-- DEF
abbrev constant : Cell
constant = takes (D (2 ∷ 11 ∷ 12 ∷ 13 ∷ []) ∷ R ∷ R ∷ R ∷ R ∷ [])

-- the texture coordinate that an instruction writes, and the one that it reads
abbrev t_d : Spot
t_d = D (3 ∷ [])

abbrev t_s : Spot
t_s = S (3 ∷ [])

unfoldable pub first_rows : List FirstRow
first_rows =
    -- 0 NOP
    every 0 none none none none none ∷
    -- 1 MOV
    every 1 (two (D (0 ∷ 3 ∷ 4 ∷ 5 ∷ 6 ∷ [])) v_s) (two e_d e_s) (two e_d e_s) (two e_d e_s) (two l_d l_s) ∷
    -- 2 ADD
    every 2 (three v_d v_s v_s) (three e_d e_s e_s) (three e_d e_s e_s) (three e_d e_s e_s) (three l_d l_s l_s) ∷
    -- 3 SUB
    every 3 (three v_d v_s v_s) (three e_d e_s e_s) (three e_d e_s e_s) (three e_d e_s e_s) (three l_d l_s l_s) ∷
    -- 4 MAD
    every 4 (four v_d v_s v_s v_s) (four e_d e_s e_s e_s) (four e_d e_s e_s e_s) (four e_d e_s e_s e_s) (four l_d l_s l_s l_s) ∷
    -- 5 MUL
    every 5 (three v_d v_s v_s) (three e_d e_s e_s) (three e_d e_s e_s) (three e_d e_s e_s) (three l_d l_s l_s) ∷
    -- 6 RCP
    vertex 6 (two v_d v_s) ∷
    -- 7 RSQ
    vertex 7 (two v_d v_s) ∷
    -- 8 DP3
    every 8 (three v_d v_s v_s) (three e_d e_s e_s) (three e_d e_s e_s) (three e_d e_s e_s) (three l_d l_s l_s) ∷
    -- 9 DP4
    every 9 (three v_d v_s v_s) no (three e_d e_s e_s) (three e_d e_s e_s) (three l_d l_s l_s) ∷
    -- 10 MIN
    vertex 10 (three v_d v_s v_s) ∷
    -- 11 MAX
    vertex 11 (three v_d v_s v_s) ∷
    -- 12 SLT
    vertex 12 (three v_d v_s v_s) ∷
    -- 13 SGE
    vertex 13 (three v_d v_s v_s) ∷
    -- 14 EXP
    vertex 14 (two v_d v_s) ∷
    -- 15 LOG
    vertex 15 (two v_d v_s) ∷
    -- 16 LIT
    vertex 16 (two v_d v_s) ∷
    -- 17 DST
    vertex 17 (three v_d v_s v_s) ∷
    -- 18 LRP
    pixel 18 (four e_d e_s e_s e_s) (four l_d l_s l_s l_s) ∷
    -- 19 FRC
    vertex 19 (two v_d v_s) ∷
    -- 20 M4x4
    vertex 20 (three v_d v_s v_s) ∷
    -- 21 M4x3
    vertex 21 (three v_d v_s v_s) ∷
    -- 22 M3x4
    vertex 22 (three v_d v_s v_s) ∷
    -- 23 M3x3
    vertex 23 (three v_d v_s v_s) ∷
    -- 24 M3x2
    vertex 24 (three v_d v_s v_s) ∷
    -- 31 DCL
    vertex 31 (takes (U ∷ UD ∷ [])) ∷
    -- 64 TEXCOORD
    pixel 64 (one t_d) (two l_d t_s) ∷
    -- 65 TEXKILL
    pixel 65 (one e_d) (one e_d) ∷
    -- 66 TEX
    pixel 66 (one t_d) (two l_d (S (0 ∷ 3 ∷ []))) ∷
    -- 67 TEXBEM
    early 67 (two t_d t_s) ∷
    -- 68 TEXBEML
    early 68 (two t_d t_s) ∷
    -- 69 TEXREG2AR
    early 69 (two t_d t_s) ∷
    -- 70 TEXREG2GB
    early 70 (two t_d t_s) ∷
    -- 71 TEXM3x2PAD
    early 71 (two t_d t_s) ∷
    -- 72 TEXM3x2TEX
    early 72 (two t_d t_s) ∷
    -- 73 TEXM3x3PAD
    early 73 (two t_d t_s) ∷
    -- 74 TEXM3x3TEX
    early 74 (two t_d t_s) ∷
    -- 76 TEXM3x3SPEC
    early 76 (three t_d t_s (S (2 ∷ []))) ∷
    -- 77 TEXM3x3VSPEC
    early 77 (two t_d t_s) ∷
    -- 78 EXPP
    vertex 78 (two v_d v_s) ∷
    -- 79 LOGP
    vertex 79 (two v_d v_s) ∷
    -- 80 CND
    pixel 80 (four e_d (S (0 ∷ [])) e_s e_s) (four l_d l_s l_s l_s) ∷
    -- 81 DEF
    every 81 constant constant constant constant constant ∷
    -- 82 TEXREG2RGB
    later 82 (two t_d t_s) ∷
    -- 83 TEXDP3TEX
    later 83 (two t_d t_s) ∷
    -- 84 TEXM3x2DEPTH
    every 84 no no no (two t_d t_s) no ∷
    -- 85 TEXDP3
    later 85 (two t_d t_s) ∷
    -- 86 TEXM3x3
    later 86 (two t_d t_s) ∷
    -- 87 TEXDEPTH
    last 87 (one l_d) ∷
    -- 88 CMP
    every 88 no no (four e_d e_s e_s e_s) (four e_d e_s e_s e_s) (four l_d l_s l_s l_s) ∷
    -- 89 BEM
    last 89 (three l_d (S (0 ∷ 2 ∷ [])) (S (0 ∷ []))) ∷
    -- FFFD PHASE
    last PHASE none ∷
    []
