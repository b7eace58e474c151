-- Document 01, "Instruction token": the table of opcodes, row by row. The five versions of document 02, Q-4, have one of their own.
use Rattle.std.specs.Prelude.{ℕ, List, [], ◌∷◌}
use Rattle.paper.specs.Versions.{base_versions}
use Rattle.paper.specs.declared.Version.{Version}
use Rattle.paper.specs.declared.Version.TheVariants.{V2, V3, P2, P3}

-- "D destination, S source, R any 32 bits, U usage token."
pub data Letter : Type 0 where
  D S R U : Letter

-- "Opcodes (decimal)", "Operands", "Versions"
pub record Row : Type 0 where
  pub opcodes : List ℕ
  pub operands : List Letter
  pub allowed : List Version

abbrev pub row : List ℕ → List Letter → List Version → Row
row opcodes operands allowed = record { opcodes = opcodes; operands = operands; allowed = allowed }

-- each row of the paper above its own, "all" being the four versions of that paper; SINCOS has one for each of its forms
unfoldable pub rows : List Row
rows =
    -- "0 NOP"
    row (0 ∷ []) [] base_versions ∷
    -- "1 MOV 6 RCP 7 RSQ 14 EXP 15 LOG 19 FRC 35 ABS 36 NRM"
    row (1 ∷ 6 ∷ 7 ∷ 14 ∷ 15 ∷ 19 ∷ 35 ∷ 36 ∷ []) (D ∷ S ∷ []) base_versions ∷
    -- "16 LIT 46 MOVA 78 EXPP 79 LOGP"
    row (16 ∷ 46 ∷ 78 ∷ 79 ∷ []) (D ∷ S ∷ []) (V2 ∷ V3 ∷ []) ∷
    -- "91 DSX 92 DSY"
    row (91 ∷ 92 ∷ []) (D ∷ S ∷ []) (P3 ∷ []) ∷
    -- "2 ADD 3 SUB 5 MUL 8 DP3 9 DP4 10 MIN 11 MAX 20 to 24 matrix, 32 POW 33 CRS"
    row (2 ∷ 3 ∷ 5 ∷ 8 ∷ 9 ∷ 10 ∷ 11 ∷ 20 ∷ 21 ∷ 22 ∷ 23 ∷ 24 ∷ 32 ∷ 33 ∷ []) (D ∷ S ∷ S ∷ []) base_versions ∷
    -- "12 SLT 13 SGE 17 DST"
    row (12 ∷ 13 ∷ 17 ∷ []) (D ∷ S ∷ S ∷ []) (V2 ∷ V3 ∷ []) ∷
    -- "66 TEX"
    row (66 ∷ []) (D ∷ S ∷ S ∷ []) (P2 ∷ P3 ∷ []) ∷
    -- "94 SETP 95 TEXLDL"
    row (94 ∷ 95 ∷ []) (D ∷ S ∷ S ∷ []) (V3 ∷ P3 ∷ []) ∷
    -- "4 MAD 18 LRP"
    row (4 ∷ 18 ∷ []) (D ∷ S ∷ S ∷ S ∷ []) base_versions ∷
    -- "34 SGN"
    row (34 ∷ []) (D ∷ S ∷ S ∷ S ∷ []) (V2 ∷ V3 ∷ []) ∷
    -- "88 CMP 90 DP2ADD"
    row (88 ∷ 90 ∷ []) (D ∷ S ∷ S ∷ S ∷ []) (P2 ∷ P3 ∷ []) ∷
    -- "37 SINCOS", "DSSS"
    row (37 ∷ []) (D ∷ S ∷ S ∷ S ∷ []) (V2 ∷ P2 ∷ []) ∷
    -- "in V3 P3 DS"
    row (37 ∷ []) (D ∷ S ∷ []) (V3 ∷ P3 ∷ []) ∷
    -- "93 TEXLDD"
    row (93 ∷ []) (D ∷ S ∷ S ∷ S ∷ S ∷ []) (P3 ∷ []) ∷
    -- "65 TEXKILL"
    row (65 ∷ []) (D ∷ []) (P2 ∷ P3 ∷ []) ∷
    -- "28 RET 29 ENDLOOP 39 ENDREP 42 ELSE 43 ENDIF"
    row (28 ∷ 29 ∷ 39 ∷ 42 ∷ 43 ∷ []) [] (V2 ∷ V3 ∷ P3 ∷ []) ∷
    -- "25 CALL 30 LABEL 38 REP 40 IF"
    row (25 ∷ 30 ∷ 38 ∷ 40 ∷ []) (S ∷ []) (V2 ∷ V3 ∷ P3 ∷ []) ∷
    -- "26 CALLNZ 27 LOOP"
    row (26 ∷ 27 ∷ []) (S ∷ S ∷ []) (V2 ∷ V3 ∷ P3 ∷ []) ∷
    -- "44 BREAK"
    row (44 ∷ []) [] (V3 ∷ P3 ∷ []) ∷
    -- "96 BREAKP"
    row (96 ∷ []) (S ∷ []) (V3 ∷ P3 ∷ []) ∷
    -- "41 IFC 45 BREAKC"
    row (41 ∷ 45 ∷ []) (S ∷ S ∷ []) (V3 ∷ P3 ∷ []) ∷
    -- "31 DCL"
    row (31 ∷ []) (U ∷ D ∷ []) base_versions ∷
    -- "81 DEF"
    row (81 ∷ []) (D ∷ R ∷ R ∷ R ∷ R ∷ []) base_versions ∷
    -- "48 DEFI"
    row (48 ∷ []) (D ∷ R ∷ R ∷ R ∷ R ∷ []) (V2 ∷ V3 ∷ P3 ∷ []) ∷
    -- "47 DEFB"
    row (47 ∷ []) (D ∷ R ∷ []) (V2 ∷ V3 ∷ P3 ∷ []) ∷
    []

-- the opcodes that other sentences call by name
abbrev pub CALL : ℕ
CALL = 25

abbrev pub CALLNZ : ℕ
CALLNZ = 26

abbrev pub LOOP : ℕ
LOOP = 27

abbrev pub RET : ℕ
RET = 28

abbrev pub ENDLOOP : ℕ
ENDLOOP = 29

abbrev pub LABEL : ℕ
LABEL = 30

abbrev pub DCL : ℕ
DCL = 31

abbrev pub REP : ℕ
REP = 38

abbrev pub ENDREP : ℕ
ENDREP = 39

abbrev pub IF : ℕ
IF = 40

abbrev pub IFC : ℕ
IFC = 41

abbrev pub ELSE : ℕ
ELSE = 42

abbrev pub ENDIF : ℕ
ENDIF = 43

abbrev pub BREAK : ℕ
BREAK = 44

abbrev pub BREAKC : ℕ
BREAKC = 45

abbrev pub MOVA : ℕ
MOVA = 46

abbrev pub DEFB : ℕ
DEFB = 47

abbrev pub DEFI : ℕ
DEFI = 48

abbrev pub TEXKILL : ℕ
TEXKILL = 65

abbrev pub TEX : ℕ
TEX = 66

abbrev pub DEF : ℕ
DEF = 81

abbrev pub TEXLDD : ℕ
TEXLDD = 93

abbrev pub SETP : ℕ
SETP = 94

abbrev pub TEXLDL : ℕ
TEXLDL = 95

abbrev pub BREAKP : ℕ
BREAKP = 96

abbrev pub PHASE : ℕ
PHASE = 0xFFFD
