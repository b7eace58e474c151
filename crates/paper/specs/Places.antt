-- Document 01, "Operand tokens": the places of an instruction's operands, and "Types.", the register types allowed at each; with document 02's
-- Q-4, whose table names them all.
use Rattle.std.specs.Prelude.{ℕ, suc, Bool, true, false, ◌&&◌, List, [], ◌∷◌, eqb}
use Rattle.paper.specs.Notation.{pick, among}
use Rattle.paper.specs.Versions.{is_one, has_sizes}
use Rattle.paper.specs.OpcodeTable.{Letter, D, S, R, U, Row, rows, DEF, DEFI, DEFB, SETP, MOVA, TEXKILL, CALL, LABEL, CALLNZ, IF, DCL, LOOP, REP, BREAKP, TEX, TEXLDL, TEXLDD}
use Rattle.paper.specs.FirstVersions.{Spot, Cell, no, takes, FirstRow, cell, first_rows}
use Rattle.paper.specs.FirstVersions.{D as TD, S as TS, R as TR, U as TU, UD as TUD}
use Rattle.paper.specs.declared.Version.{Version}

-- the types allowed at a place: those of a place that is free, or these alone
pub data Types : Type 0 where
  free : Types
  only : List ℕ → Types

-- R; DCL's U and D; a destination; a source; a condition, which is CALLNZ's second S and IF's; the predicate; a relative token
pub data Place : Type 0 where
  raw usage declared : Place
  destination source : Types → Place
  condition predicate relative : Place

abbrev pub free_destination : Place
free_destination = destination free

abbrev pub free_source : Place
free_source = source free

-- an opcode, which of its operands, counted from 0, and the place
pub record Typed : Type 0 where
  pub opcode : ℕ
  pub operand : ℕ
  pub place : Place

abbrev pub typed_at : ℕ → ℕ → Place → Typed
typed_at opcode operand place = record { opcode = opcode; operand = operand; place = place }

unfoldable pub typed_places : List Typed
typed_places =
    -- "DEF D 2; DEFI D 7; DEFB D 14; SETP D 19; MOVA D 3; TEXKILL D 0 or 3."
    typed_at DEF 0 (destination (only (2 ∷ []))) ∷
    typed_at DEFI 0 (destination (only (7 ∷ []))) ∷
    typed_at DEFB 0 (destination (only (14 ∷ []))) ∷
    typed_at SETP 0 (destination (only (19 ∷ []))) ∷
    typed_at MOVA 0 (destination (only (3 ∷ []))) ∷
    typed_at TEXKILL 0 (destination (only (0 ∷ 3 ∷ []))) ∷
    -- "CALL, LABEL and CALLNZ's first S 18; CALLNZ's second and IF 14, in V3 and P3 also 19"
    typed_at CALL 0 (source (only (18 ∷ []))) ∷
    typed_at LABEL 0 (source (only (18 ∷ []))) ∷
    typed_at CALLNZ 0 (source (only (18 ∷ []))) ∷
    typed_at CALLNZ 1 condition ∷
    typed_at IF 0 condition ∷
    -- "LOOP 15 then 7; REP 7; BREAKP 19; second S of TEX, TEXLDL, TEXLDD 10."
    typed_at LOOP 0 (source (only (15 ∷ []))) ∷
    typed_at LOOP 1 (source (only (7 ∷ []))) ∷
    typed_at REP 0 (source (only (7 ∷ []))) ∷
    typed_at BREAKP 0 (source (only (19 ∷ []))) ∷
    typed_at TEX 2 (source (only (10 ∷ []))) ∷
    typed_at TEXLDL 2 (source (only (10 ∷ []))) ∷
    typed_at TEXLDD 2 (source (only (10 ∷ []))) ∷
    -- "Every other place but DCL's is free"
    typed_at DCL 1 declared ∷
    []

abbrev pub other_place : Letter → Place
other_place D = free_destination
other_place S = free_source
other_place R = raw
other_place U = usage

abbrev pub place_in : List Typed → ℕ → ℕ → Place → Place
place_in [] opcode operand other = other
place_in (t ∷ ts) opcode operand other =
    pick (eqb opcode t.opcode && eqb operand t.operand) t.place (place_in ts opcode operand other)

abbrev pub places_from : ℕ → ℕ → List Letter → List Place
unfolding typed_places
places_from opcode operand [] = []
places_from opcode operand (letter ∷ letters) =
    place_in typed_places opcode operand (other_place letter) ∷ places_from opcode (suc operand) letters

-- what the table says of an opcode in a version: it is in no row, or its operands stand at these places
pub data Entry : Type 0 where
  absent : Entry
  listed : List Place → Entry

abbrev pub entry_in : List Row → Version → ℕ → Entry
entry_in [] v opcode = absent
entry_in (r ∷ rs) v opcode =
    pick (is_one v r.allowed && among opcode r.opcodes) (listed (places_from opcode 0 r.operands)) (entry_in rs v opcode)

-- the places of the versions that have no size: each has its types in the table
abbrev spot_place : Spot → Place
spot_place (TD types) = destination (only types)
spot_place (TS types) = source (only types)
spot_place TR = raw
spot_place TU = usage
spot_place TUD = declared

abbrev pub spot_places : List Spot → List Place
spot_places [] = []
spot_places (spot ∷ spots) = spot_place spot ∷ spot_places spots

abbrev pub cell_entry : Cell → Entry
cell_entry no = absent
cell_entry (takes spots) = listed (spot_places spots)

abbrev pub first_entry_in : List FirstRow → Version → ℕ → Entry
first_entry_in [] v opcode = absent
first_entry_in (row ∷ rows) v opcode = pick (eqb opcode row.opcode) (cell_entry (cell v row)) (first_entry_in rows v opcode)

unfoldable pub entry_of : Version → ℕ → Entry
unfolding rows first_rows
entry_of v opcode = pick (has_sizes v) (entry_in rows v opcode) (first_entry_in first_rows v opcode)

-- kinds of places: a destination, a source, the predicate's, one whose token is kept as it stands
abbrev pub is_destination : Place → Bool
is_destination raw = false
is_destination usage = false
is_destination declared = true
is_destination (destination types) = true
is_destination (source types) = false
is_destination condition = false
is_destination predicate = false
is_destination relative = false

abbrev pub is_source : Place → Bool
is_source raw = false
is_source usage = false
is_source declared = false
is_source (destination types) = false
is_source (source types) = true
is_source condition = true
is_source predicate = false
is_source relative = false

abbrev pub is_predicate : Place → Bool
is_predicate raw = false
is_predicate usage = false
is_predicate declared = false
is_predicate (destination types) = false
is_predicate (source types) = false
is_predicate condition = false
is_predicate predicate = true
is_predicate relative = false

abbrev pub is_raw : Place → Bool
is_raw raw = true
is_raw usage = true
is_raw declared = false
is_raw (destination types) = false
is_raw (source types) = false
is_raw condition = false
is_raw predicate = false
is_raw relative = false
