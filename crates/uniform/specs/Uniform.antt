-- Uniform rows: operands that are a destination and sources that are all of one kind, by the paper's tables.
use Rattle.std.specs.Prelude.{ℕ, zero, suc, ◌-◌, List, [], ◌∷◌, Option, Some, None, eqb}
use Rattle.paper.specs.Notation.{pick}
use Rattle.paper.specs.Versions.{has_sizes}
use Rattle.paper.specs.OperandTokens.{free_destination_types, free_source_types, types_or}
use Rattle.paper.specs.Places.{Types, free, only, Place, destination, source, Entry, absent, listed, entry_of}
use Rattle.paper.specs.declared.Version.{Version}
use Rattle.paper.specs.declared.Version.TheVariants.{V1}
use Rattle.places.specs.Places.{digits}
use Rattle.versions.specs.Sets.{set_of}
use Rattle.uniform.specs.declared.Row.{Row}

-- so many operands; the types of the destination, and those of each source
pub record Kind : Type 0 where
  pub count : ℕ
  pub written : Types
  pub read : Types

abbrev kind : ℕ → Types → Types → Kind
kind count written read = record { count = count; written = written; read = read }

-- no operands at all: there is no such row
abbrev pub no_kind : Kind
no_kind = kind 0 (only []) (only [])

abbrev pub sources : ℕ → Types → List Place
sources zero types = []
sources (suc n) types = source types ∷ sources n types

abbrev pub places_of : Kind → List Place
places_of k = destination k.written ∷ sources (k.count - 1) k.read

-- in a version with sizes, "DS", "DSS" and "DSSS" with places that are free
abbrev pub free_kinds : List Kind
free_kinds = kind 2 free free ∷ kind 3 free free ∷ kind 4 free free ∷ []

-- in the versions without sizes, as docs/FIRST-VERSIONS.md has them
abbrev v_d : Types
v_d = only (0 ∷ 4 ∷ 5 ∷ 6 ∷ [])

abbrev v_s : Types
v_s = only (0 ∷ 1 ∷ 2 ∷ 11 ∷ 12 ∷ 13 ∷ [])

abbrev e_d : Types
e_d = only (0 ∷ 3 ∷ [])

abbrev e_s : Types
e_s = only (0 ∷ 1 ∷ 2 ∷ 3 ∷ [])

abbrev t : Types
t = only (3 ∷ [])

abbrev l_d : Types
l_d = only (0 ∷ [])

abbrev l_s : Types
l_s = only (0 ∷ 1 ∷ 2 ∷ [])

abbrev none : Types
none = only []

abbrev pub first_kinds : List Kind
first_kinds =
    -- vs_1_1: MOV; one, two and three sources
    kind 2 (only (0 ∷ 3 ∷ 4 ∷ 5 ∷ 6 ∷ [])) v_s ∷
    kind 2 v_d v_s ∷
    kind 3 v_d v_s ∷
    kind 4 v_d v_s ∷
    -- ps_1_1 to ps_1_3: one, two and three sources; a texture coordinate; TEXKILL, as in ps_1_4; two texture coordinates
    kind 2 e_d e_s ∷
    kind 3 e_d e_s ∷
    kind 4 e_d e_s ∷
    kind 1 t none ∷
    kind 1 e_d none ∷
    kind 2 t t ∷
    -- ps_1_4: none, one, two and three sources; TEXCOORD; TEX
    kind 1 l_d none ∷
    kind 2 l_d l_s ∷
    kind 3 l_d l_s ∷
    kind 4 l_d l_s ∷
    kind 2 l_d t ∷
    kind 2 l_d (only (0 ∷ 3 ∷ [])) ∷
    []

abbrev pub kinds_in : Version → List Kind
kinds_in v = pick (has_sizes v) free_kinds first_kinds

-- the places of an entry as one number
abbrev pub number_in : Entry → ℕ
number_in absent = 0
number_in (listed places) = digits places

-- which of the kinds has these places, counted from 1; 0 if none has
abbrev pub next : ℕ → ℕ
next zero = zero
next (suc n) = suc (suc n)

abbrev pub kind_number : List Kind → ℕ → ℕ
kind_number [] number = 0
kind_number (k ∷ ks) number = pick (eqb number (digits (places_of k))) 1 (next (kind_number ks number))

abbrev pub kind_at : List Kind → ℕ → Kind
kind_at [] n = no_kind
kind_at (k ∷ ks) zero = no_kind
kind_at (k ∷ ks) (suc zero) = k
kind_at (k ∷ ks) (suc (suc n)) = kind_at ks (suc n)

-- SINCOS, which has operands of its own in V3 and P3, is left out
abbrev pub sincos : ℕ
sincos = 37

unfoldable pub kind_of : Version → ℕ → ℕ
kind_of v opcode = pick (eqb opcode sincos) 0 (kind_number (kinds_in v) (number_in (entry_of v opcode)))

-- the kind of an opcode's operands in a version
unfoldable pub uniform_of : Version → ℕ → Kind
uniform_of v opcode = kind_at (kinds_in v) (kind_of v opcode)

-- a row, with its types as sets
abbrev pub row_in : Version → Kind → Row
row_in v k =
    record {
      count = k.count;
      written = set_of (types_or k.written (free_destination_types v));
      read = set_of (types_or k.read (free_source_types v));
    }

-- a row, and a number of operands, if there are any
abbrev pub given : Row → Option Row
given row = pick (eqb row.count 0) None (Some row)

abbrev pub counted : ℕ → Option ℕ
counted count = pick (eqb count 0) None (Some count)

-- the rows of the versions without sizes, by number: their types are the same in each
unfoldable pub row_by : ℕ → Option Row
row_by number = given (row_in V1 (kind_at first_kinds number))

unfoldable pub row_of : Version → ℕ → Row
row_of v opcode = row_in v (uniform_of v opcode)

-- what the two tables tell: that of the versions with sizes how many operands there are, and that of the others the row
abbrev pub free_count : Version → ℕ → Option ℕ
free_count v opcode = pick (has_sizes v) (counted (uniform_of v opcode).count) None

abbrev pub first_row : Version → ℕ → Option Row
first_row v opcode = pick (has_sizes v) None (given (row_of v opcode))
