-- The places of operands by number, as the code holds them, and those of a shape read back from its number one after the other.
use Rattle.std.specs.Prelude.{ℕ, zero, suc, ◌+◌, ◌*◌, ◌/◌, ◌%◌, Bool, true, false, ◌&&◌, List, [], ◌∷◌, eqb, leb}
use Rattle.paper.specs.Notation.{pick}
use Rattle.paper.specs.Places.{free, only, Place, raw, usage, declared, destination, source, condition, predicate, relative}

-- the one type of a place of one type, which its lowest five bits are
abbrev pub only_type : ℕ → ℕ
only_type n = n % 32

-- the places of several types, by their numbers
pub record Several : Type 0 where
  pub number : ℕ
  pub types : List ℕ

abbrev several : ℕ → List ℕ → Several
several number types = record { number = number; types = types }

abbrev pub severals : List Several
severals =
    -- destinations: TEXKILL's, and most of ps_1_1 to ps_1_3; most of vs_1_1; MOV's there; DEF's without a size
    several 56 (0 ∷ 3 ∷ []) ∷
    several 57 (0 ∷ 4 ∷ 5 ∷ 6 ∷ []) ∷
    several 58 (0 ∷ 3 ∷ 4 ∷ 5 ∷ 6 ∷ []) ∷
    several 59 (2 ∷ 11 ∷ 12 ∷ 13 ∷ []) ∷
    -- sources: vs_1_1's; most of ps_1_1 to ps_1_3; most of ps_1_4; TEX's and BEM's first there
    several 87 (0 ∷ 1 ∷ 2 ∷ 11 ∷ 12 ∷ 13 ∷ []) ∷
    several 88 (0 ∷ 1 ∷ 2 ∷ 3 ∷ []) ∷
    several 89 (0 ∷ 1 ∷ 2 ∷ []) ∷
    several 90 (0 ∷ 3 ∷ []) ∷
    several 91 (0 ∷ 2 ∷ []) ∷
    []

abbrev types_among : List Several → ℕ → List ℕ
types_among [] n = only_type n ∷ []
types_among (s ∷ rest) n = pick (eqb n s.number) s.types (types_among rest n)

unfoldable pub types_by : ℕ → List ℕ
types_by n = types_among severals n

-- a place of one type is that type, plus 32 for a destination or 64 for a source; the others take numbers that are no register's type
unfoldable pub place_by : ℕ → Place
place_by n =
    pick (eqb n 1) raw
    (pick (eqb n 2) usage
    (pick (eqb n 61) declared
    (pick (eqb n 63) (destination free)
    (pick (eqb n 92) condition
    (pick (eqb n 93) predicate
    (pick (eqb n 94) relative
    (pick (eqb n 95) (source free)
    (pick (eqb (n / 32) 1) (destination (only (types_by n))) (source (only (types_by n)))))))))))

-- the number of several types, among those from a first one on; one type is that and itself
abbrev pub same_types : List ℕ → List ℕ → Bool
same_types [] [] = true
same_types [] (l ∷ ls) = false
same_types (k ∷ ks) [] = false
same_types (k ∷ ks) (l ∷ ls) = eqb k l && same_types ks ls

abbrev first_type : List ℕ → ℕ
first_type [] = 0
first_type (type ∷ types) = type

abbrev number_among : List Several → ℕ → List ℕ → ℕ
number_among [] from types = from + first_type types
number_among (s ∷ rest) from types =
    pick (leb from s.number && same_types types s.types) s.number (number_among rest from types)

abbrev pub number_by : Place → ℕ
number_by raw = 1
number_by usage = 2
number_by declared = 61
number_by (destination free) = 63
number_by (destination (only types)) = number_among severals 32 types
number_by (source free) = 95
number_by (source (only types)) = number_among severals 64 types
number_by condition = 92
number_by predicate = 93
number_by relative = 94

-- a row of places as one number: a digit of base 128 for each, the first place lowest; no place has number 0
abbrev pub digits : List Place → ℕ
digits [] = 0
digits (place ∷ places) = number_by place + 128 * digits places

-- a row with the predicate behind its first place
abbrev pub predicated_row : ℕ → ℕ
predicated_row row = row % 128 + 128 * (number_by predicate + 128 * (row / 128))

-- read back: at most so many places; no place has number 0, so that 0 says there is none left
abbrev pub places_in : ℕ → ℕ → List Place
places_in zero p = []
places_in (suc f) p = pick (eqb p 0) [] (place_by (p % 128) ∷ places_in f (p / 128))

-- 64 bits hold fewer than ten places
unfoldable pub decoded : ℕ → List Place
decoded p = places_in 10 p
