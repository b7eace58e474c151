-- The places of the tables that have no name, a destination or a source of one type or several, and their types as a set.
use Rattle.std.specs.Prelude.{ℕ, Bool, ◌&&◌, ◌||◌, leb, ltb, Option, Some, None}
use Rattle.paper.specs.Notation.{pick}
use Rattle.versions.specs.Sets.{set_of}
use Rattle.places.specs.Places.{types_by}

-- from 32 on a destination of a type below 20, from 64 on a source of one; 56 to 59 and 87 to 91 are those of several types
abbrev pub is_tabled : ℕ → Bool
is_tabled n =
    ltb n 92 && (leb 32 n && (ltb n 52 || ((leb 56 n && ltb n 60) || ((leb 64 n && ltb n 84) || leb 87 n))))

-- none at any other place
unfoldable pub types_at : ℕ → Option ℕ
types_at n = pick (is_tabled n) (Some (set_of (types_by n))) None
