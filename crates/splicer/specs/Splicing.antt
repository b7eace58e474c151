-- Document 01, "The edit": "the buffer then holds the splice, and what lies past it is as before".
use Rattle.std.specs.Prelude.{ℕ, Bool, ◌&&◌, List, ◌++◌, leb, length, take, drop}
use Rattle.paper.specs.Notation.{pick}
use Rattle.edit.specs.Edit.{splice, new_length}

-- the splice of the first n tokens, and behind it what the buffer held there
unfoldable pub with_run : List ℕ → ℕ → ℕ → ℕ → List ℕ → List ℕ
with_run buffer n i j run = splice (take n buffer) i j run ++ drop (new_length n i j (length run)) buffer

-- the places are in order, and the buffer has room for the splice
abbrev pub spliceable : ℕ → ℕ → ℕ → ℕ → ℕ → Bool
spliceable room n i j m = leb i j && (leb j n && (leb n room && leb (new_length n i j m) room))

-- where they are not, or it has not, the buffer is as it was
unfoldable pub spliced_in : List ℕ → ℕ → ℕ → ℕ → List ℕ → List ℕ
spliced_in buffer n i j run = pick (spliceable (length buffer) n i j (length run)) (with_run buffer n i j run) buffer
