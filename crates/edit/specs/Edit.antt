-- Document 01, "The edit", of lists first, then of a buffer.
use Rattle.std.specs.Prelude.{ℕ, ◌+◌, ◌-◌, Bool, ◌&&◌, List, ◌++◌, leb, length, take, drop, get_or, Option, Some, None, Result, Ok, Err}
use Rattle.paper.specs.Notation.{pick}
use Rattle.paper.specs.Numbers.{number_of, refusal}
use Rattle.paper.specs.Versions.{named}
use Rattle.paper.specs.Stream.{walked, most_tokens, length_laid}
use Rattle.paper.specs.declared.Version.{Version}
use Rattle.paper.specs.Judgements.{Verdict}
use Rattle.paper.specs.declared.Reason.TheVariants.{Length as LENGTH, Version as VERSION, Place as PLACE, Room as ROOM}
use Rattle.paper.specs.declared.Refusal.{Refusal}
use Rattle.edit.specs.declared.Edited.{Edited}
use Rattle.edit.specs.declared.Edited.TheVariants.{Joined, Accepted}
use Rattle.edit.specs.Boundaries.{standing_at, is_boundary, meets}

-- the answer of an edit
abbrev pub Outcome : Type 0
Outcome = Result Edited Refusal

-- "the first i tokens, the run, the old tokens from j"
abbrev pub splice : List ℕ → ℕ → ℕ → List ℕ → List ℕ
splice old i j run = take i old ++ (run ++ drop j old)

-- "new length n - (j - i) + m"
abbrev pub new_length : ℕ → ℕ → ℕ → ℕ → ℕ
new_length n i j m = n - (j - i) + m

-- "PLACE (i and j boundaries, i at most j)"
abbrev pub placed : Version → List ℕ → ℕ → ℕ → Bool
placed v old i j = is_boundary (standing_at v old i) && (is_boundary (standing_at v old j) && leb i j)

-- "ROOM (new length n - (j - i) + m against buffer and 16,384)"
abbrev pub fits : ℕ → ℕ → Bool
fits room tokens = leb tokens room && leb tokens most_tokens

-- "If that walk has a boundary at i + m with the same open blocks, in order, with the same ELSE marks, as the old walk at j": the states meet at the run's end
unfoldable pub meets_at_end : Version → List ℕ → ℕ → ℕ → List ℕ → Bool
meets_at_end v old i j run = meets (standing_at v old j) (standing_at v (splice old i j run) (i + length run))

-- "Otherwise all is read: ACCEPTED, or a refusal at its position in the spliced stream."
abbrev pub on_verdict : Verdict → ℕ → Outcome
on_verdict (Ok count) tokens = Ok (Accepted tokens)
on_verdict (Err r) tokens = Err r

abbrev pub spliced : Version → List ℕ → ℕ → ℕ → List ℕ → Outcome
spliced v old i j run =
    pick (meets_at_end v old i j run) (Ok (Joined (new_length (length old) i j (length run))))
    (on_verdict (walked v (splice old i j run)) (new_length (length old) i j (length run)))

abbrev pub edit_refused : Rattle.paper.specs.declared.Reason.Reason → Outcome
edit_refused reason = Err (refusal reason 0)

abbrev pub edit_named : Option Version → (Version → Outcome) → Outcome
edit_named (Some v) next = next v
edit_named None next = edit_refused VERSION

-- "Order: LENGTH, VERSION, PLACE .., ROOM ..": the edit of a stream in a room of so many tokens
unfoldable pub edited : ℕ → List ℕ → ℕ → ℕ → List ℕ → Outcome
edited room old i j run =
    pick (length_laid (length old))
    (edit_named (named (get_or old 0 0))
    (λ v. pick (placed v old i j) (pick (fits room (new_length (length old) i j (length run))) (spliced v old i j run) (edit_refused ROOM)) (edit_refused PLACE)))
    (edit_refused LENGTH)

-- the edit of the first n tokens of a buffer; "or more than the buffer holds" is LENGTH
unfoldable pub edited_in : List ℕ → ℕ → ℕ → ℕ → List ℕ → Outcome
edited_in buffer n i j run = pick (leb n (length buffer)) (edited (length buffer) (take n buffer) i j run) (edit_refused LENGTH)

-- "Both yeses give the new length; the buffer then holds the splice, and what lies past it is as before"; a refusal leaves it as it was
abbrev pub held_after : Outcome → List ℕ → ℕ → ℕ → ℕ → List ℕ → List ℕ
held_after (Ok (Joined tokens)) buffer n i j run = splice (take n buffer) i j run ++ drop tokens buffer
held_after (Ok (Accepted tokens)) buffer n i j run = splice (take n buffer) i j run ++ drop tokens buffer
held_after (Err r) buffer n i j run = buffer

unfoldable pub buffer_after : List ℕ → ℕ → ℕ → ℕ → List ℕ → List ℕ
buffer_after buffer n i j run = held_after (edited_in buffer n i j run) buffer n i j run

-- what an edit tells: ACCEPTED and JOINED both have number 0 and are told apart by a field of their own; a refusal has length 0
pub record ToldEdit : Type 0 where
  pub number : ℕ
  pub position : ℕ
  pub detail : ℕ
  pub joined : ℕ
  pub tokens : ℕ

abbrev pub told_edit : Outcome → ToldEdit
told_edit (Ok (Joined n)) = record { number = 0; position = 0; detail = 0; joined = 1; tokens = n }
told_edit (Ok (Accepted n)) = record { number = 0; position = 0; detail = 0; joined = 0; tokens = n }
told_edit (Err r) = record { number = number_of r.reason; position = r.position; detail = r.detail; joined = 0; tokens = 0 }

-- where a position of the old stream goes: before i it stays, from j on it moves
abbrev pub carried : ℕ → ℕ → ℕ → ℕ → ℕ
carried i j m p = pick (leb j p) (i + m + (p - j)) p
