-- Document 01, "The edit", "Order: LENGTH, VERSION, PLACE .., ROOM ..": what the definition says from each of them on.
use Rattle.std.specs.Prelude.{ℕ, List, length}
use Rattle.paper.specs.Notation.{pick}
use Rattle.paper.specs.declared.Version.{Version}
use Rattle.paper.specs.declared.Reason.TheVariants.{Place as PLACE, Room as ROOM}
use Rattle.edit.specs.Edit.{new_length, placed, fits, spliced, edit_refused, Outcome}

unfoldable pub after_place : Version → ℕ → List ℕ → ℕ → ℕ → List ℕ → Outcome
after_place v room old i j run = pick (fits room (new_length (length old) i j (length run))) (spliced v old i j run) (edit_refused ROOM)

unfoldable pub after_version : Version → ℕ → List ℕ → ℕ → ℕ → List ℕ → Outcome
after_version v room old i j run = pick (placed v old i j) (after_place v room old i j run) (edit_refused PLACE)
