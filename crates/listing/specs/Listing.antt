-- The records of a cutting, and how many of them count.
use Rattle.std.specs.Prelude.{ℕ, suc, Bool, ◌||◌, List, [], ◌∷◌, eqb}
use Rattle.paper.specs.Notation.{pick}
use Rattle.paper.specs.InstructionToken.{comment_opcode, end_opcode}
use Rattle.paper.specs.declared.Version.{Version}
use Rattle.records.specs.declared.Record.{Record}
use Rattle.records.specs.Record.{record_of}

-- the records of chunks
abbrev pub records_of : Version → List (List ℕ) → List Record
records_of v [] = []
records_of v (chunk ∷ chunks) = record_of v chunk ∷ records_of v chunks

-- how many of them are neither a comment's nor END's
abbrev pub is_passed : Record → Bool
is_passed r = eqb r.opcode comment_opcode || eqb r.opcode end_opcode

abbrev pub counted : List Record → ℕ
counted [] = 0
counted (r ∷ rs) = pick (is_passed r) (counted rs) (suc (counted rs))
