-- Document 01, "Records": "The reader takes a version, tokens and a place and gives the record and the next place, or LENGTH (over 16,384
-- only), VERSION, RUN-OUT, then one instruction's refusals up to SIZE."
use Rattle.std.specs.Prelude.{ℕ, ◌+◌, List, leb, ltb, length, drop, Option, Some, None, Result, Ok, Err}
use Rattle.paper.specs.Notation.{pick}
use Rattle.paper.specs.Versions.{named}
use Rattle.paper.specs.Numbers.{number_of, refusal, moved_by}
use Rattle.paper.specs.Instruction.{judged}
use Rattle.paper.specs.Stream.{most_tokens}
use Rattle.paper.specs.declared.Version.{Version}
use Rattle.paper.specs.Judgements.{Judged, good_instruction, bad_instruction}
use Rattle.paper.specs.declared.Reason.{Reason}
use Rattle.paper.specs.declared.Reason.TheVariants.{Length as LENGTH, Version as VERSION, RunOut as RUN_OUT}
use Rattle.paper.specs.declared.Refusal.{Refusal}
use Rattle.records.specs.declared.Record.{Record}
use Rattle.records.specs.Record.{no_record, record_of}
use Rattle.reader.specs.declared.Reading.{Reading}

-- the instruction that is read and the next place, or why there is none: a refusal gives no record
abbrev pub Answer : Type 0
Answer = Result Reading Refusal

abbrev pub unread_by : Refusal → Answer
unread_by r = Err r

abbrev pub unread : Reason → ℕ → Answer
unread reason position = unread_by (refusal reason position)

abbrev pub got : ℕ → Record → Answer
got next instruction = Ok (record { next = next; instruction = instruction })

-- the instruction at a place, judged; positions count from the first token
abbrev pub read_judged : Judged → ℕ → Record → Answer
read_judged (good_instruction size class) at instruction = got (at + size + 1) instruction
read_judged (bad_instruction r) at instruction = unread_by (moved_by (λ p. at + p) r)

-- "no token where an instruction must start": RUN-OUT at the token count
unfoldable pub reading_at : Version → List ℕ → ℕ → Answer
reading_at v tokens at =
    pick (ltb at (length tokens)) (read_judged (judged v (drop at tokens)) at (record_of v (drop at tokens)))
    (unread RUN_OUT (length tokens))

abbrev pub on_version : Option Version → List ℕ → ℕ → Answer
on_version (Some v) tokens at = reading_at v tokens at
on_version None tokens at = unread VERSION 0

unfoldable pub reading : ℕ → List ℕ → ℕ → Answer
reading version tokens at = pick (leb (length tokens) most_tokens) (on_version (named version) tokens at) (unread LENGTH 0)

-- what a reading tells: a number, a position and a detail, the next place, and the record
pub record ToldReading : Type 0 where
  pub number : ℕ
  pub position : ℕ
  pub detail : ℕ
  pub next : ℕ
  pub instruction : Record

-- a yes has number 0, position 0 and detail 0, a refusal has next place 0 and a record that is all zero
unfoldable pub told_reading : Answer → ToldReading
told_reading (Ok r) = record { number = 0; position = 0; detail = 0; next = r.next; instruction = r.instruction }
told_reading (Err r) = record { number = number_of r.reason; position = r.position; detail = r.detail; next = 0; instruction = no_record }
