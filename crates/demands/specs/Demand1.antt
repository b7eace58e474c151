-- Demand 1: "Every call ends, on any bytes and numbers. Each public entry judges its own input (it has no `requires`) and gives a numbered
-- refusal with a token position; a refusal writes nothing into any lent buffer."
--
-- That every call ends needs no statement here: a function is proved only if it ends, whatever it is called with. No entry has a
-- `requires`, so each statement below is of any bytes, tokens and numbers. Bytes, tokens, a body and a run are lent to be read alone; what
-- is lent to be written is the buffer of the writer and of the edit.
use Rattle.std.specs.Prelude.{ℕ, ◌/◌, ◌<◌, ◌≤◌, ◌≡◌, Bool, true, List, [], ◌∷◌, ◌++◌, eqb, ltb, length, take}
use Rattle.paper.specs.Notation.{pick, among}
use Rattle.paper.specs.Stream.{verdict}
use Rattle.byte_checker.specs.Bytes.{bytes_verdict}
use Rattle.records.specs.declared.Record.{Record}
use Rattle.reader.specs.Reading.{reading}
use Rattle.writer.specs.Writing.{Writes}
use Rattle.notes.specs.Noted.{noted}
use Rattle.edit.specs.Edit.{splice, edited_in, buffer_after as edited_buffer}
use Rattle.santubeli.specs.declared.Answer.{Answer}
use Rattle.santubeli.specs.declared.ReadAnswer.{ReadAnswer}
use Rattle.santubeli.specs.declared.NoteAnswer.{NoteAnswer}
use Rattle.santubeli.specs.declared.WriteAnswer.{WriteAnswer}
use Rattle.santubeli.specs.declared.EditAnswer.{EditAnswer}
use Rattle.santubeli.specs.Entries.{answer_of, read_answer_of, note_answer_of, write_told, edit_answer_of}

-- the numbers of the table that the reader can give: "LENGTH (over 16,384 only), VERSION, RUN-OUT, then one instruction's refusals up to
-- SIZE", REGISTER among these, and RESERVED, MODIFIER and RELATIVE, which document 02's Q-3 has in place of 7
abbrev pub read_numbers : List ℕ
read_numbers = 1 ∷ 2 ∷ 3 ∷ 4 ∷ 5 ∷ 6 ∷ 8 ∷ 16 ∷ 17 ∷ 18 ∷ []

-- a check: BLOCK, DEPTH and TAIL besides
abbrev pub check_numbers : List ℕ
check_numbers = read_numbers ++ 9 ∷ 10 ∷ 11 ∷ []

-- "The writer tests VERSION, RECORD, then ROOM"
abbrev pub write_numbers : List ℕ
write_numbers = 2 ∷ 13 ∷ 14 ∷ []

-- the edit: what a check can give, PLACE and ROOM
abbrev pub edit_numbers : List ℕ
edit_numbers = check_numbers ++ 12 ∷ 13 ∷ []

-- the numbers that the table gives at position 0 alone: LENGTH, VERSION, PLACE, ROOM, RECORD
abbrev pub at_start : List ℕ
at_start = 1 ∷ 2 ∷ 12 ∷ 13 ∷ 14 ∷ []

-- what goes with a number: one of 32 bits with RESERVED, bit 24 with MODIFIER, bit 13 with RELATIVE, and with any other nothing
abbrev pub detail_fits : ℕ → ℕ → Bool
detail_fits number detail = pick (eqb number 16) (ltb detail 32) (eqb detail (pick (eqb number 17) 24 (pick (eqb number 18) 13 0)))

-- a refusal: one of these numbers, the position of one of so many tokens or the token count itself, and what goes with the number
pub record Numbered (numbers : List ℕ) (tokens number position detail : ℕ) : Type 0 where
  pub is_of_table : among number numbers ≡ true
  pub is_within : position ≤ tokens
  pub is_at_start : among number at_start ≡ true → position ≡ 0
  pub is_detailed : detail_fits number detail ≡ true

-- what an answer tells: a yes has number 0, position 0 and detail 0, and anything else is such a refusal
pub data Tells (numbers : List ℕ) (tokens : ℕ) : ℕ → ℕ → ℕ → Type 0 where
  accepts : Tells numbers tokens 0 0 0
  refuses : {number position detail : ℕ} → Numbered numbers tokens number position detail → Tells numbers tokens number position detail

-- a buffer is at exit what it was at entry, unless the number is a yes's
abbrev pub KeptUnlessYes : ℕ → List ℕ → List ℕ → Type 0
KeptUnlessYes number buffer after = (number ≡ 0 → ⊥) → after ≡ buffer

-- What each entry promises of its answer, and of the buffer at exit. These are the `ensures` of `santubeli_check`,
-- `santubeli_check_tokens`, `santubeli_read`, `santubeli_note`, `santubeli_write` and `santubeli_edit`.

abbrev pub ChecksBytes : List ℕ → Answer → Type 0
ChecksBytes bytes answer = answer ≡ answer_of (length bytes / 4) (bytes_verdict bytes)

abbrev pub Checks : List ℕ → Answer → Type 0
Checks tokens answer = answer ≡ answer_of (length tokens) (verdict tokens)

abbrev pub Reads : ℕ → List ℕ → ℕ → ReadAnswer → Type 0
Reads version tokens at answer = answer ≡ read_answer_of (reading version tokens at)

abbrev pub Notes : ℕ → List ℕ → ℕ → NoteAnswer → Type 0
Notes version tokens at answer = answer ≡ note_answer_of (noted version tokens at)

-- a note found from a place on: ahead of it, its comments before it, and the place behind it inside the tokens
pub record Ahead (tokens : List ℕ) (from : ℕ) (answer : NoteAnswer) : Type 0 where
  pub comes : from ≤ answer.at
  pub begins : answer.comments ≤ answer.at
  pub ends : answer.at < answer.next
  pub inside : answer.next ≤ length tokens

abbrev pub WritesFor : ℕ → Record → List ℕ → List ℕ → ℕ → WriteAnswer → List ℕ → Type 0
WritesFor version instruction body buffer at answer after = Writes version instruction body buffer at (write_told answer) after

abbrev pub Edits : List ℕ → ℕ → ℕ → ℕ → List ℕ → EditAnswer → List ℕ → Type 0
Edits buffer n i j run answer after = (answer ≡ edit_answer_of (edited_in buffer n i j run)) × (after ≡ edited_buffer buffer n i j run)

-- Demand 1, entry by entry: of whatever the entry may give back and leave.
pub record Demand1 : Type 0 where
  -- A check of bytes: the position is at most the number of tokens, of four bytes each, that the bytes hold. This rules out a check that
  -- counts its positions in bytes, and one that tells of three bytes RUN-OUT at 1.
  pub check_of_bytes : (bytes : List ℕ) (answer : Answer) → ChecksBytes bytes answer →
      Tells check_numbers (length bytes / 4) answer.number answer.position answer.detail
  -- A check of tokens. This rules out a check that tells a bit with SIZE, a check that has a number 15 for a fault of which the table does not speak, and one that tells
  -- RUN-OUT where an instruction would end that passes the end of the stream.
  pub check_of_tokens : (tokens : List ℕ) (answer : Answer) → Checks tokens answer →
      Tells check_numbers (length tokens) answer.number answer.position answer.detail
  -- The reader, at any place of any tokens. This rules out a reader that tells RUN-OUT at the place it was asked for, however far behind
  -- the tokens that is, and one that tells BLOCK of an ENDIF which it reads alone.
  pub read : (version : ℕ) (tokens : List ℕ) (at : ℕ) (answer : ReadAnswer) → Reads version tokens at answer →
      Tells read_numbers (length tokens) answer.number answer.position answer.detail
  -- The notes, from any place of any tokens on: the reader's refusals, and a yes that lies ahead, so that whoever goes on at the place behind
  -- it comes to an end. This rules out a search that tells the same note for ever, and one that reads on behind the tokens.
  pub note : (version : ℕ) (tokens : List ℕ) (from : ℕ) (answer : NoteAnswer) → Notes version tokens from answer →
      Tells read_numbers (length tokens) answer.number answer.position answer.detail × (answer.number ≡ 0 → Ahead tokens from answer)
  -- The writer: each of its refusals is at 0, has no detail, and leaves the buffer as it was. This rules out a writer that puts the instruction token
  -- before it finds that the operands do not fit, and one that clears the place of a record which it refuses.
  pub write : (version : ℕ) (instruction : Record) (body buffer : List ℕ) (at : ℕ) (answer : WriteAnswer) (after : List ℕ) →
      WritesFor version instruction body buffer at answer after →
      Tells write_numbers 0 answer.number answer.position 0 × KeptUnlessYes answer.number buffer after
  -- The edit: the position is one of the splice or its token count, and 0 of a refusal before that is walked; a refusal leaves the buffer as it
  -- was. This rules out an edit that splices first and leaves the splice where it is refused, and one that tells of a place outside the
  -- stream that place as the position.
  pub edit : (buffer : List ℕ) (n i j : ℕ) (run : List ℕ) (answer : EditAnswer) (after : List ℕ) → Edits buffer n i j run answer after →
      Tells edit_numbers (length (splice (take n buffer) i j run)) answer.number answer.position answer.detail
      × KeptUnlessYes answer.number buffer after
