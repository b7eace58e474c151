-- Document 01, "Records": "A comment's record holds its length; the writer is lent the body, whose length must agree (0 for any other
-- record), else RECORD. .. The writer tests VERSION, RECORD, then ROOM; only the named tokens change." RECORD: "record is none that reading
-- yields in this version". ROOM: "what is to be written does not fit". "A refusal writes nothing into a lent buffer."
use Rattle.std.specs.Prelude.{ℕ, ◌+◌, ◌≤◌, ◌<◌, ◌≡◌, List, eqb, length, Some, None, Result, Ok, Err}
use Rattle.paper.specs.Notation.{pick}
use Rattle.paper.specs.Versions.{version_token, named}
use Rattle.paper.specs.Numbers.{number_of}
use Rattle.paper.specs.InstructionToken.{comment_opcode}
use Rattle.paper.specs.declared.Version.{Version}
use Rattle.paper.specs.declared.Reason.{Reason}
use Rattle.paper.specs.declared.Reason.TheVariants.{Version as VERSION, Room as ROOM, Record as RECORD}
use Rattle.records.specs.declared.Record.{Record}
use Rattle.reader.specs.Reading.{got, reading}
use Rattle.record_tokens.specs.Tokens.{Words, tokens_of}
use Rattle.writer.specs.Buffer.{pasted}

-- the record is one "that reading yields in this version": there are tokens and a place from which the reader gives it
pub record Yielded (v : Version) (r : Record) : Type 0 where
  pub tokens : List ℕ
  pub at : ℕ
  pub next : ℕ
  pub are_words : Words tokens
  pub read : reading (version_token v) tokens at ≡ got next r

-- how long the body must be that the writer is lent: "0 for any other record"
abbrev pub body_length : Record → ℕ
body_length r = pick (eqb r.opcode comment_opcode) r.extent 0

-- the record can be written with this body: reading yields it, and the body's length agrees
pub record Writable (v : Version) (r : Record) (body : List ℕ) : Type 0 where
  pub yielded : Yielded v r
  pub agrees : length body ≡ body_length r

-- the next place, or why nothing was written
abbrev pub Written : Type 0
Written = Result ℕ Reason

-- what a writing tells: a number and a position, and the next place
pub record ToldWriting : Type 0 where
  pub number : ℕ
  pub position : ℕ
  pub next : ℕ

-- a yes has number 0, a refusal next place 0, and both position 0
abbrev pub told_writing : Written → ToldWriting
told_writing (Ok next) = record { number = 0; position = 0; next = next }
told_writing (Err reason) = record { number = number_of reason; position = 0; next = 0 }

-- what the writer tells of a version token, a record, a body, a buffer and a place, and what the buffer holds then: VERSION, RECORD and ROOM,
-- each only where the ones before it are not given, leave it as it was; a yes changes "only the named tokens"
pub data Writes (version : ℕ) (r : Record) (body buffer : List ℕ) (at : ℕ) : ToldWriting → List ℕ → Type 0 where
  unnamed : named version ≡ None → Writes version r body buffer at (told_writing (Err VERSION)) buffer
  unwritable : {v : Version} → named version ≡ Some v → (Writable v r body → ⊥) →
      Writes version r body buffer at (told_writing (Err RECORD)) buffer
  cramped : {v : Version} → named version ≡ Some v → Writable v r body → length buffer < at + length (tokens_of v r body) →
      Writes version r body buffer at (told_writing (Err ROOM)) buffer
  written : {v : Version} → named version ≡ Some v → Writable v r body → at + length (tokens_of v r body) ≤ length buffer →
      Writes version r body buffer at (told_writing (Ok (at + length (tokens_of v r body)))) (pasted buffer at (tokens_of v r body))
