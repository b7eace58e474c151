-- How the code decides what the writer tells and leaves in the buffer: RECORD by a test, which encodes the record and reads it back.
use Rattle.std.specs.Prelude.{ℕ, ◌+◌, ◌-◌, ◌≤◌, ◌≡◌, Bool, true, false, ◌&&◌, List, ◌++◌, eqb, leb, length, take, Option, Some, None, Ok, Err}
use Rattle.paper.specs.Notation.{pick}
use Rattle.paper.specs.Versions.{version_token, named}
use Rattle.paper.specs.InstructionToken.{comment_opcode}
use Rattle.paper.specs.Stream.{most_tokens}
use Rattle.paper.specs.declared.Version.{Version}
use Rattle.paper.specs.declared.Reason.TheVariants.{Version as VERSION, Room as ROOM, Record as RECORD}
use Rattle.records.specs.declared.Record.{Record}
use Rattle.records.specs.Record.{comment_record}
use Rattle.reader.specs.Reading.{Answer, reading}
use Rattle.record_tokens.specs.Tokens.{tokens_of}
use Rattle.writer.specs.Same.{same_record}
use Rattle.writer.specs.Writing.{Written}
use Rattle.writer.specs.Buffer.{words_of, pasted}
use Rattle.writer.specs.Row.{encoded_tokens}

-- a comment's record has nothing but its length, and with its first token it is no longer than the longest stream
abbrev pub longest_comment : ℕ
longest_comment = most_tokens - 1

abbrev pub yielded_comment : Record → Bool
yielded_comment r = leb r.extent longest_comment && same_record (comment_record r.extent) r

-- any other record is yielded if the tokens that it is encoded by yield it
abbrev pub gives : Answer → Record → Bool
gives (Ok reading) r = same_record reading.instruction r
gives (Err refusal) r = false

unfoldable pub reads_back : Version → Record → Bool
reads_back v r = gives (reading (version_token v) (words_of (encoded_tokens v r)) 0) r

-- the test of a record and of the length of a body
unfoldable pub writable : Version → Record → ℕ → Bool
writable v r n =
    pick (eqb r.opcode comment_opcode) (eqb n r.extent && yielded_comment r) (eqb n 0 && reads_back v r)

-- what the code encodes of a record that is lent a body of so many tokens: how many tokens before the body, or none if the test fails
pub record Encodes (v : Version) (r : Record) (n : ℕ) (encoded : Option ℕ) (tokens : List ℕ) : Type 0 where
  pub inside : {count : ℕ} → encoded ≡ Some count → count ≤ length tokens
  pub fails : encoded ≡ None → writable v r n ≡ false
  pub passes : {count : ℕ} → encoded ≡ Some count → writable v r n ≡ true
  pub stands : {count : ℕ} → encoded ≡ Some count → (body : List ℕ) → length body ≡ n → tokens_of v r body ≡ take count tokens ++ body

-- the answer: a place past the buffer's end leaves no room either
abbrev pub room : List ℕ → List ℕ → ℕ → Written
room tokens buffer at =
    pick (leb (at + length tokens) (length buffer)) (Ok (at + length tokens)) (Err ROOM)

unfoldable pub writing_in : Version → Record → List ℕ → List ℕ → ℕ → Written
writing_in v r body buffer at =
    pick (writable v r (length body)) (room (tokens_of v r body) buffer at) (Err RECORD)

abbrev pub writing_on : Option Version → Record → List ℕ → List ℕ → ℕ → Written
writing_on (Some v) r body buffer at = writing_in v r body buffer at
writing_on None r body buffer at = Err VERSION

unfoldable pub writing : ℕ → Record → List ℕ → List ℕ → ℕ → Written
writing version r body buffer at = writing_on (named version) r body buffer at

-- the buffer that the answer leaves
abbrev pub content_after : Written → List ℕ → List ℕ → ℕ → List ℕ
content_after (Ok next) tokens buffer at = pasted buffer at tokens
content_after (Err r) tokens buffer at = buffer

unfoldable pub content_in : Version → Record → List ℕ → List ℕ → ℕ → List ℕ
content_in v r body buffer at = content_after (writing_in v r body buffer at) (tokens_of v r body) buffer at

abbrev pub content_on : Option Version → Record → List ℕ → List ℕ → ℕ → List ℕ
content_on (Some v) r body buffer at = content_in v r body buffer at
content_on None r body buffer at = buffer

unfoldable pub buffer_written : ℕ → Record → List ℕ → List ℕ → ℕ → List ℕ
buffer_written version r body buffer at = content_on (named version) r body buffer at
