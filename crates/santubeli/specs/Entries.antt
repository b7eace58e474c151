-- The answers as C structs: the numbers and values of what is told.
use Rattle.std.specs.Prelude.{ℕ, Ok, Err}
use Rattle.paper.specs.Numbers.{number_of}
use Rattle.paper.specs.Judgements.{Verdict}
use Rattle.records.specs.Record.{no_record}
use Rattle.reader.specs.Reading.{Answer as Read}
use Rattle.edit.specs.declared.Edited.TheVariants.{Joined, Accepted}
use Rattle.edit.specs.Edit.{Outcome}
use Rattle.santubeli.specs.declared.EditAnswer.{EditAnswer}
use Rattle.writer.specs.Writing.{ToldWriting}
use Rattle.santubeli.specs.declared.WriteAnswer.{WriteAnswer}
use Rattle.notes.specs.Noted.{Noted}
use Rattle.santubeli.specs.declared.NoteAnswer.{NoteAnswer}
use Rattle.santubeli.specs.declared.Answer.{Answer}
use Rattle.santubeli.specs.declared.ReadAnswer.{ReadAnswer}

-- a yes gives the stream's tokens and its instructions, a refusal neither
abbrev pub answer_of : ℕ → Verdict → Answer
answer_of tokens (Ok n) = record { number = 0; position = 0; detail = 0; tokens = tokens; instructions = n }
answer_of tokens (Err r) = record { number = number_of r.reason; position = r.position; detail = r.detail; tokens = 0; instructions = 0 }

-- a reading: the next place and the record of a yes; a refusal's record is all zero and its next place 0
abbrev pub read_answer_of : Read → ReadAnswer
read_answer_of (Ok r) = record { number = 0; position = 0; detail = 0; next = r.next; instruction = r.instruction }
read_answer_of (Err r) = record { number = number_of r.reason; position = r.position; detail = r.detail; next = 0; instruction = no_record }

-- a note: the shapes, their place, where the comments right before it begin, and the place behind; a refusal has none of these
abbrev pub note_answer_of : Noted → NoteAnswer
note_answer_of (Ok n) =
    record { number = 0; position = 0; detail = 0; notes = n.notes; at = n.at; comments = n.comments; next = n.next }
note_answer_of (Err r) =
    record { number = number_of r.reason; position = r.position; detail = r.detail; notes = 0; at = 0; comments = 0; next = 0 }

-- an edit: both yeses have number 0 and give the new length, and joined tells them apart; a refusal has length 0
abbrev pub edit_answer_of : Outcome → EditAnswer
edit_answer_of (Ok (Joined n)) = record { number = 0; position = 0; detail = 0; joined = 1; tokens = n }
edit_answer_of (Ok (Accepted n)) = record { number = 0; position = 0; detail = 0; joined = 0; tokens = n }
edit_answer_of (Err r) = record { number = number_of r.reason; position = r.position; detail = r.detail; joined = 0; tokens = 0 }

-- a writing: the struct has the number, the position and the next place that are told of it
abbrev pub write_told : WriteAnswer → ToldWriting
write_told answer = record { number = answer.number; position = answer.position; next = answer.next }
