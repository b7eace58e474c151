-- The records of some chunks, written in order, each with its own body, from a place of the buffer on.
use Rattle.std.specs.Prelude.{ℕ, List, [], ◌∷◌, Ok}
use Rattle.paper.specs.declared.Version.{Version}
use Rattle.records.specs.declared.Record.{Record}
use Rattle.records.specs.Record.{record_of}
use Rattle.record_tokens.specs.Tokens.{comment_body}
use Rattle.writer.specs.Writing.{told_writing, Writes}

-- a record and the body that is lent beside it
pub record Piece : Type 0 where
  pub instruction : Record
  pub body : List ℕ

-- what is read from chunks of tokens, each comment's body beside its record
abbrev pub pieces_of : Version → List (List ℕ) → List Piece
pieces_of v [] = []
pieces_of v (chunk ∷ chunks) = record { instruction = record_of v chunk; body = comment_body v chunk } ∷ pieces_of v chunks

-- the writer says yes to each piece, at the place that the one before it gave: from a buffer and a place to the buffer and the place behind
-- the last piece
pub data WritesAll (version : ℕ) : List Piece → List ℕ → ℕ → List ℕ → ℕ → Type 0 where
  all_written : {buffer : List ℕ} {at : ℕ} → WritesAll version [] buffer at buffer at
  next_written : {piece : Piece} {pieces : List Piece} {buffer between after : List ℕ} {at next behind : ℕ} →
      Writes version piece.instruction piece.body buffer at (told_writing (Ok next)) between →
      WritesAll version pieces between next after behind → WritesAll version (piece ∷ pieces) buffer at after behind
