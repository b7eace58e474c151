-- A stream read from a place on: the reader is asked again at each next place that it gives, until it gives END's record. How many records that
-- takes is told by nothing but the reader.
use Rattle.std.specs.Prelude.{ℕ, suc, ◌+◌, ◌≡◌, true, List, [], ◌∷◌, length, take, drop, get_or}
use Rattle.paper.specs.Notation.{among}
use Rattle.records.specs.declared.Record.{Record}
use Rattle.records.specs.Record.{end_record}
use Rattle.reader.specs.Reading.{got, reading}
use Rattle.writer.specs.Writing.{body_length}
use Rattle.writer.specs.InOrder.{Piece}

-- an instruction as it was read: its place, its record, and the body to be lent when the record is written
pub record Given : Type 0 where
  pub place : ℕ
  pub instruction : Record
  pub body : List ℕ

-- a comment's body is the tokens of the stream behind the comment's token, as many as its record says; any other record has none
abbrev pub given_at : List ℕ → ℕ → Record → Given
given_at stream at r = record { place = at; instruction = r; body = take (body_length r) (drop (suc at) stream) }

-- `ReadUp version stream at given`: from the place on the reader gives these, one after another, and the last is END's and no other one is
pub data ReadUp (version : ℕ) (stream : List ℕ) : ℕ → List Given → Type 0 where
  ends : {at next : ℕ} → reading version stream at ≡ got next end_record → ReadUp version stream at (given_at stream at end_record ∷ [])
  goes : {at next : ℕ} {r : Record} {later : List Given} → reading version stream at ≡ got next r → (r ≡ end_record → ⊥) →
      ReadUp version stream next later → ReadUp version stream at (given_at stream at r ∷ later)

-- their places, their records, what is handed to the writer, and the place of the last
abbrev pub places_read : List Given → List ℕ
places_read [] = []
places_read (g ∷ gs) = g.place ∷ places_read gs

abbrev pub records_in : List Given → List Record
records_in [] = []
records_in (g ∷ gs) = g.instruction ∷ records_in gs

abbrev pub pieces_in : List Given → List Piece
pieces_in [] = []
pieces_in (g ∷ gs) = record { instruction = g.instruction; body = g.body } ∷ pieces_in gs

abbrev pub last_place : List Given → ℕ
last_place [] = 0
last_place (g ∷ []) = g.place
last_place (g ∷ (h ∷ gs)) = last_place (h ∷ gs)

-- the places at which chunks of tokens begin, the first of them at p
abbrev pub boundaries_of : List (List ℕ) → ℕ → List ℕ
boundaries_of [] p = []
boundaries_of (chunk ∷ chunks) p = p ∷ boundaries_of chunks (p + length chunk)

-- a place at which the reader, started behind the version, gives one of the records on its way up to END. Of an accepted stream these are the
-- instruction boundaries: demand 3 says so.
pub record ReadPlace (stream : List ℕ) (p : ℕ) : Type 0 where
  pub given : List Given
  pub is_read : ReadUp (get_or stream 0 0) stream 1 given
  pub is_place : among p (places_read given) ≡ true
