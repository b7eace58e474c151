-- Demand 2: "A stream is accepted exactly if it is laid out as Microsoft's token pages and document 01 say, with the blocks nested. There is then
-- one way to cut it, its records are that cutting, and writing the records, with each comment's body lent back, gives every token after the
-- version again. Each record that can be written reads back as itself."
--
-- The check promises `verdict`, the reader promises `reading`, the writer promises `Writes`, and the parts below are said of
-- these. Streams, bodies and buffers are lists of numbers; where it matters that a token has 32 bits, `Words` says that each is below 2^32.
-- `proofs/Demand2.antt` proves `demand_2 : Demand2`, the last definition of this file. Each part names two wrong programs that it rules out.
use Rattle.std.specs.Prelude.{ℕ, suc, ◌+◌, ◌-◌, ◌≤◌, ◌≡◌, List, length, take, drop, get_or, Ok}
use Rattle.paper.specs.Stream.{verdict}
use Rattle.paper.specs.declared.Version.{Version}
use Rattle.paper.specs.declared.Class.{Class}
use Rattle.cutting.specs.Cuttings.{Cutting, LawfulStream}
use Rattle.cutting.specs.BySize.{by_sizes}
use Rattle.cutting.specs.ByOperands.{by_operands}
use Rattle.records.specs.declared.Record.{Record}
use Rattle.reader.specs.Reading.{got, reading}
use Rattle.listing.specs.Listing.{records_of, counted}
use Rattle.record_tokens.specs.Tokens.{Words}
use Rattle.writer.specs.Buffer.{pasted}
use Rattle.writer.specs.Writing.{told_writing, Writes}
use Rattle.writer.specs.InOrder.{WritesAll}
use Rattle.demands.specs.Reading.{Given, ReadUp, places_read, records_in, pieces_in, last_place, boundaries_of}

-- "There is then one way to cut it"
-- A check that jumps by the stated size without reading operands is ruled out: the operands alone give other chunks where a size is wrong.
-- A check that reads the operands and ignores the stated size is ruled out: the sizes alone give other chunks there.
pub record CutOneWay (version : Version) (tokens : List ℕ) (chunks : List (List ℕ)) (classes : List Class) : Type 0 where
  -- every cutting of these tokens into lawful chunks, nested or not, has these chunks and these classes
  pub one_cutting : (others : List (List ℕ)) (kinds : List Class) → Cutting version tokens others kinds → (others ≡ chunks) × (kinds ≡ classes)
  -- a jump by stated sizes alone gives them, as a driver makes it
  pub by_sizes_alone : by_sizes version tokens ≡ chunks
  -- and so do the operands alone, where no stated size is looked at
  pub by_operands_alone : by_operands version tokens ≡ chunks

-- "its records are that cutting"
-- A reader with one fixed record is ruled out: it never comes to END's record, or comes to it at once.
-- A check whose count takes in the comments is ruled out: its number is not that of the records.
pub record ReadAsCut (stream : List ℕ) (n : ℕ) (version : Version) (chunks : List (List ℕ)) (given : List Given) : Type 0 where
  -- the reader, started behind the version and asked again at each next place that it gives, gives all these and comes to END's record
  pub is_read : ReadUp (get_or stream 0 0) stream 1 given
  -- and it comes there in no other way, and nowhere else
  pub one_reading : (others : List Given) → ReadUp (get_or stream 0 0) stream 1 others → others ≡ given
  -- END's record is the last token's, so that no token is left unread
  pub is_whole : suc (last_place given) ≡ length stream
  -- the places at which the reader stood are the boundaries of the cutting
  pub are_boundaries : places_read given ≡ boundaries_of chunks 1
  -- what it gave there are the records of the chunks
  pub are_records : records_in given ≡ records_of version chunks
  -- and n of them are neither a comment's nor END's
  pub is_count : counted (records_in given) ≡ n

-- "writing the records, with each comment's body lent back, gives every token after the version again"
-- A writer that answers and writes nothing is ruled out: the buffer holds the stream's tokens afterwards.
-- A writer that clears what lies behind its tokens is ruled out: but for those tokens the buffer is as it was.
pub record WrittenBack (stream : List ℕ) (given : List Given) (buffer : List ℕ) (at : ℕ) : Type 0 where
  -- the writer says yes to each in order, and leaves the tokens after the version at the place and all else as it was
  pub is_written : WritesAll (get_or stream 0 0) (pieces_in given) buffer at (pasted buffer at (drop 1 stream)) (at + length (drop 1 stream))
  -- and there is no other outcome
  pub one_writing : (after : List ℕ) (behind : ℕ) → WritesAll (get_or stream 0 0) (pieces_in given) buffer at after behind →
      (after ≡ pasted buffer at (drop 1 stream)) × (behind ≡ at + length (drop 1 stream))

-- a lawful stream: cut; read; and those very records written, at any place of any buffer that has room for them
pub record CutReadWritten (stream : List ℕ) (n : ℕ) (lawful : LawfulStream stream n) : Type 0 where
  pub is_cut : CutOneWay lawful.version (drop 1 stream) lawful.chunks lawful.classes
  pub given : List Given
  pub is_read : ReadAsCut stream n lawful.version lawful.chunks given
  pub is_written_back : Words stream → (buffer : List ℕ) (at : ℕ) → at + length (drop 1 stream) ≤ length buffer → WrittenBack stream given buffer at

pub record Demand2 : Type 0 where
  -- "A stream is accepted exactly if it is laid out as Microsoft's token pages and document 01 say, with the blocks nested": accepted with the
  -- number n exactly if it is a lawful stream of n instructions, one that has a cutting into chunks which are each lawful alone, and whose
  -- classes are a body and END by the grammar.
  -- A check that always refuses, or always accepts, is ruled out: there are streams that are lawful, and others.
  -- A check that reads the first instruction and waves the rest through is ruled out: every chunk is lawful.
  pub is_lawful : (stream : List ℕ) (n : ℕ) → verdict stream ≡ Ok n → LawfulStream stream n
  pub is_accepted : (stream : List ℕ) (n : ℕ) → LawfulStream stream n → verdict stream ≡ Ok n
  -- such a stream is cut, read and written as the parts above say
  pub is_cut_read_written : (stream : List ℕ) (n : ℕ) (lawful : LawfulStream stream n) → CutReadWritten stream n lawful
  -- "Each record that can be written reads back as itself": what the writer says yes to, in any version, with any body, at any place of any buffer,
  -- the reader gives again from the written tokens alone, at place 0, and it takes them all.
  -- A writer that cuts a field that is too large to its bits is ruled out: another record comes back.
  -- A writer that states a size one too large is ruled out: the written tokens alone run out.
  pub reads_back : (version : ℕ) (r : Record) (body buffer : List ℕ) (at next : ℕ) (after : List ℕ) →
      Writes version r body buffer at (told_writing (Ok next)) after → reading version (take (next - at) (drop at after)) 0 ≡ got (next - at) r
