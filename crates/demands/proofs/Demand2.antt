-- Demand 2, as `specs/Demand2.antt` states it.
use Prim.Native.Nat.{ℕ, ◌+◌, ◌≤◌}
use mathlib.Core.Path.{◌≡◌, sym, ap, ◌∙◌}
use mathlib.Core.List.{List}
use native.Mathlib.Omega.{arith}
use lib.Dec.{leb}
use lib.ListN.{length, drop, get_or, length-drop}
use borrow.Author.Tests.{leb-true}
use Rattle.paper.specs.Versions.{version_token}
use Rattle.paper.specs.Stream.{most_tokens}
use Rattle.paper.proofs.Bools.{both_left, both_right}
use Rattle.cutting.specs.Cuttings.{joined, LawfulStream}
use Rattle.cutting.proofs.AcceptedIsACutting.{accepted_is_a_cutting, a_cutting_is_accepted}
use Rattle.cutting.proofs.OneCutting.{one_cutting_lem}
use Rattle.cutting.proofs.SizesCut.{sizes_cut}
use Rattle.cutting.proofs.OperandsCut.{operands_cut}
use Rattle.listing.specs.Listing.{counted}
use Rattle.listing.proofs.RecordsCounted.{records_counted}
use Rattle.record_tokens.specs.Tokens.{Words}
use Rattle.record_tokens.proofs.Operands.{words_drop}
use Rattle.writer.proofs.Answers.{version_named}
use Rattle.writer.proofs.StreamWrittenBack.{chunks_written_back, one_way}
use Rattle.writer.proofs.ReadsBack.{reads_back_lem}
use Rattle.demands.specs.Reading.{Given}
use Rattle.demands.specs.Demand2.{CutOneWay, ReadAsCut, WrittenBack, Demand2}
use Rattle.demands.proofs.OneReading.{one_reading_lem}
use Rattle.demands.proofs.ChunksRead.{given_of, chunks_read, places_read_lem, records_read, pieces_read, end_place}

module _ (stream : List ℕ) (n : ℕ) (lawful : LawfulStream stream n) where
  some : 2 ≤ length stream
  some = leb-true 2 (length stream) (both_left (leb 2 (length stream)) (leb (length stream) most_tokens) lawful.is_long)

  few : length stream ≤ most_tokens
  few = leb-true (length stream) most_tokens (both_right (leb 2 (length stream)) (leb (length stream) most_tokens) lawful.is_long)

  named_by : get_or stream 0 0 ≡ version_token lawful.version
  named_by = version_named (get_or stream 0 0) lawful.version lawful.is_named

  behind : joined lawful.chunks ≡ drop 1 stream
  behind = lawful.is_cutting.1

  cut : CutOneWay lawful.version (drop 1 stream) lawful.chunks lawful.classes
  cut =
      record {
        one_cutting = λ others kinds other. one_cutting_lem lawful.version (drop 1 stream) others lawful.chunks kinds lawful.classes other lawful.is_cutting;
        by_sizes_alone = sizes_cut lawful.version (drop 1 stream) lawful.chunks lawful.classes lawful.is_cutting;
        by_operands_alone = operands_cut lawful.version (drop 1 stream) lawful.chunks lawful.classes lawful.is_cutting;
      }

  given : List Given
  given = given_of lawful.version lawful.chunks 1

  read : ReadAsCut stream n lawful.version lawful.chunks given
  unfolding given
  read =
      let up = rw (← named_by) at (chunks_read lawful.is_cutting.0 stream 1 (sym behind) few) in
      let records = records_read lawful.version lawful.chunks 1 in
      record {
        is_read = up;
        one_reading = λ others other. one_reading_lem up other;
        is_whole = end_place lawful.is_cutting.0 1 ∙ omega (arith, some, ap length behind, length-drop 1 stream);
        are_boundaries = places_read_lem lawful.version lawful.chunks 1;
        are_records = records;
        is_count = ap counted records ∙ records_counted lawful.is_cutting.0 ∙ lawful.is_count;
      }

  written : Words stream → (buffer : List ℕ) (at : ℕ) → at + length (drop 1 stream) ≤ length buffer → WrittenBack stream given buffer at
  unfolding given
  written words buffer at room =
      let short : length (drop 1 stream) ≤ most_tokens = omega (arith, few, length-drop 1 stream) in
      let back = chunks_written_back lawful.is_cutting.0 (rw behind (words_drop 1 stream words)) (rw behind short) buffer at (rw behind room) in
      let is = rw (behind, ← named_by, ← pieces_read lawful.version lawful.chunks 1) at back in
      record { is_written = is; one_writing = λ after behind other. one_way other is }

pub demand_2 : Demand2
demand_2 =
    record {
      is_lawful = accepted_is_a_cutting;
      is_accepted = a_cutting_is_accepted;
      is_cut_read_written = λ stream n lawful. record {
        is_cut = cut stream n lawful;
        given = given stream n lawful;
        is_read = read stream n lawful;
        is_written_back = written stream n lawful;
      };
      reads_back = λ version r body buffer at next after a. reads_back_lem version r body buffer at next a;
    }
