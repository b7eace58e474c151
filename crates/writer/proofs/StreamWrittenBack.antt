-- Demand 2: the records of a cutting, written in order with each comment's body lent back, give the tokens again.
use Rattle.std.specs.Prelude.{Ok}
use mathlib.Core.Path.{◌≡◌, refl, ap, ◌∙◌}
use mathlib.Core.List.{List, [], ◌∷◌, ◌++◌, append-nil}
use Prim.Native.Nat.{ℕ, zero, suc, ◌+◌, ◌≤◌}
use native.Mathlib.Omega.{arith}
use lib.Dec.{leb}
use lib.ListN.{length, drop, get_or, length-append, length-drop, drop_of_length-le}
use lib.Seq.{take-length}
use borrow.Author.Tests.{leb-true}
use Rattle.paper.specs.Versions.{version_token}
use Rattle.paper.specs.Stream.{most_tokens, verdict}
use Rattle.paper.specs.declared.Version.{Version}
use Rattle.paper.specs.declared.Class.{Class}
use Rattle.paper.proofs.Bools.{both_right}
use Rattle.paper.proofs.VersionTokens.{named_back}
use Rattle.cutting.specs.Cuttings.{joined, Alone, Chunks, last, next, Cutting}
use Rattle.cutting.proofs.AcceptedIsACutting.{accepted_is_a_cutting}
use Rattle.records.specs.Record.{record_of}
use Rattle.record_tokens.specs.Tokens.{Words, tokens_of, comment_body}
use Rattle.record_tokens.proofs.Operands.{words_drop}
use Rattle.record_tokens.proofs.WrittenBack.{written_back}
use Rattle.writer.specs.Buffer.{pasted}
use Rattle.writer.specs.Writing.{Yielded, ToldWriting, told_writing, Writes, written}
use Rattle.writer.specs.InOrder.{Piece, pieces_of, WritesAll, all_written, next_written}
use Rattle.writer.proofs.Paste.{pasted_on, length_pasted}
use Rattle.writer.proofs.Readings.{alone_read, lawfully, body_agrees}
use Rattle.writer.proofs.Answers.{version_named}
use Rattle.writer.proofs.Exactly.{one_writing_lem}

-- one chunk
module _ (v : Version) (first : ℕ) (rest : List ℕ) {class : Class} (words : Words (first ∷ rest)) (few : suc (length rest) ≤ most_tokens)
    (alone : Alone v first rest class) where
  chunk_back : tokens_of v (record_of v (first ∷ rest)) (comment_body v (first ∷ rest)) ≡ first ∷ rest
  chunk_back = written_back v (first ∷ rest) words alone ∙ take-length (first ∷ rest)

  chunk_yielded : Yielded v (record_of v (first ∷ rest))
  chunk_yielded =
      record {
        tokens = first ∷ rest;
        at = 0;
        next = suc (length rest);
        are_words = words;
        read = alone_read v (record_of v (first ∷ rest)) first rest few alone refl;
      }

  chunk_written : (buffer : List ℕ) (at : ℕ) → at + suc (length rest) ≤ length buffer →
      Writes (version_token v) (record_of v (first ∷ rest)) (comment_body v (first ∷ rest)) buffer at (told_writing (Ok (at + suc (length rest)))) (pasted buffer at (first ∷ rest))
  chunk_written buffer at h =
      let own : Writes (version_token v) (record_of v (first ∷ rest)) (comment_body v (first ∷ rest)) buffer at _ _ =
      written (named_back v) (record { yielded = chunk_yielded; agrees = body_agrees v first rest (lawfully v first rest (length rest) class alone) }) (rw chunk_back h) in
      rw chunk_back at own

words_front : (a b : List ℕ) → Words (a ++ b) → Words a
unfolding Words
words_front [] b words k = omega arith
words_front (x ∷ a) b words zero = words 0
words_front (x ∷ a) b words (suc k) = words_front a b (λ j. words (suc j)) k

words_behind : (a b : List ℕ) → Words (a ++ b) → Words b
unfolding Words
words_behind [] b words k = words k
words_behind (x ∷ a) b words k = words_behind a b (λ j. words (suc j)) k

-- all of them
pub chunks_written_back : {v : Version} {chunks : List (List ℕ)} {classes : List Class} → Chunks v chunks classes → Words (joined chunks) → length (joined chunks) ≤ most_tokens →
    (buffer : List ℕ) (at : ℕ) → at + length (joined chunks) ≤ length buffer →
    WritesAll (version_token v) (pieces_of v chunks) buffer at (pasted buffer at (joined chunks)) (at + length (joined chunks))
chunks_written_back {v} (last {first} {rest} alone) words few buffer at h =
    let same : rest ++ [] ≡ rest = append-nil rest in
    rw same (next_written (chunk_written v first rest (rw same at words) (rw same at few) alone buffer at (rw same at h)) all_written)
chunks_written_back {v} (next {first} {rest} {class} {chunks} alone n later) words few buffer at h =
    let long = length-append (first ∷ rest) (joined chunks) in
    let one = chunk_written v first rest (words_front (first ∷ rest) (joined chunks) words) (omega arith) alone buffer at (omega arith) in
    let room = length_pasted buffer (first ∷ rest) at (omega arith) in
    let fits : at + suc (length rest) + length (joined chunks) ≤ length (pasted buffer at (first ∷ rest)) = rw room (omega arith) in
    let all = chunks_written_back later (words_behind (first ∷ rest) (joined chunks) words) (omega arith) (pasted buffer at (first ∷ rest)) (at + suc (length rest)) fits in
    let content = pasted_on buffer (first ∷ rest) (joined chunks) at (omega arith) in
    let place : at + suc (length rest) + length (joined chunks) ≡ at + length ((first ∷ rest) ++ joined chunks) = omega arith in
    next_written one (rw (content, place) at all)

-- pieces are written in order in one way
pub one_way : {version : ℕ} {pieces : List Piece} {buffer a b : List ℕ} {at m n : ℕ} →
    WritesAll version pieces buffer at a m → WritesAll version pieces buffer at b n → (a ≡ b) × (m ≡ n)
one_way all_written all_written = (refl, refl)
one_way {version} (next_written {piece} {buffer = buffer} {at = at} w p) (next_written x q) =
    let same = one_writing_lem version piece.instruction piece.body buffer at x w in
    one_way p (rw (ap (λ (t : ToldWriting). t.next) same.0, same.1) at q)

whole : (buffer tokens : List ℕ) → length buffer ≡ length tokens → pasted buffer 0 tokens ≡ tokens
unfolding pasted
whole buffer tokens e =
    let short : length buffer ≤ 0 + length tokens = omega arith in
    rw (drop_of_length-le buffer short) (append-nil tokens)

-- into a buffer of just their length: the tokens again
pub stream_written_back : (v : Version) (tokens : List ℕ) (chunks : List (List ℕ)) (classes : List Class) → Cutting v tokens chunks classes → Words tokens →
    length tokens ≤ most_tokens → (buffer : List ℕ) → length buffer ≡ length tokens →
    WritesAll (version_token v) (pieces_of v chunks) buffer 0 tokens (length tokens)
stream_written_back v tokens chunks classes (cut, is) words few buffer long =
    let all = chunks_written_back cut (rw is words) (rw is few) buffer 0 (rw is (omega arith)) in
    let at_end_lem : 0 + length tokens ≡ length tokens = omega arith in
    rw (is, at_end_lem, whole buffer tokens long) at all

-- an accepted stream: the records of its cutting, in order, give the tokens behind its version again
pub accepted_written_back : (s : List ℕ) (n : ℕ) (accept : verdict s ≡ Ok n) → Words s → (buffer : List ℕ) → length buffer ≡ length (drop 1 s) →
    WritesAll (get_or s 0 0) (pieces_of (accepted_is_a_cutting s n accept).version (accepted_is_a_cutting s n accept).chunks) buffer 0
    (drop 1 s) (length (drop 1 s))
accepted_written_back s n accept words buffer long =
    let l = accepted_is_a_cutting s n accept in
    let few : length s ≤ most_tokens = leb-true (length s) most_tokens (both_right (leb 2 (length s)) (leb (length s) most_tokens) l.is_long) in
    let few_behind : length (drop 1 s) ≤ most_tokens = omega (arith, length-drop 1 s) in
    rw (version_named (get_or s 0 0) l.version l.is_named)
    (stream_written_back l.version (drop 1 s) l.chunks l.classes l.is_cutting (words_drop 1 s words) few_behind buffer long)
