-- RECORD: the writer's test holds exactly of the records that reading yields in the version, and of a body whose length agrees.
use Rattle.std.specs.Prelude.{Ok, Err}
use mathlib.Core.Path.{◌≡◌, refl, sym, ap, ◌∙◌}
use mathlib.Core.Bool.{Bool, true, false, ◌&&◌}
use mathlib.Core.List.{List, [], ◌∷◌}
use Prim.Native.Nat.{ℕ, zero, suc, ◌^◌, ◌<◌}
use native.Mathlib.Omega.{arith}
use lib.Dec.{eqb, leb}
use lib.ListN.{length, replicate, length-replicate}
use lib.Seq.{take-length}
use borrow.Author.Tests.{eqb-true, eq-eqb, leb-true, le-leb}
use Rattle.paper.specs.Notation.{pick}
use Rattle.paper.specs.Versions.{version_token}
use Rattle.paper.specs.InstructionToken.{comment_opcode}
use Rattle.paper.specs.declared.Version.{Version}
use Rattle.paper.specs.declared.Class.TheVariants.{One}
use Rattle.paper.specs.declared.Single.TheVariants.{Comment}
use Rattle.paper.specs.Judgements.{good_instruction}
use Rattle.paper.proofs.Bools.{both_left, both_right, apart}
use Rattle.records.specs.declared.Record.{Record}
use Rattle.records.specs.Record.{comment_record}
use Rattle.reader.specs.Reading.{Answer, got, reading}
use Rattle.record_tokens.specs.Tokens.{Words, comment_token, tokens_of, comment_body}
use Rattle.record_tokens.proofs.WrittenBack.{written_back}
use Rattle.record_tokens.proofs.ReadBack.{comment_judged, comment_read}
use Rattle.writer.specs.Buffer.{words_of}
use Rattle.writer.specs.Row.{encoded_tokens}
use Rattle.writer.specs.Writing.{Yielded, Writable}
use Rattle.writer.specs.Decided.{longest_comment, yielded_comment, gives, reads_back, writable}
use Rattle.writer.proofs.Paste.{small, words_length}
use Rattle.writer.proofs.Same.{record_equal, record_own as record_same}
use Rattle.writer.proofs.Readings.{Own, read_own, alone_read, Lawfully, lawfully, bodiless, comment_only, encoded_own}

-- tokens cut to 32 bits are words, and words are not changed by it
are_words : (tokens : List ℕ) → Words (words_of tokens)
unfolding Words words_of
are_words [] k = omega arith
are_words (token ∷ tokens) zero = omega arith
are_words (token ∷ tokens) (suc k) = are_words tokens k

words_same : (tokens : List ℕ) → Words tokens → words_of tokens ≡ tokens
unfolding Words words_of
words_same [] words = refl
words_same (token ∷ tokens) words =
    let one = small token (words 0) in
    let rest = words_same tokens (λ k. words (suc k)) in
    cc

-- a reading that gives the record
pub record Given (answer : Answer) (r : Record) : Type 0 where
  pub next : ℕ
  pub is : answer ≡ got next r

given : (answer : Answer) (r : Record) → gives answer r ≡ true → Given answer r
given (Ok reading) r h = record { next = reading.next; is = ap (got reading.next) (record_equal reading.instruction r h) }
given (Err refusal) r h = apart (cc)

-- a record that is an instruction's: its tokens are the instruction's own
module _ (v : Version) (r : Record) (o : Own v r) where
  laid : Lawfully v o.first o.rest r (comment_body v (o.first ∷ o.rest))
  laid = rw o.record_is at (lawfully v o.first o.rest (length o.rest) o.class o.good)

  module _ (n : eqb r.opcode comment_opcode ≡ false) where
    pub own_is : tokens_of v r [] ≡ o.first ∷ o.rest
    own_is =
        rw (o.record_is, bodiless v o.first o.rest laid n, take-length (o.first ∷ o.rest)) at (written_back v (o.first ∷ o.rest) o.are_words o.good)

    pub own_encoded : words_of (encoded_tokens v r) ≡ o.first ∷ o.rest
    own_encoded = rw (encoded_own v o.first o.rest laid n, own_is) (words_same (o.first ∷ o.rest) o.are_words)

    yields_back : reads_back v r ≡ true
    unfolding reads_back
    yields_back = rw (own_encoded, alone_read v r o.first o.rest o.few o.good o.record_is) (record_same r)

  pub yields_comment : eqb r.opcode comment_opcode ≡ true → yielded_comment r ≡ true
  yields_comment c =
      let it = comment_only v o.first o.rest laid c in
      rw (le-leb r.extent longest_comment (omega (arith, it.1, o.few)), ← it.0) (record_same r)

pub yielded_own : (v : Version) (r : Record) → Yielded v r → Own v r
yielded_own v r y = read_own v y.tokens y.at y.next r y.are_words y.read

-- a comment of any length that a stream holds is yielded
module _ (v : Version) (r : Record) (y : yielded_comment r ≡ true) where
  pub comment_short : r.extent < 2 ^ 14
  comment_short = omega (arith, leb-true r.extent longest_comment (both_left (leb r.extent longest_comment) _ y))

  pub comment_reads : (body : List ℕ) → length body ≡ r.extent → reading (version_token v) (comment_token r.extent ∷ body) 0 ≡ got (suc (length body)) r
  comment_reads body agrees =
      let same = record_equal (comment_record r.extent) r (both_right (leb r.extent longest_comment) _ y) in
      let good = comment_judged v r.extent (omega (arith, comment_short)) body agrees in
      alone_read v r (comment_token r.extent) body (omega (arith, comment_short)) (good ∙ ap (λ n. good_instruction n (One Comment)) (sym agrees))
      (comment_read v r.extent (omega (arith, comment_short)) body ∙ same)

  comment_yielded : Yielded v r
  unfolding words_of
  comment_yielded =
      let zeros = words_of (replicate r.extent 0) in
      let long = words_length (replicate r.extent 0) ∙ length-replicate r.extent 0 in
      record {
        tokens = words_of (comment_token r.extent ∷ replicate r.extent 0);
        at = 0;
        next = suc (length zeros);
        are_words = are_words (comment_token r.extent ∷ replicate r.extent 0);
        read = rw (small (comment_token r.extent) (omega (arith, comment_short))) (comment_reads zeros long);
      }

module _ (v : Version) (r : Record) where
  back_yielded : reads_back v r ≡ true → Yielded v r
  unfolding reads_back
  back_yielded h =
      let g = given (reading (version_token v) (words_of (encoded_tokens v r)) 0) r h in
      record { tokens = words_of (encoded_tokens v r); at = 0; next = g.next; are_words = are_words (encoded_tokens v r); read = g.is }

  -- what is written is what was tested
  pub back_tokens : eqb r.opcode comment_opcode ≡ false → reads_back v r ≡ true → words_of (encoded_tokens v r) ≡ tokens_of v r []
  back_tokens n h = let o = yielded_own v r (back_yielded h) in own_encoded v r o n ∙ sym (own_is v r o n)

-- the test and the definition
module _ (v : Version) (r : Record) (body : List ℕ) where
  to_by : (is_comment : Bool) → eqb r.opcode comment_opcode ≡ is_comment →
      pick is_comment (eqb (length body) r.extent && yielded_comment r) (eqb (length body) 0 && reads_back v r) ≡ true →
      Yielded v r × (length body ≡ pick is_comment r.extent 0)
  to_by true c h =
      (comment_yielded v r (both_right (eqb (length body) r.extent) _ h), eqb-true (length body) r.extent (both_left (eqb (length body) r.extent) _ h))
  to_by false c h = (back_yielded v r (both_right (eqb (length body) 0) _ h), eqb-true (length body) 0 (both_left (eqb (length body) 0) _ h))

  from_by : (is_comment : Bool) → eqb r.opcode comment_opcode ≡ is_comment → Own v r → length body ≡ pick is_comment r.extent 0 →
      pick is_comment (eqb (length body) r.extent && yielded_comment r) (eqb (length body) 0 && reads_back v r) ≡ true
  from_by true c o e = rw (eq-eqb (length body) r.extent e) (yields_comment v r o c)
  from_by false c o e = rw (eq-eqb (length body) 0 e) (yields_back v r o c)

  pub passed_writable : writable v r (length body) ≡ true → Writable v r body
  unfolding writable
  passed_writable h = let it = to_by (eqb r.opcode comment_opcode) refl h in record { yielded = it.0; agrees = it.1 }

  pub writable_passes : Writable v r body → writable v r (length body) ≡ true
  unfolding writable
  writable_passes w = from_by (eqb r.opcode comment_opcode) refl (yielded_own v r w.yielded) w.agrees

  pub failed_unwritable : writable v r (length body) ≡ false → Writable v r body → ⊥
  failed_unwritable h w = let passes = writable_passes w in apart (cc)

  pub unwritable_fails : (Writable v r body → ⊥) → writable v r (length body) ≡ false
  unwritable_fails n = by (writable v r (length body)) refl
    where
      by : (b : Bool) → writable v r (length body) ≡ b → writable v r (length body) ≡ false
      by true h = absurd (n (passed_writable h))
      by false h = h
