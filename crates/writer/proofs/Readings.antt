-- What a reading that gives a record says of the tokens: they are an instruction, which alone is read so too.
use mathlib.Core.Path.{◌≡◌, refl, ap, ◌∙◌, sym}
use mathlib.Core.Bool.{Bool, true, false}
use mathlib.Core.List.{List, [], ◌∷◌}
use Prim.Native.Nat.{ℕ, suc, ◌+◌, ◌≤◌}
use native.Mathlib.Omega.{arith}
use lib.Dec.{eqb, leb, ltb}
use lib.ListN.{length, take, drop, length-drop}
use lib.Seq.{length-take-le}
use borrow.Author.Tests.{leb-true, le-leb, lt-ltb}
use Rattle.paper.specs.Notation.{pick}
use Rattle.paper.specs.Versions.{version_token}
use Rattle.paper.specs.InstructionToken.{opcode_of, comment_opcode}
use Rattle.paper.specs.Instruction.{Head, token_head, claim, on_claimed, judged}
use Rattle.paper.specs.Stream.{most_tokens}
use Rattle.paper.specs.declared.Version.{Version}
use Rattle.paper.specs.declared.Reason.TheVariants.{Length as LENGTH, RunOut as RUN_OUT}
use Rattle.paper.specs.declared.Class.{Class}
use Rattle.paper.specs.Judgements.{Judged, good_instruction, bad_instruction}
use Rattle.paper.proofs.VersionTokens.{named_back}
use Rattle.paper.proofs.Bools.{apart}
use Rattle.paper.proofs.OwnTokens.{good_claim, good_within, good_own}
use Rattle.paper.proofs.FirstToken.{Says, is_broken, is_comment_lem, is_end_lem, is_listed, says}
use Rattle.records.specs.declared.Operand.{Operand}
use Rattle.records.specs.declared.Record.{Record}
use Rattle.records.specs.Record.{end_record, comment_record, instruction_record, record_on, record_of}
use Rattle.records.proofs.OwnRecord.{record_own}
use Rattle.reader.specs.Reading.{unread, got, read_judged, reading_at, reading}
use Rattle.reader.proofs.ReadingUnique.{same_got}
use Rattle.record_tokens.specs.Tokens.{Words, tokens_of, body_on, comment_body}
use Rattle.record_tokens.proofs.Operands.{words_drop, words_take}
use Rattle.writer.specs.Writing.{body_length}
use Rattle.writer.specs.Row.{encoded_tokens}
use Rattle.writer.proofs.Listed.{IsListed, listed_encoded}

-- an instruction alone, with this record
pub record Own (v : Version) (r : Record) : Type 0 where
  pub first : ℕ
  pub rest : List ℕ
  pub class : Class
  pub are_words : Words (first ∷ rest)
  pub few : suc (length rest) ≤ most_tokens
  pub good : judged v (first ∷ rest) ≡ good_instruction (length rest) class
  pub record_is : record_of v (first ∷ rest) ≡ r

own_tokens : (v : Version) (r : Record) (size : ℕ) (class : Class) (tokens : List ℕ) → judged v tokens ≡ good_instruction size class → record_of v tokens ≡ r → Words tokens →
    length tokens ≤ most_tokens → Own v r
unfolding judged
own_tokens v r size class [] j is words short = apart (cc)
own_tokens v r size class (first ∷ rest) j is words short =
    let inside = good_within size class v (first ∷ rest) j in
    let long : length (take size rest) ≡ size = length-take-le size rest (omega arith) in
    record {
      first = first;
      rest = take size rest;
      class = class;
      are_words = words_take (suc size) (first ∷ rest) words;
      few = omega arith;
      good = good_own size class v (first ∷ rest) j ∙ ap (λ n. good_instruction n class) (sym long);
      record_is = record_own v (first ∷ rest) j ∙ is;
    }

-- what a reading gives is an instruction's
module _ (v : Version) (tokens : List ℕ) (at next : ℕ) (r : Record) (words : Words tokens) where
  by_judged : (j : Judged) → length tokens ≤ most_tokens → judged v (drop at tokens) ≡ j → read_judged j at (record_of v (drop at tokens)) ≡ got next r → Own v r
  by_judged (good_instruction size class) few j e =
      own_tokens v r size class (drop at tokens) j (same_got e).1 (words_drop at tokens words) (omega (arith, length-drop at tokens))
  by_judged (bad_instruction x) few j e = apart (cc)

  by_tests : (short there : Bool) → leb (length tokens) most_tokens ≡ short →
      pick short (pick there (read_judged (judged v (drop at tokens)) at (record_of v (drop at tokens))) (unread RUN_OUT (length tokens))) (unread LENGTH 0) ≡ got next r → Own v r
  by_tests true true l e = by_judged (judged v (drop at tokens)) (leb-true (length tokens) most_tokens l) refl e
  by_tests true false l e = apart (cc)
  by_tests false there l e = apart (cc)

  pub read_own : reading (version_token v) tokens at ≡ got next r → Own v r
  unfolding reading reading_at
  read_own e = by_tests (leb (length tokens) most_tokens) (ltb at (length tokens)) refl (rw (named_back v) at e)

-- and is read from its tokens alone
pub alone_read : (v : Version) (r : Record) (first : ℕ) (rest : List ℕ) {class : Class} → suc (length rest) ≤ most_tokens → judged v (first ∷ rest) ≡ good_instruction (length rest) class →
    record_of v (first ∷ rest) ≡ r → reading (version_token v) (first ∷ rest) 0 ≡ got (suc (length rest)) r
unfolding reading reading_at
alone_read v r first rest few good is =
    let next : 0 + length rest + 1 ≡ suc (length rest) = omega arith in
    rw (le-leb (suc (length rest)) most_tokens few, named_back v, lt-ltb 0 (suc (length rest)) (omega arith), good, next, is)

-- the record and the body of a lawful instruction, by what its first token says
pub data Lawfully (v : Version) (first : ℕ) (rest : List ℕ) : Record → List ℕ → Type 0 where
  an_end : Lawfully v first rest end_record []
  a_comment : {n : ℕ} → n ≤ length rest → Lawfully v first rest (comment_record n) (take n rest)
  an_entry : (operands : List Operand) → IsListed v first → Lawfully v first rest (instruction_record first operands) []

module _ (v : Version) (first : ℕ) (rest : List ℕ) (size : ℕ) (class : Class) where
  lawfully_by : (h : Head) → Says v first h → claim h ≤ length rest → (behind : List ℕ) → on_claimed v h (opcode_of first) behind ≡ good_instruction size class →
      Lawfully v first rest (record_on h first rest) (body_on h rest)
  lawfully_by h (is_broken b) there behind j = apart (cc)
  lawfully_by h (is_end_lem n) there behind j = an_end
  lawfully_by h (is_comment_lem o l) there behind j = a_comment there
  lawfully_by h (is_listed {places} o e l) there behind j = an_entry _ (record { places = places; other = o; entry = e; laid = l })

  pub lawfully : judged v (first ∷ rest) ≡ good_instruction size class → Lawfully v first rest (record_of v (first ∷ rest)) (comment_body v (first ∷ rest))
  unfolding record_of comment_body
  lawfully j =
      let g = good_claim size class v first rest j in
      lawfully_by (token_head v first) (says v first) (rw g.claims g.there) (take size rest) g.good

-- only a comment has a body, and its record has nothing but its length
module _ (v : Version) (first : ℕ) (rest : List ℕ) where
  pub bodiless : {r : Record} {body : List ℕ} → Lawfully v first rest r body → eqb r.opcode comment_opcode ≡ false → body ≡ []
  bodiless an_end n = refl
  bodiless (a_comment h) n = apart (cc)
  bodiless (an_entry operands l) n = refl

  pub comment_only : {r : Record} {body : List ℕ} → Lawfully v first rest r body → eqb r.opcode comment_opcode ≡ true →
      (r ≡ comment_record r.extent) × (r.extent ≤ length rest)
  comment_only an_end o = apart (cc)
  comment_only (a_comment h) o = (refl, h)
  comment_only (an_entry operands l) o = let no = l.other.no_comment in apart (cc)

  pub body_agrees : {r : Record} {body : List ℕ} → Lawfully v first rest r body → length body ≡ body_length r
  body_agrees an_end = refl
  body_agrees (a_comment {n} h) = length-take-le n rest h
  body_agrees (an_entry operands l) = rw l.other.no_comment

  pub encoded_own : {r : Record} {body : List ℕ} → Lawfully v first rest r body → eqb r.opcode comment_opcode ≡ false → encoded_tokens v r ≡ tokens_of v r []
  unfolding encoded_tokens tokens_of
  encoded_own an_end n = refl
  encoded_own (a_comment h) n = apart (cc)
  encoded_own (an_entry operands l) n = listed_encoded v first operands l
