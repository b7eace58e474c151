-- A record whose fields are as reading gives them is read back from its own tokens, if they are judged good; and what is read has such fields.
use mathlib.Core.Path.{◌≡◌, refl, sym, ap, ◌∙◌}
use mathlib.Core.Bool.{Bool, true, false}
use mathlib.Core.List.{List, [], ◌∷◌}
use Prim.Native.Nat.{ℕ, suc, ◌*◌, ◌≤◌}
use native.Mathlib.Omega.{arith}
use lib.Dec.{eqb}
use lib.ListN.{length, take}
use lib.Seq.{take-length}
use borrow.Author.Tests.{eq-eqb, ne_eqb}
use Rattle.paper.specs.Notation.{bit}
use Rattle.paper.specs.OpcodeTable.{rows}
use Rattle.paper.specs.FirstVersions.{first_rows}
use Rattle.paper.specs.Versions.{has_predicates}
use Rattle.paper.specs.InstructionToken.{opcode_of, controls_of, is_coissued, is_predicated, with_predicate, bits_laid, comment_opcode, end_opcode}
use Rattle.paper.specs.Instruction.{Head, token_head, claim, on_claimed, judged}
use Rattle.paper.specs.Places.{absent, listed, entry_of, Place, typed_places}
use Rattle.paper.specs.declared.Version.{Version}
use Rattle.paper.specs.declared.Version.TheVariants.{V2, V3, P2, P3, V1, P11, P12, P13, P14}
use Rattle.paper.specs.declared.Class.{Class}
use Rattle.paper.specs.Judgements.{good_instruction}
use Rattle.paper.proofs.Bools.{apart, never, both_right}
use Rattle.paper.proofs.FirstToken.{Says, is_broken, is_comment_lem, is_end_lem, is_listed, says}
use Rattle.paper.proofs.OwnTokens.{good_claim}
use Rattle.places.specs.Places.{decoded}
use Rattle.places.proofs.Decoding.{decoded_zero}
use Rattle.shapes.specs.Shape.{shape_of}
use Rattle.shapes.proofs.Shapes.{few, shape_absent, row_unpredicated}
use Rattle.instruction_token.specs.ByShape.{places_by}
use Rattle.instruction_token.proofs.ByShape.{may_be}
use Rattle.records.specs.declared.Record.{Record}
use Rattle.records.specs.Record.{operand_count, array_of, record_on, record_of}
use Rattle.records.proofs.Rows.{unpredicated_in_order}
use Rattle.record_tokens.specs.Tokens.{Words, instruction_token, tokens_behind}
use Rattle.record_tokens.proofs.Operands.{words_take}
use Rattle.writer.specs.Buffer.{word, words_of}
use Rattle.writer.specs.Laid.{array_fits}
use Rattle.writer.specs.Decided.{reads_back}
use Rattle.writer.specs.Row.{row_number, row_of}
use Rattle.writer.proofs.Paste.{words_length}
use Rattle.writer.proofs.Same.{record_by_lem, record_own}
use Rattle.writer.proofs.Listed.{row_listed, other_encoded}
use Rattle.writer.proofs.LaidRow.{given_none, given_array, read_array}
use Rattle.writer.proofs.Readings.{Own, alone_read}

-- the table lists neither END nor a comment
pub end_absent : (v : Version) → entry_of v end_opcode ≡ absent
unfolding rows first_rows entry_of typed_places
end_absent V2 = refl
end_absent V3 = refl
end_absent P2 = refl
end_absent P3 = refl
end_absent V1 = refl
end_absent P11 = refl
end_absent P12 = refl
end_absent P13 = refl
end_absent P14 = refl

pub comment_absent : (v : Version) → entry_of v comment_opcode ≡ absent
unfolding rows first_rows entry_of typed_places
comment_absent V2 = refl
comment_absent V3 = refl
comment_absent P2 = refl
comment_absent P3 = refl
comment_absent V1 = refl
comment_absent P11 = refl
comment_absent P12 = refl
comment_absent P13 = refl
comment_absent P14 = refl

abbrev pub laid : Version → Record → Bool
laid v r = array_fits (row_of v r) (eqb r.predicated 1) r.operands

-- a row of no places
pub absent_row : (v : Version) (opcode : ℕ) → entry_of v opcode ≡ absent → decoded (row_number (shape_of v opcode) false) ≡ []
unfolding row_number places_by
absent_row v opcode e = rw (shape_absent v opcode e, decoded_zero)

module _ (v : Version) (first : ℕ) (places : List Place) (e : entry_of v (opcode_of first) ≡ listed places) (l : bits_laid v first places ≡ true) where
  some_row : places ≡ [] → is_predicated first ≡ false
  some_row none = by (is_predicated first) refl
    where
      by : (marked : Bool) → is_predicated first ≡ marked → is_predicated first ≡ false
      by true m = never (both_right (has_predicates v) false (rw none at (may_be v first places l m)))
      by false m = m

-- what is read has such fields
module _ (v : Version) (first : ℕ) (rest : List ℕ) (words : Words rest) (size : ℕ) (class : Class) where
  laid_by : (h : Head) → Says v first h → claim h ≡ size → on_claimed v h (opcode_of first) (take size rest) ≡ good_instruction size class → laid v (record_on h first rest) ≡ true
  laid_by h (is_broken b) k g = apart (cc)
  laid_by h (is_end_lem n) k g = rw (absent_row v end_opcode (end_absent v)) given_none
  laid_by h (is_comment_lem o c) k g = rw (absent_row v comment_opcode (comment_absent v)) given_none
  laid_by h (is_listed {places} o e l) k g =
      rw (row_listed v (opcode_of first) places e (is_predicated first) (may_be v first places l), k)
      (given_array places (unpredicated_in_order places (row_unpredicated v (opcode_of first) places e)) (few v (opcode_of first) places e) (is_predicated first)
      (some_row v first places e l) (take size rest) (words_take size rest words))

pub own_laid : (v : Version) (r : Record) → Own v r → laid v r ≡ true
unfolding record_of Words
own_laid v r o =
    let g = good_claim (length o.rest) o.class v o.first o.rest o.good in
    let is = laid_by v o.first o.rest (λ k. o.are_words (suc k)) (length o.rest) o.class (token_head v o.first) (says v o.first) g.claims g.good in
    rw o.record_is at is

-- a first token that says the record's own fields
pub record Heads (r : Record) (first : ℕ) : Type 0 where
  pub opcode : opcode_of first ≡ r.opcode
  pub controls : controls_of first ≡ r.controls
  pub predicated : bit 28 first ≡ r.predicated
  pub coissue : is_coissued first ≡ r.coissue
  pub extent : 0 ≡ r.extent

-- such a record is read back
module _ (v : Version) (r : Record) (six : length r.operands ≡ operand_count) (fits : laid v r ≡ true) (first : ℕ) (heads : Heads r first)
    (no_end : eqb r.opcode end_opcode ≡ false) (no_comment : eqb r.opcode comment_opcode ≡ false) where
  abbrev rest : List ℕ
  rest = words_of (tokens_behind r (row_of v r))

  marked_is : eqb r.predicated 1 ≡ is_predicated first
  marked_is = rw (← heads.predicated)

  module _ (places : List Place) (e : entry_of v (opcode_of first) ≡ listed places) (l : bits_laid v first places ≡ true) where
    row_is : row_of v r ≡ with_predicate (is_predicated first) places
    row_is =
        rw (← heads.opcode, marked_is) (row_listed v (opcode_of first) places e (is_predicated first) (may_be v first places l))

    array_is : array_of (with_predicate (is_predicated first) places) rest ≡ r.operands
    array_is =
        rw row_is
        (read_array places (unpredicated_in_order places (row_unpredicated v (opcode_of first) places e)) (few v (opcode_of first) places e) (is_predicated first)
        (some_row v first places e l) r.operands six (rw (row_is, marked_is) at fits))

  read_by : (class : Class) (h : Head) → Says v first h → claim h ≡ length rest → on_claimed v h (opcode_of first) (take (length rest) rest) ≡ good_instruction (length rest) class → record_on h first rest ≡ r
  read_by class h (is_broken b) k g = apart (cc)
  read_by class h (is_end_lem n) k g = let t = eq-eqb r.opcode end_opcode (sym heads.opcode ∙ ap opcode_of n) in apart (cc)
  read_by class h (is_comment_lem o c) k g = let t = eq-eqb r.opcode comment_opcode (sym heads.opcode ∙ o) in apart (cc)
  read_by class h (is_listed {places} o e l) k g =
      record_by_lem _ r heads.opcode heads.controls heads.predicated heads.coissue heads.extent
      (rw (k, take-length rest) (array_is places e l))

  pub laid_read : (class : Class) → judged v (first ∷ rest) ≡ good_instruction (length rest) class → record_of v (first ∷ rest) ≡ r
  unfolding record_of
  laid_read class j =
      let g = good_claim (length rest) class v first rest j in
      read_by class (token_head v first) (says v first) g.claims g.good

-- so that the test by its fields and by the judge is that of reading back
pub laid_back : (v : Version) (r : Record) → length r.operands ≡ operand_count → laid v r ≡ true → (r.opcode ≡ end_opcode → ⊥) → (r.opcode ≡ comment_opcode → ⊥) →
    let behind = tokens_behind r (row_of v r) in
    Heads r (word (instruction_token v r (length behind))) → length behind ≤ 2 * operand_count → (class : Class) →
    judged v (word (instruction_token v r (length behind)) ∷ words_of behind) ≡ good_instruction (length (words_of behind)) class → reads_back v r ≡ true
unfolding reads_back words_of
laid_back v r six fits no_end no_comment heads short class j =
    let behind = tokens_behind r (row_of v r) in
    let first = word (instruction_token v r (length behind)) in
    let is = laid_read v r six fits first heads (ne_eqb r.opcode end_opcode no_end) (ne_eqb r.opcode comment_opcode no_comment) class j in
    rw (other_encoded v r no_end, alone_read v r first (words_of behind) (omega (arith, words_length behind)) j is) (record_own r)
