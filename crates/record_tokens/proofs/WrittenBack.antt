-- Written back: the tokens of an instruction's record, with a comment's body, are the instruction's.
use mathlib.Core.Path.{◌≡◌, refl, sym, ap, ◌∙◌}
use mathlib.Core.Bool.{Bool, true, false, not}
use mathlib.Core.List.{List, [], ◌∷◌}
use Prim.Native.Nat.{ℕ, zero, suc, ◌^◌, ◌≤◌, ◌<◌}
use native.Mathlib.Omega.{arith}
use lib.Dec.{eqb}
use lib.ListN.{length, take, get_or}
use lib.Seq.{get_or_at, length-take-le}
use borrow.Author.Tests.{eqb-true, not-true}
use Rattle.paper.specs.Notation.{pick, bits, bit}
use Rattle.paper.specs.Versions.{has_sizes}
use Rattle.paper.specs.InstructionToken.{opcode_of, controls_of, stated_size, is_coissued, comment_length, is_predicated, with_predicate, sized_bits_laid, unsized_bits_laid, bits_laid}
use Rattle.paper.specs.Instruction.{claimed, Head, token_head, claim, on_claimed, judged}
use Rattle.paper.specs.Places.{Place, is_predicate}
use Rattle.paper.specs.declared.Version.{Version}
use Rattle.paper.specs.declared.Class.{Class}
use Rattle.paper.specs.Judgements.{good_instruction}
use Rattle.paper.proofs.Bools.{apart, both_left, both_right}
use Rattle.paper.proofs.FirstToken.{Says, is_broken, is_comment_lem, is_end_lem, is_listed, says}
use Rattle.paper.proofs.OwnTokens.{operands_good, good_claim}
use Rattle.shapes.proofs.Shapes.{unpredicated, row_unpredicated}
use Rattle.records.specs.declared.Operand.{Operand}
use Rattle.records.specs.Record.{predicate_slot, no_operand, in_order, predicate_or, padded, array_of, record_on, record_of}
use Rattle.records.specs.ByClass.{ordered}
use Rattle.records.proofs.Passed.{AllPassed}
use Rattle.records.proofs.Rows.{row_few, row_passed}
use Rattle.record_tokens.specs.Tokens.{Words, row_tokens, head_token, size_in, tokens_of, body_on, comment_body}
use Rattle.record_tokens.proofs.Digits.{reserved_zero, instruction_back, comment_back}
use Rattle.record_tokens.proofs.Operands.{words_take, single, unpredicated_single, row_back}

row_single : (predicated : Bool) (row : List Place) → unpredicated row ≡ true → single (with_predicate predicated row) ≡ true
row_single predicated [] h = refl
row_single true (place ∷ row) h =
    rw (not-true (is_predicate place) (both_left (not (is_predicate place)) _ h)) (both_right (not (is_predicate place)) _ h)
row_single false (place ∷ row) h = unpredicated_single (place ∷ row) h

-- the operands of a record
padded_length : (n : ℕ) (operands : List Operand) → length (padded n operands) ≡ n
padded_length zero operands = refl
padded_length (suc n) [] = ap suc (padded_length n [])
padded_length (suc n) (operand ∷ operands) = ap suc (padded_length n operands)

behind_back : {v : Version} (row : List Place) (tokens : List ℕ) → AllPassed v row tokens → Words tokens → ordered row ≤ predicate_slot → single row ≡ true →
    row_tokens row (array_of row tokens) (get_or (array_of row tokens) predicate_slot no_operand) ≡ tokens
unfolding array_of
behind_back row tokens passed words few once =
    rw (get_or_at (padded predicate_slot (in_order row tokens)) (predicate_or no_operand row tokens) [] no_operand predicate_slot (padded_length predicate_slot (in_order row tokens)))
    (row_back passed words predicate_slot few once (predicate_or no_operand row tokens ∷ []) no_operand)

-- the first token, where its bits are laid out
abbrev with_size : ℕ → ℕ → ℕ
with_size first n = head_token (opcode_of first) (controls_of first) n (bit 28 first) (is_coissued first)

head_back : (v : Version) (first : ℕ) (places : List Place) → first < 2 ^ 32 → bits_laid v first places ≡ true →
    with_size first (size_in v (claimed v first places)) ≡ first
head_back v first places word l = by (has_sizes v) l
  where
    by : (sized : Bool) → pick sized (sized_bits_laid v first places) (unsized_bits_laid v first) ≡ true →
        with_size first (pick sized (pick sized (stated_size first) (length places)) 0) ≡ first
    by true h =
        let zeros : bits 31 29 first ≡ 0 = eqb-true _ _ (both_left (eqb (bits 31 29 first) 0) _ h) in
        instruction_back first word (omega (arith, zeros)) (omega (arith, zeros))
    by false h =
        let zeros : bits 29 16 first ≡ 0 = eqb-true _ _ (both_left (eqb (bits 29 16 first) 0) _ h) in
        let last : bit 31 first ≡ 0 = eqb-true _ _ (both_left (eqb (bit 31 first) 0) _ (both_right (eqb (bits 29 16 first) 0) _ h)) in
        let none : 0 ≡ stated_size first = omega (arith, zeros) in
        ap (with_size first) none ∙ instruction_back first word (reserved_zero first zeros) last

module _ (v : Version) (first : ℕ) (rest : List ℕ) (word : first < 2 ^ 32) (words : Words rest) (size : ℕ) (class : Class) (there : size ≤ length rest) where
  back_by : (h : Head) → Says v first h → claim h ≡ size → on_claimed v h (opcode_of first) (take size rest) ≡ good_instruction size class →
      tokens_of v (record_on h first rest) (body_on h rest) ≡ first ∷ take size rest
  unfolding tokens_of
  back_by h (is_broken b) k j = apart (cc)
  back_by h (is_end_lem n) k j = rw (← k) (ap (λ t. t ∷ []) (sym n))
  back_by h (is_comment_lem o l) k j = rw (← k, ← o) (ap (λ t. t ∷ take (comment_length first) rest) (comment_back first word (eqb-true _ _ l)))
  back_by h (is_listed {places} o e l) k j =
      let row = with_predicate (is_predicated first) places in
      let fits = operands_good size class v (opcode_of first) row (claimed v first places) (take size rest) j in
      let once = row_single (is_predicated first) places (row_unpredicated v (opcode_of first) places e) in
      let back = behind_back row (take size rest) (row_passed v first places e l (take size rest) fits.0) (words_take size rest words) (row_few v first places e l) once in
      rw (k, o.no_comment, o.no_end, e, back, length-take-le size rest there, ← k, head_back v first places word l)

pub written_back : (v : Version) (tokens : List ℕ) {size : ℕ} {class : Class} → Words tokens → judged v tokens ≡ good_instruction size class →
    tokens_of v (record_of v tokens) (comment_body v tokens) ≡ take (suc size) tokens
unfolding judged record_of comment_body Words
written_back v [] words j = apart (cc)
written_back v (first ∷ rest) {size} {class} words j =
    let g = good_claim size class v first rest j in
    back_by v first rest (words 0) (λ k. words (suc k)) size class g.there (token_head v first) (says v first) g.claims g.good
