-- Document 02, Q-4: "SIZE is never given for 1_x; RUN-OUT when the opcode's operands pass the end."
use Prim.Native.Nat.{ℕ, ◌+◌, ◌<◌}
use mathlib.Core.Path.{◌≡◌, refl, sym, ap, ◌∙◌}
use mathlib.Core.Bool.{Bool, true, false, not}
use mathlib.Core.List.{List, [], ◌∷◌}
use native.Mathlib.Omega.{arith}
use lib.Dec.{eqb, leb}
use lib.ListN.{length, take, drop}
use lib.Seq.{length-take-le}
use borrow.Author.Tests.{leb-true, lt-leb, not-true, eqb-true, ne_eqb}
use Rattle.paper.specs.Notation.{pick, bit, bits}
use Rattle.paper.specs.Numbers.{refusal}
use Rattle.paper.specs.Versions.{has_sizes}
use Rattle.paper.specs.OpcodeTable.{DCL}
use Rattle.paper.specs.Places.{Place, listed, entry_of}
use Rattle.paper.specs.OperandTokens.{type_of, is_free, token_at, left_over}
use Rattle.paper.specs.Dcl.{declared_at, usage_at, on_declared, declaration}
use Rattle.paper.specs.InstructionToken.{opcode_of, is_predicated, with_predicate, bits_laid}
use Rattle.paper.specs.Blocks.{class_of}
use Rattle.paper.specs.Instruction.{Head, token_head, on_token, operand, on_taken, operands, operands_of, on_operands, claim, on_claimed, judged}
use Rattle.paper.specs.declared.Version.{Version}
use Rattle.paper.specs.declared.Reason.{Reason}
use Rattle.paper.specs.declared.Reason.TheVariants.{RunOut as RUN_OUT, Size as SIZE}
use Rattle.paper.specs.Judgements.{Token, good_token, bad_token, operand_taken, Operands, good_operands, bad_operands, Judged, good_instruction, bad_instruction}
use Rattle.paper.specs.declared.Class.{Class}
use Rattle.paper.proofs.Bools.{apart, both_left, both_right}
use Rattle.paper.proofs.Faults.{TokenFaults, OfToken, of_token, of_declared, of_usage}
use Rattle.paper.proofs.FirstRows.{none_free, first_unfree}
use Rattle.paper.proofs.DclRow.{declared_row, declared_entry}
use Rattle.paper.proofs.FirstToken.{Other, stray_comment, stray_end, no_row_lem, stray_bits, Says, is_broken, is_comment_lem, is_end_lem, is_listed, says}

-- no SIZE: of a token, of operands, of an instruction
abbrev ReasonNot : Reason → ℕ → Type 0
ReasonNot reason bit = reason ≡ SIZE → ⊥

abbrev TokenNot : Token → Type 0
TokenNot = OfToken ReasonNot

abbrev OperandsNot : Operands → Type 0
OperandsNot good_operands = Unit {0}
OperandsNot (bad_operands r) = r.reason ≡ SIZE → ⊥

abbrev pub NotSize : Judged → Type 0
NotSize (good_instruction size class) = Unit {0}
NotSize (bad_instruction r) = r.reason ≡ SIZE → ⊥

token_not : TokenFaults ReasonNot
token_not = record { reserved = λ bit h e. apart (cc); modifier = λ e. apart (cc); relative = λ e. apart (cc); register = λ e. apart (cc) }

-- places that are not free take a token each
module _ (v : Version) where
  one_not : (t : Token) (offset : ℕ) (next : ℕ → Operands) → TokenNot t → OperandsNot (next 1) → OperandsNot (on_taken (on_token t offset (operand_taken 1)) next)
  one_not good_token offset next h j = j
  one_not (bad_token reason bit) offset next h j = h

  operands_not : (places : List Place) (offset : ℕ) (tokens : List ℕ) → none_free places ≡ true → length tokens ≡ length places →
      OperandsNot (operands v places offset tokens)
  unfolding operands operand
  operands_not [] offset [] f h = tt
  operands_not [] offset (token ∷ rest) f h = absurd (omega arith)
  operands_not (place ∷ places) offset [] f h = absurd (omega arith)
  operands_not (place ∷ places) offset (token ∷ rest) f h =
      rw (not-true (is_free place) (both_left (not (is_free place)) _ f))
      (one_not (token_at v place token) offset (λ n. operands v places (offset + n) (drop n (token ∷ rest)))
      (of_token ReasonNot token_not v place token)
      (operands_not places (offset + 1) rest (both_right (not (is_free place)) _ f) (omega arith)))

  declared_not : (t u : Token) → TokenNot t → TokenNot u → OperandsNot (on_declared t 2 (on_declared u 1 (left_over [])))
  declared_not good_token good_token h j = tt
  declared_not good_token (bad_token reason bit) h j = j
  declared_not (bad_token reason bit) u h j = h

  declaration_not : (tokens : List ℕ) → length tokens ≡ 2 → OperandsNot (declaration v tokens)
  unfolding declaration
  declaration_not [] h = absurd (omega arith)
  declaration_not (u ∷ []) h = absurd (omega arith)
  declaration_not (u ∷ (d ∷ [])) h =
      declared_not (declared_at v d) (usage_at v (type_of d) u) (of_declared ReasonNot token_not v d) (of_usage ReasonNot token_not v (type_of d) u)
  declaration_not (u ∷ (d ∷ (more ∷ rest))) h = absurd (omega arith)

-- an instruction without a size is not predicated
unpredicated : (places : List Place) → with_predicate false places ≡ places
unpredicated [] = refl
unpredicated (place ∷ places) = refl

module _ (v : Version) (token : ℕ) (sizeless : has_sizes v ≡ false) where
  listed_row : (places : List Place) → bits_laid v token places ≡ true → with_predicate (is_predicated token) places ≡ places
  listed_row places l =
      let zeros : bits 29 16 token ≡ 0 = eqb-true _ _ (both_left (eqb (bits 29 16 token) 0) _ (rw sizeless at l)) in
      let none : bit 28 token ≡ 0 = omega (arith, zeros) in
      rw (ne_eqb (bit 28 token) 1 (λ e. omega (arith, none, e))) (unpredicated places)

  row_not : (places : List Place) → entry_of v (opcode_of token) ≡ listed places → bits_laid v token places ≡ true → (behind : List ℕ) →
      length behind ≡ length places → OperandsNot (operands_of v (opcode_of token) (with_predicate (is_predicated token) places) behind)
  row_not places e l behind h = rw (listed_row places l) (by (eqb (opcode_of token) DCL) refl)
    where
      by : (is_dcl : Bool) → eqb (opcode_of token) DCL ≡ is_dcl → OperandsNot (pick is_dcl (declaration v behind) (operands v places 1 behind))
      by true d =
          let row : places ≡ declared_row = declared_entry v places (sym (ap (entry_of v) (eqb-true _ _ d)) ∙ e) in
          declaration_not v behind (h ∙ ap length row)
      by false d = operands_not v places 1 behind (first_unfree v (opcode_of token) places sizeless e) h

  on_operands_lem : (answer : Operands) (size : ℕ) (class : Class) → OperandsNot answer → NotSize (on_operands answer size class)
  on_operands_lem good_operands size class h = tt
  on_operands_lem (bad_operands r) size class h = h

  claimed_not : (h : Head) → Says v token h → (behind : List ℕ) → length behind ≡ claim h → NotSize (on_claimed v h (opcode_of token) behind)
  claimed_not h (is_broken (stray_comment o l)) behind n = λ e. apart (cc)
  claimed_not h (is_broken (stray_end o l)) behind n = λ e. apart (cc)
  claimed_not h (is_broken (no_row_lem o x)) behind n = λ e. apart (cc)
  claimed_not h (is_broken (stray_bits o x l)) behind n = λ e. apart (cc)
  claimed_not h (is_comment_lem o l) behind n = tt
  claimed_not h (is_end_lem e) behind n = tt
  claimed_not h (is_listed {places} o e l) behind n =
      on_operands_lem (operands_of v (opcode_of token) (with_predicate (is_predicated token) places) behind) _ (class_of (opcode_of token))
      (row_not places e l behind (rw sizeless at n))

-- SIZE is never given
pub no_size : (v : Version) (tokens : List ℕ) → has_sizes v ≡ false → NotSize (judged v tokens)
unfolding judged
no_size v [] s = λ e. apart (cc)
no_size v (token ∷ rest) s = by (leb (claim (token_head v token)) (length rest)) refl
  where
    by : (there : Bool) → leb (claim (token_head v token)) (length rest) ≡ there →
        NotSize (pick there (on_claimed v (token_head v token) (opcode_of token) (take (claim (token_head v token)) rest)) (bad_instruction (refusal RUN_OUT 0)))
    by true t =
        claimed_not v token s (token_head v token) (says v token) (take (claim (token_head v token)) rest)
        (length-take-le (claim (token_head v token)) rest (leb-true _ _ t))
    by false t = λ e. apart (cc)

-- RUN-OUT where an instruction's bits are laid out and its operands pass the end
pub passes_end : (v : Version) (token : ℕ) (rest : List ℕ) (places : List Place) → has_sizes v ≡ false → Other token →
    entry_of v (opcode_of token) ≡ listed places → bits_laid v token places ≡ true → length rest < length places →
    judged v (token ∷ rest) ≡ bad_instruction (refusal RUN_OUT 0)
unfolding judged token_head
passes_end v token rest places s o e l few = rw (o.no_comment, o.no_end, e, l, s, lt-leb (length places) (length rest) few)
