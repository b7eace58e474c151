-- An operand by the place of its tokens among those behind the instruction token.
use mathlib.Core.Path.{◌≡◌, refl, sym, ◌∙◌}
use mathlib.Core.Bool.{Bool, true, false}
use mathlib.Core.List.{List, [], ◌∷◌}
use Prim.Native.Nat.{ℕ, zero, suc, ◌+◌, ◌/◌, ◌%◌, ◌^◌, ◌<◌, ◌≤◌}
use native.Mathlib.Numerals.{add-one}
use native.Mathlib.Omega.{arith}
use lib.Dec.{eqb}
use lib.ListN.{length, drop, get_or, length-drop, drop_of_length-le}
use lib.Seq.{drop-cons, drop-drop}
use Rattle.paper.proofs.Bools.{apart}
use Rattle.paper.specs.Notation.{bit, pick}
use Rattle.paper.specs.Numbers.{refusal, told_token}
use Rattle.paper.specs.OperandTokens.{token_at, brings_relative}
use Rattle.paper.specs.Instruction.{on_token, relative_token, operand, on_taken, operands}
use Rattle.paper.specs.declared.Version.{Version}
use Rattle.paper.specs.declared.Reason.TheVariants.{Size as SIZE}
use Rattle.paper.specs.declared.Refusal.{Refusal}
use Rattle.paper.specs.Judgements.{Token, good_token, bad_token, Taken, operand_taken, operand_refused, good_operands, bad_operands}
use Rattle.paper.specs.Places.{Place, relative}
use Rattle.places.specs.Places.{place_by, places_in, decoded}
use Rattle.told.specs.Numbered.{fault_number, took_number, taken_number}
use Rattle.std.specs.Prelude.{Result, is_ok}
use Rattle.tokens.specs.declared.Wrong.{Wrong}
use Rattle.tokens.specs.Brief.{brief}
use Rattle.tokens.proofs.TokenAt.{brief_good}
use Rattle.operands.proofs.Numbers.{on_token_number, taken_pick}
use Rattle.places.proofs.Decoding.{decoded_zero, decoded_step}

pub relative_none_lem : (v : Version) (offset at : ℕ) (behind : List ℕ) → length behind ≤ at →
    relative_token v offset (drop at behind) ≡ operand_refused (refusal SIZE 0)
relative_none_lem v offset at behind h = rw (drop_of_length-le behind h)

pub relative_at : (v : Version) (offset at : ℕ) (behind : List ℕ) → at < length behind →
    relative_token v offset (drop at behind) ≡ on_token (token_at v relative (get_or behind at 0)) offset (operand_taken 2)
relative_at v offset at behind h = rw (drop-cons behind at 0 h)

pub operand_none : (v : Version) (place : Place) (offset at : ℕ) (behind : List ℕ) → length behind ≤ at →
    operand v place offset (drop at behind) ≡ operand_refused (refusal SIZE 0)
unfolding operand
operand_none v place offset at behind h = rw (drop_of_length-le behind h)

pub operand_at : (v : Version) (place : Place) (offset at : ℕ) (behind : List ℕ) → at < length behind →
    operand v place offset (drop at behind) ≡
    on_token (token_at v place (get_or behind at 0)) offset
    (pick (brings_relative place (get_or behind at 0)) (relative_token v (offset + 1) (drop (at + 1) behind)) (operand_taken 1))
unfolding operand
operand_at v place offset at behind h = rw (drop-cons behind at 0 h, add-one at)

-- what is told of an operand, by what is told of its token
pub relative_number : (v : Version) (offset at : ℕ) (told : Result (Unit {0}) Wrong) (behind : List ℕ) → at < length behind →
    told ≡ brief v relative (get_or behind at 0) →
    taken_number (relative_token v offset (drop at behind)) ≡ pick (is_ok told) (took_number 2) (fault_number (told_token (token_at v relative (get_or behind at 0))) offset)
relative_number v offset at told behind h e =
    rw (relative_at v offset at behind h, e)
    (on_token_number (token_at v relative (get_or behind at 0)) (is_ok (brief v relative (get_or behind at 0))) offset (operand_taken 2) (brief_good v relative (get_or behind at 0)))

module _ (v : Version) (place : Place) (offset at : ℕ) (told : Result (Unit {0}) Wrong) (behind : List ℕ) (h : at < length behind) where
  abbrev token : ℕ
  token = get_or behind at 0

  abbrev brought : Taken
  brought = relative_token v (offset + 1) (drop (at + 1) behind)

  pub operand_number : told ≡ brief v place token → taken_number (operand v place offset (drop at behind)) ≡
      pick (is_ok told) (pick (brings_relative place token) (taken_number brought) (took_number 1)) (fault_number (told_token (token_at v place token)) offset)
  operand_number e =
      rw (operand_at v place offset at behind h, ← (taken_pick (brings_relative place token) brought (operand_taken 1)), e)
      (on_token_number (token_at v place token) (is_ok (brief v place token)) offset (pick (brings_relative place token) brought (operand_taken 1)) (brief_good v place token))

-- an operand takes tokens that are there
module _ (v : Version) (place : Place) (offset n : ℕ) where
  relative_fits_lem : (token : Token) (rest : List ℕ) → on_token token (offset + 1) (operand_taken 2) ≡ operand_taken n → n ≤ suc (suc (length rest))
  relative_fits_lem good_token rest e = let two : 2 ≡ n = cc in omega arith
  relative_fits_lem (bad_token reason bit) rest e = apart (cc)

  brought_fits : (brings : Bool) (rest : List ℕ) → pick brings (relative_token v (offset + 1) rest) (operand_taken 1) ≡ operand_taken n → n ≤ suc (length rest)
  brought_fits true [] e = apart (cc)
  brought_fits true (token ∷ rest) e = relative_fits_lem (token_at v relative token) rest e
  brought_fits false rest e = let one : 1 ≡ n = cc in omega arith

  token_fits : (judged : Token) (brings : Bool) (rest : List ℕ) →
      on_token judged offset (pick brings (relative_token v (offset + 1) rest) (operand_taken 1)) ≡ operand_taken n → n ≤ suc (length rest)
  token_fits good_token brings rest e = brought_fits brings rest e
  token_fits (bad_token reason bit) brings rest e = apart (cc)

  operand_fits : (tokens : List ℕ) → operand v place offset tokens ≡ operand_taken n → n ≤ length tokens
  unfolding operand
  operand_fits [] e = apart (cc)
  operand_fits (token ∷ rest) e = token_fits (token_at v place token) (brings_relative place token) rest e

  relative_few : (token : Token) → on_token token (offset + 1) (operand_taken 2) ≡ operand_taken n → n ≤ 2
  relative_few good_token e = let two : 2 ≡ n = cc in omega arith
  relative_few (bad_token reason bit) e = apart (cc)

  brought_few : (brings : Bool) (rest : List ℕ) → pick brings (relative_token v (offset + 1) rest) (operand_taken 1) ≡ operand_taken n → n ≤ 2
  brought_few true [] e = apart (cc)
  brought_few true (token ∷ rest) e = relative_few (token_at v relative token) e
  brought_few false rest e = let one : 1 ≡ n = cc in omega arith

  token_few : (judged : Token) (brings : Bool) (rest : List ℕ) →
      on_token judged offset (pick brings (relative_token v (offset + 1) rest) (operand_taken 1)) ≡ operand_taken n → n ≤ 2
  token_few good_token brings rest e = brought_few brings rest e
  token_few (bad_token reason bit) brings rest e = apart (cc)

  pub operand_few : (tokens : List ℕ) → operand v place offset tokens ≡ operand_taken n → n ≤ 2
  unfolding operand
  operand_few [] e = apart (cc)
  operand_few (token ∷ rest) e = token_few (token_at v place token) (brings_relative place token) rest e

  pub operand_within : (at : ℕ) (behind : List ℕ) → at ≤ length behind → operand v place offset (drop at behind) ≡ operand_taken n → at + n ≤ length behind
  operand_within at behind h e = omega (arith, operand_fits (drop at behind) e, length-drop at behind)

-- a number has at most ten places
places_few : (f p : ℕ) → length (places_in f p) ≤ f
places_few zero p = omega arith
places_few (suc f) p = one_more (eqb p 0) (places_in f (p / 128)) (places_few f (p / 128))
  where
    one_more : (none : Bool) (rest : List Place) → length rest ≤ f → length (pick none [] (place_by (p % 128) ∷ rest)) ≤ suc f
    one_more true rest h = omega arith
    one_more false rest h = omega arith

pub decoded_few : (p : ℕ) → length (decoded p) ≤ 10
unfolding decoded
decoded_few p = places_few 10 p

pub decoded_less : (p : ℕ) → p < 2 ^ 64 → (p ≡ 0 → ⊥) → length (decoded p) ≡ suc (length (decoded (p / 128)))
decoded_less p fits some = rw (decoded_step p fits some) refl

-- the operands whose places are the digits of a number
module _ (v : Version) (left at : ℕ) (behind : List ℕ) (fits : left < 2 ^ 64) (some : left ≡ 0 → ⊥) where
  first_place_lem : operands v (decoded left) (at + 1) (drop at behind) ≡
      on_taken (operand v (place_by (left % 128)) (at + 1) (drop at behind)) (λ n. operands v (decoded (left / 128)) (at + 1 + n) (drop n (drop at behind)))
  unfolding operands
  first_place_lem = rw (decoded_step left fits some)

  pub operands_on : (n : ℕ) → operand v (place_by (left % 128)) (at + 1) (drop at behind) ≡ operand_taken n →
      operands v (decoded (left / 128)) (at + n + 1) (drop (at + n) behind) ≡ operands v (decoded left) (at + 1) (drop at behind)
  operands_on n e =
      let k : at + 1 + n ≡ at + n + 1 = omega arith in
      sym (first_place_lem ∙ rw (e, drop-drop n at behind, k) refl)

  pub operands_refused : (r : Refusal) → operand v (place_by (left % 128)) (at + 1) (drop at behind) ≡ operand_refused r →
      operands v (decoded left) (at + 1) (drop at behind) ≡ bad_operands r
  operands_refused r e = first_place_lem ∙ rw e refl

module _ (v : Version) (left offset at : ℕ) (behind : List ℕ) (none : left ≡ 0) where
  pub operands_fit : at ≡ length behind → operands v (decoded left) offset (drop at behind) ≡ good_operands
  unfolding operands
  operands_fit h = rw (none, decoded_zero, drop_of_length-le behind {i = at} (omega arith))

  pub operands_over : at ≤ length behind → (at ≡ length behind → ⊥) → operands v (decoded left) offset (drop at behind) ≡ bad_operands (refusal SIZE 0)
  unfolding operands
  operands_over h more = rw (none, decoded_zero, drop-cons behind at 0 (omega arith))
