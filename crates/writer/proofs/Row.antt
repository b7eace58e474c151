-- The operands of a row, place by place: their tokens, and whether they fit.
use mathlib.Core.Path.{◌≡◌, refl}
use mathlib.Core.Bool.{Bool, true, false, ◌&&◌, ◌||◌}
use mathlib.Core.List.{List, [], ◌∷◌, ◌++◌}
use Prim.Native.Nat.{ℕ, suc, ◌+◌, ◌*◌, ◌-◌, ◌/◌, ◌%◌, ◌^◌, ◌≤◌, ◌<◌}
use native.Mathlib.Nat.{add-zero}
use native.Mathlib.Numerals.{add-one}
use native.Mathlib.Omega.{arith}
use lib.Dec.{eqb}
use lib.ListN.{length, drop, get_or, length-append}
use lib.Seq.{drop-cons, drop-drop, get_or-drop}
use Rattle.paper.specs.Notation.{pick}
use Rattle.paper.specs.Places.{Place, is_raw, is_predicate}
use Rattle.paper.specs.OperandTokens.{is_free}
use Rattle.places.specs.Places.{place_by, decoded}
use Rattle.places.proofs.Decoding.{decoded_zero, decoded_step}
use Rattle.records.specs.declared.Operand.{Operand}
use Rattle.records.specs.Record.{operand_count, predicate_slot, no_operand}
use Rattle.records.specs.ByClass.{ordered}
use Rattle.record_tokens.specs.Tokens.{token_of, middle_of, operand_token, relative_token_of, operand_tokens, row_tokens}
use Rattle.writer.specs.Same.{same_operand}
use Rattle.writer.specs.Laid.{fits, row_fits, all_unused, unused_from}

-- one operand
module _ (place : Place) (operand : Operand) where
  pub raw_operand_lem : is_raw place ≡ true → operand_tokens place operand ≡ operand.raw ∷ []
  unfolding operand_tokens
  raw_operand_lem e = rw e

  pub two_operand : is_raw place ≡ false → (is_free place && eqb operand.relative 1) ≡ true → operand_tokens place operand ≡
      token_of operand.number operand.kind operand.relative (middle_of operand)
      ∷ (token_of operand.relative_number operand.relative_kind 0 operand.relative_swizzle ∷ [])
  unfolding operand_tokens operand_token relative_token_of
  two_operand n e = rw (n, e)

  pub one_operand : is_raw place ≡ false → (is_free place && eqb operand.relative 1) ≡ false → operand_tokens place operand ≡
      token_of operand.number operand.kind operand.relative (middle_of operand) ∷ []
  unfolding operand_tokens operand_token
  one_operand n e = rw (n, e)

  pub operand_few : length (operand_tokens place operand) ≤ 2
  unfolding operand_tokens
  operand_few = by (is_raw place) (is_free place && eqb operand.relative 1)
    where
      by : (unread brings : Bool) → length (pick unread (operand.raw ∷ []) (operand_token operand ∷ pick brings (relative_token_of operand ∷ []) [])) ≤ 2
      by true brings = omega arith
      by false true = omega arith
      by false false = omega arith

-- a row takes two tokens for each place at most
pub tokens_few : (places : List Place) (operands : List Operand) (p : Operand) → length (row_tokens places operands p) ≤ 2 * length places
unfolding row_tokens
tokens_few [] operands p = omega arith
tokens_few (place ∷ places) operands p = by (λ rest. tokens_few places rest p) (is_predicate place)
  where
    both : (o : Operand) (rest : List Operand) → length (row_tokens places rest p) ≤ 2 * length places → length (operand_tokens place o ++ row_tokens places rest p) ≤ 2 * suc (length places)
    both o rest later = rw (length-append (operand_tokens place o) (row_tokens places rest p)) (omega (arith, operand_few place o))

    by : ((rest : List Operand) → length (row_tokens places rest p) ≤ 2 * length places) → (b : Bool) → length (pick b (operand_tokens place p ++ row_tokens places operands p) (operand_tokens place (get_or operands 0 no_operand) ++ row_tokens places (drop 1 operands) p)) ≤ 2 * suc (length places)
    by later true = both p operands (later operands)
    by later false = both (get_or operands 0 no_operand) (drop 1 operands) (later (drop 1 operands))

-- one place after the other
module _ (left : ℕ) (fits : left < 2 ^ 64) (some : left ≡ 0 → ⊥) where
  pub places_step : length (decoded left) ≡ suc (length (decoded (left / 128)))
  places_step = rw (decoded_step left fits some)

  pub row_step : (held : ℕ) (operands : List Operand) (predicate : Bool) → predicate ≡ is_predicate (place_by (left % 128)) →
      row_tokens (decoded left) (drop held operands) (get_or operands predicate_slot no_operand) ≡
      operand_tokens (place_by (left % 128)) (get_or operands (pick predicate predicate_slot held) no_operand)
      ++ row_tokens (decoded (left / 128)) (drop (pick predicate held (held + 1)) operands) (get_or operands predicate_slot no_operand)
  unfolding row_tokens
  row_step held operands true is = rw (decoded_step left fits some, ← is)
  row_step held operands false is = rw (decoded_step left fits some, ← is, get_or-drop held operands 0 no_operand, add-zero, drop-drop 1 held operands)

pub row_none : (left : ℕ) (operands : List Operand) (p : Operand) → left ≡ 0 → row_tokens (decoded left) operands p ≡ []
unfolding row_tokens
row_none left operands p e = rw (e, decoded_zero)

-- how many operands are then held in token order
pub held_few : (predicate : Bool) (held next left : ℕ) → held + suc left ≤ operand_count → next ≡ pick predicate held (held + 1) → next + left ≤ operand_count
held_few true held next left h e = omega arith
held_few false held next left h e = omega arith

-- the same places, tested, and how many operands they hold in token order
module _ (left : ℕ) (small : left < 2 ^ 64) (some : left ≡ 0 → ⊥) (held : ℕ) (predicate : Bool) (is : predicate ≡ is_predicate (place_by (left % 128))) where
  pub fits_step : (operands : List Operand) →
      row_fits (decoded left) (drop held operands) (get_or operands predicate_slot no_operand) ≡
      (fits (place_by (left % 128)) (get_or operands (pick predicate predicate_slot held) no_operand)
      && row_fits (decoded (left / 128)) (drop (pick predicate held (held + 1)) operands) (get_or operands predicate_slot no_operand))
  unfolding row_fits
  fits_step operands = by predicate is
    where
      by : (b : Bool) → b ≡ is_predicate (place_by (left % 128)) →
          row_fits (decoded left) (drop held operands) (get_or operands predicate_slot no_operand) ≡
          (fits (place_by (left % 128)) (get_or operands (pick b predicate_slot held) no_operand)
          && row_fits (decoded (left / 128)) (drop (pick b held (held + 1)) operands) (get_or operands predicate_slot no_operand))
      by true e = rw (decoded_step left small some, ← e)
      by false e = rw (decoded_step left small some, ← e, get_or-drop held operands 0 no_operand, add-zero, drop-drop 1 held operands)

  pub ordered_step : (next : ℕ) → next ≡ pick predicate held (held + 1) → held + ordered (decoded left) ≡ next + ordered (decoded (left / 128))
  unfolding ordered
  ordered_step next on = by predicate is on
    where
      by : (b : Bool) → b ≡ is_predicate (place_by (left % 128)) → next ≡ pick b held (held + 1) → held + ordered (decoded left) ≡ next + ordered (decoded (left / 128))
      by true e n = rw (decoded_step left small some, ← e, n)
      by false e n = rw (decoded_step left small some, ← e, n) (omega arith)

pub fits_none : (left : ℕ) (operands : List Operand) (p : Operand) → left ≡ 0 → row_fits (decoded left) operands p ≡ true
unfolding row_fits
fits_none left operands p e = rw (e, decoded_zero)

pub ordered_none : (left : ℕ) → left ≡ 0 → ordered (decoded left) ≡ 0
unfolding ordered
ordered_none left e = rw (e, decoded_zero)

-- the predicate's place of a record that is not marked
pub unmarked : (marked unused : Bool) → pick marked true unused ≡ (marked || unused)
unmarked true unused = refl
unmarked false unused = refl

-- one unused place after the other
module _ (held : ℕ) (operands : List Operand) (six : length operands ≡ operand_count) where
  pub unused_step : held < predicate_slot → unused_from held operands ≡ (same_operand no_operand (get_or operands held no_operand) && unused_from (held + 1) operands)
  unfolding all_unused
  unused_step h =
      let more : predicate_slot - held ≡ suc (predicate_slot - (held + 1)) = omega arith in
      rw (more, drop-cons operands held no_operand (omega arith), add-one held)

  pub unused_done : predicate_slot ≤ held → unused_from held operands ≡ true
  unfolding all_unused
  unused_done h = let none : predicate_slot - held ≡ 0 = omega arith in rw none
