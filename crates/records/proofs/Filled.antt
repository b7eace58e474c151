-- The operands of a row of places, read one after the other.
use mathlib.Core.Path.{◌≡◌, refl, ap, ◌∙◌}
use mathlib.Core.Bool.{Bool, true, false}
use mathlib.Core.List.{List, [], ◌∷◌, ◌++◌}
use Prim.Native.Nat.{ℕ, suc, ◌+◌, ◌/◌, ◌%◌, ◌^◌, ◌<◌, ◌≤◌}
use native.Mathlib.Omega.{arith}
use lib.ListN.{length, drop, get_or}
use lib.Seq.{drop-drop, get_or-drop}
use Rattle.paper.specs.Notation.{pick}
use Rattle.paper.specs.InstructionToken.{with_predicate}
use Rattle.paper.specs.OperandTokens.{brings_relative}
use Rattle.paper.specs.Places.{Place, predicate, is_predicate}
use Rattle.places.specs.Places.{place_by, decoded}
use Rattle.places.proofs.Decoding.{decoded_zero, decoded_step}
use Rattle.records.specs.declared.Operand.{Operand}
use Rattle.records.specs.Record.{operand_count, no_operand, operand_of, width_at, operand_at, in_order, predicate_or, padded, array_of}
use Rattle.records.specs.ByClass.{width_of, ordered, ReadableRow}

-- one operand, by the place of its token
first_token_lem : (at : ℕ) (behind : List ℕ) → get_or (drop at behind) 0 0 ≡ get_or behind at 0
first_token_lem at behind = get_or-drop at behind 0 0 ∙ ap (λ n. get_or behind n 0) (omega arith)

pub width_one : (place : Place) (at : ℕ) (behind : List ℕ) → brings_relative place (get_or behind at 0) ≡ false → width_at place (drop at behind) ≡ 1
unfolding width_at
width_one place at behind h = rw (first_token_lem at behind, h)

pub width_two : (place : Place) (at : ℕ) (behind : List ℕ) → brings_relative place (get_or behind at 0) ≡ true → width_at place (drop at behind) ≡ 2
unfolding width_at
width_two place at behind h = rw (first_token_lem at behind, h)

one_or_two : (b : Bool) → 1 ≤ pick b 2 1
one_or_two true = omega arith
one_or_two false = omega arith

pub width_some : (place : Place) (tokens : List ℕ) → 1 ≤ width_at place tokens
unfolding width_at
width_some place tokens = one_or_two (brings_relative place (get_or tokens 0 0))

pub operand_one : (place : Place) (at : ℕ) (behind : List ℕ) → brings_relative place (get_or behind at 0) ≡ false →
    operand_at place (drop at behind) ≡ operand_of place (get_or behind at 0) 0
unfolding operand_at
operand_one place at behind h = rw (first_token_lem at behind, h)

pub operand_two : (place : Place) (at : ℕ) (behind : List ℕ) → brings_relative place (get_or behind at 0) ≡ true →
    operand_at place (drop at behind) ≡ operand_of place (get_or behind at 0) (get_or behind (at + 1) 0)
unfolding operand_at
operand_two place at behind h = rw (first_token_lem at behind, get_or-drop at behind 1 0, h)

-- a row with no predicate in it: each of its places has an operand in token order
at_most : (b : Bool) (n m : ℕ) → n ≤ m → pick b n (suc n) ≤ suc m
at_most true n m h = omega arith
at_most false n m h = omega arith

pub ordered_few : (row : List Place) → ordered row ≤ length row
unfolding ordered
ordered_few [] = omega arith
ordered_few (place ∷ row) = at_most (is_predicate place) _ _ (ordered_few row)

-- such a row begins with a place that is not the predicate's, and the rest of it is such a row
in_order_by : (b : Bool) (n m : ℕ) → n ≤ m → pick b n (suc n) ≡ suc m → (b ≡ false) × (n ≡ m)
in_order_by true n m h e = absurd (omega arith)
in_order_by false n m h e = (refl, omega arith)

pub in_order_first : (place : Place) (row : List Place) → ordered (place ∷ row) ≡ length (place ∷ row) → (is_predicate place ≡ false) × (ordered row ≡ length row)
unfolding ordered
in_order_first place row e = in_order_by (is_predicate place) (ordered row) (length row) (ordered_few row) e

pub no_predicate : (operand : Operand) (row : List Place) (tokens : List ℕ) → ordered row ≡ length row → predicate_or operand row tokens ≡ operand
unfolding predicate_or
no_predicate operand [] tokens e = refl
no_predicate operand (place ∷ row) tokens e =
    let first = in_order_first place row e in
    rw first.0 (no_predicate operand row (drop (width_at place tokens) tokens) first.1)

-- the row whose number is left to be read, from a place of the tokens on
pub record Left (left at : ℕ) (behind : List ℕ) : Type 0 where
  pub fits : left < 2 ^ 64
  pub there : at + width_of (decoded left) (drop at behind) ≤ length behind
  pub all_ordered : ordered (decoded left) ≡ length (decoded left)

pub none_left : (left at : ℕ) (behind : List ℕ) → left ≡ 0 → in_order (decoded left) (drop at behind) ≡ []
unfolding in_order
none_left left at behind h = rw (h, decoded_zero)

module _ (left at : ℕ) (behind : List ℕ) (l : Left left at behind) (some : left ≡ 0 → ⊥) where
  abbrev place : Place
  place = place_by (left % 128)

  abbrev width : ℕ
  width = width_at place (drop at behind)

  first_width : width_of (decoded left) (drop at behind) ≡ width + width_of (decoded (left / 128)) (drop (at + width) behind)
  unfolding width_of
  first_width = rw (decoded_step left l.fits some, drop-drop width at behind)

  first_in_order : (is_predicate place ≡ false) × (ordered (decoded (left / 128)) ≡ length (decoded (left / 128)))
  first_in_order = in_order_first place (decoded (left / 128)) (rw (decoded_step left l.fits some) at l.all_ordered)

  pub first_there : at + width ≤ length behind
  first_there = omega (arith, first_width, l.there)

  module _ (next : ℕ) (on : next ≡ at + width) where
    pub next_left : Left (left / 128) next behind
    next_left =
        record {
          fits = omega (arith, l.fits);
          there = rw on (omega (arith, first_width, l.there));
          all_ordered = first_in_order.1;
        }

    pub first_read : in_order (decoded left) (drop at behind) ≡ operand_at place (drop at behind) ∷ in_order (decoded (left / 128)) (drop next behind)
    unfolding in_order
    first_read = rw (decoded_step left l.fits some, first_in_order.0, on, ← drop-drop width at behind)

-- one place and those behind it: any but the predicate's, and the predicate's
module _ (place : Place) (rest : List Place) (tokens : List ℕ) where
  width_on : width_of (place ∷ rest) tokens ≡ width_at place tokens + width_of rest (drop (width_at place tokens) tokens)
  unfolding width_of
  width_on = refl

  order_on : is_predicate place ≡ false → in_order (place ∷ rest) tokens ≡ operand_at place tokens ∷ in_order rest (drop (width_at place tokens) tokens)
  unfolding in_order
  order_on h = rw h

  predicate_on : is_predicate place ≡ false → (other : Operand) →
      predicate_or other (place ∷ rest) tokens ≡ predicate_or other rest (drop (width_at place tokens) tokens)
  unfolding predicate_or
  predicate_on h other = rw h

module _ (rest : List Place) (tokens : List ℕ) where
  predicate_width : width_of (predicate ∷ rest) tokens ≡ 1 + width_of rest (drop 1 tokens)
  unfolding width_of width_at
  predicate_width = refl

  predicate_passed : in_order (predicate ∷ rest) tokens ≡ in_order rest (drop 1 tokens)
  unfolding in_order width_at
  predicate_passed = refl

  predicate_found : (other : Operand) → predicate_or other (predicate ∷ rest) tokens ≡ predicate_or (operand_at predicate tokens) rest (drop 1 tokens)
  unfolding predicate_or width_at
  predicate_found other = refl

-- the whole row, whose predicate stands behind the first operand
module _ (place : Place) (rest : List Place) (tokens : List ℕ) where
  abbrev pub behind_first : Bool → ℕ
  behind_first predicated = width_at place tokens + pick predicated 1 0

  row_width : (predicated : Bool) →
      width_of (with_predicate predicated (place ∷ rest)) tokens ≡ behind_first predicated + width_of rest (drop (behind_first predicated) tokens)
  row_width true =
      rw (width_on place (predicate ∷ rest) tokens, predicate_width rest (drop (width_at place tokens) tokens), drop-drop 1 (width_at place tokens) tokens)
      (omega arith)
  row_width false =
      let same : width_at place tokens + 0 ≡ width_at place tokens = omega arith in
      rw (width_on place rest tokens, same)

  pub row_array : is_predicate place ≡ false → ordered rest ≡ length rest → (predicated : Bool) →
      array_of (with_predicate predicated (place ∷ rest)) tokens ≡
      operand_at place tokens
      ∷ (padded 4 (in_order rest (drop (behind_first predicated) tokens))
      ++ (pick predicated (operand_at predicate (drop (width_at place tokens) tokens)) no_operand ∷ []))
  unfolding array_of
  row_array h alone true =
      let after = drop (width_at place tokens) tokens in
      rw (
        order_on place (predicate ∷ rest) tokens h,
        predicate_passed rest after,
        predicate_on place (predicate ∷ rest) tokens h no_operand,
        predicate_found rest after no_operand,
        drop-drop 1 (width_at place tokens) tokens,
        no_predicate (operand_at predicate after) rest (drop (width_at place tokens + 1) tokens) alone,
      )
  row_array h alone false =
      let same : width_at place tokens + 0 ≡ width_at place tokens = omega arith in
      rw (
        order_on place rest tokens h,
        predicate_on place rest tokens h no_operand,
        no_predicate no_operand rest (drop (width_at place tokens) tokens) alone,
        same,
      )

module _ (row : ℕ) (predicated : Bool) (behind : List ℕ) (fits : row < 2 ^ 64) (r : ReadableRow predicated (decoded row) behind) where
  pub no_row_lem : row ≡ 0 → array_of (with_predicate predicated (decoded row)) behind ≡ padded operand_count []
  unfolding array_of in_order predicate_or
  no_row_lem h = rw (h, decoded_zero)

  module _ (some : row ≡ 0 → ⊥) where
    abbrev opening : ℕ
    opening = width_at (place_by (row % 128)) behind

    rest_in_order : (is_predicate (place_by (row % 128)) ≡ false) × (ordered (decoded (row / 128)) ≡ length (decoded (row / 128)))
    rest_in_order = in_order_first (place_by (row % 128)) (decoded (row / 128)) (rw (decoded_step row fits some) at r.all_ordered)

    rest_there : opening + pick predicated 1 0 + width_of (decoded (row / 128)) (drop (opening + pick predicated 1 0) behind) ≤ length behind
    rest_there =
        rw (row_width (place_by (row % 128)) (decoded (row / 128)) behind predicated) at (rw (decoded_step row fits some) at r.there)

    pub opening_there : opening ≤ length behind
    opening_there = omega (arith, rest_there)

    pub predicate_there : opening + pick predicated 1 0 ≤ length behind
    predicate_there = omega (arith, rest_there)

    pub rest_left : Left (row / 128) (opening + pick predicated 1 0) behind
    rest_left = record { fits = omega (arith, fits); there = rest_there; all_ordered = rest_in_order.1 }

    pub row_read : array_of (with_predicate predicated (decoded row)) behind ≡
        operand_at (place_by (row % 128)) behind
        ∷ (padded 4 (in_order (decoded (row / 128)) (drop (opening + pick predicated 1 0) behind))
        ++ (pick predicated (operand_at predicate (drop opening behind)) no_operand ∷ []))
    row_read = rw (decoded_step row fits some) (row_array (place_by (row % 128)) (decoded (row / 128)) behind rest_in_order.0 rest_in_order.1 predicated)
