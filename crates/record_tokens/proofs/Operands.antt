-- The tokens of the operands that were read.
use mathlib.Core.Path.{◌≡◌, refl, sym, ap, ◌∙◌}
use mathlib.Core.Bool.{Bool, true, false, not, ◌||◌}
use mathlib.Core.List.{List, [], ◌∷◌, ◌++◌}
use Prim.Native.Nat.{ℕ, zero, suc, ◌+◌, ◌*◌, ◌^◌, ◌≤◌, ◌<◌}
use native.Mathlib.Omega.{arith}
use lib.Dec.{eqb}
use lib.ListN.{length, take, drop, get_or, take-append-drop}
use lib.Seq.{get_or-drop}
use borrow.Author.Tests.{eqb-true, not-true}
use Rattle.paper.specs.Notation.{pick, bits, bit}
use Rattle.paper.specs.Versions.{is_pixel}
use Rattle.paper.specs.OperandTokens.{number_field, type_of, modifier_of, both_laid, relative_laid, destination_laid, source_laid, laid, brings_relative}
use Rattle.paper.specs.declared.Version.{Version}
use Rattle.paper.proofs.Bools.{both_left, both_right, or_false, never}
use Rattle.paper.specs.Places.{Place, relative, is_raw, is_destination, is_predicate}
use Rattle.shapes.proofs.Shapes.{unpredicated}
use Rattle.records.proofs.PlaceKinds.{laid_by, free_unraw}
use Rattle.records.specs.declared.Operand.{Operand}
use Rattle.records.specs.Record.{mask_of, result_of, shift_of, swizzle_of, no_operand, destination_operand, source_operand, operand_of, width_at, operand_at, in_order, predicate_or, padded}
use Rattle.records.specs.ByClass.{ordered}
use Rattle.records.proofs.Filled.{width_some, no_predicate}
use Rattle.records.proofs.Rows.{unpredicated_in_order}
use Rattle.records.proofs.Passed.{Passed, AllPassed, none, more}
use Rattle.record_tokens.specs.Tokens.{Words, token_of, operand_token, relative_token_of, operand_tokens, row_tokens}
use Rattle.record_tokens.proofs.Digits.{token_back, source_middle, destination_middle}

module _ (v : Version) (place : Place) (t : ℕ) (word : t < 2 ^ 32) where
  module _ (l : both_laid t ≡ true) where
    fields_back : token_of (number_field t) (type_of t) (bit 13 t) (bits 27 16 t) ≡ t
    fields_back =
        token_back t word (eqb-true _ _ (both_left (eqb (bits 15 14 t) 0) (eqb (bit 31 t) 1) l)) (eqb-true _ _ (both_right (eqb (bits 15 14 t) 0) (eqb (bit 31 t) 1) l))

  source_back : (follower : ℕ) → source_laid v place t ≡ true → operand_token (source_operand t follower) ≡ t
  unfolding operand_token
  source_back follower l =
      let both = both_left (both_laid t) _ l in
      let middle : 0 + swizzle_of t + (2 ^ 4 * 0 + 2 ^ 8 * (modifier_of t + 0)) ≡ bits 27 16 t = omega (arith, source_middle t) in
      ap (token_of (number_field t) (type_of t) (bit 13 t)) middle ∙ fields_back both

  destination_back : (follower : ℕ) → destination_laid v place t ≡ true → operand_token (destination_operand t follower) ≡ t
  unfolding operand_token
  destination_back follower l =
      let both = both_left (both_laid t) _ l in
      let rest = both_right (eqb (bits 22 21 t) 0 || is_pixel v) _ (both_right (both_laid t) _ l) in
      let a = eqb-true (bit 23 t) 0 (both_left (eqb (bit 23 t) 0) _ rest) in
      let middle : mask_of t + 0 + (2 ^ 4 * result_of t + 2 ^ 8 * (0 + shift_of t)) ≡ bits 27 16 t = omega (arith, destination_middle t a) in
      ap (token_of (number_field t) (type_of t) (bit 13 t)) middle ∙ fields_back both

-- a relative token has no modifier and no relative token of its own
relative_back : (v : Version) (t : ℕ) → t < 2 ^ 32 → laid v relative t ≡ true → token_of (number_field t) (type_of t) 0 (swizzle_of t) ≡ t
relative_back v t word l =
    let both = both_left (both_laid t) _ l in
    let rest = both_right (both_laid t) _ l in
    let no_modifier = eqb-true (modifier_of t) 0 (both_left (eqb (modifier_of t) 0) (relative_laid v relative t) rest) in
    let no_relative = eqb-true (bit 13 t) 0 (sym (or_false (eqb (bit 13 t) 0)) ∙ both_right (eqb (modifier_of t) 0) (relative_laid v relative t) rest) in
    let middle : swizzle_of t ≡ bits 27 16 t = omega (arith, source_middle t) in
    ap (λ r. token_of (number_field t) (type_of t) r (swizzle_of t)) (sym no_relative)
    ∙ ap (token_of (number_field t) (type_of t) (bit 13 t)) middle
    ∙ fields_back v relative t word both

taken : (b x y : Bool) → b ≡ true → pick b x y ≡ true → x ≡ true
taken b x y e h = rw e at h

left : (b x y : Bool) → b ≡ false → pick b x y ≡ true → y ≡ true
left b x y e h = rw e at h

-- one operand
module _ (v : Version) (place : Place) (t u : ℕ) (no_raw : is_raw place ≡ false) where
  first_back : t < 2 ^ 32 → laid v place t ≡ true → (destination : Bool) → is_destination place ≡ destination → operand_token (operand_of place t u) ≡ t
  unfolding operand_of
  first_back word l true d = rw (no_raw, d) (destination_back v place t word u (taken (is_destination place) (destination_laid v place t) (source_laid v place t) d (sym (laid_by v place t no_raw) ∙ l)))
  first_back word l false d = rw (no_raw, d) (source_back v place t word u (left (is_destination place) (destination_laid v place t) (source_laid v place t) d (sym (laid_by v place t no_raw) ∙ l)))

  second_back : u < 2 ^ 32 → laid v relative u ≡ true → (destination : Bool) → is_destination place ≡ destination → relative_token_of (operand_of place t u) ≡ u
  unfolding operand_of relative_token_of
  second_back word l true d = rw (no_raw, d) (relative_back v u word l)
  second_back word l false d = rw (no_raw, d) (relative_back v u word l)

  marked : (destination : Bool) → is_destination place ≡ destination → (operand_of place t u).relative ≡ bit 13 t
  unfolding operand_of
  marked true d = rw (no_raw, d)
  marked false d = rw (no_raw, d)

  one_token : t < 2 ^ 32 → laid v place t ≡ true → brings_relative place t ≡ false → operand_tokens place (operand_of place t u) ≡ t ∷ []
  unfolding operand_tokens
  one_token word l b = rw (no_raw, first_back word l (is_destination place) refl, marked (is_destination place) refl, b)

  two_tokens : t < 2 ^ 32 → laid v place t ≡ true → brings_relative place t ≡ true → u < 2 ^ 32 → laid v relative u ≡ true →
      operand_tokens place (operand_of place t u) ≡ t ∷ (u ∷ [])
  unfolding operand_tokens
  two_tokens word l b word-u l-u =
      rw (no_raw, first_back word l (is_destination place) refl, second_back word-u l-u (is_destination place) refl, marked (is_destination place) refl, b)

raw_token : (place : Place) (t u : ℕ) → is_raw place ≡ true → operand_tokens place (operand_of place t u) ≡ t ∷ []
unfolding operand_tokens operand_of
raw_token place t u e = rw e

module _ (v : Version) (place : Place) (t : ℕ) (rest : List ℕ) (words : Words (t ∷ rest)) where
  operand_by : (unread brings : Bool) (tail : List ℕ) → rest ≡ tail → is_raw place ≡ unread → brings_relative place t ≡ brings →
      laid v place t ≡ true → (brings ≡ true → laid v relative (get_or tail 0 0) ≡ true) → pick brings 2 1 ≤ suc (length tail) →
      operand_tokens place (operand_of place t (pick brings (get_or tail 0 0) 0)) ≡ take (pick brings 2 1) (t ∷ tail)
  unfolding Words
  operand_by true true tail e r b l s h = never (rw (free_unraw place r) at b)
  operand_by true false tail e r b l s h = raw_token place t 0 r
  operand_by false true [] e r b l s h = absurd (omega arith)
  operand_by false true (u ∷ tail) e r b l s h =
      two_tokens v place t u r (words 0) l b (rw e at (words 1)) (s refl)
  operand_by false false tail e r b l s h = one_token v place t 0 r (words 0) l b

operand_back : (v : Version) (place : Place) (tokens : List ℕ) → Words tokens → Passed v place tokens (width_at place tokens) →
    operand_tokens place (operand_at place tokens) ≡ take (width_at place tokens) tokens
unfolding operand_at width_at
operand_back v place [] words p = absurd (omega (arith, p.there, width_some place []))
operand_back v place (t ∷ rest) words p =
    operand_by v place t rest words (is_raw place) (brings_relative place t) rest refl refl refl p.first_laid p.second_laid p.there

pub words_drop : (n : ℕ) (tokens : List ℕ) → Words tokens → Words (drop n tokens)
unfolding Words
words_drop n tokens words k = rw (get_or-drop n tokens k 0) (words (n + k))

pub words_take : (n : ℕ) (tokens : List ℕ) → Words tokens → Words (take n tokens)
unfolding Words
words_take zero tokens words k = omega arith
words_take (suc n) [] words k = omega arith
words_take (suc n) (t ∷ rest) words zero = words 0
words_take (suc n) (t ∷ rest) words (suc k) = words_take n rest (λ j. words (suc j)) k

-- a row that has the predicate at most once
abbrev pub single : List Place → Bool
single [] = true
single (place ∷ places) = pick (is_predicate place) (unpredicated places) (single places)

pub unpredicated_single : (places : List Place) → unpredicated places ≡ true → single places ≡ true
unpredicated_single [] h = refl
unpredicated_single (place ∷ places) h =
    rw (not-true (is_predicate place) (both_left (not (is_predicate place)) _ h))
    (unpredicated_single places (both_right (not (is_predicate place)) _ h))

abbrev Back : List Place → List ℕ → Type 0
Back places tokens =
    (m : ℕ) → ordered places ≤ m → single places ≡ true → (tail : List Operand) (p : Operand) →
    row_tokens places (padded m (in_order places tokens) ++ tail) (predicate_or p places tokens) ≡ tokens

module _ (place : Place) (places : List Place) (tokens : List ℕ) (w : ℕ) (later : Back places (drop w tokens)) (tail : List Operand) (p operand : Operand)
    (one : operand_tokens place operand ≡ take w tokens) where
  back_by : (is_predicate : Bool) (m : ℕ) → pick is_predicate (ordered places) (suc (ordered places)) ≤ m →
      pick is_predicate (unpredicated places) (single places) ≡ true →
      pick is_predicate
      (operand_tokens place (predicate_or (pick is_predicate operand p) places (drop w tokens))
      ++ row_tokens places (padded m (pick is_predicate (in_order places (drop w tokens)) (operand ∷ in_order places (drop w tokens))) ++ tail)
      (predicate_or (pick is_predicate operand p) places (drop w tokens)))
      (operand_tokens place (get_or (padded m (pick is_predicate (in_order places (drop w tokens)) (operand ∷ in_order places (drop w tokens))) ++ tail) 0 no_operand)
      ++ row_tokens places (drop 1 (padded m (pick is_predicate (in_order places (drop w tokens)) (operand ∷ in_order places (drop w tokens))) ++ tail))
      (predicate_or (pick is_predicate operand p) places (drop w tokens)))
      ≡ tokens
  back_by true m h s =
      rw (later m h (unpredicated_single places s) tail operand, no_predicate operand places (drop w tokens) (unpredicated_in_order places s), one) (take-append-drop w tokens)
  back_by false zero h s = absurd (omega arith)
  back_by false (suc m) h s = rw (one, later m (omega arith) s tail p) (take-append-drop w tokens)

pub row_back : {v : Version} {places : List Place} {tokens : List ℕ} → AllPassed v places tokens → Words tokens → Back places tokens
unfolding row_tokens in_order predicate_or ordered
row_back none words m h s tail p = refl
row_back {v} (more {place} {places} {tokens} q rest) words m h s tail p =
    back_by place places tokens (width_at place tokens) (row_back rest (words_drop (width_at place tokens) tokens words)) tail p (operand_at place tokens)
    (operand_back v place tokens words q) (is_predicate place) m h s
