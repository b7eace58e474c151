-- A row of places and its number: each gives the other back.
use Prim.Native.Nat.{ℕ, zero, suc, ◌+◌, ◌*◌, ◌/◌, ◌%◌, ◌^◌, ◌≤◌, ◌<◌}
use mathlib.Core.Path.{◌≡◌, refl, sym, ap, ◌∙◌}
use mathlib.Core.Bool.{Bool, true, false, ◌&&◌}
use mathlib.Core.List.{List, [], ◌∷◌}
use native.Mathlib.Nat.{le_of_suc-le-suc, not-suc-le-zero}
use native.Mathlib.Omega.{arith}
use lib.Dec.{eqb}
use lib.ListN.{length}
use borrow.Author.Tests.{eq-eqb, ne_eqb}
use Rattle.places.specs.Places.{place_by, number_by, digits, predicated_row, places_in, decoded}
use Rattle.paper.proofs.Bools.{both_left, both_right}
use Rattle.paper.specs.Places.{Place, predicate}
use Rattle.paper.specs.InstructionToken.{with_predicate}
use Rattle.places.proofs.Places.{is_place, number_small, number_some, place_back}

abbrev pub are_places : List Place → Bool
are_places [] = true
are_places (place ∷ places) = is_place place && are_places places

places_in_none : (f p : ℕ) → p ≡ 0 → places_in f p ≡ []
places_in_none zero p h = refl
places_in_none (suc f) p h = rw (eq-eqb p 0 h) refl

places_in_one : (f p : ℕ) → (p ≡ 0 → ⊥) → places_in (suc f) p ≡ place_by (p % 128) ∷ places_in f (p / 128)
places_in_one f p h = rw (ne_eqb p 0 h) refl

-- places below 128 ^ f, so that one more step finds none
abbrev room : ℕ → ℕ
room zero = 1
room (suc f) = 128 * room f

places_in_more : (f p : ℕ) (b : Bool) → eqb p 0 ≡ b → p < room f → places_in (suc f) p ≡ places_in f p
places_in_more zero p b t h = places_in_none 1 p (omega arith)
places_in_more (suc f) p true t h = rw t refl
places_in_more (suc f) p false t h =
    rw t (ap (λ rest. place_by (p % 128) ∷ rest) (places_in_more f (p / 128) (eqb (p / 128) 0) refl (omega arith)))

pub decoded_zero : decoded 0 ≡ []
unfolding decoded
decoded_zero = refl

pub decoded_step : (p : ℕ) → p < 2 ^ 64 → (p ≡ 0 → ⊥) → decoded p ≡ place_by (p % 128) ∷ decoded (p / 128)
unfolding decoded
decoded_step p h some =
    places_in_one 9 p some
    ∙ ap (λ rest. place_by (p % 128) ∷ rest) (sym (places_in_more 9 (p / 128) (eqb (p / 128) 0) refl (omega arith)))

low_digit : (n m : ℕ) → n < 128 → (n + 128 * m) % 128 ≡ n
low_digit n m h = omega arith

high_digits : (n m : ℕ) → n < 128 → (n + 128 * m) / 128 ≡ m
high_digits n m h = omega arith

some_digit : (n m : ℕ) → 1 ≤ n → n + 128 * m ≡ 0 → ⊥
some_digit n m h e = omega arith

places_in_digits : (f : ℕ) (places : List Place) → are_places places ≡ true → length places ≤ f → places_in f (digits places) ≡ places
places_in_digits f [] t h = places_in_none f 0 refl
places_in_digits zero (place ∷ places) t h = absurd (not-suc-le-zero h)
places_in_digits (suc f) (place ∷ places) t h =
    let one = both_left (is_place place) (are_places places) t in
    let low : 1 ≤ number_by place = number_some place one in
    let high : number_by place < 128 = number_small place one in
    let first : (number_by place + 128 * digits places) % 128 ≡ number_by place = low_digit (number_by place) (digits places) high in
    let rest : (number_by place + 128 * digits places) / 128 ≡ digits places = high_digits (number_by place) (digits places) high in
    places_in_one f (number_by place + 128 * digits places) (some_digit (number_by place) (digits places) low)
    ∙ rw (first, rest, place_back place one) (ap (λ found. place ∷ found) (places_in_digits f places (both_right (is_place place) (are_places places) t) (le_of_suc-le-suc h)))

pub decoded_places : (places : List Place) → are_places places ≡ true → length places ≤ 10 → decoded (digits places) ≡ places
unfolding decoded
decoded_places places t h = places_in_digits 10 places t h

pub without_predicate : (places : List Place) → with_predicate false places ≡ places
without_predicate [] = refl
without_predicate (place ∷ places) = refl

-- the predicate is the second digit
module _ (place : Place) (places : List Place) (t : are_places (place ∷ places) ≡ true) where
  digits_predicated : predicated_row (digits (place ∷ places)) ≡ digits (with_predicate true (place ∷ places))
  digits_predicated =
      let small = number_small place (both_left (is_place place) (are_places places) t) in
      rw (low_digit (number_by place) (digits places) small, high_digits (number_by place) (digits places) small)

  pub predicated_back : length places ≤ 8 → decoded (predicated_row (digits (place ∷ places))) ≡ with_predicate true (place ∷ places)
  predicated_back few = rw digits_predicated (decoded_places (place ∷ (predicate ∷ places)) t (omega arith))
