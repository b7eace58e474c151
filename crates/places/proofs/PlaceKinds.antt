-- The kinds of places, by their numbers.
use mathlib.Core.Path.{◌≡◌, refl, sym, ◌∙◌}
use mathlib.Core.Bool.{false, ◌||◌}
use Prim.Native.Nat.{ℕ, ◌/◌}
use lib.Dec.{eqb}
use borrow.Author.Tests.{eq-eqb, ne_eqb}
use Rattle.paper.specs.Places.{is_raw, is_destination, is_predicate}
use Rattle.paper.specs.OperandTokens.{is_free}
use Rattle.places.specs.Places.{place_by}
use Rattle.places.proofs.Places.{by_place}

pub raw_by : (n : ℕ) → is_raw (place_by n) ≡ eqb n 1 || eqb n 2
raw_by =
    by_place (λ n p. is_raw p ≡ eqb n 1 || eqb n 2) refl refl refl refl refl refl refl refl
    (λ n u h. rw (u.no_raw, u.no_usage)) (λ n u h. rw (u.no_raw, u.no_usage))

pub predicate_by : (n : ℕ) → is_predicate (place_by n) ≡ eqb n 93
predicate_by =
    by_place (λ n p. is_predicate p ≡ eqb n 93) refl refl refl refl refl refl refl refl (λ n u h. rw u.no_predicate) (λ n u h. rw u.no_predicate)

pub destination_by : (n : ℕ) → is_destination (place_by n) ≡ eqb (n / 32) 1
destination_by =
    by_place (λ n p. is_destination p ≡ eqb (n / 32) 1) refl refl refl refl refl refl refl refl
    (λ n u h. sym (eq-eqb (n / 32) 1 h)) (λ n u h. sym (ne_eqb (n / 32) 1 h))

pub free_by : (n : ℕ) → is_free (place_by n) ≡ eqb n 63 || eqb n 95
free_by =
    by_place (λ n p. is_free p ≡ eqb n 63 || eqb n 95) refl refl refl refl refl refl refl refl
    (λ n u h. rw (u.no_destination, u.no_source)) (λ n u h. rw (u.no_destination, u.no_source))

pub not_free : (n : ℕ) → (n ≡ 95 → ⊥) → (n ≡ 63 → ⊥) → is_free (place_by n) ≡ false
not_free n s d = free_by n ∙ rw (ne_eqb n 63 d, ne_eqb n 95 s)
