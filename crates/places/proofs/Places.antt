-- A place and its number: each gives the other back.
use Prim.Native.Nat.{ℕ, ◌/◌, ◌≤◌, ◌<◌}
use mathlib.Core.Path.{◌≡◌, refl, ◌∙◌}
use mathlib.Core.Bool.{Bool, true, false, not, ◌&&◌, ◌||◌}
use mathlib.Core.List.{List, [], ◌∷◌}
use native.Mathlib.Omega.{arith}
use lib.Dec.{eqb, ltb, lit<}
use borrow.Author.Tests.{eqb-true, eqb-false, ltb-true}
use Rattle.paper.specs.Notation.{pick, among}
use Rattle.places.specs.Places.{types_by, place_by, same_types, number_by}
use Rattle.paper.proofs.Bools.{both_left, both_right, never}
use Rattle.paper.specs.Places.{free, only, Place, raw, usage, declared, destination, source, condition, predicate, relative}

-- a number that is none of the places with a name
pub record Unnamed (n : ℕ) : Type 0 where
  pub no_raw : eqb n 1 ≡ false
  pub no_usage : eqb n 2 ≡ false
  pub no_declared : eqb n 61 ≡ false
  pub no_destination : eqb n 63 ≡ false
  pub no_condition : eqb n 92 ≡ false
  pub no_predicate : eqb n 93 ≡ false
  pub no_relative : eqb n 94 ≡ false
  pub no_source : eqb n 95 ≡ false

-- the same as a test
abbrev is_unnamed : ℕ → Bool
is_unnamed n = not (among n (1 ∷ 2 ∷ 61 ∷ 63 ∷ 92 ∷ 93 ∷ 94 ∷ 95 ∷ []))

none_left : (b c : Bool) → not (b || c) ≡ true → (b ≡ false) × (not c ≡ true)
none_left true c t = never t
none_left false c t = (refl, t)

unnamed : (n : ℕ) → is_unnamed n ≡ true → Unnamed n
unnamed n t =
    let a = none_left (eqb n 1) _ t in
    let b = none_left (eqb n 2) _ a.1 in
    let c = none_left (eqb n 61) _ b.1 in
    let d = none_left (eqb n 63) _ c.1 in
    let e = none_left (eqb n 92) _ d.1 in
    let f = none_left (eqb n 93) _ e.1 in
    let g = none_left (eqb n 94) _ f.1 in
    record { no_raw = a.0; no_usage = b.0; no_declared = c.0; no_destination = d.0; no_condition = e.0; no_predicate = f.0; no_relative = g.0; no_source = (none_left (eqb n 95) false g.1).0 }

-- the places that a number has: the types of a place that has no name are those of its number
abbrev is_numbered : ℕ → List ℕ → Bool
is_numbered n types = is_unnamed n && (ltb 0 n && (ltb n 128 && same_types types (types_by n)))

abbrev pub is_place : Place → Bool
is_place raw = true
is_place usage = true
is_place declared = true
is_place (destination free) = true
is_place (destination (only types)) =
    eqb (number_by (destination (only types)) / 32) 1 && is_numbered (number_by (destination (only types))) types
is_place (source free) = true
is_place (source (only types)) = not (eqb (number_by (source (only types)) / 32) 1) && is_numbered (number_by (source (only types))) types
is_place condition = true
is_place predicate = true
is_place relative = true

same_types_lem : (ks ls : List ℕ) → same_types ks ls ≡ true → ks ≡ ls
same_types_lem [] [] t = refl
same_types_lem [] (l ∷ ls) t = never t
same_types_lem (k ∷ ks) [] t = never t
same_types_lem (k ∷ ks) (l ∷ ls) t =
    rw (eqb-true k l (both_left (eqb k l) (same_types ks ls) t), same_types_lem ks ls (both_right (eqb k l) (same_types ks ls) t))

-- a number with these types
record Numbered (n : ℕ) (types : List ℕ) : Type 0 where
  named : Unnamed n
  some : 1 ≤ n
  small : n < 128
  same : types ≡ types_by n

numbered : (n : ℕ) (types : List ℕ) → is_numbered n types ≡ true → Numbered n types
numbered n types t =
    let u = both_right (is_unnamed n) _ t in
    let w = both_right (ltb 0 n) _ u in
    record { named = unnamed n (both_left (is_unnamed n) _ t); some = ltb-true 0 n (both_left (ltb 0 n) _ u); small = ltb-true n 128 (both_left (ltb n 128) _ w); same = same_types_lem types (types_by n) (both_right (ltb n 128) _ w) }

-- such a number is that of a place of these types
module _ (n : ℕ) (types : List ℕ) (h : Numbered n types) where
  types_back : place_by n ≡ pick (eqb (n / 32) 1) (destination (only types)) (source (only types))
  unfolding place_by
  types_back =
      let u = h.named in
      rw (u.no_raw, u.no_usage, u.no_declared, u.no_destination, u.no_condition, u.no_predicate, u.no_relative, u.no_source, h.same)

abbrev destination_number : List ℕ → ℕ
destination_number types = number_by (destination (only types))

abbrev source_number : List ℕ → ℕ
source_number types = number_by (source (only types))

destination_numbered : (types : List ℕ) → is_place (destination (only types)) ≡ true → Numbered (destination_number types) types
destination_numbered types t =
    numbered (destination_number types) types (both_right (eqb (destination_number types / 32) 1) (is_numbered (destination_number types) types) t)

source_numbered : (types : List ℕ) → is_place (source (only types)) ≡ true → Numbered (source_number types) types
source_numbered types t =
    numbered (source_number types) types (both_right (not (eqb (source_number types / 32) 1)) (is_numbered (source_number types) types) t)

-- a digit of base 128, and not zero
pub number_small : (p : Place) → is_place p ≡ true → number_by p < 128
number_small raw t = lit< tt
number_small usage t = lit< tt
number_small declared t = lit< tt
number_small (destination free) t = lit< tt
number_small (destination (only types)) t = (destination_numbered types t).small
number_small (source free) t = lit< tt
number_small (source (only types)) t = (source_numbered types t).small
number_small condition t = lit< tt
number_small predicate t = lit< tt
number_small relative t = lit< tt

pub number_some : (p : Place) → is_place p ≡ true → 1 ≤ number_by p
number_some raw t = omega arith
number_some usage t = omega arith
number_some declared t = omega arith
number_some (destination free) t = omega arith
number_some (destination (only types)) t = (destination_numbered types t).some
number_some (source free) t = omega arith
number_some (source (only types)) t = (source_numbered types t).some
number_some condition t = omega arith
number_some predicate t = omega arith
number_some relative t = omega arith

not_true : (b : Bool) → not b ≡ true → b ≡ false
not_true true t = never t
not_true false t = refl

pub place_back : (p : Place) → is_place p ≡ true → place_by (number_by p) ≡ p
unfolding place_by
place_back raw t = refl
place_back usage t = refl
place_back declared t = refl
place_back (destination free) t = refl
place_back (destination (only types)) t =
    let n = destination_number types in
    types_back n types (destination_numbered types t) ∙ rw (both_left (eqb (n / 32) 1) (is_numbered n types) t)
place_back (source free) t = refl
place_back (source (only types)) t =
    let n = source_number types in
    types_back n types (source_numbered types t) ∙ rw (not_true (eqb (n / 32) 1) (both_left (not (eqb (n / 32) 1)) (is_numbered n types) t))
place_back condition t = refl
place_back predicate t = refl
place_back relative t = refl

-- the places with a name, by their numbers
pub usage_place : place_by 2 ≡ usage
unfolding place_by
usage_place = refl

pub declared_place : place_by 61 ≡ declared
unfolding place_by
declared_place = refl

pub free_destination_place : place_by 63 ≡ destination free
unfolding place_by
free_destination_place = refl

pub condition_place : place_by 92 ≡ condition
unfolding place_by
condition_place = refl

pub predicate_place : place_by 93 ≡ predicate
unfolding place_by
predicate_place = refl

pub relative_place : place_by 94 ≡ relative
unfolding place_by
relative_place = refl

pub free_source_place : place_by 95 ≡ source free
unfolding place_by
free_source_place = refl

-- a law of every place that has a number, by the place
module _ (Law : ℕ → Place → Type 0)
    (raws : Law 1 raw) (usages : Law 2 usage) (declareds : Law 61 declared)
    (destinations : Law 63 (destination free))
    (conditions : Law 92 condition) (predicates : Law 93 predicate) (relatives : Law 94 relative) (sources : Law 95 (source free))
    (typed_destinations : (n : ℕ) → Unnamed n → n / 32 ≡ 1 → Law n (destination (only (types_by n))))
    (typed_sources : (n : ℕ) → Unnamed n → (n / 32 ≡ 1 → ⊥) → Law n (source (only (types_by n)))) where
  -- the place of a number, else what the other tests find
  step : (n m : ℕ) (p q : Place) → Law m p → (eqb n m ≡ false → Law n q) → (b : Bool) → eqb n m ≡ b → Law n (pick b p q)
  step n m p q h j true t = rw (eqb-true n m t) h
  step n m p q h j false t = j t

  typed_by : (n : ℕ) → Unnamed n → (b : Bool) → eqb (n / 32) 1 ≡ b → Law n (pick b (destination (only (types_by n))) (source (only (types_by n))))
  typed_by n u true t = typed_destinations n u (eqb-true (n / 32) 1 t)
  typed_by n u false t = typed_sources n u (eqb-false (n / 32) 1 t)

  pub by_place : (n : ℕ) → Law n (place_by n)
  unfolding place_by
  by_place n =
      step n 1 raw _ raws
      (λ r. step n 2 usage _ usages
      (λ u. step n 61 declared _ declareds
      (λ l. step n 63 (destination free) _ destinations
      (λ d. step n 92 condition _ conditions
      (λ c. step n 93 predicate _ predicates
      (λ p. step n 94 relative _ relatives
      (λ e. step n 95 (source free) _ sources
      (λ s. typed_by n (record { no_raw = r; no_usage = u; no_declared = l; no_destination = d; no_condition = c; no_predicate = p; no_relative = e; no_source = s }) (eqb (n / 32) 1) refl)
      (eqb n 95) refl)
      (eqb n 94) refl)
      (eqb n 93) refl)
      (eqb n 92) refl)
      (eqb n 63) refl)
      (eqb n 61) refl)
      (eqb n 2) refl)
      (eqb n 1) refl
