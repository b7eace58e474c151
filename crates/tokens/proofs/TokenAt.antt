-- Laws of one token at its place.
use mathlib.Core.Path.{◌≡◌, refl, sym, ◌∙◌}
use mathlib.Core.Bool.{Bool, true, false, ◌&&◌}
use mathlib.Core.List.{List, [], ◌∷◌}
use Prim.Native.Nat.{ℕ, zero, suc, ◌*◌, ◌%◌, ◌^◌, ◌<◌, ◌≤◌}
use native.Mathlib.Nat.{add-zero, one-mul, mod-lt, mod-eq_of_lt, pow-le-pow_right}
use native.Mathlib.Omega.{arith}
use lib.Dec.{eqb, leb, lit<}
use borrow.Author.Tests.{ne_eqb, leb-true, le-ltb}
use Rattle.paper.specs.Notation.{bits, bit, pick, among}
use Rattle.paper.specs.OperandTokens.{modifier_of, plain_modifiers, predicate_types, is_free, destination_laid, source_laid, laid, typed, type_of, fault_at, layout_then_type, token_at}
use Rattle.versions.specs.Sets.{set_of, holds}
use Rattle.versions.proofs.Sets.{Agrees, set_among, one_among}
use Rattle.versions.proofs.Types.{type_small}
use Rattle.places.specs.Places.{only_type, types_by, place_by}
use Rattle.places.proofs.Places.{by_place}
use Rattle.paper.specs.declared.Version.{Version}
use Rattle.paper.proofs.Bools.{both_left, both_right, never, apart}
use Rattle.paper.proofs.Faults.{is_good, token_good}
use Rattle.std.specs.Prelude.{Some, None, Ok, Err, is_ok}
use Rattle.paper.specs.Judgements.{bad_token}
use Rattle.paper.specs.declared.Reason.TheVariants.{Register as REGISTER}
use Rattle.tokens.specs.declared.Wrong.TheVariants.{Layout, Register}
use Rattle.paper.specs.Places.{Types, only, Place, raw, usage, declared, destination, source, condition, predicate, relative, is_raw, is_destination}
use Rattle.tokens.specs.Brief.{briefly, brief}
use Rattle.tokens.specs.Plain.{plain_source, plain_destination}
use Rattle.tokens.specs.Tabled.{is_tabled, types_at}

-- "R any 32 bits"; of U nothing is told by itself
pub raw_brief : (v : Version) (place : Place) (token : ℕ) → is_raw place ≡ true → Ok tt ≡ brief v place token
raw_brief v raw token r = refl
raw_brief v usage token r = refl
raw_brief v declared token r = never r
raw_brief v (destination types) token r = never r
raw_brief v (source types) token r = never r
raw_brief v condition token r = never r
raw_brief v predicate token r = never r
raw_brief v relative token r = never r

-- what is told in brief, and what is told of the fault
module _ (v : Version) (place : Place) (token : ℕ) where
  both_brief : (is_laid is_typed : Bool) → is_ok (briefly is_laid is_typed) ≡ is_laid && is_typed
  both_brief true true = refl
  both_brief true false = refl
  both_brief false is_typed = refl

  pub brief_good : is_ok (brief v place token) ≡ is_good (token_at v place token)
  brief_good = both_brief (laid v place token) (typed v place (type_of token)) ∙ sym (token_good v place token)

  pub brief_mislaid : brief v place token ≡ Err Layout → token_at v place token ≡ fault_at v place token
  unfolding token_at
  brief_mislaid e = by (laid v place token) (typed v place (type_of token)) e
    where
      by : (is_laid is_typed : Bool) → briefly is_laid is_typed ≡ Err Layout → layout_then_type is_laid is_typed (fault_at v place token) ≡ fault_at v place token
      by true true f = apart (cc)
      by true false f = apart (cc)
      by false is_typed f = refl

  pub brief_type : brief v place token ≡ Err Register → token_at v place token ≡ bad_token REGISTER 0
  unfolding token_at
  brief_type e = by (laid v place token) (typed v place (type_of token)) e
    where
      by : (is_laid is_typed : Bool) → briefly is_laid is_typed ≡ Err Register → layout_then_type is_laid is_typed (fault_at v place token) ≡ bad_token REGISTER 0
      by true true f = apart (cc)
      by true false f = refl
      by false is_typed f = apart (cc)

predicate_agree : Agrees predicate_types
unfolding holds
predicate_agree = refl

pub predicate_types_lem : (token : ℕ) → holds (set_of predicate_types) (type_of token) ≡ among (type_of token) predicate_types
predicate_types_lem token = set_among predicate_types predicate_agree (type_of token) (type_small token)

-- a small power of two, as a machine of 32 bits shifts it
pub one_bit : (k : ℕ) → k < 32 → 1 * 2 ^ k % 4294967296 ≡ 2 ^ k
one_bit k h =
    let below : 2 ^ k ≤ 2 ^ 31 = pow-le-pow_right {n = 2} (lit< tt) {i = k} {j = 31} (omega arith) in
    let fits : 2 ^ k < 4294967296 = omega arith in
    rw one-mul (mod-eq_of_lt fits)

unnegated : (modifier : ℕ) → modifier ≤ 1 → among modifier plain_modifiers ≡ true
unnegated zero h = refl
unnegated (suc zero) h = refl
unnegated (suc (suc n)) h = absurd (omega arith)

-- what is plain is laid as every version allows
pub plain_source_laid : (v : Version) (types : Types) (token : ℕ) → plain_source token ≡ true → source_laid v (source types) token ≡ true
plain_source_laid v types token t₀ =
    let t₁ = both_right (eqb (bits 15 14 token) 0) _ t₀ in
    let t₂ = both_right (eqb (bit 13 token) 0) _ t₁ in
    let modifier : bits 27 24 token ≤ 1 = leb-true (bits 27 24 token) 1 (both_left (leb (bits 27 24 token) 1) _ t₂) in
    rw (
      both_left (eqb (bits 15 14 token) 0) _ t₀,
      both_left (eqb (bit 13 token) 0) _ t₁,
      both_right (leb (bits 27 24 token) 1) _ t₂,
      unnegated (modifier_of token) modifier,
    )

pub plain_destination_laid : (v : Version) (types : Types) (token : ℕ) → plain_destination token ≡ true → destination_laid v (destination types) token ≡ true
plain_destination_laid v types token t₀ =
    let t₁ = both_right (eqb (bits 15 14 token) 0) _ t₀ in
    let t₂ = both_right (eqb (bit 13 token) 0) _ t₁ in
    let t₃ = both_right (eqb (bits 22 21 token) 0) _ t₂ in
    let t₄ = both_right (eqb (bit 23 token) 0) _ t₃ in
    rw (
      both_left (eqb (bits 15 14 token) 0) _ t₀,
      both_left (eqb (bit 13 token) 0) _ t₁,
      both_left (eqb (bits 22 21 token) 0) _ t₂,
      both_left (eqb (bit 23 token) 0) _ t₃,
      both_left (eqb (bits 27 24 token) 0) _ t₄,
      both_right (eqb (bits 27 24 token) 0) _ t₄,
    )

-- a number that the tables have no types for has its one type
pub untabled : (n : ℕ) → is_tabled n ≡ false → types_by n ≡ only_type n ∷ []
unfolding types_by
untabled n h =
    rw (
      ne_eqb n 56 (λ e. never (sym (rw e at h))),
      ne_eqb n 57 (λ e. never (sym (rw e at h))),
      ne_eqb n 58 (λ e. never (sym (rw e at h))),
      ne_eqb n 59 (λ e. never (sym (rw e at h))),
      ne_eqb n 87 (λ e. never (sym (rw e at h))),
      ne_eqb n 88 (λ e. never (sym (rw e at h))),
      ne_eqb n 89 (λ e. never (sym (rw e at h))),
      ne_eqb n 90 (λ e. never (sym (rw e at h))),
      ne_eqb n 91 (λ e. never (sym (rw e at h))),
    )

-- a place is one of the tables exactly if this is not 0, and none is from 92 on
abbrev pub tabled_number : ℕ → ℕ
tabled_number n = pick (is_tabled n) 1 0

pub none_from : (n : ℕ) → 92 ≤ n → tabled_number n ≡ 0
none_from n h = rw (le-ltb n 92 h)

pub none_tabled : (n : ℕ) → tabled_number n ≡ 0 → types_at n ≡ None
unfolding types_at
none_tabled n none = by (is_tabled n) none
  where
    by : (b : Bool) → ◌≡◌ {A = ℕ} (pick b 1 0) 0 → pick b (Some (set_of (types_by n))) None ≡ None
    by true h = absurd (omega arith)
    by false h = refl

-- what the table has of a place tells whether it has the place
pub tabled_by : (n types : ℕ) → types_at n ≡ Some types → (is_tabled n ≡ true) × (types ≡ set_of (types_by n))
unfolding types_at
tabled_by n types some = by (is_tabled n) some
  where
    by : (b : Bool) → pick b (Some (set_of (types_by n))) None ≡ Some types → (b ≡ true) × (types ≡ set_of (types_by n))
    by true h = (refl, cc)
    by false h = apart (cc)

pub untabled_by : (n : ℕ) → types_at n ≡ None → is_tabled n ≡ false
unfolding types_at
untabled_by n none = by (is_tabled n) none
  where
    by : (b : Bool) → pick b (Some (set_of (types_by n))) None ≡ None → b ≡ false
    by true h = apart (cc)
    by false h = refl

-- the types of a number that has no name, by their set
module _ (n token : ℕ) where
  abbrev Held : List ℕ → Type 0
  Held types = holds (set_of types) (type_of token) ≡ among (type_of token) types

  several : (b : Bool) (types others : List ℕ) → Agrees types → Held others → Held (pick b types others)
  several true types others tested held = set_among types tested (type_of token) (type_small token)
  several false types others tested held = held

  pub types_held : Held (types_by n)
  unfolding types_by holds
  types_held =
      several (eqb n 56) _ _ refl (several (eqb n 57) _ _ refl (several (eqb n 58) _ _ refl (several (eqb n 59) _ _ refl
      (several (eqb n 87) _ _ refl (several (eqb n 88) _ _ refl (several (eqb n 89) _ _ refl (several (eqb n 90) _ _ refl (several (eqb n 91) _ _ refl
      (rw add-zero (one_among (only_type n) (type_of token) (mod-lt n (lit< tt)) (type_small token)))))))))))

-- the types of a place of the tables
pub types_tabled : (n types token : ℕ) → types_at n ≡ Some types → holds types (type_of token) ≡ among (type_of token) (types_by n)
types_tabled n types token some = rw (tabled_by n types some).1 (types_held n token)

-- the places that are neither kept as they stand nor free
module _ (v : Version) (token : ℕ) where
  abbrev LaidDestination : ℕ → Place → Type 0
  LaidDestination n p = is_raw p ≡ false → is_free p ≡ false → is_destination p ≡ true → laid v declared token ≡ laid v p token

  pub typed_destination_at : (n : ℕ) → LaidDestination n (place_by n)
  typed_destination_at =
      by_place LaidDestination (λ r f d. never d) (λ r f d. never d) (λ r f d. refl) (λ r f d. never (sym f)) (λ r f d. never d)
      (λ r f d. never d) (λ r f d. never d) (λ r f d. never d) (λ n u h r f d. refl) (λ n u h r f d. never d)

  abbrev LaidSource : ℕ → Place → Type 0
  LaidSource n p =
      is_raw p ≡ false → is_free p ≡ false → is_destination p ≡ false → (n ≡ 93 → ⊥) → (n ≡ 94 → ⊥) → laid v condition token ≡ laid v p token

  pub typed_source_at : (n : ℕ) → LaidSource n (place_by n)
  typed_source_at =
      by_place LaidSource (λ r f d p e. never (sym r)) (λ r f d p e. never (sym r)) (λ r f d p e. never (sym d)) (λ r f d p e. never (sym f))
      (λ r f d p e. refl) (λ r f d p e. absurd (p refl)) (λ r f d p e. absurd (e refl)) (λ r f d p e. never (sym f)) (λ n u h r f d p e. never (sym d))
      (λ n u h r f d p e. refl)

  -- the same of both
  pub kind_laid_at : (n : ℕ) → is_raw (place_by n) ≡ false → is_free (place_by n) ≡ false → (n ≡ 93 → ⊥) → (n ≡ 94 → ⊥) →
      pick (is_destination (place_by n)) (laid v declared token) (laid v condition token) ≡ laid v (place_by n) token
  kind_laid_at n r f p e = by (is_destination (place_by n)) refl
    where
      by : (b : Bool) → is_destination (place_by n) ≡ b → pick b (laid v declared token) (laid v condition token) ≡ laid v (place_by n) token
      by true d = typed_destination_at n r f d
      by false d = typed_source_at n r f d p e

  abbrev Typed : ℕ → Place → Type 0
  Typed n p =
      is_raw p ≡ false → is_free p ≡ false → (n ≡ 92 → ⊥) → (n ≡ 93 → ⊥) → (n ≡ 94 → ⊥) → (n ≡ 61 → ⊥) →
      typed v p (type_of token) ≡ among (type_of token) (types_by n)

  pub typed_at : (n : ℕ) → Typed n (place_by n)
  typed_at =
      by_place Typed (λ r f c p e d. never (sym r)) (λ r f c p e d. never (sym r)) (λ r f c p e d. absurd (d refl)) (λ r f c p e d. never (sym f))
      (λ r f c p e d. absurd (c refl)) (λ r f c p e d. absurd (p refl)) (λ r f c p e d. absurd (e refl)) (λ r f c p e d. never (sym f))
      (λ n u h r f c p e d. refl) (λ n u h r f c p e d. refl)

  -- a place of the tables: what is plain there is laid out, its layout is that of all its kind, and its types are those of its number
  abbrev PlainLaid : ℕ → Place → Type 0
  PlainLaid n p = is_tabled n ≡ true → pick (is_destination p) (plain_destination token) (plain_source token) ≡ true → laid v p token ≡ true

  pub plain_laid : (n : ℕ) → PlainLaid n (place_by n)
  plain_laid =
      by_place PlainLaid (λ u t. never u) (λ u t. never u) (λ u t. never u) (λ u t. never u) (λ u t. never u) (λ u t. never u) (λ u t. never u) (λ u t. never u)
      (λ n x h u t. plain_destination_laid v (only (types_by n)) token t) (λ n x h u t. plain_source_laid v (only (types_by n)) token t)

  abbrev OfItsKind : ℕ → Place → Type 0
  OfItsKind n p = is_tabled n ≡ true → pick (is_destination p) (laid v declared token) (laid v condition token) ≡ laid v p token

  pub of_its_kind : (n : ℕ) → OfItsKind n (place_by n)
  of_its_kind =
      by_place OfItsKind (λ u. never u) (λ u. never u) (λ u. never u) (λ u. never u) (λ u. never u) (λ u. never u) (λ u. never u) (λ u. never u)
      (λ n x h u. refl) (λ n x h u. refl)

  abbrev OfItsTypes : ℕ → Place → Type 0
  OfItsTypes n p = is_tabled n ≡ true → typed v p (type_of token) ≡ among (type_of token) (types_by n)

  pub of_its_types : (n : ℕ) → OfItsTypes n (place_by n)
  of_its_types =
      by_place OfItsTypes (λ u. never u) (λ u. never u) (λ u. never u) (λ u. never u) (λ u. never u) (λ u. never u) (λ u. never u) (λ u. never u)
      (λ n x h u. refl) (λ n x h u. refl)
