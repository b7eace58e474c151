-- Faults of one token: what holds of each that it can have, and that it has none exactly if it is laid as document 01 says.
use Prim.Native.Nat.{ℕ, zero, suc, ◌+◌, ◌*◌, ◌-◌, ◌/◌, ◌%◌, ◌^◌, ◌<◌, ◌≤◌}
use mathlib.Core.Path.{◌≡◌, refl, sym, ap, ◌∙◌}
use mathlib.Core.Bool.{Bool, true, false, not, ◌&&◌, ◌||◌}
use mathlib.Core.List.{List, [], ◌∷◌, ◌++◌}
use native.Mathlib.Nat.{mod-one, mod-lt}
use native.Mathlib.Numerals.{add-one}
use native.Mathlib.Omega.{arith}
use lib.Dec.{eqb, leb, ltb, lit<}
use lib.Pow.{shr-shr, mod-pow-add}
use borrow.Author.Tests.{eq-eqb, ne_eqb, eqb-true, eqb-false, ltb-true, lt-ltb, le-ltb, lt-leb, not-true}
use Rattle.paper.specs.Notation.{bit, bits, pick, among}
use Rattle.paper.specs.Versions.{is_pixel}
use Rattle.paper.specs.Faults.{bits_from, span, unless, offends, lowest_from, lowest, fault_by}
use Rattle.paper.specs.Places.{Place, raw, usage, declared, destination, source, condition, predicate, relative, is_raw}
use Rattle.paper.specs.OperandTokens.{both_laid, type_of, modifier_of, number_field, has_shift_scale, relative_laid, modifier_laid, source_laid, destination_laid, laid, typed, written_zeros, zeros_at, fault_at, layout_then_type, token_at}
use Rattle.paper.specs.Dcl.{sampler_form, plain_form, usage_form, sampler_types, plain_types, is_declared, is_miscellaneous, face_laid, is_face, declared_zeros, declared_fields, declared_fault, declared_at, usage_laid, form_zeros, form_fields, usage_fault, usage_at}
use Rattle.paper.specs.declared.Version.{Version}
use Rattle.paper.specs.declared.Reason.{Reason}
use Rattle.paper.specs.declared.Reason.TheVariants.{Register as REGISTER, Reserved as RESERVED, Modifier as MODIFIER, Relative as RELATIVE}
use Rattle.paper.specs.Judgements.{Token, good_token, bad_token}
use Rattle.paper.proofs.Bools.{never, both_left, both_right, and_true, and_false, or_false}
use Rattle.paper.proofs.VersionTokens.{each}

-- P holds of each fault that one token can have
module _ (P : Reason → ℕ → Type 0) where
  pub record TokenFaults : Type 0 where
    pub reserved : (bit : ℕ) → bit < 32 → P RESERVED bit
    pub modifier : P MODIFIER 24
    pub relative : P RELATIVE 13
    pub register : P REGISTER 0

  abbrev pub OfToken : Token → Type 0
  OfToken good_token = Unit {0}
  OfToken (bad_token reason bit) = P reason bit

  module _ (faults : TokenFaults) where
    either : (b : Bool) (x y : Token) → (b ≡ true → OfToken x) → (b ≡ false → OfToken y) → OfToken (pick b x y)
    either true x y h j = h refl
    either false x y h j = j refl

    fault_by_lem : (token : ℕ) (reserved : ℕ → Bool) (is_relative_laid is_modifier_laid : Bool) → OfToken (fault_by token reserved is_relative_laid is_modifier_laid)
    fault_by_lem token reserved is_relative_laid is_modifier_laid =
        either (eqb (bit 31 token) 0) _ _ (λ z. faults.reserved 31 (lit< tt))
        (λ one. either (ltb (lowest reserved) 31) _ _ (λ some. faults.reserved (lowest reserved) (omega (arith, ltb-true (lowest reserved) 31 some)))
        (λ none. either is_relative_laid _ _ (λ r. either is_modifier_laid _ _ (λ m. tt) (λ m. faults.modifier)) (λ r. faults.relative)))

    by_tests : (is_laid is_typed : Bool) (fault : Token) → OfToken fault → OfToken (layout_then_type is_laid is_typed fault)
    by_tests true true fault h = tt
    by_tests true false fault h = faults.register
    by_tests false is_typed fault h = h

    pub of_token : (v : Version) (place : Place) (token : ℕ) → OfToken (token_at v place token)
    unfolding token_at fault_at
    of_token v place token =
        by_tests (laid v place token) (typed v place (type_of token)) (fault_at v place token)
        (either (is_raw place) _ _ (λ r. tt)
        (λ r. fault_by_lem token (offends (zeros_at v place) [] token) (relative_laid v place token) (modifier_laid v place (modifier_of token) (type_of token))))

    pub of_declared : (v : Version) (token : ℕ) → OfToken (declared_at v token)
    unfolding declared_fault
    of_declared v token =
        by_tests (laid v declared token && face_laid v token) (is_declared v (type_of token)) (declared_fault v token)
        (fault_by_lem token (offends (declared_zeros v token) (declared_fields v token) token) (relative_laid v declared token) true)

    pub of_usage : (v : Version) (type token : ℕ) → OfToken (usage_at v type token)
    unfolding usage_fault
    of_usage v type token =
        either (usage_laid v type token) _ _ (λ l. tt) (λ l. fault_by_lem token (offends (form_zeros v type) (form_fields v type token) token) true true)

-- one Bool is another where each holds if the other does
same_bool : (a b : Bool) → (a ≡ true → b ≡ true) → (b ≡ true → a ≡ true) → a ≡ b
same_bool true b h j = sym (h refl)
same_bool false true h j = j refl
same_bool false false h j = refl

or_true : (a : Bool) → a || true ≡ true
or_true true = refl
or_true false = refl

assoc : (a b c : Bool) → a && (b && c) ≡ (a && b) && c
assoc true b c = refl
assoc false b c = refl

-- no bit of a list is one
abbrev pub none_set : List ℕ → ℕ → Bool
none_set [] token = true
none_set (k ∷ ks) token = not (eqb (bit k token) 1) && none_set ks token

-- "bits high:low are zero" exactly if each of them is
low_first : (a b : ℕ) → b < 2 → not (eqb b 1) && eqb a 0 ≡ eqb (a * 2 + b) 0
low_first a b h = same_bool (not (eqb b 1) && eqb a 0) (eqb (a * 2 + b) 0)
    (λ t. let low = eqb-false b 1 (not-true (eqb b 1) (both_left (not (eqb b 1)) (eqb a 0) t)) in
    let high = eqb-true a 0 (both_right (not (eqb b 1)) (eqb a 0) t) in
    eq-eqb (a * 2 + b) 0 (omega (arith, low)))
    (λ t. let all = eqb-true (a * 2 + b) 0 t in rw (ne_eqb b 1 (λ e. omega arith), eq-eqb a 0 (omega arith)))

none_from : (n k token : ℕ) → none_set (bits_from k n) token ≡ eqb (token / 2 ^ k % 2 ^ n) 0
none_from zero k token = sym (eq-eqb (token / 2 ^ k % 2 ^ 0) 0 (mod-one (token / 2 ^ k)))
none_from (suc n) k token =
    let one : suc k - k ≡ 1 = omega arith in
    let next : token / 2 ^ k / 2 ^ 1 ≡ token / 2 ^ suc k = shr-shr token k 1 ∙ ap (λ x. token / 2 ^ x) (add-one k) in
    let split : token / 2 ^ k % 2 ^ suc n ≡ (token / 2 ^ suc k % 2 ^ n) * 2 + token / 2 ^ k % 2 =
    ap (λ x. token / 2 ^ k % 2 ^ x) (sym (add-one n)) ∙ mod-pow-add (token / 2 ^ k) n 1 ∙ ap (λ x. (x % 2 ^ n) * 2 + token / 2 ^ k % 2) next in
    rw (none_from n (suc k) token, one, split) (low_first (token / 2 ^ suc k % 2 ^ n) (token / 2 ^ k % 2) (mod-lt (token / 2 ^ k) (lit< tt)))

none_both : (ks ls : List ℕ) (token : ℕ) → none_set (ks ++ ls) token ≡ none_set ks token && none_set ls token
none_both [] ls token = refl
none_both (k ∷ ks) ls token = rw (none_both ks ls token) (assoc (not (eqb (bit k token) 1)) (none_set ks token) (none_set ls token))

-- the lowest bit is there unless the test holds for none
abbrev none_of : (ℕ → Bool) → ℕ → ℕ → Bool
none_of test k zero = true
none_of test k (suc n) = not (test k) && none_of test (suc k) n

lowest_from_lem : (test : ℕ → Bool) (k n : ℕ) → ltb (lowest_from test k n) (k + n) ≡ not (none_of test k n)
unfolding lowest_from
lowest_from_lem test k zero = le-ltb k (k + 0) (omega arith)
lowest_from_lem test k (suc n) = by (test k) (lowest_from_lem test (suc k) n)
  where
    by : (b : Bool) → ltb (lowest_from test (suc k) n) (suc k + n) ≡ not (none_of test (suc k) n) →
        ltb (pick b k (lowest_from test (suc k) n)) (k + suc n) ≡ not (not b && none_of test (suc k) n)
    by true later = lt-ltb k (k + suc n) (omega arith)
    by false later = let on : k + suc n ≡ suc k + n = omega arith in rw on later

none_at : (test : ℕ → Bool) (k n i : ℕ) → none_of test k n ≡ true → k ≤ i → i < k + n → test i ≡ false
none_at test k zero i t h j = absurd (omega arith)
none_at test k (suc n) i t h j =
    by (eqb i k) refl (λ more. none_at test (suc k) n i (both_right (not (test k)) (none_of test (suc k) n) t) more (omega arith))
  where
    by : (b : Bool) → eqb i k ≡ b → (suc k ≤ i → test i ≡ false) → test i ≡ false
    by true e later = ap test (eqb-true i k e) ∙ not-true (test k) (both_left (not (test k)) (none_of test (suc k) n) t)
    by false e later = let other = eqb-false i k e in later (omega (arith, other))

none_by : (test : ℕ → Bool) (k n : ℕ) → ((i : ℕ) → test i ≡ false) → none_of test k n ≡ true
none_by test k zero h = refl
none_by test k (suc n) h = rw (h k) (none_by test (suc k) n h)

-- bits that a fault can be told by
abbrev low : List ℕ → Bool
low [] = true
low (k ∷ ks) = ltb k 31 && low ks

low_both : (ks ls : List ℕ) → low (ks ++ ls) ≡ low ks && low ls
low_both [] ls = refl
low_both (k ∷ ks) ls = rw (low_both ks ls) (assoc (ltb k 31) (low ks) (low ls))

abbrev empty : List ℕ → Bool
empty [] = true
empty (k ∷ ks) = false

module _ (zeros fields : List ℕ) (token : ℕ) where
  abbrev test : ℕ → Bool
  test = offends zeros fields token

  none_zeros : (ks : List ℕ) → none_set ks token ≡ true → (i : ℕ) → among i ks && eqb (bit i token) 1 ≡ false
  none_zeros [] t i = refl
  none_zeros (k ∷ ks) t i = by (eqb i k) refl (none_zeros ks (both_right (not (eqb (bit k token) 1)) (none_set ks token) t) i)
    where
      by : (b : Bool) → eqb i k ≡ b → among i ks && eqb (bit i token) 1 ≡ false → (b || among i ks) && eqb (bit i token) 1 ≡ false
      by true e later = rw (eqb-true i k e) (not-true (eqb (bit k token) 1) (both_left (not (eqb (bit k token) 1)) (none_set ks token) t))
      by false e later = later

  zeros_none : (ks : List ℕ) → low ks ≡ true → none_of test 0 31 ≡ true → ((i : ℕ) → among i ks ≡ true → among i zeros ≡ true) → none_set ks token ≡ true
  zeros_none [] l t inside = refl
  zeros_none (k ∷ ks) l t inside =
      let here : among k zeros ≡ true = inside k (rw (eq-eqb k k refl)) in
      let off : test k ≡ false = none_at test 0 31 k t (omega arith) (ltb-true k 31 (both_left (ltb k 31) (low ks) l)) in
      let bit_off : eqb (bit k token) 1 ≡ false = first (eqb (bit k token) 1) (among k fields) (rw here at off) in
      rw bit_off (zeros_none ks (both_right (ltb k 31) (low ks) l) t (λ i h. inside i (rw h (or_true (eqb i k)))))
    where
      first : (a b : Bool) → (true && a) || b ≡ false → a ≡ false
      first true b e = e
      first false b e = refl

  fields_none : (ks : List ℕ) → low ks ≡ true → none_of test 0 31 ≡ true → ((i : ℕ) → among i ks ≡ true → among i fields ≡ true) → empty ks ≡ true
  fields_none [] l t inside = refl
  fields_none (k ∷ ks) l t inside =
      let here : among k fields ≡ true = inside k (rw (eq-eqb k k refl)) in
      let off : test k ≡ false = none_at test 0 31 k t (omega arith) (ltb-true k 31 (both_left (ltb k 31) (low ks) l)) in
      never (sym (rw here at off) ∙ or_true (among k zeros && eqb (bit k token) 1))

  -- no bit offends exactly if no bit that must be zero is one, and no field is wrong
  none_offends : low zeros ≡ true → low fields ≡ true → ltb (lowest test) 31 ≡ not (none_set zeros token && empty fields)
  unfolding lowest
  none_offends lz lf =
      lowest_from_lem test 0 31
      ∙ ap not (same_bool (none_of test 0 31) (none_set zeros token && empty fields)
      (λ t. rw (zeros_none zeros lz t (λ i h. h), fields_none fields lf t (λ i h. h)))
      (λ t. none_by test 0 31 (clear fields (both_left (none_set zeros token) (empty fields) t) (both_right (none_set zeros token) (empty fields) t))))
    where
      clear : (fs : List ℕ) → none_set zeros token ≡ true → empty fs ≡ true → (i : ℕ) → offends zeros fs token i ≡ false
      clear [] n e i = rw (none_zeros zeros n i)
      clear (f ∷ fs) n e i = never e

abbrev pub is_good : Token → Bool
is_good good_token = true
is_good (bad_token reason bit) = false

-- a token has no fault exactly if bit 31 is one, no other bit offends, and bit 13 and the modifier are laid
good_by : (one some r m : Bool) (k : ℕ) →
    is_good (pick (not one) (bad_token RESERVED 31) (pick some (bad_token RESERVED k) (pick r (pick m good_token (bad_token MODIFIER 24)) (bad_token RELATIVE 13)))) ≡ one && (not some && (r && m))
good_by false some r m k = refl
good_by true true r m k = refl
good_by true false true true k = refl
good_by true false true false k = refl
good_by true false false m k = refl

top_bit : (token : ℕ) → eqb (bit 31 token) 0 ≡ not (eqb (bit 31 token) 1)
top_bit token = by (bit 31 token) (mod-lt (token / 2 ^ 31) (lit< tt))
  where
    by : (b : ℕ) → b < 2 → eqb b 0 ≡ not (eqb b 1)
    by zero h = refl
    by (suc zero) h = refl
    by (suc (suc n)) h = absurd (omega arith)

good_fault : (zeros fields : List ℕ) (token : ℕ) (r m : Bool) → low zeros ≡ true → low fields ≡ true →
    is_good (fault_by token (offends zeros fields token) r m) ≡ eqb (bit 31 token) 1 && ((none_set zeros token && empty fields) && (r && m))
good_fault zeros fields token r m lz lf =
    rw (
      top_bit token,
      good_by (eqb (bit 31 token) 1) (ltb (lowest (offends zeros fields token)) 31) r m (lowest (offends zeros fields token)),
      none_offends zeros fields token lz lf,
      twice (none_set zeros token && empty fields),
    )
  where
    twice : (b : Bool) → not (not b) ≡ b
    twice true = refl
    twice false = refl

-- the bits of a destination that must be zero
none_unless : (b : Bool) (high low token : ℕ) → none_set (pick b [] (span high low)) token ≡ eqb (bits high low token) 0 || b
none_unless true high low token = sym (or_true (eqb (bits high low token) 0))
none_unless false high low token = none_from (suc high - low) low token ∙ sym (or_false (eqb (bits high low token) 0))

none_written : (v : Version) (token : ℕ) → none_set (written_zeros v) token ≡
    eqb (bits 15 14 token) 0 && ((eqb (bits 22 21 token) 0 || is_pixel v) && (eqb (bit 23 token) 0 && (eqb (bits 27 24 token) 0 || has_shift_scale v)))
none_written v token =
    rw (
      none_both (span 15 14) (pick (is_pixel v) [] (span 22 21) ++ (span 23 23 ++ pick (has_shift_scale v) [] (span 27 24))) token,
      none_both (pick (is_pixel v) [] (span 22 21)) (span 23 23 ++ pick (has_shift_scale v) [] (span 27 24)) token,
      none_both (span 23 23) (pick (has_shift_scale v) [] (span 27 24)) token,
      none_unless (is_pixel v) 22 21 token,
      none_unless (has_shift_scale v) 27 24 token,
      none_from 2 14 token,
      none_from 1 23 token,
    )

low_written : (v : Version) → low (written_zeros v) ≡ true
low_written v = each (λ v. low (written_zeros v)) refl v

destination_order : (a o p z s r : Bool) → o && (((a && (p && (z && s))) && true) && (r && true)) ≡ (a && o) && (p && (z && (s && r)))
destination_order false true p z s r = refl
destination_order false false p z s r = refl
destination_order true false p z s r = refl
destination_order true true false z s r = refl
destination_order true true true false s r = refl
destination_order true true true true false r = refl
destination_order true true true true true true = refl
destination_order true true true true true false = refl

source_order : (a o m r : Bool) → o && ((a && true) && (r && m)) ≡ (a && o) && (m && r)
source_order false true m r = refl
source_order false false m r = refl
source_order true false m r = refl
source_order true true true true = refl
source_order true true true false = refl
source_order true true false true = refl
source_order true true false false = refl

module _ (v : Version) (token : ℕ) where
  written : (place : Place) → is_good (fault_by token (offends (written_zeros v) [] token) (relative_laid v place token) true) ≡ destination_laid v place token
  written place =
      rw (good_fault (written_zeros v) [] token (relative_laid v place token) true (low_written v) refl, none_written v token)
      (destination_order (eqb (bits 15 14 token) 0) (eqb (bit 31 token) 1) (eqb (bits 22 21 token) 0 || is_pixel v) (eqb (bit 23 token) 0)
      (eqb (bits 27 24 token) 0 || has_shift_scale v) (relative_laid v place token))

  read : (place : Place) → is_good
      (fault_by token (offends (span 15 14) [] token) (relative_laid v place token) (modifier_laid v place (modifier_of token) (type_of token)))
      ≡ source_laid v place token
  read place =
      rw (good_fault (span 15 14) [] token (relative_laid v place token) (modifier_laid v place (modifier_of token) (type_of token)) refl refl, none_from 2 14 token)
      (source_order (eqb (bits 15 14 token) 0) (eqb (bit 31 token) 1) (modifier_laid v place (modifier_of token) (type_of token)) (relative_laid v place token))

  -- a token has no fault exactly if it is laid
  pub faultless : (place : Place) → is_good (fault_at v place token) ≡ laid v place token
  unfolding fault_at
  faultless raw = refl
  faultless usage = refl
  faultless declared = written declared
  faultless (destination types) = written (destination types)
  faultless (source types) = read (source types)
  faultless condition = read condition
  faultless predicate = read predicate
  faultless relative = read relative

  -- so with type 17's rules
  abbrev misc : Bool
  misc = is_miscellaneous v token

  abbrev number : ℕ
  number = number_field token

  one_or_none : leb number 1 ≡ eqb number 0 || eqb number 1
  one_or_none = by number
    where
      by : (n : ℕ) → leb n 1 ≡ eqb n 0 || eqb n 1
      by zero = refl
      by (suc zero) = refl
      by (suc (suc n)) = lt-leb (suc (suc n)) 1 (omega arith) ∙ sym (rw (ne_eqb (suc (suc n)) 0 (λ e. omega arith), ne_eqb (suc (suc n)) 1 (λ e. omega arith)))

  not_both : eqb number 0 ≡ true → eqb number 1 ≡ false
  not_both z = ne_eqb number 1 (λ e. omega (arith, eqb-true number 0 z))

  face_bits : eqb (bits 23 20 token) 0 ≡ eqb (bits 22 20 token) 0 && eqb (bit 23 token) 0
  face_bits = sym (none_from 4 20 token) ∙ none_both (bits_from 20 3) (bits_from 23 1) token ∙ rw (none_from 3 20 token, none_from 1 23 token)

  none_face : none_set (pick (is_face v token) (span 22 20) []) token ≡ not (is_face v token) || eqb (bits 22 20 token) 0
  none_face = by (is_face v token)
    where
      by : (b : Bool) → none_set (pick b (span 22 20) []) token ≡ not b || eqb (bits 22 20 token) 0
      by true = none_from 3 20 token
      by false = refl

  face_order : (m none one mask clear last : Bool) → (none ≡ true → one ≡ false) → last ≡ true →
      (not (m && one) || clear) && ((not m || (none || one)) && (not (m && one) || mask)) ≡ not m || (none || (one && (mask && (clear && last))))
  face_order false none one mask clear last h l = refl
  face_order true true true mask clear last h l = never (sym (h refl))
  face_order true true false mask clear last h l = refl
  face_order true false false mask clear last h l = refl
  face_order true false true mask false last h l = rw (and_false mask)
  face_order true false true mask true last h l = rw l (sym (and_true mask))

  under : (a x y : Bool) → (a ≡ true → x ≡ y) → a && x ≡ a && y
  under true x y h = h refl
  under false x y h = refl

  apart_order : (o w f e r : Bool) → o && (((w && f) && e) && (r && true)) ≡ (o && ((w && true) && (r && true))) && (f && e)
  apart_order false w f e r = refl
  apart_order true false f e r = refl
  apart_order true true f e true = rw (and_true (f && e))
  apart_order true true f e false = and_false (f && e)

  fields_right : (a b : Bool) → empty (unless a 0 ++ unless b 16) ≡ a && b
  fields_right true true = refl
  fields_right true false = refl
  fields_right false b = refl

  fields_low : (a b : Bool) → low (unless a 0 ++ unless b 16) ≡ true
  fields_low true true = refl
  fields_low true false = refl
  fields_low false true = refl
  fields_low false false = refl

  zeros_low : low (declared_zeros v token) ≡ true
  zeros_low = rw (low_both (written_zeros v) (pick (is_face v token) (span 22 20) []), low_written v) (by (is_face v token))
    where
      by : (b : Bool) → low (pick b (span 22 20) []) ≡ true
      by true = refl
      by false = refl

  pub declared_faultless : is_good (declared_fault v token) ≡ laid v declared token && face_laid v token
  unfolding declared_fault
  declared_faultless =
      let fits = not misc || leb number 1 in
      let full = not (is_face v token) || eqb (bits 19 16 token) 0xF in
      rw (
        good_fault (declared_zeros v token) (declared_fields v token) token (relative_laid v declared token) true zeros_low (fields_low fits full),
        fields_right fits full,
        none_both (written_zeros v) (pick (is_face v token) (span 22 20) []) token,
        apart_order (eqb (bit 31 token) 1) (none_set (written_zeros v) token) (none_set (pick (is_face v token) (span 22 20) []) token) (fits && full) (relative_laid v declared token),
        ← (good_fault (written_zeros v) [] token (relative_laid v declared token) true (low_written v) refl),
        written declared,
        none_face,
      )
      (under (destination_laid v declared token) _ _ (λ l. rw (one_or_none, face_bits)
      (face_order misc (eqb number 0) (eqb number 1) (eqb (bits 19 16 token) 0xF) (eqb (bits 22 20 token) 0) (eqb (bit 23 token) 0) not_both
      (both_left (eqb (bit 23 token) 0) _ (both_right (eqb (bits 22 21 token) 0 || is_pixel v) _ (both_right (both_laid token) _ l))))))

  -- and of U, in each of its forms
  form_good : (zeros fields : List ℕ) (form : Bool) → low zeros ≡ true → low fields ≡ true → none_set zeros token && empty fields ≡ form →
      is_good (fault_by token (offends zeros fields token) true true) ≡ eqb (bit 31 token) 1 && form
  form_good zeros fields form lz lf e = rw (good_fault zeros fields token true true lz lf, e, and_true form)

  one_low : (b : Bool) (k : ℕ) → ltb k 31 ≡ true → low (unless b k) ≡ true
  one_low true k h = refl
  one_low false k h = rw h

  one_right : (b : Bool) (k : ℕ) → empty (unless b k) ≡ b
  one_right true k = refl
  one_right false k = refl

  pub usage_faultless : (type : ℕ) → is_good (usage_fault v type token) ≡ usage_laid v type token
  unfolding usage_fault
  usage_faultless type = by (among type (sampler_types v)) (among type (plain_types v))
    where
      texture : Bool
      texture = leb 2 (bits 30 27 token) && leb (bits 30 27 token) 4

      used : Bool
      used = leb (bits 4 0 token) 13

      by : (sampler plain : Bool) → is_good
          (fault_by token (offends (pick sampler (span 26 0) (pick plain (span 30 0) (span 15 5 ++ span 30 20))) (pick sampler (unless texture 27) (pick plain [] (unless used 0))) token) true true)
          ≡ eqb (bit 31 token) 1 && pick sampler (sampler_form token) (pick plain (plain_form token) (usage_form token))
      by true plain = form_good (span 26 0) (unless texture 27) (sampler_form token) refl (one_low texture 27 refl) (rw (none_from 27 0 token, one_right texture 27))
      by false true = form_good (span 30 0) [] (plain_form token) refl refl (rw (none_from 31 0 token, and_true (plain_form token)))
      by false false =
          form_good (span 15 5 ++ span 30 20) (unless used 0) (usage_form token) refl (one_low used 0 refl)
          (rw (none_both (span 15 5) (span 30 20) token, none_from 11 5 token, none_from 11 20 token, one_right used 0)
          (sym (assoc (eqb (bits 15 5 token) 0) (eqb (bits 30 20 token) 0) used)))

-- a token is good exactly if it is laid, and of a type of its place
good_both : (is_laid is_typed : Bool) (fault : Token) → is_good fault ≡ is_laid → is_good (layout_then_type is_laid is_typed fault) ≡ is_laid && is_typed
good_both true true fault e = refl
good_both true false fault e = refl
good_both false is_typed fault e = e

module _ (v : Version) where
  pub token_good : (place : Place) (token : ℕ) → is_good (token_at v place token) ≡ laid v place token && typed v place (type_of token)
  unfolding token_at
  token_good place token = good_both (laid v place token) (typed v place (type_of token)) (fault_at v place token) (faultless v token place)

  pub declared_good : (token : ℕ) → is_good (declared_at v token) ≡ (laid v declared token && face_laid v token) && is_declared v (type_of token)
  declared_good token =
      good_both (laid v declared token && face_laid v token) (is_declared v (type_of token)) (declared_fault v token) (declared_faultless v token)

  pub usage_good : (type token : ℕ) → is_good (usage_at v type token) ≡ usage_laid v type token
  usage_good type token = by (usage_laid v type token) (usage_faultless v token type)
    where
      by : (is_laid : Bool) → is_good (usage_fault v type token) ≡ is_laid → is_good (pick is_laid good_token (usage_fault v type token)) ≡ is_laid
      by true e = refl
      by false e = e
