-- The faults of a token by sets of bits, and by the numbers of places.
use Prim.Native.Nat.{ℕ, zero, suc, ◌+◌, ◌-◌, ◌^◌, ◌<◌, ◌≤◌, min, max}
use mathlib.Core.Path.{◌≡◌, refl, sym, ap, ◌∙◌}
use mathlib.Core.Logic.{◌≢◌}
use mathlib.Core.Bool.{Bool, true, false, not, ◌&&◌, ◌||◌}
use mathlib.Core.List.{List, [], ◌∷◌, ◌++◌}
use Rattle.std.specs.Prelude.{Option}
use Rattle.std.specs.Option.{unwrap_or}
use native.Mathlib.Nat.{max-zero}
use Rattle.std.specs.Int.{w32, bit_at, trailing_zeros}
use Rattle.std.specs.Int.RustNames.{bit_or}
use lib.Bits.{bit_and}
use Rattle.std.proofs.lemmas.Nat.{or_lt, and_le_l}
use Rattle.std.proofs.lemmas.Nat.Bits.{bit_at_and, bit_at_or, bit_at-pow_same, bit_at-pow_other, bit_at-lt, bit_at-trailing_zeros}
use native.Mathlib.Omega.{arith}
use lib.Dec.{eqb, leb}
use borrow.Author.Tests.{eqb-true}
use Rattle.paper.specs.Notation.{bit, bits, pick}
use Rattle.paper.specs.Faults.{span, unless, offends, lowest_from, lowest, fault_by}
use Rattle.paper.specs.Places.{Place, is_raw, is_destination}
use Rattle.paper.specs.OperandTokens.{number_field, type_of, modifier_of, relative_destinations, marked_sources, source_modifier, written_zeros, fault_at}
use Rattle.paper.specs.Dcl.{declares_face, is_miscellaneous, is_face, declared_zeros, declared_fields, usage_fault}
use Rattle.paper.specs.declared.Version.{Version}
use Rattle.paper.proofs.Below.{below}
use Rattle.paper.proofs.Bools.{never, both_left, both_right}
use Rattle.paper.proofs.VersionTokens.{each}
use Rattle.places.specs.Places.{place_by}
use Rattle.places.proofs.Places.{by_place}
use Rattle.versions.specs.Sets.{set_of, holds}
use Rattle.versions.specs.Rows.{form_of}
use Rattle.versions.proofs.Sets.{agrees, Agrees, set_among}
use Rattle.versions.specs.Forms.{form_number}
use Rattle.versions.specs.declared.Form.{Form}
use Rattle.versions.specs.declared.Form.TheVariants.{Sampler, Plain, Usage}
use Rattle.versions.proofs.Forms.{by_form, form_by_lem}
use Rattle.faults.specs.BySets.{offends_in}

-- the lowest bit is the one below which none is told of
lowest_is : (test : ℕ → Bool) (k n m : ℕ) → k ≤ m → m ≤ k + n → ((i : ℕ) → i < m → test i ≡ false) → (m < k + n → test m ≡ true) →
    lowest_from test k n ≡ m
unfolding lowest_from
lowest_is test k zero m low high none here = omega arith
lowest_is test k (suc n) m low high none here =
    by (test k) refl (λ less. lowest_is test (suc k) n m (omega arith) (omega arith) none (λ l. here (omega arith)))
  where
    by : (b : Bool) → test k ≡ b → (k < m → lowest_from test (suc k) n ≡ m) → pick b k (lowest_from test (suc k) n) ≡ m
    by true t above = let least : k < m → ⊥ = λ less. never (sym (none k less) ∙ t) in omega arith
    by false t above =
        let other : k ≡ m → ⊥ = λ e. never (sym t ∙ rw e (here (omega arith))) in
        above (omega arith)

-- a bit of a mask, by those that it is made of
mask_bit : (zero_bit token_bit field_bit : ℕ) → zero_bit < 2 → token_bit < 2 → field_bit < 2 →
    eqb (max (min zero_bit token_bit) field_bit) 1 ≡ (eqb zero_bit 1 && eqb token_bit 1) || eqb field_bit 1
mask_bit zero zero zero a b c = refl
mask_bit zero zero (suc zero) a b c = refl
mask_bit zero (suc zero) zero a b c = refl
mask_bit zero (suc zero) (suc zero) a b c = refl
mask_bit (suc zero) zero zero a b c = refl
mask_bit (suc zero) zero (suc zero) a b c = refl
mask_bit (suc zero) (suc zero) zero a b c = refl
mask_bit (suc zero) (suc zero) (suc zero) a b c = refl
mask_bit z t f a b c = absurd (omega arith)

-- the lowest bit of the mask of the bits that offend, with bit 31 above them
module _ (zeros fields token : ℕ) (z : zeros < 2 ^ 32) (t : token < 2 ^ 32) (f : fields < 2 ^ 32) where
  abbrev mask : ℕ
  mask = bit_or (bit_or (bit_and zeros token) fields) (2 ^ 31)

  mask_offends : (k : ℕ) → k < 31 → eqb (bit_at mask k) 1 ≡ offends_in zeros fields token k
  unfolding holds
  mask_offends k less =
      let other : k ≢ 31 = omega arith in
      rw (
        bit_at_or (bit_or (bit_and zeros token) fields) (2 ^ 31) k,
        bit_at-pow_other 31 k other,
        max-zero,
        bit_at_or (bit_and zeros token) fields k,
        bit_at_and zeros token k,
      )
      (mask_bit (bit_at zeros k) (bit_at token k) (bit_at fields k) (bit_at-lt zeros k) (bit_at-lt token k) (bit_at-lt fields k))

  last_bit : bit_at mask 31 ≡ 1
  last_bit = omega (arith, bit_at_or (bit_or (bit_and zeros token) fields) (2 ^ 31) 31, bit_at-pow_same 31, bit_at-lt mask 31)

  mask_some : 0 < mask
  mask_some = omega (arith, last_bit)

  mask_fits : mask < 2 ^ 32
  mask_fits = or_lt 32 (bit_or (bit_and zeros token) fields) (2 ^ 31) (or_lt 32 (bit_and zeros token) fields (omega (arith, and_le_l zeros token)) f) (omega arith)

  abbrev found : (trailing_zeros w32 mask < 32) × (bit_at mask (trailing_zeros w32 mask) ≡ 1) × ((i : ℕ) → i < trailing_zeros w32 mask → bit_at mask i ≡ 0)
  found = bit_at-trailing_zeros w32 mask mask_some mask_fits

  pub lowest_bit : trailing_zeros w32 mask ≡ lowest (offends_in zeros fields token)
  unfolding lowest
  lowest_bit =
      let m = trailing_zeros w32 mask in
      sym
      (lowest_is (offends_in zeros fields token) 0 31 m (omega arith) (omega (arith, found.0))
      (λ i less. sym (mask_offends i (omega (arith, found.0))) ∙ rw (found.2 i less) refl)
      (λ less. sym (mask_offends m less) ∙ rw found.1 refl))

  pub few_bits : trailing_zeros w32 mask ≤ 31
  few_bits = omega (arith, found.0)

-- the lowest bit of two tests that agree
lowest_same : (f g : ℕ → Bool) (k n : ℕ) → ((i : ℕ) → i < k + n → f i ≡ g i) → lowest_from f k n ≡ lowest_from g k n
unfolding lowest_from
lowest_same f g k zero h = refl
lowest_same f g k (suc n) h = rw (h k (omega arith), lowest_same f g (suc k) n (λ i less. h i (omega arith)))

by_sets : (zeros fields : List ℕ) (token : ℕ) → Agrees zeros → Agrees fields → (k : ℕ) → k < 32 →
    offends_in (set_of zeros) (set_of fields) token k ≡ offends zeros fields token k
unfolding holds
by_sets zeros fields token az af k h =
    let one : suc k - k ≡ 1 = omega arith in
    rw (set_among zeros az k h, set_among fields af k h, one)

pub fault_sets : (zeros fields : List ℕ) (token : ℕ) (r m : Bool) → Agrees zeros → Agrees fields →
    fault_by token (offends_in (set_of zeros) (set_of fields) token) r m ≡ fault_by token (offends zeros fields token) r m
unfolding lowest
fault_sets zeros fields token r m az af =
    rw (lowest_same (offends_in (set_of zeros) (set_of fields) token) (offends zeros fields token) 0 31 (λ i less. by_sets zeros fields token az af i (omega arith)))

-- the sets of bits that must be zero, and of those that tell of a field
pub none_agrees : Agrees []
unfolding holds
none_agrees = refl

pub common_agrees : Agrees (span 15 14)
unfolding holds
common_agrees = refl

pub written_agrees : (v : Version) → Agrees (written_zeros v)
unfolding holds
written_agrees v = each (λ v. below (agrees (written_zeros v)) 32) refl v

two_agree : (a b : Bool) → Agrees (unless a 0 ++ unless b 16)
unfolding holds
two_agree true true = refl
two_agree true false = refl
two_agree false true = refl
two_agree false false = refl

sampler_agrees : Agrees (span 26 0)
unfolding holds
sampler_agrees = refl

plain_agrees : Agrees (span 30 0)
unfolding holds
plain_agrees = refl

usage_agrees : Agrees (span 15 5 ++ span 30 20)
unfolding holds
usage_agrees = refl

texture_agrees : (b : Bool) → Agrees (unless b 27)
unfolding holds
texture_agrees true = refl
texture_agrees false = refl

used_agrees : (b : Bool) → Agrees (unless b 0)
unfolding holds
used_agrees true = refl
used_agrees false = refl

append_none : (ks : List ℕ) → ks ++ [] ≡ ks
append_none [] = refl
append_none (k ∷ ks) = ap (λ (x : List ℕ). k ∷ x) (append_none ks)

module _ (v : Version) (token : ℕ) where
  pub face_zeros : is_face v token ≡ true → set_of (declared_zeros v token) ≡ 0xFF0C000
  face_zeros f =
      rw f (eqb-true _ _ (rw (both_left (declares_face v) _ (both_left (is_miscellaneous v token) _ f)) at
      (each (λ v. not (declares_face v) || eqb (set_of (written_zeros v ++ span 22 20)) 0xFF0C000) refl v)))

  pub no_face_zeros : is_face v token ≡ false → set_of (declared_zeros v token) ≡ set_of (written_zeros v)
  no_face_zeros f = rw f (ap set_of (append_none (written_zeros v)))

  zeros_agree : (b : Bool) → is_face v token ≡ b → Agrees (written_zeros v ++ pick b (span 22 20) [])
  unfolding holds
  zeros_agree true f =
      rw (both_left (declares_face v) _ (both_left (is_miscellaneous v token) _ f)) at
      (each (λ v. not (declares_face v) || below (agrees (written_zeros v ++ span 22 20)) 32) refl v)
  zeros_agree false f = each (λ v. below (agrees (written_zeros v ++ [])) 32) refl v

  pub declared_agrees : Agrees (declared_zeros v token)
  declared_agrees = zeros_agree (is_face v token) refl

  -- a number that tells of itself is no face's
  pub face_fields : is_face v token ≡ true → declared_fields v token ≡ unless (eqb (bits 19 16 token) 0xF) 16
  face_fields f =
      let one = eqb-true (number_field token) 1 (both_right (is_miscellaneous v token) _ f) in
      rw (both_left (is_miscellaneous v token) _ f, one)

  pub number_fields : is_face v token ≡ false → is_miscellaneous v token ≡ true → declared_fields v token ≡ unless (leb (number_field token) 1) 0
  number_fields f m = rw (f, m) (append_none (unless (leb (number_field token) 1) 0))

  pub no_fields : is_miscellaneous v token ≡ false → set_of (declared_fields v token) ≡ 0
  no_fields m = rw m

  pub fields_agree : Agrees (declared_fields v token)
  fields_agree = two_agree (not (is_miscellaneous v token) || leb (number_field token) 1) (not (is_face v token) || eqb (bits 19 16 token) 0xF)

  -- a destination, and a source that is neither free nor the predicate nor a relative token
  abbrev Written : ℕ → Place → Type 0
  Written n p = is_destination p ≡ true →
      fault_at v p token ≡ fault_by token (offends (written_zeros v) [] token) (eqb (bit 13 token) 0 || (eqb n 63 && relative_destinations v)) true

  pub written_at : (n : ℕ) → Written n (place_by n)
  unfolding fault_at
  written_at =
      by_place Written (λ d. never d) (λ d. never d) (λ d. refl) (λ d. refl) (λ d. never d) (λ d. never d) (λ d. never d) (λ d. never d)
      (λ n u h d. rw u.no_destination) (λ n u h d. never d)

  abbrev Read : ℕ → Place → Type 0
  Read n p = is_raw p ≡ false → is_destination p ≡ false → (n ≡ 93 → ⊥) → (n ≡ 94 → ⊥) → (n ≡ 95 → ⊥) →
      fault_at v p token ≡
      fault_by token (offends (span 15 14) [] token) (eqb (bit 13 token) 0 || marked_sources v) (source_modifier v (modifier_of token) (type_of token))

  pub read_at : (n : ℕ) → Read n (place_by n)
  unfolding fault_at
  read_at =
      by_place Read (λ r d p e s. never (sym r)) (λ r d p e s. never (sym r)) (λ r d p e s. never (sym d)) (λ r d p e s. never (sym d))
      (λ r d p e s. refl) (λ r d p e s. absurd (p refl)) (λ r d p e s. absurd (e refl)) (λ r d p e s. absurd (s refl))
      (λ n u h r d p e s. never (sym d)) (λ n u h r d p e s. refl)

  -- U by its form
  abbrev sampled : Bool
  sampled = leb 2 (bits 30 27 token) && leb (bits 30 27 token) 4

  abbrev used : Bool
  used = leb (bits 4 0 token) 13

  pub usage_forms : (type : ℕ) (found : Option Form) (form : Form) → form_number found ≡ form_of v type → form ≡ unwrap_or found Usage →
      by_form form (fault_by token (offends_in 0x7FFFFFF (set_of (unless sampled 27)) token) true true)
      (fault_by token (offends_in 0x7FFFFFFF 0 token) true true)
      (fault_by token (offends_in 0x7FF0FFE0 (set_of (unless used 0)) token) true true) ≡
      usage_fault v type token
  unfolding usage_fault
  usage_forms type found form e u =
      rw (form_by_lem v type (span 26 0) (span 30 0) (span 15 5 ++ span 30 20) found e, form_by_lem v type (unless sampled 27) [] (unless used 0) found e, ← u)
      (this form)
    where
      this : (f : Form) → by_form f (fault_by token (offends_in 0x7FFFFFF (set_of (unless sampled 27)) token) true true)
          (fault_by token (offends_in 0x7FFFFFFF 0 token) true true)
          (fault_by token (offends_in 0x7FF0FFE0 (set_of (unless used 0)) token) true true) ≡
          fault_by token (offends (by_form f (span 26 0) (span 30 0) (span 15 5 ++ span 30 20)) (by_form f (unless sampled 27) [] (unless used 0)) token) true true
      this Sampler = fault_sets (span 26 0) (unless sampled 27) token true true sampler_agrees (texture_agrees sampled)
      this Plain = fault_sets (span 30 0) [] token true true plain_agrees none_agrees
      this Usage = fault_sets (span 15 5 ++ span 30 20) (unless used 0) token true true usage_agrees (used_agrees used)
