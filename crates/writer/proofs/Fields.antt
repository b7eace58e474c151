-- An operand's fields are as reading gives them exactly where reading its tokens gives it back.
use mathlib.Core.Path.{◌≡◌, refl, sym, ◌∙◌}
use mathlib.Core.Bool.{Bool, true, false, ◌&&◌}
use mathlib.Core.List.{List, ◌++◌}
use Prim.Native.Nat.{ℕ, ◌^◌, ◌<◌}
use native.Mathlib.Omega.{arith}
use lib.Dec.{eqb, ltb}
use lib.ListN.{length}
use borrow.Author.Tests.{ltb-true, lt-ltb, eqb-true}
use Rattle.paper.specs.Notation.{pick, bit}
use Rattle.paper.specs.OperandTokens.{number_field, type_of, modifier_of, is_free, brings_relative}
use Rattle.paper.specs.Places.{Place, is_raw, is_destination}
use Rattle.paper.proofs.Bools.{both_left, both_right}
use Rattle.records.specs.declared.Operand.{Operand}
use Rattle.records.specs.Record.{mask_of, result_of, swizzle_of, shift_of, raw_operand, destination_operand, source_operand, operand_of, width_at, operand_at}
use Rattle.records.proofs.PlaceKinds.{free_unraw}
use Rattle.record_tokens.specs.Tokens.{token_of, middle_of, operand_token, relative_token_of, operand_tokens}
use Rattle.record_tokens.proofs.Digits.{token_word, number_taken, kind_taken, relative_taken, mask_taken, swizzle_taken, result_taken, modifier_taken}
use Rattle.writer.specs.Buffer.{word, words_of}
use Rattle.writer.specs.Laid.{raw_fits, destination_fits, source_fits, relative_fits, relative_none, fits}
use Rattle.writer.proofs.Paste.{small}
use Rattle.writer.proofs.Same.{operand_equal, operand_by, operand_own}

-- what reading gives fits
module _ (t : ℕ) where
  destination_given : (u : ℕ) → destination_fits (destination_operand t u) ≡ true
  destination_given u =
      rw (
        lt-ltb (number_field t) (2 ^ 11) (omega arith),
        lt-ltb (type_of t) 32 (omega arith),
        lt-ltb (bit 13 t) 2 (omega arith),
        lt-ltb (mask_of t) 16 (omega arith),
        lt-ltb (result_of t) 8 (omega arith),
        lt-ltb (shift_of t) 16 (omega arith),
      )

  source_given : (u : ℕ) → source_fits (source_operand t u) ≡ true
  source_given u =
      rw (
        lt-ltb (number_field t) (2 ^ 11) (omega arith),
        lt-ltb (type_of t) 32 (omega arith),
        lt-ltb (bit 13 t) 2 (omega arith),
        lt-ltb (swizzle_of t) (2 ^ 8) (omega arith),
        lt-ltb (modifier_of t) 16 (omega arith),
      )

  relative_given : (ltb (number_field t) (2 ^ 11) && (ltb (type_of t) 32 && ltb (swizzle_of t) (2 ^ 8))) ≡ true
  relative_given = rw (lt-ltb (number_field t) (2 ^ 11) (omega arith), lt-ltb (type_of t) 32 (omega arith), lt-ltb (swizzle_of t) (2 ^ 8) (omega arith))

raw_given : (t : ℕ) → t < 2 ^ 32 → raw_fits (raw_operand t) ≡ true
raw_given t h = rw (small t h) (operand_own (raw_operand t))

pub given_fits : (place : Place) (t u : ℕ) → t < 2 ^ 32 → fits place (operand_of place t (pick (brings_relative place t) u 0)) ≡ true
unfolding fits operand_of
given_fits place t u h = by (is_raw place) (is_destination place) (is_free place) (eqb (bit 13 t) 1) refl
  where
    by : (unread written free one : Bool) → eqb (bit 13 t) 1 ≡ one →
        let o = pick unread (raw_operand t) (pick written (destination_operand t (pick (free && one) u 0)) (source_operand t (pick (free && one) u 0))) in
        pick unread (raw_fits o) (pick written (destination_fits o) (source_fits o) && pick (free && eqb o.relative 1) (relative_fits o) (relative_none o)) ≡ true
    by true written free one e = raw_given t h
    by false true true true e = rw (destination_given t u, e) (relative_given u)
    by false true true false e = rw (destination_given t 0, e)
    by false true false one e = rw (destination_given t 0)
    by false false true true e = rw (source_given t u, e) (relative_given u)
    by false false true false e = rw (source_given t 0, e)
    by false false false one e = rw (source_given t 0)

-- the bounds that fields within their bits have
module _ (o : Operand) where
  record Register : Type 0 where
    number : o.number < 2 ^ 11
    kind : o.kind < 32
    relative : o.relative < 2

  record Destination : Type 0 where
    register : Register
    mask : o.mask < 16
    result : o.result < 8
    shift : o.shift < 16
    swizzle : o.swizzle ≡ 0
    modifier : o.modifier ≡ 0
    raw : o.raw ≡ 0

  record Source : Type 0 where
    register : Register
    swizzle : o.swizzle < 2 ^ 8
    modifier : o.modifier < 16
    mask : o.mask ≡ 0
    result : o.result ≡ 0
    shift : o.shift ≡ 0
    raw : o.raw ≡ 0

  destination_bounds : destination_fits o ≡ true → Destination
  destination_bounds f =
      let g = both_right (ltb o.number (2 ^ 11)) _ f in
      let h = both_right (ltb o.kind 32) _ g in
      let i = both_right (ltb o.relative 2) _ h in
      let j = both_right (ltb o.mask 16) _ i in
      let k = both_right (ltb o.result 8) _ j in
      let l = both_right (ltb o.shift 16) _ k in
      let m = both_right (eqb o.swizzle 0) _ l in
      record {
        register =
            record {
              number = ltb-true o.number (2 ^ 11) (both_left (ltb o.number (2 ^ 11)) _ f);
              kind = ltb-true o.kind 32 (both_left (ltb o.kind 32) _ g);
              relative = ltb-true o.relative 2 (both_left (ltb o.relative 2) _ h);
            };
        mask = ltb-true o.mask 16 (both_left (ltb o.mask 16) _ i);
        result = ltb-true o.result 8 (both_left (ltb o.result 8) _ j);
        shift = ltb-true o.shift 16 (both_left (ltb o.shift 16) _ k);
        swizzle = eqb-true o.swizzle 0 (both_left (eqb o.swizzle 0) _ l);
        modifier = eqb-true o.modifier 0 (both_left (eqb o.modifier 0) _ m);
        raw = eqb-true o.raw 0 (both_right (eqb o.modifier 0) _ m);
      }

  source_bounds : source_fits o ≡ true → Source
  source_bounds f =
      let g = both_right (ltb o.number (2 ^ 11)) _ f in
      let h = both_right (ltb o.kind 32) _ g in
      let i = both_right (ltb o.relative 2) _ h in
      let j = both_right (ltb o.swizzle (2 ^ 8)) _ i in
      let k = both_right (ltb o.modifier 16) _ j in
      let l = both_right (eqb o.mask 0) _ k in
      let m = both_right (eqb o.result 0) _ l in
      record {
        register =
            record {
              number = ltb-true o.number (2 ^ 11) (both_left (ltb o.number (2 ^ 11)) _ f);
              kind = ltb-true o.kind 32 (both_left (ltb o.kind 32) _ g);
              relative = ltb-true o.relative 2 (both_left (ltb o.relative 2) _ h);
            };
        swizzle = ltb-true o.swizzle (2 ^ 8) (both_left (ltb o.swizzle (2 ^ 8)) _ i);
        modifier = ltb-true o.modifier 16 (both_left (ltb o.modifier 16) _ j);
        mask = eqb-true o.mask 0 (both_left (eqb o.mask 0) _ k);
        result = eqb-true o.result 0 (both_left (eqb o.result 0) _ l);
        shift = eqb-true o.shift 0 (both_left (eqb o.shift 0) _ m);
        raw = eqb-true o.raw 0 (both_right (eqb o.shift 0) _ m);
      }

  -- the token's own word, and the fields taken from it
  abbrev token : ℕ
  token = token_of o.number o.kind o.relative (middle_of o)

  -- what the fields of the relative token are, if the operand has this one
  record Relative (u : ℕ) : Type 0 where
    number : number_field u ≡ o.relative_number
    kind : type_of u ≡ o.relative_kind
    swizzle : swizzle_of u ≡ o.relative_swizzle

  relative_back : relative_fits o ≡ true → Relative (word (token_of o.relative_number o.relative_kind 0 o.relative_swizzle))
  relative_back f =
      let g = both_right (ltb o.relative_number (2 ^ 11)) _ f in
      let number = ltb-true o.relative_number (2 ^ 11) (both_left (ltb o.relative_number (2 ^ 11)) _ f) in
      let kind = ltb-true o.relative_kind 32 (both_left (ltb o.relative_kind 32) _ g) in
      let swizzle = ltb-true o.relative_swizzle (2 ^ 8) (both_right (ltb o.relative_kind 32) _ g) in
      let small_middle : o.relative_swizzle < 2 ^ 12 = omega arith in
      let none : 0 < 2 = omega arith in
      rw (small _ (token_word o.relative_number o.relative_kind 0 o.relative_swizzle number kind none small_middle))
      (record {
        number = number_taken o.relative_number o.relative_kind 0 o.relative_swizzle number kind none small_middle;
        kind = kind_taken o.relative_number o.relative_kind 0 o.relative_swizzle number kind none small_middle;
        swizzle = swizzle_taken o.relative_number o.relative_kind 0 o.relative_swizzle number kind none small_middle ∙ omega arith;
      })

  relative_zero : relative_none o ≡ true → Relative 0
  relative_zero f =
      let g = both_right (eqb o.relative_number 0) _ f in
      record {
        number = sym (eqb-true o.relative_number 0 (both_left (eqb o.relative_number 0) _ f));
        kind = sym (eqb-true o.relative_kind 0 (both_left (eqb o.relative_kind 0) _ g));
        swizzle = sym (eqb-true o.relative_swizzle 0 (both_right (eqb o.relative_kind 0) _ g));
      }

  -- the operand is read back from its own word
  record Back (w : ℕ) (operand : Operand) : Type 0 where
    mark : bit 13 w ≡ o.relative
    same : operand ≡ o

  module _ (u : ℕ) (r : Relative u) where
    destination_back : Destination → Back (word token) (destination_operand (word token) u)
    destination_back d =
        let g = d.register in
        let few : middle_of o < 2 ^ 12 = omega (arith, d.mask, d.result, d.shift, d.swizzle, d.modifier) in
        rw (small token (token_word o.number o.kind o.relative (middle_of o) g.number g.kind g.relative few))
        (record {
          mark = relative_taken o.number o.kind o.relative (middle_of o) g.number g.kind g.relative few;
          same =
              operand_by (destination_operand token u) o
              (number_taken o.number o.kind o.relative (middle_of o) g.number g.kind g.relative few)
              (kind_taken o.number o.kind o.relative (middle_of o) g.number g.kind g.relative few)
              (mask_taken o.number o.kind o.relative (middle_of o) g.number g.kind g.relative few ∙ omega (arith, d.mask, d.swizzle))
              (sym d.swizzle)
              (sym d.modifier)
              (result_taken o.number o.kind o.relative (middle_of o) g.number g.kind g.relative few ∙ omega (arith, d.mask, d.swizzle, d.result))
              (modifier_taken o.number o.kind o.relative (middle_of o) g.number g.kind g.relative few
              ∙ omega (arith, d.mask, d.swizzle, d.result, d.modifier))
              (relative_taken o.number o.kind o.relative (middle_of o) g.number g.kind g.relative few)
              r.number
              r.kind
              r.swizzle
              (sym d.raw);
        })

    source_back : Source → Back (word token) (source_operand (word token) u)
    source_back d =
        let g = d.register in
        let few : middle_of o < 2 ^ 12 = omega (arith, d.mask, d.result, d.shift, d.swizzle, d.modifier) in
        rw (small token (token_word o.number o.kind o.relative (middle_of o) g.number g.kind g.relative few))
        (record {
          mark = relative_taken o.number o.kind o.relative (middle_of o) g.number g.kind g.relative few;
          same =
              operand_by (source_operand token u) o
              (number_taken o.number o.kind o.relative (middle_of o) g.number g.kind g.relative few)
              (kind_taken o.number o.kind o.relative (middle_of o) g.number g.kind g.relative few)
              (sym d.mask)
              (swizzle_taken o.number o.kind o.relative (middle_of o) g.number g.kind g.relative few
              ∙ omega (arith, d.mask, d.swizzle, d.result))
              (modifier_taken o.number o.kind o.relative (middle_of o) g.number g.kind g.relative few
              ∙ omega (arith, d.mask, d.swizzle, d.result, d.shift))
              (sym d.result)
              (sym d.shift)
              (relative_taken o.number o.kind o.relative (middle_of o) g.number g.kind g.relative few)
              r.number
              r.kind
              r.swizzle
              (sym d.raw);
        })

    either_back : (written : Bool) → pick written (destination_fits o) (source_fits o) ≡ true →
        Back (word token) (pick written (destination_operand (word token) u) (source_operand (word token) u))
    either_back true f = destination_back (destination_bounds f)
    either_back false f = source_back (source_bounds f)

-- the tokens of an operand that fits give it back, whatever stands behind them
module _ (place : Place) (o : Operand) (more : List ℕ) where
  pub record ReadBack : Type 0 where
    pub width : width_at place (words_of (operand_tokens place o) ++ more) ≡ length (operand_tokens place o)
    pub same : operand_at place (words_of (operand_tokens place o) ++ more) ≡ o

  raw_read : is_raw place ≡ true → raw_fits o ≡ true → ReadBack
  unfolding words_of operand_tokens width_at operand_at operand_of
  raw_read e f =
      let bound = free_unraw place e in
      record { width = rw (e, bound); same = rw e (operand_equal (raw_operand (word o.raw)) o f) }

  two_read : is_raw place ≡ false → is_free place ≡ true → eqb o.relative 1 ≡ true → pick (is_destination place) (destination_fits o) (source_fits o) ≡ true → relative_fits o ≡ true → ReadBack
  unfolding words_of operand_tokens width_at operand_at operand_of operand_token relative_token_of
  two_read e free one f g =
      let b = either_back o _ (relative_back o g) (is_destination place) f in
      let told : (is_free place && eqb o.relative 1) ≡ true = rw (free, one) in
      let brings : (is_free place && eqb (bit 13 (word (token o))) 1) ≡ true = rw b.mark told in
      record { width = rw (e, told, brings); same = rw (e, told, brings) b.same }

  one_read : is_raw place ≡ false → (is_free place && eqb o.relative 1) ≡ false → pick (is_destination place) (destination_fits o) (source_fits o) ≡ true → relative_none o ≡ true → ReadBack
  unfolding words_of operand_tokens width_at operand_at operand_of operand_token
  one_read e told f g =
      let b = either_back o 0 (relative_zero o g) (is_destination place) f in
      let brings : (is_free place && eqb (bit 13 (word (token o))) 1) ≡ false = rw b.mark told in
      record { width = rw (e, told, brings); same = rw (e, told, brings) b.same }

  pub fits_read : fits place o ≡ true → ReadBack
  unfolding fits
  fits_read f = by (is_raw place) (is_free place) (eqb o.relative 1) refl refl refl f
    where
      by : (unread free one : Bool) → is_raw place ≡ unread → is_free place ≡ free → eqb o.relative 1 ≡ one →
          pick unread (raw_fits o) (pick (is_destination place) (destination_fits o) (source_fits o) && pick (free && one) (relative_fits o) (relative_none o)) ≡ true → ReadBack
      by true free one e b c h = raw_read e h
      by false true true e b c h = two_read e b c (both_left (pick (is_destination place) (destination_fits o) (source_fits o)) _ h) (both_right (pick (is_destination place) (destination_fits o) (source_fits o)) _ h)
      by false true false e b c h =
          one_read e (rw (b, c)) (both_left (pick (is_destination place) (destination_fits o) (source_fits o)) _ h) (both_right (pick (is_destination place) (destination_fits o) (source_fits o)) _ h)
      by false false one e b c h =
          one_read e (rw b) (both_left (pick (is_destination place) (destination_fits o) (source_fits o)) _ h) (both_right (pick (is_destination place) (destination_fits o) (source_fits o)) _ h)
