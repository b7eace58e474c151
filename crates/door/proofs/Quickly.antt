-- What the quick tests tell: the token is good at its place and brings no relative one, the operands of a row fit, and the judge calls the instruction good.
use Rattle.std.specs.Prelude.{Some}
use Prim.Native.Nat.{ℕ, zero, suc, ◌+◌, ◌*◌, ◌/◌, ◌%◌, ◌^◌, ◌<◌, ◌≤◌}
use mathlib.Core.Path.{◌≡◌, refl, sym, ap, ◌∙◌}
use mathlib.Core.Bool.{Bool, true, false, not, ◌&&◌, ◌||◌}
use Rattle.std.specs.Prelude.{Option, IfSome}
use Rattle.std.specs.Bool.{then_some}
use mathlib.Core.List.{List, [], ◌∷◌}
use native.Mathlib.Omega.{arith}
use lib.Dec.{eqb}
use lib.ListN.{length, take, drop, get_or}
use lib.Seq.{length-take-le}
use borrow.Author.Tests.{eqb-true, eq-eqb, ne_eqb, leb-true, le-leb}
use Rattle.paper.specs.Notation.{bits, bit, pick, among}
use Rattle.paper.specs.Versions.{is_pixel}
use Rattle.paper.specs.OperandTokens.{type_of, modifier_of, plain_modifiers, token_at, brings_relative, is_free, types_or, free_destination_types, free_source_types}
use Rattle.paper.specs.Places.{Types, free, only, Place, raw, destination, source, free_destination, free_source}
use Rattle.paper.specs.Instruction.{operand, operands}
use Rattle.paper.specs.InstructionToken.{opcode_of, controls_of, is_predicated}
use Rattle.paper.specs.OpcodeTable.{DCL}
use Rattle.paper.specs.Blocks.{class_of}
use Rattle.paper.specs.Judgements.{Token, good_token, bad_token, good_operands, good_instruction}
use Rattle.paper.specs.declared.Version.{Version}
use Rattle.paper.proofs.Below.{below, below_at}
use Rattle.paper.proofs.Bools.{both_left, both_right, never}
use Rattle.paper.proofs.Faults.{is_good, token_good}
use Rattle.paper.proofs.VersionTokens.{each}
use Rattle.places.specs.Places.{decoded, place_by, types_by, places_in}
use Rattle.shapes.specs.Shape.{shape_of}
use Rattle.instruction_token.specs.ByShape.{has_zeros, bits_by, claim_by, claim_if, places_by}
use Rattle.instruction_token.proofs.ByShape.{zeros_claim, claim_there}
use Rattle.instruction.specs.Shown.{judged_in}
use Rattle.instruction.proofs.Judging.{judged_shaped, class_in_lem}
use Rattle.versions.specs.Sets.{holds}
use Rattle.told.specs.Numbered.{yes_number, judged_number}
use Rattle.exact.specs.Exact.{one_raw, four_raws, upper_in, size_in, kind_in, kind_by, kind_number, exact_class, first_place, places_of, Known, Exactly}
use Rattle.exact.specs.declared.Kind.{Kind}
use Rattle.exact.proofs.KindNumbers.{kind_back}
use Rattle.uniform.specs.Uniform.{sources}
use Rattle.door.proofs.Passing.{sources_length}
use Rattle.door.specs.Quick.{spot_of, wide_of, modifier_set, most_results, read_laid, written_laid, free_read, free_written, Stands, TellsRow}

implied : (a b : Bool) → not a || b ≡ true → a ≡ true → b ≡ true
implied true b t h = t
implied false b t h = never h

all_true : (a b : Bool) → a ≡ true → b ≡ true → a && b ≡ true
all_true true true p q = refl
all_true true false p q = never q
all_true false b p q = never p

or_left : (a b : Bool) → a ≡ true → a || b ≡ true
or_left true b h = refl
or_left false b h = never h

-- a modifier of the set
abbrev plain_rule : ℕ → Bool
plain_rule k = not (holds modifier_set k) || among (k % 16) plain_modifiers

plain_tested : below plain_rule 32 ≡ true
unfolding holds
plain_tested = refl

-- a set of spots tells bit 31 and the type
abbrev spot_rule : List ℕ → ℕ → Bool
spot_rule types k = not (holds (wide_of types) k) || (eqb (k / 8 % 2) 1 && among (k % 8 + 8 * (k / 16)) types)

module _ (token : ℕ) (word : token < 2 ^ 32) where
  pub spot_tells : (types : List ℕ) → below (spot_rule types) 64 ≡ true → holds (wide_of types) (spot_of token) ≡ true →
      (bit 31 token ≡ 1) × (among (type_of token) types ≡ true)
  spot_tells types tested h =
      let k = spot_of token in
      let rule = implied (holds (wide_of types) k) _ (below_at (spot_rule types) 64 k tested (omega arith)) h in
      let same : k % 8 + 8 * (k / 16) ≡ type_of token = omega arith in
      let eighth : token / 2 ^ 28 / 8 ≡ token / 2 ^ 31 = omega arith in
      let half : k / 8 ≡ token / 2 ^ 28 / 8 + 2 * (token / 2 ^ 11 % 4) = omega arith in
      let top : k / 8 % 2 ≡ bit 31 token = rw (half, eighth) (omega arith) in (
        sym top ∙ eqb-true (k / 8 % 2) 1 (both_left (eqb (k / 8 % 2) 1) _ rule),
        rw same at (both_right (eqb (k / 8 % 2) 1) _ rule),
      )

  -- a source of the commonest layout
  module _ (l : read_laid token ≡ true) where
    pub read_zeros : token / 2 ^ 13 % 8 ≡ 0
    unfolding read_laid
    read_zeros = eqb-true (token / 2 ^ 13 % 8) 0 (both_left (eqb (token / 2 ^ 13 % 8) 0) _ l)

    read_modifier : among (modifier_of token) plain_modifiers ≡ true
    unfolding read_laid
    read_modifier =
        let k = token / 2 ^ 24 % 32 in
        let same : k % 16 ≡ modifier_of token = omega arith in
        rw same at (implied (holds modifier_set k) _ (below_at plain_rule 32 k plain_tested (omega arith)) (both_right (eqb (token / 2 ^ 13 % 8) 0) _ l))

    pub source_good : (v : Version) (types : Types) → bit 31 token ≡ 1 → among (type_of token) (types_or types (free_source_types v)) ≡ true →
        (is_good (token_at v (source types) token) ≡ true) × (brings_relative (source types) token ≡ false)
    source_good v types one typed =
        let zeros = read_zeros in
        let reserved : bits 15 14 token ≡ 0 = omega arith in
        let unmarked : bit 13 token ≡ 0 = omega arith in (
          token_good v (source types) token
              ∙ rw (eq-eqb (bits 15 14 token) 0 reserved, eq-eqb (bit 31 token) 1 one, eq-eqb (bit 13 token) 0 unmarked, read_modifier, typed) refl,
          rw unmarked (none (is_free (source types))),
        )
      where
        none : (b : Bool) → b && false ≡ false
        none true = refl
        none false = refl

  -- a destination of the commonest layout
  module _ (v : Version) (l : written_laid v token ≡ true) where
    written_zeros_lem : (token / 2 ^ 13 % 8 ≡ 0) × (token / 2 ^ 23 % 2 ≡ 0)
    unfolding written_laid
    written_zeros_lem =
        let both = both_left (eqb (token / 2 ^ 13 % 8) 0 && eqb (token / 2 ^ 23 % 2) 0) _ l in (
          eqb-true (token / 2 ^ 13 % 8) 0 (both_left (eqb (token / 2 ^ 13 % 8) 0) _ both),
          eqb-true (token / 2 ^ 23 % 2) 0 (both_right (eqb (token / 2 ^ 13 % 8) 0) _ both),
        )

    written_most : token / 2 ^ 21 % 128 ≤ most_results v
    unfolding written_laid
    written_most = leb-true (token / 2 ^ 21 % 128) (most_results v) (both_right (eqb (token / 2 ^ 13 % 8) 0 && eqb (token / 2 ^ 23 % 2) 0) _ l)

    -- the bits 22:21 and 27:24 by the version's kind
    no_scale : token / 2 ^ 21 % 128 ≤ 3 → bits 27 24 token ≡ 0
    no_scale h =
        let eighth : token / 2 ^ 21 / 8 ≡ token / 2 ^ 24 = omega arith in
        let above : token / 2 ^ 21 / 8 % 16 ≡ token / 2 ^ 21 % 128 / 8 = omega arith in
        rw (← eighth, above) (omega arith)

    results_by : (pixel : Bool) → token / 2 ^ 21 % 128 ≤ pick pixel 3 0 → (eqb (bits 22 21 token) 0 || pixel ≡ true) × (bits 27 24 token ≡ 0)
    results_by true h = (or_right (eqb (bits 22 21 token) 0), no_scale h)
      where
        or_right : (b : Bool) → b || true ≡ true
        or_right true = refl
        or_right false = refl
    results_by false h =
        let none : bits 22 21 token ≡ 0 = omega arith in
        (rw none refl, no_scale (omega arith))

    pub destination_good : (types : Types) → bit 31 token ≡ 1 → among (type_of token) (types_or types (free_destination_types v)) ≡ true →
        (is_good (token_at v (destination types) token) ≡ true) × (brings_relative (destination types) token ≡ false)
    destination_good types one typed =
        let zeros = written_zeros_lem in
        let results = results_by (is_pixel v) written_most in
        let reserved : bits 15 14 token ≡ 0 = omega (arith, zeros.0) in
        let unmarked : bit 13 token ≡ 0 = omega (arith, zeros.0) in (
          token_good v (destination types) token
              ∙ rw (
                eq-eqb (bits 15 14 token) 0 reserved,
                eq-eqb (bit 31 token) 1 one,
                results.0,
                eq-eqb (bit 23 token) 0 zeros.1,
                eq-eqb (bits 27 24 token) 0 results.1,
                eq-eqb (bit 13 token) 0 unmarked,
                typed,
              )
              refl,
          rw unmarked (none (is_free (destination types))),
        )
      where
        none : (b : Bool) → b && false ≡ false
        none true = refl
        none false = refl

sources_tested : (v : Version) → below (spot_rule (free_source_types v)) 64 ≡ true
unfolding holds
sources_tested = each (λ v. below (spot_rule (free_source_types v)) 64) refl

destinations_tested : (v : Version) → below (spot_rule (free_destination_types v)) 64 ≡ true
unfolding holds
destinations_tested = each (λ v. below (spot_rule (free_destination_types v)) 64) refl

good_is : (t : Token) → is_good t ≡ true → t ≡ good_token
good_is good_token h = refl
good_is (bad_token reason bit) h = never h

stands : (v : Version) (place : Place) (token : ℕ) → (is_good (token_at v place token) ≡ true) × (brings_relative place token ≡ false) → Stands v place token
stands v place token h = record { good = good_is (token_at v place token) h.0; alone = h.1 }

module _ (v : Version) (token : ℕ) (word : token < 2 ^ 32) where
  pub free_read_lem : free_read v token ≡ true → Stands v free_source token
  unfolding free_read
  free_read_lem h =
      let told = spot_tells token word (free_source_types v) (sources_tested v) (both_right (read_laid token) _ h) in
      stands v free_source token (source_good token word (both_left (read_laid token) _ h) v free told.0 told.1)

  pub free_written_lem : free_written v token ≡ true → Stands v free_destination token
  unfolding free_written
  free_written_lem h =
      let told = spot_tells token word (free_destination_types v) (destinations_tested v) (both_right (written_laid v token) _ h) in
      stands v free_destination token (destination_good token word v (both_left (written_laid v token) _ h) free told.0 told.1)

  -- at a place of one type
  top_one : (a : Bool) → eqb (token / 2 ^ 31) 1 && a ≡ true → bit 31 token ≡ 1
  top_one a h = rw (eqb-true (token / 2 ^ 31) 1 (both_left (eqb (token / 2 ^ 31) 1) a h)) refl

  is_type : (place type base : ℕ) → place ≡ type + base → eqb (token / 2 ^ 31) 1 && eqb (type_of token + base) place ≡ true →
      eqb (type_of token) type || false ≡ true
  is_type place type base e h =
      let same : type_of token ≡ type = let is = eqb-true (type_of token + base) place (both_right (eqb (token / 2 ^ 31) 1) _ h) in omega arith in
      or_left (eqb (type_of token) type) false (eq-eqb (type_of token) type same)

  pub one_read : (place type : ℕ) → read_laid token ≡ true → place ≡ type + 64 → eqb (token / 2 ^ 31) 1 && eqb (type_of token + 64) place ≡ true →
      Stands v (source (only (type ∷ []))) token
  one_read place type l e h =
      stands v (source (only (type ∷ []))) token
      (source_good token word l v (only (type ∷ [])) (top_one (eqb (type_of token + 64) place) h) (is_type place type 64 e h))

  pub one_written : (place type : ℕ) → written_laid v token ≡ true → place ≡ type + 32 → eqb (token / 2 ^ 31) 1 && eqb (type_of token + 32) place ≡ true →
      Stands v (destination (only (type ∷ []))) token
  one_written place type l e h =
      stands v (destination (only (type ∷ []))) token
      (destination_good token word v l (only (type ∷ [])) (top_one (eqb (type_of token + 32) place) h) (is_type place type 32 e h))

-- operands one after the other, each of one token
module _ (v : Version) (place : Place) (offset token : ℕ) (rest : List ℕ) (places : List Place) where
  pub operands_step : Stands v place token → operands v (place ∷ places) offset (token ∷ rest) ≡ operands v places (offset + 1) rest
  unfolding operands operand
  operands_step s = rw (s.good, s.alone) refl

raw_stands : (v : Version) (token : ℕ) → Stands v raw token
unfolding token_at
raw_stands v token = record { good = refl; alone = refl }

pub operands_none : (v : Version) (offset : ℕ) → operands v [] offset [] ≡ good_operands
unfolding operands
operands_none v offset = refl

-- the operands of each kind, in the first of the tokens behind
module _ (v : Version) where
  abbrev D : Place
  D = free_destination

  abbrev S : Place
  S = free_source

  fit_one : (place : Place) (behind : List ℕ) → 5 ≤ length behind → Stands v place (get_or behind 0 0) → operands v (place ∷ []) 1 (take 1 behind) ≡ good_operands
  fit_one place [] h a = absurd (omega arith)
  fit_one place (x ∷ rest) h a = operands_step v place 1 x [] [] a ∙ operands_none v 2

  fit_two : (p q : Place) (behind : List ℕ) → 5 ≤ length behind → Stands v p (get_or behind 0 0) → Stands v q (get_or behind 1 0) →
      operands v (p ∷ q ∷ []) 1 (take 2 behind) ≡ good_operands
  fit_two p q [] h a b = absurd (omega arith)
  fit_two p q (x ∷ []) h a b = absurd (omega arith)
  fit_two p q (x ∷ y ∷ rest) h a b = operands_step v p 1 x (y ∷ []) (q ∷ []) a ∙ operands_step v q 2 y [] [] b ∙ operands_none v 3

  fit_three : (p q r : Place) (behind : List ℕ) → 5 ≤ length behind → Stands v p (get_or behind 0 0) → Stands v q (get_or behind 1 0) →
      Stands v r (get_or behind 2 0) → operands v (p ∷ q ∷ r ∷ []) 1 (take 3 behind) ≡ good_operands
  fit_three p q r [] h a b c = absurd (omega arith)
  fit_three p q r (x ∷ []) h a b c = absurd (omega arith)
  fit_three p q r (x ∷ y ∷ []) h a b c = absurd (omega arith)
  fit_three p q r (x ∷ y ∷ z ∷ rest) h a b c =
      operands_step v p 1 x (y ∷ z ∷ []) (q ∷ r ∷ []) a
      ∙ operands_step v q 2 y (z ∷ []) (r ∷ []) b
      ∙ operands_step v r 3 z [] [] c
      ∙ operands_none v 4

  -- a free destination and so many free sources behind it
  abbrev pub Reads : ℕ → List ℕ → Type 0
  Reads n behind = (k : ℕ) → k < length (take n (drop 1 behind)) → Stands v S (get_or (take n (drop 1 behind)) k 0)

  sources_fit : (tokens : List ℕ) (offset : ℕ) → ((k : ℕ) → k < length tokens → Stands v S (get_or tokens k 0)) →
      operands v (sources (length tokens) free) offset tokens ≡ good_operands
  sources_fit [] offset s = operands_none v offset
  sources_fit (t ∷ ts) offset s =
      operands_step v S offset t ts (sources (length ts) free) (s 0 (omega arith)) ∙ sources_fit ts (offset + 1) (λ k less. s (suc k) (omega arith))

  fit_free : (n : ℕ) (behind : List ℕ) → n < 5 → 5 ≤ length behind → Stands v D (get_or behind 0 0) → Reads n behind →
      operands v (D ∷ sources n free) 1 (take (suc n) behind) ≡ good_operands
  fit_free n [] less h d s = absurd (omega arith)
  fit_free n (x ∷ rest) less h d s =
      let count : length (take n rest) ≡ n = length-take-le n rest (omega arith) in
      operands_step v D 1 x (take n rest) (sources n free) d ∙ (rw count at (sources_fit (take n rest) 2 s))

  first_source : (behind : List ℕ) → 5 ≤ length behind → Reads 1 behind → Stands v S (get_or behind 1 0)
  first_source [] h s = absurd (omega arith)
  first_source (x ∷ []) h s = absurd (omega arith)
  first_source (x ∷ y ∷ rest) h s = s 0 (omega arith)

  fit_raws : (place : Place) (behind : List ℕ) → 5 ≤ length behind → Stands v place (get_or behind 0 0) →
      operands v (place ∷ raw ∷ raw ∷ raw ∷ raw ∷ []) 1 (take 5 behind) ≡ good_operands
  fit_raws place [] h a = absurd (omega arith)
  fit_raws place (x ∷ []) h a = absurd (omega arith)
  fit_raws place (x ∷ y ∷ []) h a = absurd (omega arith)
  fit_raws place (x ∷ y ∷ z ∷ []) h a = absurd (omega arith)
  fit_raws place (x ∷ y ∷ z ∷ w ∷ []) h a = absurd (omega arith)
  fit_raws place (x ∷ y ∷ z ∷ w ∷ u ∷ rest) h a =
      operands_step v place 1 x (y ∷ z ∷ w ∷ u ∷ []) (raw ∷ raw ∷ raw ∷ raw ∷ []) a
      ∙ operands_step v raw 2 y (z ∷ w ∷ u ∷ []) (raw ∷ raw ∷ raw ∷ []) (raw_stands v y)
      ∙ operands_step v raw 3 z (w ∷ u ∷ []) (raw ∷ raw ∷ []) (raw_stands v z)
      ∙ operands_step v raw 4 w (u ∷ []) (raw ∷ []) (raw_stands v w)
      ∙ operands_step v raw 5 u [] [] (raw_stands v u)
      ∙ operands_none v 6

  -- what is told of a row
  module _ (row : ℕ) (behind : List ℕ) (enough : 5 ≤ length behind) (k : Known row) where
    size_is : (n : ℕ) → n < 8 → length (decoded (places_of row)) ≡ n → size_in row ≡ n
    size_is n less e = let upper = k.upper ∙ ap (λ m. 2 ^ 8 * m) e in omega arith

    tells : (n told : ℕ) (places : List Place) → n < 6 → decoded (places_of row) ≡ places → length places ≡ n → told ≡ yes_number n (exact_class row) →
        operands v places 1 (take n behind) ≡ good_operands → TellsRow v row behind told
    tells n told places less e len is fits =
        let size = size_is n (omega arith) (ap length e ∙ len) in
        record { yes = rw size is; there = rw size (omega (arith, enough, less)); fit = rw (size, e) fits }

    plain_class : (kind_in row ≡ 1 → ⊥) → (kind_in row ≡ 6 → ⊥) → exact_class row ≡ 1
    plain_class a b = eqb-true (exact_class row) 1 (rw (ne_eqb (kind_in row) 1 a, ne_eqb (kind_in row) 6 b) at k.plain)

    -- the kind that is told, by its number
    pub kind_is : (kind : Kind) → kind ≡ kind_by (kind_in row) → kind_in row ≡ kind_number kind
    kind_is kind e = sym (kind_back (kind_in row)) ∙ ap kind_number (sym e)

    tells_free : (n told : ℕ) → n < 5 → decoded (places_of row) ≡ D ∷ sources n free → (kind_in row ≡ 1 → ⊥) → (kind_in row ≡ 6 → ⊥) →
        told ≡ yes_number (suc n) 1 → Stands v D (get_or behind 0 0) × Reads n behind → TellsRow v row behind told
    tells_free n told less e a b is s =
        tells (suc n) told (D ∷ sources n free) (omega arith) e (ap suc (sources_length n free)) (rw (plain_class a b) is)
        (fit_free n behind less enough s.0 s.1)

    -- kind by kind
    none_places : kind_in row ≡ 1 → decoded (places_of row) ≡ []
    unfolding decoded
    none_places e = rw e refl

    pub tells_none : (told : ℕ) → kind_in row ≡ 1 → told ≡ yes_number 0 (exact_class row) → TellsRow v row behind told
    tells_none told e is = tells 0 told [] (omega arith) (none_places e) refl is (operands_none v 1)

    ds_places : kind_in row ≡ 2 → decoded (places_of row) ≡ D ∷ S ∷ []
    unfolding decoded place_by
    ds_places e = rw e refl

    pub tells_ds : (told : ℕ) → kind_in row ≡ 2 → told ≡ yes_number 2 1 → Stands v D (get_or behind 0 0) × Reads 1 behind → TellsRow v row behind told
    tells_ds told e is s = tells_free 1 told (omega arith) (ds_places e) (λ o. omega arith) (λ o. omega arith) is s

    dss_places : kind_in row ≡ 3 → decoded (places_of row) ≡ D ∷ S ∷ S ∷ []
    unfolding decoded place_by
    dss_places e = rw e refl

    pub tells_dss : (told : ℕ) → kind_in row ≡ 3 → told ≡ yes_number 3 1 → Stands v D (get_or behind 0 0) × Reads 2 behind → TellsRow v row behind told
    tells_dss told e is s = tells_free 2 told (omega arith) (dss_places e) (λ o. omega arith) (λ o. omega arith) is s

    dsss_places : kind_in row ≡ 4 → decoded (places_of row) ≡ D ∷ S ∷ S ∷ S ∷ []
    unfolding decoded place_by
    dsss_places e = rw e refl

    pub tells_dsss : (told : ℕ) → kind_in row ≡ 4 → told ≡ yes_number 4 1 → Stands v D (get_or behind 0 0) × Reads 3 behind → TellsRow v row behind told
    tells_dsss told e is s = tells_free 3 told (omega arith) (dsss_places e) (λ o. omega arith) (λ o. omega arith) is s

    sampled_places : kind_in row ≡ 5 → decoded (places_of row) ≡ D ∷ S ∷ source (only (10 ∷ [])) ∷ []
    unfolding decoded place_by types_by
    sampled_places e = rw e refl

    pub tells_sampled : (told : ℕ) → kind_in row ≡ 5 → told ≡ yes_number 3 1 →
        (Stands v D (get_or behind 0 0) × Reads 1 behind) × Stands v (source (only (10 ∷ []))) (get_or behind 2 0) → TellsRow v row behind told
    tells_sampled told e is s =
        tells 3 told (D ∷ S ∷ source (only (10 ∷ [])) ∷ []) (omega arith) (sampled_places e) refl (rw (plain_class (λ o. omega arith) (λ o. omega arith)) is)
        (fit_three D S (source (only (10 ∷ []))) behind enough s.0.0 (first_source behind enough s.0.1) s.1)

    -- a source of one type, which is that of REP, of CALL and LABEL, or of BREAKP
    source_places : (place type : ℕ) → kind_in row ≡ 6 → first_place row ≡ place → decoded place ≡ source (only (type ∷ [])) ∷ [] →
        decoded (places_of row) ≡ source (only (type ∷ [])) ∷ []
    source_places place type e f d = rw (e, f) d

    rep_place : decoded 71 ≡ source (only (7 ∷ [])) ∷ []
    unfolding decoded place_by types_by
    rep_place = refl

    label_place : decoded 82 ≡ source (only (18 ∷ [])) ∷ []
    unfolding decoded place_by types_by
    label_place = refl

    predicate_place : decoded 83 ≡ source (only (19 ∷ [])) ∷ []
    unfolding decoded place_by types_by
    predicate_place = refl

    module _ (told : ℕ) (e : kind_in row ≡ 6) (is : told ≡ yes_number 1 (exact_class row))
        (s : (type : ℕ) → first_place row ≡ type + 64 → Stands v (source (only (type ∷ []))) (get_or behind 0 0))
      where
        source_tells : (place type : ℕ) → place ≡ type + 64 → decoded place ≡ source (only (type ∷ [])) ∷ [] → first_place row ≡ place → TellsRow v row behind told
        source_tells place type p d f =
            tells 1 told (source (only (type ∷ [])) ∷ []) (omega arith) (source_places place type e f d) refl is
            (fit_one (source (only (type ∷ []))) behind enough (s type (f ∙ p)))

        source_by : (a b : Bool) → eqb (first_place row) 71 ≡ a → eqb (first_place row) 82 ≡ b → a || (b || eqb (first_place row) 83) ≡ true →
            TellsRow v row behind told
        source_by true b x y h = source_tells 71 7 refl rep_place (eqb-true (first_place row) 71 x)
        source_by false true x y h = source_tells 82 18 refl label_place (eqb-true (first_place row) 82 y)
        source_by false false x y h = source_tells 83 19 refl predicate_place (eqb-true (first_place row) 83 h)

        pub tells_source : TellsRow v row behind told
        tells_source = source_by (eqb (first_place row) 71) (eqb (first_place row) 82) refl refl (k.one_source_lem e)

    -- a destination of one type, which is that of DEF, DEFI or DEFB, and one raw operand or four
    module _ (told : ℕ) (e : kind_in row ≡ 7) (is : told ≡ yes_number (size_in row) 1)
        (s : (type : ℕ) → first_place row ≡ type + 32 → Stands v (destination (only (type ∷ []))) (get_or behind 0 0))
      where
        module _ (place type : ℕ) (p : place ≡ type + 32) (f : first_place row ≡ place)
            (one : decoded (place + 128 * one_raw) ≡ destination (only (type ∷ [])) ∷ raw ∷ [])
            (four : decoded (place + 128 * four_raws) ≡ destination (only (type ∷ [])) ∷ raw ∷ raw ∷ raw ∷ raw ∷ [])
          where
            classed : told ≡ yes_number (size_in row) (exact_class row)
            classed = rw (plain_class (λ o. omega arith) (λ o. omega arith)) is

            constant_by : (short : Bool) → eqb (upper_in row) (2 ^ 8 * 2) ≡ short → TellsRow v row behind told
            constant_by true u =
                let places : decoded (places_of row) ≡ destination (only (type ∷ [])) ∷ raw ∷ [] = rw (e, f, u) one in
                let size = size_is 2 (omega arith) (ap length places) in
                tells 2 told (destination (only (type ∷ [])) ∷ raw ∷ []) (omega arith) places refl (rw size at classed)
                (fit_two (destination (only (type ∷ []))) raw behind enough (s type (f ∙ p)) (raw_stands v (get_or behind 1 0)))
            constant_by false u =
                let places : decoded (places_of row) ≡ destination (only (type ∷ [])) ∷ raw ∷ raw ∷ raw ∷ raw ∷ [] = rw (e, f, u) four in
                let size = size_is 5 (omega arith) (ap length places) in
                tells 5 told (destination (only (type ∷ [])) ∷ raw ∷ raw ∷ raw ∷ raw ∷ []) (omega arith) places refl (rw size at classed)
                (fit_raws (destination (only (type ∷ []))) behind enough (s type (f ∙ p)))

            constant_tells : TellsRow v row behind told
            constant_tells = constant_by (eqb (upper_in row) (2 ^ 8 * 2)) refl

        constant_at : (a b : Bool) → eqb (first_place row) 34 ≡ a → eqb (first_place row) 39 ≡ b → a || (b || eqb (first_place row) 46) ≡ true →
            TellsRow v row behind told
        unfolding decoded place_by types_by
        constant_at true b x y h = constant_tells 34 2 refl (eqb-true (first_place row) 34 x) refl refl
        constant_at false true x y h = constant_tells 39 7 refl (eqb-true (first_place row) 39 y) refl refl
        constant_at false false x y h = constant_tells 46 14 refl (eqb-true (first_place row) 46 h) refl refl

        pub tells_constant : TellsRow v row behind told
        tells_constant = constant_at (eqb (first_place row) 34) (eqb (first_place row) 39) refl refl (k.one_destination_lem e)

-- what is told only where a test holds
pub told_where : (good : Bool) (number : ℕ) (told : Option ℕ) (P : ℕ → Type 0) → told ≡ then_some good number → (good ≡ true → P number) → IfSome told P
told_where true number told P e h = rw e (h refl)
told_where false number told P e h = rw e tt

-- a number has few places
few_or_none : (f : ℕ) (place : Place) (places : List Place) → length places ≤ f → (b : Bool) → length (pick b [] (place ∷ places)) ≤ suc f
few_or_none f place places less true = omega arith
few_or_none f place places less false = omega arith

few_places : (fuel p : ℕ) → length (places_in fuel p) ≤ fuel
few_places zero p = omega arith
few_places (suc f) p = few_or_none f (place_by (p % 128)) (places_in f (p / 128)) (few_places f (p / 128)) (eqb p 0)

-- the judge calls an instruction good whose first token is that of a row, and whose operands fit
module _ (v : Version) (first row told : ℕ) (behind : List ℕ) (left : ℕ) (word : first < 2 ^ 32) (upper : upper_in row ≡ first / 2 ^ 16)
    (x : Exactly v (opcode_of first) row) (t : TellsRow v row behind told)
  where
    abbrev shape : ℕ
    shape = shape_of v (opcode_of first)

    half_is : first / 2 ^ 16 ≡ 2 ^ 8 * length (decoded (places_of row))
    half_is = sym upper ∙ x.known.upper

    size_said : size_in row ≡ first / 2 ^ 24
    size_said = let same = upper in let half : first / 2 ^ 16 / 2 ^ 8 ≡ first / 2 ^ 24 = omega arith in omega arith

    ten : length (decoded (places_of row)) ≤ 10
    unfolding decoded
    ten = few_places 10 (places_of row)

    high : first / 2 ^ 28 ≡ 0
    high =
        let half = half_is in
        let less = ten in
        let above : first / 2 ^ 16 / 2 ^ 12 ≡ first / 2 ^ 28 = omega arith in
        omega arith

    controls : controls_of first ≡ 0
    controls = let half = half_is in rw half (omega arith)

    zeros : has_zeros first ≡ true
    zeros = all_true (eqb (first / 2 ^ 28) 0) (eqb (controls_of first) 0) (eq-eqb (first / 2 ^ 28) 0 high) (eq-eqb (controls_of first) 0 controls)

    claims : claim_if shape first ≡ Some (size_in row)
    claims = rw size_said (zeros_claim shape first zeros x.rule)

    there : (bits_by shape first ≡ true) × (size_in row ≡ claim_by shape first)
    there = claim_there shape first (size_in row) claims

    unpredicated : is_predicated first ≡ false
    unpredicated = let top = high in let none : bit 28 first ≡ 0 = omega arith in rw none refl

    places_are : decoded (places_by shape first) ≡ decoded (places_of row)
    unfolding places_by
    places_are = rw (unpredicated, x.places) refl

    judged_is : judged_in v first behind left ≡ good_instruction (size_in row) (class_of (opcode_of first))
    judged_is =
        judged_shaped v first behind left x.there
        ∙ rw (there.0, ← there.1, places_are, le-leb (size_in row) (length behind) t.there, ne_eqb (opcode_of first) DCL x.other, t.fit) refl

    pub quick_law : told ≡ judged_number (judged_in v first behind left)
    quick_law =
        t.yes
        ∙ ap (yes_number (size_in row)) (sym x.class ∙ class_in_lem v first behind left x.there)
        ∙ sym (ap judged_number judged_is)
