-- The bits and the places of a first token, by the shape of its opcode.
use Rattle.std.specs.Prelude.{Some, None}
use mathlib.Core.Path.{◌≡◌, refl}
use mathlib.Core.Bool.{Bool, true, false, ◌&&◌, ◌||◌}
use mathlib.Core.List.{List, [], ◌∷◌}
use Prim.Native.Nat.{ℕ, ◌/◌, ◌%◌, ◌^◌, ◌<◌}
use native.Mathlib.Nat.{mod-lt}
use native.Mathlib.Omega.{arith}
use lib.Dec.{eqb, leb, lit<}
use lib.ListN.{length}
use borrow.Author.Tests.{ne_eqb, eqb-true, eqb-false}
use Rattle.paper.specs.Notation.{pick, among, bits, bit}
use Rattle.paper.specs.OpcodeTable.{IFC, BREAKC, SETP, TEX}
use Rattle.paper.specs.InstructionToken.{opcode_of, controls_of, stated_size, is_predicated, may_be_predicated, with_predicate, controls_laid, sized_bits_laid, unsized_bits_laid, bits_laid}
use Rattle.paper.specs.Versions.{has_sizes}
use Rattle.paper.specs.Instruction.{claimed}
use Rattle.paper.specs.Places.{listed, entry_of, Place}
use Rattle.paper.specs.declared.Version.{Version}
use Rattle.paper.proofs.Bools.{both_left, both_right}
use Rattle.places.specs.Places.{decoded}
use Rattle.places.proofs.Decoding.{without_predicate}
use Rattle.shapes.specs.Shape.{sizeless, shape_of, rule_in, unstated_in}
use Rattle.shapes.proofs.Shapes.{shape_places, shape_predicable, shape_rule, shape_coissue, shape_claim, decoded_digits, decoded_predicated}
use Rattle.instruction_token.specs.ByShape.{has_zeros, controls_by, unsized_by, bits_by, claim_by, claim_if, places_by}

-- the rule of a shape picks the same
rule_by : (sized compared textured unsized reserved predicable : Bool) (controls : ℕ) →
    let rule = pick sized (pick compared 1 (pick textured 2 0)) sizeless in
    pick (eqb rule sizeless) unsized (reserved && (controls_by rule controls && predicable)) ≡
    pick sized (reserved && (pick compared (leb 1 controls && leb controls 6) (pick textured (leb controls 2) (eqb controls 0)) && predicable)) unsized
rule_by true true textured unsized reserved predicable controls = refl
rule_by true false true unsized reserved predicable controls = refl
rule_by true false false unsized reserved predicable controls = refl
rule_by false compared textured unsized reserved predicable controls = refl

-- where no size is stated bit 28 is zero
unsized_zero : (v : Version) (token : ℕ) → unsized_bits_laid v token ≡ true → bit 28 token ≡ 0
unsized_zero v token laid =
    let zeros : bits 29 16 token ≡ 0 = eqb-true (bits 29 16 token) 0 (both_left (eqb (bits 29 16 token) 0) _ laid) in
    omega arith

-- a first token that is laid out and predicated is one of an instruction that may be
pub may_be : (v : Version) (token : ℕ) (places : List Place) → bits_laid v token places ≡ true → is_predicated token ≡ true →
    may_be_predicated v (opcode_of token) places ≡ true
may_be v token places laid p = by (has_sizes v) laid
  where
    one : bit 28 token ≡ 1
    one = eqb-true (bit 28 token) 1 p

    by : (sized : Bool) → pick sized (sized_bits_laid v token places) (unsized_bits_laid v token) ≡ true → may_be_predicated v (opcode_of token) places ≡ true
    by true l = rw one at (both_right (controls_laid (opcode_of token) (controls_of token)) _ (both_right (eqb (bits 31 29 token) 0) _ l))
    by false l = absurd (omega (arith, one, unsized_zero v token l))

module _ (v : Version) (token : ℕ) (places : List Place) (e : entry_of v (opcode_of token) ≡ listed places) where
  pub bits_by_lem : bits_by (shape_of v (opcode_of token)) token ≡ bits_laid v token places
  unfolding bits_by
  bits_by_lem =
      rw (shape_rule v (opcode_of token) places e, shape_predicable v (opcode_of token) places e, shape_coissue v (opcode_of token) places e)
      (rule_by (has_sizes v) (among (opcode_of token) (IFC ∷ BREAKC ∷ SETP ∷ [])) (eqb (opcode_of token) TEX) (unsized_bits_laid v token)
      (eqb (bits 31 29 token) 0) (eqb (bit 28 token) 0 || may_be_predicated v (opcode_of token) places) (controls_of token))

  -- what is claimed is what the paper says
  pub claim_by_lem : claim_by (shape_of v (opcode_of token)) token ≡ claimed v token places
  claim_by_lem =
      rw (shape_rule v (opcode_of token) places e, shape_claim v (opcode_of token) places e)
      (by (has_sizes v) (among (opcode_of token) (IFC ∷ BREAKC ∷ SETP ∷ [])) (eqb (opcode_of token) TEX))
    where
      by : (sized compared textured : Bool) →
          pick (eqb (pick sized (pick compared 1 (pick textured 2 0)) sizeless) sizeless) (pick sized 0 (length places)) (stated_size token) ≡
          pick sized (stated_size token) (length places)
      by true true textured = refl
      by true false true = refl
      by true false false = refl
      by false compared textured = refl

  -- the places are read back from their number
  pub places_back : bits_laid v token places ≡ true → decoded (places_by (shape_of v (opcode_of token)) token) ≡ with_predicate (is_predicated token) places
  unfolding places_by
  places_back laid = by (is_predicated token) refl
    where
      by : (predicated : Bool) → is_predicated token ≡ predicated →
          decoded (places_by (shape_of v (opcode_of token)) token) ≡ with_predicate (is_predicated token) places
      by false p = rw (p, shape_places v (opcode_of token) places e, without_predicate places) (decoded_digits v (opcode_of token) places e)
      by true p = rw (p, shape_places v (opcode_of token) places e) (decoded_predicated v (opcode_of token) places e (may_be v token places laid p))

-- where bits 31:28 and the controls are zero, no even rule is broken
even_zeros : (rule : ℕ) → rule < 4 → rule % 2 ≡ 0 → (eqb rule sizeless ≡ false) × (controls_by rule 0 ≡ true)
even_zeros rule few even = (ne_eqb rule sizeless (λ e. omega arith), by (eqb rule 0) refl)
  where
    second : (rule ≡ 0 → ⊥) → rule ≡ 2
    second some = omega arith

    by : (none : Bool) → eqb rule 0 ≡ none → controls_by rule 0 ≡ true
    by true n = rw (eqb-true rule 0 n) refl
    by false n = rw (second (eqb-false rule 0 n)) refl

pub zeros_claim : (shape token : ℕ) → has_zeros token ≡ true → rule_in shape % 2 ≡ 0 → claim_if shape token ≡ Some (token / 2 ^ 24)
unfolding bits_by claim_if
zeros_claim shape token t even =
    let high : token / 2 ^ 28 ≡ 0 = eqb-true (token / 2 ^ 28) 0 (both_left (eqb (token / 2 ^ 28) 0) _ t) in
    let controls : controls_of token ≡ 0 = eqb-true (controls_of token) 0 (both_right (eqb (token / 2 ^ 28) 0) _ t) in
    let reserved : bits 31 29 token ≡ 0 = omega arith in
    let unpredicated : bit 28 token ≡ 0 = omega arith in
    let zeros = even_zeros (rule_in shape) (mod-lt _ (lit< tt)) even in
    let size : stated_size token ≡ token / 2 ^ 24 = omega (arith, high) in
    rw (zeros.0, reserved, controls, unpredicated, zeros.1, size)

-- where bits 31:16 are zero nothing is wrong if no size is stated
pub bare_laid : (coissued : Bool) (token : ℕ) → token / 2 ^ 16 ≡ 0 → unsized_by coissued token ≡ true
bare_laid coissued token z =
    let fields : bits 29 16 token ≡ 0 = omega arith in
    let last : bit 31 token ≡ 0 = omega arith in
    let coissue : bit 30 token ≡ 0 = omega arith in
    rw (fields, last, coissue)

-- a claim tells that the bits are laid out
module _ (shape token : ℕ) where
  pub claim_there : (claim : ℕ) → claim_if shape token ≡ Some claim → (bits_by shape token ≡ true) × (claim ≡ claim_by shape token)
  unfolding claim_if
  claim_there claim is = by (bits_by shape token) is
    where
      by : (laid : Bool) → pick laid (Some (claim_by shape token)) None ≡ Some claim → (laid ≡ true) × (claim ≡ claim_by shape token)
      by true h = (refl, cc)
      by false h = (cc, cc)

  pub claim_none : claim_if shape token ≡ None → bits_by shape token ≡ false
  unfolding claim_if
  claim_none none = by (bits_by shape token) none
    where
      by : (laid : Bool) → pick laid (Some (claim_by shape token)) None ≡ None → laid ≡ false
      by true h = cc
      by false h = refl

  -- and is below 16
  pub claim_few : claim_by shape token < 16
  claim_few = by (eqb (rule_in shape) sizeless)
    where
      by : (none : Bool) → pick none (unstated_in shape) (stated_size token) < 16
      by true = omega arith
      by false = omega arith
