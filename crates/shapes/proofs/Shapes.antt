-- What a shape says, for those who look one up: whether the table lists the opcode, each field, and the places read back from their number.
use Prim.Native.Nat.{ℕ, ◌+◌, ◌*◌, ◌/◌, ◌%◌, ◌^◌, ◌≤◌, ◌<◌}
use mathlib.Core.Path.{◌≡◌, refl}
use mathlib.Core.Bool.{Bool, true, false, not, ◌&&◌}
use mathlib.Core.List.{List, [], ◌∷◌}
use native.Mathlib.Omega.{arith}
use lib.Dec.{eqb, leb, ltb, lit<}
use lib.ListN.{length}
use borrow.Author.Tests.{leb-true, ltb-true}
use Rattle.paper.specs.Notation.{pick, among}
use Rattle.paper.specs.OpcodeTable.{rows, IFC, BREAKC, SETP, TEX}
use Rattle.paper.specs.FirstVersions.{first_rows}
use Rattle.paper.specs.Versions.{has_sizes, has_coissue, has_predicates}
use Rattle.paper.specs.InstructionToken.{has_destination, may_be_predicated, with_predicate}
use Rattle.paper.specs.Blocks.{class_of}
use Rattle.paper.specs.declared.Version.{Version}
use Rattle.paper.specs.declared.Single.TheVariants.{Comment, Plain, Break, Label, Return, Phase}
use Rattle.paper.specs.declared.Opener.TheVariants.{If, Loop, Rep}
use Rattle.paper.specs.declared.Closer.TheVariants.{Else, EndIf, EndLoop, EndRep, End}
use Rattle.paper.specs.declared.Class.{Class}
use Rattle.paper.specs.declared.Class.TheVariants.{One, Opens, Closes}
use Rattle.shapes.specs.Classes.{class_number}
use Rattle.shapes.specs.Shape.{sizeless, controls_rule, unstated, marked, shape_in, shape_of, places_field, predicable_in, rule_in, coissue_in, unstated_in, class_in}
use Rattle.places.specs.Places.{types_by, digits, predicated_row, decoded}
use Rattle.paper.proofs.Bools.{never, both_left, both_right}
use Rattle.paper.specs.Places.{Entry, absent, listed, entry_of, Place, is_predicate, typed_places}
use Rattle.shapes.proofs.Computed.{computed}
use Rattle.places.proofs.Decoding.{are_places, decoded_places, predicated_back}

-- none of the places is the predicate's
abbrev pub unpredicated : List Place → Bool
unpredicated [] = true
unpredicated (place ∷ places) = not (is_predicate place) && unpredicated places

-- what the table is tested for: at most five operands, each at a place but the predicate's, whose number takes 35 bits
abbrev fits : List Place → Bool
fits places = leb (length places) 5 && (ltb (digits places) (2 ^ 35) && (are_places places && unpredicated places))

abbrev entry_fits : Entry → Bool
entry_fits absent = true
entry_fits (listed places) = fits places

entry_fits_lem : (v : Version) (opcode : ℕ) → entry_fits (entry_of v opcode) ≡ true
unfolding rows first_rows entry_of typed_places types_by
entry_fits_lem = computed (λ v opcode. entry_fits (entry_of v opcode)) refl refl (λ v opcode b e. rw e refl)

rule_small : (v : Version) (opcode : ℕ) → controls_rule v opcode < 4
rule_small v opcode = by (has_sizes v) (among opcode (IFC ∷ BREAKC ∷ SETP ∷ [])) (eqb opcode TEX)
  where
    by : (sized a b : Bool) → pick sized (pick a 1 (pick b 2 0)) sizeless < 4
    by true true b = omega arith
    by true false true = omega arith
    by true false false = omega arith
    by false a b = omega arith

mark_small : (b : Bool) → marked b < 2
mark_small true = omega arith
mark_small false = omega arith

mark_back : (b : Bool) → eqb (marked b) 1 ≡ b
mark_back true = refl
mark_back false = refl

pub class_few : (c : Class) → class_number c < 16
class_few (One Comment) = lit< tt
class_few (One Plain) = lit< tt
class_few (One Break) = lit< tt
class_few (One Label) = lit< tt
class_few (One Return) = lit< tt
class_few (One Phase) = lit< tt
class_few (Opens If) = lit< tt
class_few (Opens Loop) = lit< tt
class_few (Opens Rep) = lit< tt
class_few (Closes Else) = lit< tt
class_few (Closes EndIf) = lit< tt
class_few (Closes EndLoop) = lit< tt
class_few (Closes EndRep) = lit< tt
class_few (Closes End) = lit< tt

-- the fields of a shape, over plain numbers
abbrev packed : ℕ → ℕ → ℕ → ℕ → ℕ → ℕ → ℕ
packed places mark rule coissue claim class =
    places + (2 ^ 35 * mark + (2 ^ 36 * rule + (2 ^ 38 + (2 ^ 39 * coissue + (2 ^ 40 * claim + 2 ^ 43 * class)))))

module _ (places mark rule coissue claim class : ℕ)
    (hp : places < 2 ^ 35) (hm : mark < 2) (hr : rule < 4) (hi : coissue < 2) (hc : claim < 8) where
  packed_places : places_field (packed places mark rule coissue claim class) ≡ places
  packed_places = omega arith

  packed_mark : packed places mark rule coissue claim class / 2 ^ 35 % 2 ≡ mark
  packed_mark = omega arith

  packed_rule : rule_in (packed places mark rule coissue claim class) ≡ rule
  packed_rule = omega arith

  packed_coissue : packed places mark rule coissue claim class / 2 ^ 39 % 2 ≡ coissue
  packed_coissue = omega arith

  packed_claim : unstated_in (packed places mark rule coissue claim class) ≡ claim
  packed_claim = omega arith

  packed_class : class_in (packed places mark rule coissue claim class) ≡ class
  packed_class = omega arith

-- the opcode has a shape exactly where the table lists it
pub shape_absent : (v : Version) (opcode : ℕ) → entry_of v opcode ≡ absent → shape_of v opcode ≡ 0
unfolding shape_of
shape_absent v opcode e = rw e refl

shape_zero_in : (v : Version) (opcode : ℕ) (entry : Entry) → shape_in v opcode entry ≡ 0 → entry ≡ absent
shape_zero_in v opcode absent h = refl
shape_zero_in v opcode (listed places) h = absurd (omega arith)

pub shape_zero : (v : Version) (opcode : ℕ) → shape_of v opcode ≡ 0 → entry_of v opcode ≡ absent
unfolding shape_of
shape_zero v opcode h = shape_zero_in v opcode (entry_of v opcode) h

module _ (v : Version) (opcode : ℕ) (places : List Place) (e : entry_of v opcode ≡ listed places) where
  pub shape_listed : shape_of v opcode ≡ shape_in v opcode (listed places)
  unfolding shape_of
  shape_listed = rw e refl

  listed_fits : fits places ≡ true
  listed_fits = rw e at (entry_fits_lem v opcode)

  pub few : length places ≤ 5
  few = leb-true (length places) 5 (both_left (leb (length places) 5) _ listed_fits)

  places_fit : ltb (digits places) (2 ^ 35) && (are_places places && unpredicated places) ≡ true
  places_fit = both_right (leb (length places) 5) _ listed_fits

  pub digits_small : digits places < 2 ^ 35
  digits_small = ltb-true _ _ (both_left (ltb (digits places) (2 ^ 35)) _ places_fit)

  pub are_places_lem : are_places places ≡ true
  are_places_lem = both_left (are_places places) _ (both_right (ltb (digits places) (2 ^ 35)) _ places_fit)

  pub row_unpredicated : unpredicated places ≡ true
  row_unpredicated = both_right (are_places places) _ (both_right (ltb (digits places) (2 ^ 35)) _ places_fit)

  claim_few : unstated v places < 8
  claim_few = by (has_sizes v)
    where
      by : (sized : Bool) → pick sized 0 (length places) < 8
      by true = omega arith
      by false = omega (arith, few)

  -- a field by its law, which wants all of them small
  abbrev Field : (ℕ → Type 0) → Type 0
  Field law =
      digits places < 2 ^ 35 → marked (may_be_predicated v opcode places) < 2 → controls_rule v opcode < 4 → marked (has_coissue v) < 2 →
      unstated v places < 8 → law (shape_in v opcode (listed places))

  field : (law : ℕ → Type 0) → Field law → law (shape_of v opcode)
  field law read =
      rw shape_listed
      (read digits_small (mark_small (may_be_predicated v opcode places)) (rule_small v opcode) (mark_small (has_coissue v)) claim_few)

  pub shape_places : places_field (shape_of v opcode) ≡ digits places
  shape_places = field (λ shape. places_field shape ≡ digits places) (packed_places _ _ _ _ _ _)

  pub shape_predicable : predicable_in (shape_of v opcode) ≡ may_be_predicated v opcode places
  shape_predicable =
      rw (field (λ shape. shape / 2 ^ 35 % 2 ≡ marked (may_be_predicated v opcode places)) (packed_mark _ _ _ _ _ _))
      (mark_back (may_be_predicated v opcode places))

  pub shape_rule : rule_in (shape_of v opcode) ≡ controls_rule v opcode
  shape_rule = field (λ shape. rule_in shape ≡ controls_rule v opcode) (packed_rule _ _ _ _ _ _)

  pub shape_coissue : coissue_in (shape_of v opcode) ≡ has_coissue v
  shape_coissue = rw (field (λ shape. shape / 2 ^ 39 % 2 ≡ marked (has_coissue v)) (packed_coissue _ _ _ _ _ _)) (mark_back (has_coissue v))

  pub shape_claim : unstated_in (shape_of v opcode) ≡ unstated v places
  shape_claim = field (λ shape. unstated_in shape ≡ unstated v places) (packed_claim _ _ _ _ _ _)

  pub shape_class : class_in (shape_of v opcode) ≡ class_number (class_of opcode)
  shape_class = field (λ shape. class_in shape ≡ class_number (class_of opcode)) (packed_class _ _ _ _ _ _)

  pub decoded_digits : decoded (digits places) ≡ places
  decoded_digits = decoded_places places are_places_lem (omega (arith, few))

  pub decoded_predicated : may_be_predicated v opcode places ≡ true → decoded (predicated_row (digits places)) ≡ with_predicate true places
  decoded_predicated m = by places (both_left (has_destination places) _ (both_right (has_predicates v) _ m)) are_places_lem few
    where
      by : (row : List Place) → has_destination row ≡ true → are_places row ≡ true → length row ≤ 5 →
          decoded (predicated_row (digits row)) ≡ with_predicate true row
      by [] has are short = never has
      by (place ∷ row) has are short = predicated_back place row are (omega arith)
