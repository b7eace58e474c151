-- Exact rows are the paper's: below 97 by one computed test, from 97 on since the table names smaller opcodes only.
use Prim.Native.Nat.{ℕ, ◌%◌, ◌≤◌}
use mathlib.Core.Path.{◌≡◌, refl}
use mathlib.Core.Bool.{Bool, true, false, not, ◌&&◌, ◌||◌}
use native.Mathlib.Omega.{arith}
use lib.Dec.{eqb, ltb}
use borrow.Author.Tests.{eqb-true, eqb-false, eq-eqb, ltb-true}
use Rattle.std.specs.Prelude.{Some, None}
use Rattle.paper.specs.Notation.{pick}
use Rattle.paper.specs.Versions.{has_sizes}
use Rattle.paper.specs.OpcodeTable.{rows, DCL}
use Rattle.paper.specs.Blocks.{classes, class_of}
use Rattle.paper.specs.declared.Version.{Version}
use Rattle.paper.specs.Places.{absent, entry_of, typed_places}
use Rattle.paper.proofs.Arms.{NoneBelow, none_left}
use Rattle.paper.proofs.Bools.{both_left, both_right, never, apart}
use Rattle.paper.proofs.VersionTokens.{each}
use Rattle.places.specs.Places.{decoded}
use Rattle.shapes.specs.Shape.{shape_of, places_field, rule_in, class_in}
use Rattle.shapes.proofs.Table.{limit}
use Rattle.shapes.proofs.Computed.{Beyond, computed}
use Rattle.versions.specs.Rows.{rank}
use Rattle.opcodes.specs.Rows.{row_of}
use Rattle.opcodes.proofs.Table.{row_beyond}
use Rattle.exact.specs.Exact.{no_row, exact_row, row_in, upper_in, listed_in, kind_in, exact_class, first_place, upper_half, places_of, one_source, one_destination, Exactly}

exact_beyond : (opcode : ℕ) → limit ≤ opcode → exact_row opcode ≡ no_row
unfolding exact_row
exact_beyond opcode h = rw (row_beyond opcode h) refl

-- whether an opcode has such a row
abbrev pub given : ℕ → ℕ
given opcode = pick (eqb (exact_row opcode) no_row) 0 1

given_none : (opcode : ℕ) → exact_row opcode ≡ no_row → given opcode ≡ 0
given_none opcode e = rw e refl

none_given : (opcode : ℕ) → given opcode ≡ 0 → exact_row opcode ≡ no_row
none_given opcode z = by (eqb (exact_row opcode) no_row) refl z
  where
    by : (b : Bool) → eqb (exact_row opcode) no_row ≡ b → ◌≡◌ {A = ℕ} (pick b 0 1) 0 → exact_row opcode ≡ no_row
    by true e h = eqb-true (exact_row opcode) no_row e
    by false e h = absurd (omega arith)

pub no_row_lem : (opcode : ℕ) → NoneBelow given opcode limit → exact_row opcode ≡ no_row
no_row_lem opcode rest = none_given opcode (none_left given opcode limit (λ h. given_none opcode (exact_beyond opcode h)) rest)

-- what a row tells of the shape of its opcode in a version that it lists
module _ (v : Version) (opcode row : ℕ) where
  abbrev by_places_lem : Bool
  by_places_lem = eqb (places_field (shape_of v opcode)) (places_of row)

  abbrev by_rule : Bool
  by_rule = eqb (rule_in (shape_of v opcode) % 2) 0

  abbrev by_class_lem : Bool
  by_class_lem = eqb (class_in (shape_of v opcode)) (exact_class row)

  abbrev by_upper : Bool
  by_upper = eqb (upper_in row) (upper_half (places_of row))

  abbrev by_opcode_lem : Bool
  by_opcode_lem = not (eqb opcode DCL)

  abbrev by_shape : Bool
  by_shape = not (eqb (shape_of v opcode) 0)

  abbrev by_kind : Bool
  by_kind = not (eqb (kind_in row) 0)

  abbrev by_few : Bool
  by_few = ltb (kind_in row) 8

  abbrev by_source : Bool
  by_source = not (eqb (kind_in row) 6) || one_source (first_place row)

  abbrev by_destination : Bool
  by_destination = not (eqb (kind_in row) 7) || one_destination (first_place row)

  abbrev by_plain : Bool
  by_plain = eqb (kind_in row) 1 || (eqb (kind_in row) 6 || eqb (exact_class row) 1)

  abbrev of_row : Bool
  of_row = by_kind && (by_few && (by_plain && (by_source && by_destination)))

  abbrev of_shape : Bool
  of_shape = by_opcode_lem && (by_shape && of_row)

  abbrev told : Bool
  told = by_places_lem && (by_rule && (by_class_lem && (by_upper && of_shape)))

abbrev right : Version → ℕ → Bool
right v opcode = not (has_sizes v) || (eqb (listed_in (exact_row opcode) (rank v)) 0 || told v opcode (exact_row opcode))

or_more : (a b c : Bool) → a || b ≡ true → a || (b || c) ≡ true
or_more true b c h = refl
or_more false true c h = refl
or_more false false c h = never h

right_unlisted : (v : Version) (opcode : ℕ) → Beyond opcode → entry_of v opcode ≡ absent → right v opcode ≡ true
right_unlisted v opcode b e =
    rw (exact_beyond opcode b.0)
    (or_more (not (has_sizes v)) (eqb (listed_in no_row (rank v)) 0) (told v opcode no_row)
    (each (λ v. not (has_sizes v) || eqb (listed_in no_row (rank v)) 0) refl v))

agrees : (v : Version) (opcode : ℕ) → right v opcode ≡ true
unfolding rows entry_of typed_places class_of classes shape_of row_of exact_row decoded
agrees = computed right refl refl right_unlisted

module _ (v : Version) (opcode row : ℕ) (sized : has_sizes v ≡ true) (e : row ≡ exact_row opcode) (listed : listed_in row (rank v) ≡ 1) where
  test : told v opcode row ≡ true
  test = rw (sized, ← e, listed) at (agrees v opcode)

  implied : (a b : Bool) → not a || b ≡ true → a ≡ true → b ≡ true
  implied true b t h = t
  implied false b t h = never h

  unlike : (b : Bool) → not b ≡ true → b ≡ false
  unlike true h = never h
  unlike false h = refl

  pub exactly : Exactly v opcode row
  exactly =
      let after_places = both_right (by_places_lem v opcode row) _ test in
      let after_rule = both_right (by_rule v opcode row) _ after_places in
      let after_class = both_right (by_class_lem v opcode row) _ after_rule in
      let shaped : of_shape v opcode row ≡ true = both_right (by_upper v opcode row) _ after_class in
      let after_opcode = both_right (by_opcode_lem v opcode row) _ shaped in
      let rowed : of_row v opcode row ≡ true = both_right (by_shape v opcode row) _ after_opcode in
      let after_kind = both_right (by_kind v opcode row) _ rowed in
      let after_few = both_right (by_few v opcode row) _ after_kind in
      let ones = both_right (by_plain v opcode row) _ after_few in
      record {
        places = eqb-true (places_field (shape_of v opcode)) (places_of row) (both_left (by_places_lem v opcode row) _ test);
        rule = eqb-true (rule_in (shape_of v opcode) % 2) 0 (both_left (by_rule v opcode row) _ after_places);
        class = eqb-true (class_in (shape_of v opcode)) (exact_class row) (both_left (by_class_lem v opcode row) _ after_rule);
        other = eqb-false opcode DCL (unlike (eqb opcode DCL) (both_left (by_opcode_lem v opcode row) _ shaped));
        there = eqb-false (shape_of v opcode) 0 (unlike (eqb (shape_of v opcode) 0) (both_left (by_shape v opcode row) _ after_opcode));
        known =
            record {
              upper = eqb-true (upper_in row) (upper_half (places_of row)) (both_left (by_upper v opcode row) _ after_class);
              kind = eqb-false (kind_in row) 0 (unlike (eqb (kind_in row) 0) (both_left (by_kind v opcode row) _ rowed));
              few = ltb-true (kind_in row) 8 (both_left (by_few v opcode row) _ after_kind);
              plain = both_left (by_plain v opcode row) _ after_few;
              one_source_lem = λ k. implied (eqb (kind_in row) 6) (one_source (first_place row)) (both_left (by_source v opcode row) _ ones) (eq-eqb (kind_in row) 6 k);
              one_destination_lem = λ k. implied (eqb (kind_in row) 7) (one_destination (first_place row)) (both_right (by_source v opcode row) _ ones) (eq-eqb (kind_in row) 7 k);
            };
      }

-- the row that is told of an opcode in a version
pub told_row : (v : Version) (opcode row : ℕ) → has_sizes v ≡ true → Some row ≡ row_in v opcode → Exactly v opcode row
told_row v opcode row sized e = by (eqb (listed_in (exact_row opcode) (rank v)) 1) refl e
  where
    by : (b : Bool) → eqb (listed_in (exact_row opcode) (rank v)) 1 ≡ b → Some row ≡ pick b (Some (exact_row opcode)) None → Exactly v opcode row
    by true l h =
        let same : row ≡ exact_row opcode = cc in
        exactly v opcode row sized same (rw same (eqb-true (listed_in (exact_row opcode) (rank v)) 1 l))
    by false l h = apart (cc)
