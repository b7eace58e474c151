use mathlib.Core.Path.{◌≡◌, sym}
use mathlib.Core.Bool.{Bool}
use mathlib.Core.List.{List, [], ◌∷◌, ◌++◌}
use Prim.Native.Nat.{ℕ, suc, ◌+◌, ◌/◌, ◌%◌, ◌^◌, ◌<◌, ◌≤◌}
use native.Mathlib.Omega.{arith}
use lib.ListN.{length, drop}
use Rattle.std.proofs.Common.{append_assoc}
use Rattle.paper.specs.InstructionToken.{with_predicate}
use Rattle.paper.specs.Notation.{pick}
use Rattle.paper.specs.Places.{predicate}
use Rattle.places.specs.Places.{place_by, decoded}
use Rattle.records.specs.declared.Operand.{Operand}
use Rattle.records.specs.Record.{width_at, operand_at, in_order, padded, array_of, no_operand}
use Rattle.records.specs.ByClass.{ReadableRow}
use Rattle.records.proofs.Filled.{Left, none_left, first_there, next_left, first_read, no_row_lem, opening_there, predicate_there, rest_left, row_read}
use Rattle.records.proofs.Unused.{all_zero}
use Rattle.records.proofs.read_operands.Goals as goal

-- what is known where some operands are read: the row that is left from a place of the tokens on, and the array so far
record Taken (row : ℕ) (predicated : Bool) (behind : List ℕ) (operands : List Operand) (room : ℕ) (p : Operand) (left at : ℕ) : Type 0 where
  rest : Left left at behind
  array : array_of (with_predicate predicated (decoded row)) behind ≡ operands ++ (padded room (in_order (decoded left) (drop at behind)) ++ (p ∷ []))

-- the first operand and the predicate's
begun : (row : ℕ) (predicated : Bool) (behind : List ℕ) (a p : Operand) (next at : ℕ) →
    row < 2 ^ 64 → ReadableRow predicated (decoded row) behind → (row ≡ 0 → ⊥) →
    (a ≡ operand_at (place_by (row % 128)) behind) × (next ≡ 0 + width_at (place_by (row % 128)) behind) →
    (p ≡ pick predicated (operand_at predicate (drop next behind)) no_operand) × (at ≡ next + pick predicated 1 0) →
    Taken row predicated behind (a ∷ []) 4 p (row / 128) at
begun row predicated behind a p next at fits r some first second =
    let on : next ≡ width_at (place_by (row % 128)) behind = omega (arith, first.1) in
    record {
      rest = rw (second.1, on) (rest_left row predicated behind fits r some);
      array = rw (second.1, second.0, on, first.0) (row_read row predicated behind fits r some);
    }

module _ {row : ℕ} {predicated : Bool} {behind : List ℕ} {operands : List Operand} {room : ℕ} {p : Operand} {left at : ℕ} where
  -- one operand more
  onward : Taken row predicated behind operands (suc room) p left at → (left ≡ 0 → ⊥) → (operand : Operand) (next : ℕ) →
      (operand ≡ operand_at (place_by (left % 128)) (drop at behind)) × (next ≡ at + width_at (place_by (left % 128)) (drop at behind)) →
      Taken row predicated behind (operands ++ (operand ∷ [])) room p (left / 128) next
  onward t some operand next e =
      record {
        rest = next_left left at behind t.rest some next e.1;
        array = rw (append_assoc, e.0) (rw (first_read left at behind t.rest some next e.1) at t.array);
      }

  -- no more
  done : Taken row predicated behind operands room p left at → left ≡ 0 →
      array_of (with_predicate predicated (decoded row)) behind ≡ operands ++ (padded room [] ++ (p ∷ []))
  done t h = rw (none_left left at behind h) at t.array

  there : Taken row predicated behind operands room p left at → (left ≡ 0 → ⊥) → at + width_at (place_by (left % 128)) (drop at behind) ≤ length behind
  there t some = first_there left at behind t.rest some

pub returns-then-row-eq0 : goal.returns-then-row-eq0
returns-then-row-eq0 c =
    let g = c.args in
    rw (no_row_lem g.row g.predicated g.behind.now (omega arith) c.requires c.if-row-eq0.true, all_zero c.default-none.result c.default-none.ensures)

pub read_operand-first-requires : goal.read_operand-first-requires
read_operand-first-requires c =
    let g = c.args in
    omega (arith, opening_there g.row g.predicated g.behind.now (omega arith) c.requires c.if-row-eq0.false)

pub read_predicate-predicate-requires : goal.read_predicate-predicate-requires
read_predicate-predicate-requires c =
    let g = c.args in
    omega (arith, predicate_there g.row g.predicated g.behind.now (omega arith) c.requires c.if-row-eq0.false, c.read_operand-first.ensures.1)

pub returns-then-left-eq0 : goal.returns-then-left-eq0
returns-then-left-eq0 c =
    let g = c.args in
    let s1 = begun g.row g.predicated g.behind.now _ _ _ _ (omega arith) c.requires c.if-row-eq0.false c.read_operand-first.ensures c.read_predicate-predicate.ensures in
    rw (done s1 c.if-left-eq0.true, all_zero c.default-none.result c.default-none.ensures)

pub read_operand-second-requires : goal.read_operand-second-requires
read_operand-second-requires c =
    let g = c.args in
    let s1 = begun g.row g.predicated g.behind.now _ _ _ _ (omega arith) c.requires c.if-row-eq0.false c.read_operand-first.ensures c.read_predicate-predicate.ensures in
    there s1 c.if-left-eq0.false

pub returns-then-left-eq0-2 : goal.returns-then-left-eq0-2
returns-then-left-eq0-2 c =
    let g = c.args in
    let s1 = begun g.row g.predicated g.behind.now _ _ _ _ (omega arith) c.requires c.if-row-eq0.false c.read_operand-first.ensures c.read_predicate-predicate.ensures in
    let s2 = onward s1 c.if-left-eq0.false _ _ c.read_operand-second.ensures in
    rw (done s2 c.if-left-eq0-2.true, all_zero c.default-none.result c.default-none.ensures)

pub read_operand-third-requires : goal.read_operand-third-requires
read_operand-third-requires c =
    let g = c.args in
    let s1 = begun g.row g.predicated g.behind.now _ _ _ _ (omega arith) c.requires c.if-row-eq0.false c.read_operand-first.ensures c.read_predicate-predicate.ensures in
    let s2 = onward s1 c.if-left-eq0.false _ _ c.read_operand-second.ensures in
    there s2 c.if-left-eq0-2.false

pub returns-then-left-eq0-3 : goal.returns-then-left-eq0-3
returns-then-left-eq0-3 c =
    let g = c.args in
    let s1 = begun g.row g.predicated g.behind.now _ _ _ _ (omega arith) c.requires c.if-row-eq0.false c.read_operand-first.ensures c.read_predicate-predicate.ensures in
    let s2 = onward s1 c.if-left-eq0.false _ _ c.read_operand-second.ensures in
    let s3 = onward s2 c.if-left-eq0-2.false _ _ c.read_operand-third.ensures in
    rw (done s3 c.if-left-eq0-3.true, all_zero c.default-none.result c.default-none.ensures)

pub read_operand-fourth-requires : goal.read_operand-fourth-requires
read_operand-fourth-requires c =
    let g = c.args in
    let s1 = begun g.row g.predicated g.behind.now _ _ _ _ (omega arith) c.requires c.if-row-eq0.false c.read_operand-first.ensures c.read_predicate-predicate.ensures in
    let s2 = onward s1 c.if-left-eq0.false _ _ c.read_operand-second.ensures in
    let s3 = onward s2 c.if-left-eq0-2.false _ _ c.read_operand-third.ensures in
    there s3 c.if-left-eq0-3.false

pub returns-then-left-eq0-4 : goal.returns-then-left-eq0-4
returns-then-left-eq0-4 c =
    let g = c.args in
    let s1 = begun g.row g.predicated g.behind.now _ _ _ _ (omega arith) c.requires c.if-row-eq0.false c.read_operand-first.ensures c.read_predicate-predicate.ensures in
    let s2 = onward s1 c.if-left-eq0.false _ _ c.read_operand-second.ensures in
    let s3 = onward s2 c.if-left-eq0-2.false _ _ c.read_operand-third.ensures in
    let s4 = onward s3 c.if-left-eq0-3.false _ _ c.read_operand-fourth.ensures in
    rw (done s4 c.if-left-eq0-4.true, all_zero c.default-none.result c.default-none.ensures)

pub read_operand-fifth-requires : goal.read_operand-fifth-requires
read_operand-fifth-requires c =
    let g = c.args in
    let s1 = begun g.row g.predicated g.behind.now _ _ _ _ (omega arith) c.requires c.if-row-eq0.false c.read_operand-first.ensures c.read_predicate-predicate.ensures in
    let s2 = onward s1 c.if-left-eq0.false _ _ c.read_operand-second.ensures in
    let s3 = onward s2 c.if-left-eq0-2.false _ _ c.read_operand-third.ensures in
    let s4 = onward s3 c.if-left-eq0-3.false _ _ c.read_operand-fourth.ensures in
    there s4 c.if-left-eq0-4.false

pub returns : goal.returns
returns c =
    let g = c.args in
    let s1 = begun g.row g.predicated g.behind.now _ _ _ _ (omega arith) c.requires c.if-row-eq0.false c.read_operand-first.ensures c.read_predicate-predicate.ensures in
    let s2 = onward s1 c.if-left-eq0.false _ _ c.read_operand-second.ensures in
    let s3 = onward s2 c.if-left-eq0-2.false _ _ c.read_operand-third.ensures in
    let s4 = onward s3 c.if-left-eq0-3.false _ _ c.read_operand-fourth.ensures in
    let s5 = onward s4 c.if-left-eq0-4.false _ _ c.read_operand-fifth.ensures in
    sym s5.array
