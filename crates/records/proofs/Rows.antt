-- The row of places of an instruction of the table: how many operands it has, and that tokens which fit it pass.
use mathlib.Core.Path.{◌≡◌, refl, sym, ap, ◌∙◌}
use mathlib.Core.Bool.{Bool, true, false, not}
use mathlib.Core.List.{List, [], ◌∷◌}
use Prim.Native.Nat.{ℕ, suc, ◌≤◌}
use native.Mathlib.Omega.{arith}
use lib.Dec.{eqb}
use lib.ListN.{length}
use borrow.Author.Tests.{eqb-true, not-true}
use Rattle.paper.specs.Notation.{pick}
use Rattle.paper.specs.OpcodeTable.{DCL}
use Rattle.paper.specs.InstructionToken.{opcode_of, has_destination, is_predicated, bits_laid, with_predicate}
use Rattle.paper.specs.Dcl.{declaration}
use Rattle.paper.specs.Instruction.{operands, operands_of}
use Rattle.paper.specs.Versions.{has_predicates}
use Rattle.paper.specs.Places.{listed, entry_of, Place, is_predicate}
use Rattle.paper.specs.declared.Version.{Version}
use Rattle.paper.specs.Judgements.{good_operands}
use Rattle.paper.proofs.Bools.{never, both_left, both_right}
use Rattle.paper.proofs.DclRow.{declared_row, declared_entry}
use Rattle.shapes.proofs.Shapes.{few, unpredicated}
use Rattle.instruction_token.proofs.ByShape.{may_be}
use Rattle.records.specs.Record.{predicate_slot}
use Rattle.records.specs.ByClass.{ordered}
use Rattle.records.proofs.Filled.{ordered_few}
use Rattle.records.proofs.Passed.{AllPassed, all_passed}
use Rattle.records.proofs.Declared.{declared_passed}

-- at most five operands stand in token order, and the predicate is none of them
ordered_predicated : (predicated : Bool) (row : List Place) → ordered (with_predicate predicated row) ≤ length row
unfolding ordered
ordered_predicated predicated [] = omega arith
ordered_predicated true (place ∷ row) = ordered_few (place ∷ row)
ordered_predicated false (place ∷ row) = ordered_few (place ∷ row)

-- a row with no predicate in it
pub unpredicated_in_order : (row : List Place) → unpredicated row ≡ true → ordered row ≡ length row
unfolding ordered
unpredicated_in_order [] h = refl
unpredicated_in_order (place ∷ row) h =
    rw (not-true (is_predicate place) (both_left (not (is_predicate place)) _ h))
    (ap suc (unpredicated_in_order row (both_right (not (is_predicate place)) _ h)))

module _ (v : Version) (token : ℕ) (places : List Place) (e : entry_of v (opcode_of token) ≡ listed places) (laid : bits_laid v token places ≡ true) where
  dcl_row : opcode_of token ≡ DCL → with_predicate (is_predicated token) places ≡ declared_row
  dcl_row d =
      let row : places ≡ declared_row = declared_entry v places (sym (ap (entry_of v) d) ∙ e) in
      by row (is_predicated token) refl
    where
      by : places ≡ declared_row → (predicated : Bool) → is_predicated token ≡ predicated → with_predicate (is_predicated token) places ≡ declared_row
      by row true p = never (both_right (has_destination places) _ (both_right (has_predicates v) _ (rw d at (may_be v token places laid p))))
      by row false p = rw (p, row)

  pub row_few : ordered (with_predicate (is_predicated token) places) ≤ predicate_slot
  row_few = omega (arith, ordered_predicated (is_predicated token) places, few v (opcode_of token) places e)

  pub row_passed : (behind : List ℕ) → operands_of v (opcode_of token) (with_predicate (is_predicated token) places) behind ≡ good_operands →
      AllPassed v (with_predicate (is_predicated token) places) behind
  row_passed behind f = by (eqb (opcode_of token) DCL) refl f
    where
      by : (is_dcl : Bool) → eqb (opcode_of token) DCL ≡ is_dcl →
          pick is_dcl (declaration v behind) (operands v (with_predicate (is_predicated token) places) 1 behind) ≡ good_operands →
          AllPassed v (with_predicate (is_predicated token) places) behind
      by true d g = rw (dcl_row (eqb-true _ _ d)) (declared_passed v behind g)
      by false d g = all_passed v (with_predicate (is_predicated token) places) 1 behind g
