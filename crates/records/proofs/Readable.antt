-- An instruction that is judged good can be read, and its record is the one by its class and its shape.
use mathlib.Core.Path.{◌≡◌, refl}
use mathlib.Core.Bool.{false, not}
use mathlib.Core.List.{List, ◌∷◌}
use Prim.Native.Nat.{ℕ}
use native.Mathlib.Omega.{arith}
use lib.Dec.{eqb}
use lib.ListN.{take}
use borrow.Author.Tests.{not-true}
use Rattle.paper.specs.InstructionToken.{opcode_of, is_predicated, with_predicate}
use Rattle.paper.specs.Blocks.{class_of, classes}
use Rattle.paper.specs.Instruction.{claimed, Head, token_head, claim, on_claimed, judged}
use Rattle.paper.specs.declared.Version.{Version}
use Rattle.paper.specs.declared.Single.TheVariants.{Comment}
use Rattle.paper.specs.declared.Closer.TheVariants.{End}
use Rattle.paper.specs.declared.Class.{Class}
use Rattle.paper.specs.declared.Class.TheVariants.{One, Closes}
use Rattle.paper.specs.Judgements.{good_instruction}
use Rattle.paper.proofs.Bools.{apart}
use Rattle.paper.proofs.FirstToken.{Says, is_broken, is_comment_lem, is_end_lem, is_listed, says}
use Rattle.paper.proofs.OwnTokens.{operands_good, good_claim}
use Rattle.blocks.proofs.Classes.{class_has}
use Rattle.shapes.specs.Classes.{class_number}
use Rattle.instruction_token.proofs.ByShape.{places_back}
use Rattle.records.specs.Record.{record_on}
use Rattle.records.specs.ByClass.{row_by, record_by, width_of, ordered, Readable}
use Rattle.records.proofs.Rows.{row_few, row_passed}
use Rattle.records.proofs.Passed.{passed_width}

-- no opcode of the table has a comment's class or END's
no_comment : (opcode : ℕ) → eqb (class_number (class_of opcode)) (class_number (One Comment)) ≡ false
unfolding classes
no_comment opcode = not-true _ (class_has (λ c. not (eqb (class_number c) 0)) refl opcode)

no_end : (opcode : ℕ) → eqb (class_number (class_of opcode)) (class_number (Closes End)) ≡ false
unfolding classes
no_end opcode = not-true _ (class_has (λ c. not (eqb (class_number c) 12)) refl opcode)

module _ (v : Version) (first : ℕ) (rest : List ℕ) (size : ℕ) (class : Class) where
  -- what is known of the record, where the first token says this
  pub record Read (h : Head) : Type 0 where
    pub is : record_on h first rest ≡ record_by (class_number class) v first (take size rest)
    pub readable : Readable (row_by (class_number class) v first) (take size rest)

  by_head_lem : (h : Head) → Says v first h → claim h ≡ size → on_claimed v h (opcode_of first) (take size rest) ≡ good_instruction size class → Read h
  unfolding ordered width_of
  by_head_lem h (is_broken b) k g = apart (cc)
  by_head_lem h (is_comment_lem o l) k g =
      let c : One Comment ≡ class = cc in
      record { is = rw (← c); readable = rw (← c) (record { there = omega arith; few = omega arith }) }
  by_head_lem h (is_end_lem n) k g =
      let c : Closes End ≡ class = cc in
      record { is = rw (← c); readable = rw (← c) (record { there = omega arith; few = omega arith }) }
  by_head_lem h (is_listed {places} o e l) k g =
      let row = with_predicate (is_predicated first) places in
      let fits = operands_good size class v (opcode_of first) row (claimed v first places) (take size rest) g in
      let width = passed_width (row_passed v first places e l (take size rest) fits.0) in
      record {
        is = rw (← fits.2, no_comment (opcode_of first), no_end (opcode_of first), places_back v first places e l, k);
        readable =
            rw (← fits.2, no_comment (opcode_of first), no_end (opcode_of first), places_back v first places e l)
            (record { there = omega arith; few = row_few v first places e l });
      }

  pub good_read_lem : judged v (first ∷ rest) ≡ good_instruction size class → Read (token_head v first)
  good_read_lem j =
      let g = good_claim size class v first rest j in
      by_head_lem (token_head v first) (says v first) g.claims g.good
