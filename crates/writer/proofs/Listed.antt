-- The row of places that the code finds for a record, and the tokens that the record is encoded by.
use mathlib.Core.Path.{◌≡◌, refl, sym}
use mathlib.Core.Bool.{Bool, true, false}
use mathlib.Core.List.{List, [], ◌∷◌}
use Prim.Native.Nat.{ℕ, ◌≤◌}
use native.Mathlib.Omega.{arith}
use lib.Dec.{lit≤}
use lib.ListN.{length}
use borrow.Author.Tests.{ne_eqb}
use Rattle.paper.specs.InstructionToken.{opcode_of, is_predicated, bits_laid, may_be_predicated, with_predicate, end_opcode}
use Rattle.paper.specs.Places.{Entry, absent, listed, entry_of, Place}
use Rattle.paper.specs.declared.Version.{Version}
use Rattle.paper.proofs.FirstToken.{Other}
use Rattle.places.specs.Places.{digits, predicated_row, decoded}
use Rattle.places.proofs.Decoding.{are_places, decoded_zero, without_predicate, predicated_back}
use Rattle.shapes.specs.Shape.{shape_of}
use Rattle.shapes.proofs.Shapes.{shape_absent, shape_places, few, are_places_lem, decoded_digits, decoded_predicated}
use Rattle.instruction_token.specs.ByShape.{places_by}
use Rattle.instruction_token.proofs.ByShape.{may_be}
use Rattle.records.specs.declared.Operand.{Operand}
use Rattle.records.specs.declared.Record.{Record}
use Rattle.records.specs.Record.{operand_count, instruction_record}
use Rattle.record_tokens.specs.Tokens.{tokens_of}
use Rattle.writer.specs.Row.{row_number, row_of, encoded_by, encoded_tokens}

-- a row with the predicate is short enough, also where no instruction has it
marked_few : (places : List Place) → are_places places ≡ true → length places ≤ 5 → length (decoded (predicated_row (digits places))) ≤ operand_count
unfolding decoded
marked_few [] are few = lit≤ tt
marked_few (place ∷ places) are few = rw (predicated_back place places are (omega arith)) (omega arith)

module _ (v : Version) (opcode : ℕ) where
  module _ (places : List Place) (e : entry_of v opcode ≡ listed places) where
    pub row_listed : (marked : Bool) → (marked ≡ true → may_be_predicated v opcode places ≡ true) → decoded (row_number (shape_of v opcode) marked) ≡ with_predicate marked places
    unfolding row_number places_by
    row_listed false m = rw (shape_places v opcode places e, decoded_digits v opcode places e) (sym (without_predicate places))
    row_listed true m = rw (shape_places v opcode places e) (decoded_predicated v opcode places e (m refl))

    listed_few : (marked : Bool) → length (decoded (row_number (shape_of v opcode) marked)) ≤ operand_count
    unfolding row_number places_by
    listed_few false = rw (shape_places v opcode places e, decoded_digits v opcode places e) (omega (arith, few v opcode places e))
    listed_few true = rw (shape_places v opcode places e) (marked_few places (are_places_lem v opcode places e) (few v opcode places e))

  entry_few : (marked : Bool) (entry : Entry) → entry_of v opcode ≡ entry → length (decoded (row_number (shape_of v opcode) marked)) ≤ operand_count
  unfolding row_number places_by
  entry_few false absent e = rw (shape_absent v opcode e, decoded_zero) (omega arith)
  entry_few true absent e = rw (shape_absent v opcode e) (marked_few [] refl (omega arith))
  entry_few marked (listed places) e = listed_few places e marked

  pub row_few : (marked : Bool) → length (decoded (row_number (shape_of v opcode) marked)) ≤ operand_count
  row_few marked = entry_few marked (entry_of v opcode) refl

module _ (v : Version) (r : Record) where
  pub other_encoded : (r.opcode ≡ end_opcode → ⊥) → encoded_tokens v r ≡ encoded_by v r (row_of v r)
  unfolding encoded_tokens
  other_encoded n = rw (ne_eqb r.opcode end_opcode n)

-- a token of an instruction of the table, whose bits are laid out
pub record IsListed (v : Version) (token : ℕ) : Type 0 where
  pub places : List Place
  pub other : Other token
  pub entry : entry_of v (opcode_of token) ≡ listed places
  pub laid : bits_laid v token places ≡ true

-- a record that was read from such an instruction is encoded by its own tokens
pub listed_encoded : (v : Version) (first : ℕ) (operands : List Operand) → IsListed v first →
    encoded_tokens v (instruction_record first operands) ≡ tokens_of v (instruction_record first operands) []
unfolding encoded_tokens tokens_of
listed_encoded v first operands l =
    rw (
      l.other.no_comment,
      l.other.no_end,
      l.entry,
      row_listed v (opcode_of first) l.places l.entry (is_predicated first) (may_be v first l.places l.laid),
    )
