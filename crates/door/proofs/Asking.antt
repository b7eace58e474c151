-- What is asked of the tokens behind a first one, in each of the code's ways.
use Prim.Native.Nat.{ℕ, ◌/◌, ◌^◌}
use mathlib.Core.Path.{◌≡◌, refl, sym, ap, ◌∙◌}
use mathlib.Core.Bool.{Bool, true, false}
use native.Mathlib.Omega.{arith}
use lib.Dec.{eqb}
use borrow.Author.Tests.{eqb-true, eqb-false}
use Rattle.paper.specs.Versions.{has_sizes}
use Rattle.paper.specs.OperandTokens.{free_destination_types, free_source_types}
use Rattle.paper.specs.InstructionToken.{opcode_of, stated_size, unsized_bits_laid}
use Rattle.paper.specs.declared.Version.{Version}
use Rattle.paper.proofs.Bools.{both_left, apart}
use Rattle.versions.specs.Sets.{set_of}
use Rattle.uniform.specs.declared.Row.{Row}
use Rattle.uniform.specs.Uniform.{given, counted, uniform_of, row_of, free_count, first_row}
use Rattle.uniform.proofs.Uniform.{free_written_lem, free_read_lem}
use Rattle.instruction_token.specs.ByShape.{has_zeros}
use Rattle.door.specs.Door.{count_of, Wants}
use Rattle.std.specs.Prelude.{Some, None}
use Rattle.paper.specs.Notation.{pick}

-- operands that there are, and none
counted_some : (n count : ℕ) → Some count ≡ counted n → (count ≡ n) × (count ≡ 0 → ⊥)
counted_some n count e = by (eqb n 0) refl e
  where
    by : (b : Bool) → eqb n 0 ≡ b → Some count ≡ pick b None (Some n) → (count ≡ n) × (count ≡ 0 → ⊥)
    by true z h = apart (cc)
    by false z h = let same : count ≡ n = cc in let some = eqb-false n 0 z in (same, λ none. some (sym same ∙ none))

given_some : (row r : Row) → Some r ≡ given row → (r ≡ row) × (r.count ≡ 0 → ⊥)
given_some row r e = by (eqb row.count 0) refl e
  where
    by : (b : Bool) → eqb row.count 0 ≡ b → Some r ≡ pick b None (Some row) → (r ≡ row) × (r.count ≡ 0 → ⊥)
    by true z h = apart (cc)
    by false z h = let same : r ≡ row = cc in let some = eqb-false row.count 0 z in (same, λ none. some (ap (λ (k : Row). k.count) (sym same) ∙ none))

given_none : (row : Row) → None ≡ given row → row.count ≡ 0
given_none row e = by (eqb row.count 0) refl e
  where
    by : (b : Bool) → eqb row.count 0 ≡ b → None ≡ pick b None (Some row) → row.count ≡ 0
    by true z h = eqb-true row.count 0 z
    by false z h = apart (cc)

module _ (v : Version) (first : ℕ) where
  zeros_size : has_zeros first ≡ true → first / 2 ^ 24 ≡ stated_size first
  zeros_size z =
      let high : first / 2 ^ 28 ≡ 0 = eqb-true (first / 2 ^ 28) 0 (both_left (eqb (first / 2 ^ 28) 0) _ z) in
      omega arith

  -- where sizes are stated
  module _ (s : has_sizes v ≡ true) (z : has_zeros first ≡ true) where
    pub asks_free : (count written read : ℕ) → Some count ≡ free_count v (opcode_of first) →
        written ≡ set_of (free_destination_types v) → read ≡ set_of (free_source_types v) →
        Wants v first (record { claim = first / 2 ^ 24; row = record { count = count; written = written; read = read } })
    asks_free count written read hc hw hr =
        let many = counted_some (uniform_of v (opcode_of first)).count count (hc ∙ rw s refl) in
        record {
          some = many.1;
          many = rw (s, z) many.0;
          claims = rw s (zeros_size z);
          writes = hw ∙ sym (free_written_lem v (opcode_of first) s (λ none. many.1 (many.0 ∙ none)));
          reads = hr ∙ sym (free_read_lem v (opcode_of first) s (λ none. many.1 (many.0 ∙ none)));
        }

  row_count : (row_of v (opcode_of first)).count ≡ (uniform_of v (opcode_of first)).count
  unfolding row_of
  row_count = refl

  -- where none is
  module _ (s : has_sizes v ≡ false) (l : unsized_bits_laid v first ≡ true) where
    pub asks_no_row : None ≡ first_row v (opcode_of first) → count_of v first ≡ 0
    asks_no_row h = rw (s, l) (sym row_count ∙ given_none (row_of v (opcode_of first)) (h ∙ rw s refl))

    pub asks_row : (row : Row) → Some row ≡ first_row v (opcode_of first) → Wants v first (record { claim = row.count; row = row })
    asks_row row e =
        let is = given_some (row_of v (opcode_of first)) row (e ∙ rw s refl) in
        record {
          some = is.1;
          many = rw (s, l, is.0) row_count;
          claims = rw s refl;
          writes = rw is.0 refl;
          reads = rw is.0 refl;
        }
