-- The length of a stream, as the code asks for it.
use Rattle.std.proofs.Common.{◌≡◌, ℕ, Bool, false, Some, refl, sym, ◌∙◌, arith}
use Rattle.std.proofs.lemmas.Grind.{common_steps}
use Rattle.std.specs.Range.{range_inclusive_contains, range_inclusive_start, range_inclusive_end, range_inclusive_exhausted}
use Rattle.std.specs.declared.ops.RangeInclusive.{RangeInclusive}
use Rattle.std.specs.Ordering.{is_le, nat_cmp}
use lib.Dec.{leb}
use Rattle.paper.specs.Stream.{length_laid}

at_most : (a b : ℕ) → is_le (nat_cmp a b) ≡ leb a b
at_most a b = grind (arith, common_steps)

-- what `contains` answers at the fewest and the most tokens
pub laid : (r : RangeInclusive ℕ) (n : ℕ) → range_inclusive_start r ≡ 2 → range_inclusive_end r ≡ 16384 → range_inclusive_exhausted r ≡ false →
    {answer : Bool} → answer ≡ range_inclusive_contains (λ x y. Some (nat_cmp x y)) r n → length_laid n ≡ answer
laid r n start end more told = sym (told ∙ rw (start, end, more, at_most 2 n, at_most n 16384) refl)
