-- Of an instruction that may be predicated the destination is the first operand, and behind it stand sources alone. So the predicate behind the
-- first operand is "straight behind the destination and its relative token, before the first source" (document 02, Q-2).
use Prim.Native.Nat.{ℕ}
use mathlib.Core.Path.{◌≡◌, refl}
use mathlib.Core.Bool.{Bool, true, false, not, ◌&&◌, ◌||◌}
use mathlib.Core.List.{List, [], ◌∷◌}
use Rattle.paper.specs.OpcodeTable.{rows}
use Rattle.paper.specs.FirstVersions.{first_rows}
use Rattle.paper.specs.InstructionToken.{may_be_predicated}
use Rattle.paper.specs.Places.{Entry, absent, listed, entry_of, typed_places, Place, is_destination, is_source}
use Rattle.paper.specs.declared.Version.{Version}
use Rattle.shapes.proofs.Computed.{computed}

abbrev are_sources : List Place → Bool
are_sources [] = true
are_sources (place ∷ places) = is_source place && are_sources places

abbrev pub destination_first : List Place → Bool
destination_first [] = false
destination_first (place ∷ places) = is_destination place && are_sources places

abbrev ordered : Version → ℕ → Entry → Bool
ordered v opcode absent = true
ordered v opcode (listed places) = not (may_be_predicated v opcode places) || destination_first places

entry_ordered : (v : Version) (opcode : ℕ) → ordered v opcode (entry_of v opcode) ≡ true
unfolding rows first_rows entry_of typed_places
entry_ordered = computed (λ v opcode. ordered v opcode (entry_of v opcode)) refl refl (λ v opcode b e. rw e refl)

pub destination_first_lem : (v : Version) (opcode : ℕ) (places : List Place) →
    entry_of v opcode ≡ listed places → may_be_predicated v opcode places ≡ true → destination_first places ≡ true
destination_first_lem v opcode places e m = rw (e, m) at (entry_ordered v opcode)
