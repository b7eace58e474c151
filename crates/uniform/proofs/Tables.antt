-- The code's cells are the paper's tables: below 97 and at PHASE by computed tests, elsewhere since no table names the opcode.
use Prim.Native.Nat.{ℕ, ◌+◌, ◌-◌, ◌*◌, ◌/◌, ◌%◌, ◌^◌}
use mathlib.Core.Path.{◌≡◌, refl, ap}
use mathlib.Core.List.{List}
use mathlib.Core.Bool.{Bool, true, false, ◌&&◌, ◌||◌}
use Rattle.std.specs.Prelude.{Option, Some, None}
use native.Mathlib.Omega.{arith}
use lib.Dec.{eqb, ltb}
use borrow.Author.Tests.{eqb-true, ne_eqb}
use Rattle.paper.specs.Notation.{pick}
use Rattle.paper.specs.Versions.{has_sizes}
use Rattle.paper.specs.OpcodeTable.{rows, PHASE}
use Rattle.paper.specs.FirstVersions.{first_rows}
use Rattle.paper.specs.Places.{Types, free, only, entry_of, typed_places}
use Rattle.paper.specs.OperandTokens.{free_destination_types, free_source_types, types_or}
use Rattle.paper.specs.declared.Version.{Version}
use Rattle.paper.specs.declared.Version.TheVariants.{V2, V3, P2, P3, V1, P11, P12, P13, P14}
use Rattle.paper.proofs.Bools.{both_left, both_right, never}
use Rattle.paper.proofs.Arms.{NoneBelow, none_left}
use Rattle.paper.proofs.VersionTokens.{each}
use Rattle.versions.specs.Rows.{rank}
use Rattle.versions.proofs.Sets.{same, same_true}
use Rattle.shapes.proofs.Table.{limit, beyond}
use Rattle.shapes.proofs.Computed.{Beyond, from_limit, computed}
use Rattle.uniform.specs.Uniform.{no_kind, first_kinds, kinds_in, kind_number, kind_at, sincos, kind_of, uniform_of, row_in, given, row_by, row_of, free_count, first_row}
use Rattle.uniform.specs.Cells.{count_in, free_cells, first_cells}
use Rattle.uniform.proofs.KindRules.{at_zero, at_kind}

-- an opcode that no table names has no kind
no_number : (v : Version) (opcode : ℕ) → Beyond opcode → kind_of v opcode ≡ 0
unfolding kind_of
no_number v opcode b =
    let above = b.0 in
    rw (beyond v opcode b.0 b.1, ne_eqb opcode sincos (λ s. omega arith))
    (eqb-true _ 0 (each (λ v. eqb (kind_number (kinds_in v) 0) 0) refl v))

no_kind_lem : (v : Version) (opcode : ℕ) → Beyond opcode → uniform_of v opcode ≡ no_kind
unfolding uniform_of
no_kind_lem v opcode b = rw (no_number v opcode b) (at_zero (kinds_in v))

pub no_count : (v : Version) (opcode : ℕ) → Beyond opcode → count_in v opcode ≡ 0
no_count v opcode b = ap (λ k. k.count) (no_kind_lem v opcode b)

no_free : (opcode : ℕ) → Beyond opcode → free_cells opcode ≡ 0
unfolding free_cells
no_free opcode b = rw (no_count V2 opcode b, no_count V3 opcode b, no_count P2 opcode b, no_count P3 opcode b) refl

no_first : (opcode : ℕ) → Beyond opcode → first_cells opcode ≡ 0
unfolding first_cells
no_first opcode b =
    rw (no_number V1 opcode b, no_number P11 opcode b, no_number P12 opcode b, no_number P13 opcode b, no_number P14 opcode b) refl

-- behind the last arm of a table there is nothing
module _ (number_of : ℕ → ℕ) (phase : number_of PHASE ≡ 0) (none : (opcode : ℕ) → Beyond opcode → number_of opcode ≡ 0) where
  no_opcode : (opcode : ℕ) → NoneBelow number_of opcode limit → number_of opcode ≡ 0
  no_opcode opcode rest = none_left number_of opcode limit (from_limit (λ n. number_of n ≡ 0) opcode phase (none opcode)) rest

pub no_free_cells : (opcode : ℕ) → NoneBelow free_cells opcode limit → free_cells opcode ≡ 0
unfolding rows entry_of typed_places kind_of uniform_of free_cells
no_free_cells = no_opcode free_cells refl no_free

pub no_first_cells : (opcode : ℕ) → NoneBelow first_cells opcode limit → first_cells opcode ≡ 0
unfolding first_rows entry_of kind_of first_cells
no_first_cells = no_opcode first_cells refl no_first

-- what the code finds for the version of a rank by the cells of an opcode
abbrev pub found : ℕ → ℕ → Option ℕ
found n cells = pick (eqb (cells / 2 ^ (n + 3) % 2) 0) None (Some (cells % 8))

abbrev alike : Option ℕ → Option ℕ → Bool
alike None None = true
alike None (Some n) = false
alike (Some m) None = false
alike (Some m) (Some n) = eqb m n

alike_same : (a b : Option ℕ) → alike a b ≡ true → a ≡ b
alike_same None None h = refl
alike_same None (Some n) h = never h
alike_same (Some m) None h = never h
alike_same (Some m) (Some n) h = ap Some (eqb-true m n h)

abbrev counts : Version → ℕ → Bool
counts v opcode = alike (found (rank v) (free_cells opcode)) (free_count v opcode)

found_right : (v : Version) (opcode : ℕ) → counts v opcode ≡ true
unfolding rows first_rows entry_of typed_places kind_of uniform_of free_cells
found_right =
    computed counts refl refl
    (λ v opcode b e. rw (no_free opcode b, no_count v opcode b) (each (λ v. alike (found (rank v) 0) (pick (has_sizes v) None None)) refl v))

pub count_found : (v : Version) (opcode n cells : ℕ) → n ≡ rank v → cells ≡ free_cells opcode → found n cells ≡ free_count v opcode
count_found v opcode n cells hn hc = rw (hn, hc) (alike_same _ (free_count v opcode) (found_right v opcode))

-- the digit of a version without sizes
abbrev digit_at : ℕ → ℕ → ℕ
digit_at n cells = cells / 2 ^ (5 * (n - 4)) % 32

abbrev numbers : Version → ℕ → Bool
numbers v opcode = has_sizes v || eqb (digit_at (rank v) (first_cells opcode)) (kind_of v opcode)

numbered : (v : Version) (opcode : ℕ) → numbers v opcode ≡ true
unfolding rows first_rows entry_of typed_places kind_of first_cells
numbered =
    computed numbers refl refl
    (λ v opcode b e. rw (no_first opcode b, no_number v opcode b) (each (λ v. has_sizes v || eqb (digit_at (rank v) 0) 0) refl v))

pub sized_rank : (v : Version) → ltb (rank v) 4 ≡ has_sizes v
sized_rank v = same_true _ _ (each (λ v. same (ltb (rank v) 4) (has_sizes v)) refl v)

-- in a version without sizes the row of that digit is the opcode's: no place is free, and so the types are the same in each
abbrev listed_types : Types → Bool
listed_types free = false
listed_types (only types) = true

same_types_lem : (t : Types) (a b : List ℕ) → listed_types t ≡ true → types_or t a ≡ types_or t b
same_types_lem free a b h = never h
same_types_lem (only types) a b h = refl

same_row : (v : Version) (n : ℕ) → row_by n ≡ given (row_in v (kind_at first_kinds n))
unfolding row_by
same_row v =
    at_kind (λ k. listed_types k.written && listed_types k.read) (λ k. given (row_in V1 k) ≡ given (row_in v k)) refl
    (λ k t.
    rw (
      same_types_lem k.written (free_destination_types V1) (free_destination_types v) (both_left (listed_types k.written) _ t),
      same_types_lem k.read (free_source_types V1) (free_source_types v) (both_right (listed_types k.written) _ t),
    ))
    first_kinds refl

pub row_found : (v : Version) (opcode n cells : ℕ) → has_sizes v ≡ false → n ≡ rank v → cells ≡ first_cells opcode →
    row_by (digit_at n cells) ≡ first_row v opcode
unfolding row_of uniform_of
row_found v opcode n cells hs hn hc =
    rw (hn, hc, eqb-true _ (kind_of v opcode) (rw hs at (numbered v opcode)), hs) (same_row v (kind_of v opcode))
