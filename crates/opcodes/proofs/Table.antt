-- The code's rows are document 01's table: below 97 by one computed test, from 97 on since the table names smaller opcodes only.
use Prim.Native.Nat.{ℕ, ◌+◌, ◌*◌, ◌/◌, ◌%◌, ◌^◌, ◌≤◌}
use mathlib.Core.Path.{◌≡◌, refl}
use mathlib.Core.Bool.{Bool, true, not, ◌&&◌, ◌||◌}
use native.Mathlib.Omega.{arith}
use lib.Dec.{eqb}
use borrow.Author.Tests.{ne_eqb, eqb-true}
use Rattle.paper.specs.Notation.{pick}
use Rattle.paper.specs.Versions.{has_sizes, has_predicates}
use Rattle.paper.specs.OpcodeTable.{rows}
use Rattle.paper.specs.Blocks.{classes, class_of}
use Rattle.paper.specs.declared.Version.{Version}
use Rattle.paper.specs.declared.Version.TheVariants.{V2, V3, P2, P3}
use Rattle.paper.specs.Places.{absent, entry_of, typed_places}
use Rattle.paper.proofs.VersionTokens.{each}
use Rattle.shapes.specs.Shape.{shape_of}
use Rattle.shapes.proofs.Table.{limit, not_listed}
use Rattle.shapes.proofs.Computed.{Beyond, computed}
use Rattle.paper.proofs.Arms.{NoneBelow, none_left}
use Rattle.versions.specs.Rows.{rank}
use Rattle.opcodes.specs.Rows.{sincos, shape_from, row_of}

-- the rows of document 01 name no opcode from 97 on
no_entry : (v : Version) (opcode : ℕ) → has_sizes v ≡ true → limit ≤ opcode → entry_of v opcode ≡ absent
unfolding entry_of rows
no_entry v opcode s h = rw s (not_listed v opcode rows h refl)

pub row_beyond : (opcode : ℕ) → limit ≤ opcode → row_of opcode ≡ 0
unfolding row_of
row_beyond opcode h =
    rw (no_entry V2 opcode refl h, no_entry V3 opcode refl h, no_entry P2 opcode refl h, no_entry P3 opcode refl h) refl

pub no_row_lem : (opcode : ℕ) → NoneBelow row_of opcode limit → row_of opcode ≡ 0
no_row_lem opcode rest = none_left row_of opcode limit (row_beyond opcode) rest

-- what the code finds for the version of a rank, with predicates or without, by the row of an opcode: none where the version's bit is zero, but
-- for SINCOS; the predicable bit only where there are predicates
abbrev pub found : ℕ → Bool → ℕ → ℕ → ℕ
found n predicates opcode row =
    pick (eqb (row / 2 ^ n % 2) 0) (pick (eqb opcode sincos && predicates) (shape_of V3 sincos) 0)
    (pick predicates (row / shape_from) (row / shape_from / 2 ^ 36 * 2 ^ 36 + row / shape_from % 2 ^ 35))

abbrev right : Version → ℕ → Bool
right v opcode = not (has_sizes v) || eqb (found (rank v) (has_predicates v) opcode (row_of opcode)) (shape_of v opcode)

right_unlisted : (v : Version) (opcode : ℕ) → Beyond opcode → entry_of v opcode ≡ absent → right v opcode ≡ true
unfolding shape_of
right_unlisted v opcode b e =
    let above : limit ≤ opcode = b.0 in
    rw (e, row_beyond opcode above, ne_eqb opcode sincos (λ s. omega arith))
    (each (λ v. not (has_sizes v) || eqb (found (rank v) (has_predicates v) limit 0) 0) refl v)

agrees : (v : Version) (opcode : ℕ) → right v opcode ≡ true
unfolding rows entry_of typed_places class_of classes shape_of row_of
agrees = computed right refl refl right_unlisted

-- what the code finds in a version with sizes is what the paper's table says
pub looked_up : (v : Version) (opcode n row : ℕ) (predicates : Bool) → has_sizes v ≡ true →
    n ≡ rank v → predicates ≡ has_predicates v → row ≡ row_of opcode → found n predicates opcode row ≡ shape_of v opcode
looked_up v opcode n row predicates hs hn hp hr = rw (hn, hp, hr) (eqb-true _ (shape_of v opcode) (rw hs at (agrees v opcode)))
