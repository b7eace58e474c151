-- What holds of the operands in each cell of the table of Q-4 holds of every entry of a version without sizes. None of its places is free,
-- so that an operand takes one token.
use Prim.Native.Nat.{ℕ, ◌≤◌}
use mathlib.Core.Path.{◌≡◌, refl}
use mathlib.Core.Bool.{Bool, true, false, not, ◌&&◌}
use mathlib.Core.List.{List, [], ◌∷◌}
use lib.Dec.{eqb, leb}
use lib.ListN.{length}
use borrow.Author.Tests.{leb-true}
use Rattle.paper.specs.Notation.{pick}
use Rattle.paper.specs.Versions.{versions, has_sizes}
use Rattle.paper.specs.FirstVersions.{Cell, no, takes, FirstRow, cell, first_rows}
use Rattle.paper.specs.Places.{Place, listed, spot_places, cell_entry, first_entry_in, entry_of}
use Rattle.paper.specs.OperandTokens.{is_free}
use Rattle.paper.specs.declared.Version.{Version}
use Rattle.paper.proofs.Bools.{both_left, both_right, apart}
use Rattle.paper.proofs.VersionTokens.{in_each, each}

module _ (test : List Place → Bool) where
  abbrev cell_passes : Cell → Bool
  cell_passes no = true
  cell_passes (takes spots) = test (spot_places spots)

  abbrev row_passes : FirstRow → Bool
  row_passes row = in_each (λ v. cell_passes (cell v row)) versions

  abbrev pub rows_pass : List FirstRow → Bool
  rows_pass [] = true
  rows_pass (row ∷ rows) = row_passes row && rows_pass rows

  by_cell : (c : Cell) (places : List Place) → cell_passes c ≡ true → cell_entry c ≡ listed places → test places ≡ true
  by_cell no places t e = apart (cc)
  by_cell (takes spots) places t e = let same : spot_places spots ≡ places = cc in rw same at t

  by_rows : (rs : List FirstRow) → rows_pass rs ≡ true → (v : Version) (opcode : ℕ) (places : List Place) →
      first_entry_in rs v opcode ≡ listed places → test places ≡ true
  by_rows [] t v opcode places e = apart (cc)
  by_rows (row ∷ rs) t v opcode places e =
      by (eqb opcode row.opcode) (by_rows rs (both_right (row_passes row) (rows_pass rs) t) v opcode places) e
    where
      by : (b : Bool) → (first_entry_in rs v opcode ≡ listed places → test places ≡ true) →
          pick b (cell_entry (cell v row)) (first_entry_in rs v opcode) ≡ listed places → test places ≡ true
      by true next h = by_cell (cell v row) places (each (λ v. cell_passes (cell v row)) (both_left (row_passes row) (rows_pass rs) t) v) h
      by false next h = next h

  pub first_passes : rows_pass first_rows ≡ true → (v : Version) (opcode : ℕ) (places : List Place) → has_sizes v ≡ false →
      entry_of v opcode ≡ listed places → test places ≡ true
  unfolding entry_of
  first_passes t v opcode places s e = by_rows first_rows t v opcode places (rw s at e)

pub first_few : (v : Version) (opcode : ℕ) (places : List Place) → has_sizes v ≡ false → entry_of v opcode ≡ listed places → length places ≤ 5
unfolding first_rows
first_few v opcode places s e = leb-true _ _ (first_passes (λ places. leb (length places) 5) refl v opcode places s e)

abbrev pub none_free : List Place → Bool
none_free [] = true
none_free (place ∷ places) = not (is_free place) && none_free places

pub first_unfree : (v : Version) (opcode : ℕ) (places : List Place) → has_sizes v ≡ false → entry_of v opcode ≡ listed places →
    none_free places ≡ true
unfolding first_rows
first_unfree v opcode places s e = first_passes none_free refl v opcode places s e
