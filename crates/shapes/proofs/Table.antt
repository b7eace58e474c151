-- The tables name opcodes below 97, and PHASE; no other is in a row.
use Prim.Native.Nat.{ℕ, ◌≤◌, ◌<◌}
use mathlib.Core.Path.{◌≡◌, refl}
use mathlib.Core.Bool.{Bool, true, false, ◌&&◌, ◌||◌}
use mathlib.Core.List.{List, [], ◌∷◌}
use native.Mathlib.Omega.{arith}
use lib.Dec.{eqb, ltb}
use borrow.Author.Tests.{ne_eqb, ltb-true, eqb-true}
use Rattle.paper.specs.Notation.{pick, among}
use Rattle.paper.specs.Versions.{is_one, has_sizes}
use Rattle.paper.specs.OpcodeTable.{Row, rows, PHASE}
use Rattle.paper.specs.FirstVersions.{FirstRow, first_rows}
use Rattle.paper.specs.Places.{absent, entry_in, first_entry_in, entry_of}
use Rattle.paper.specs.declared.Version.{Version}
use Rattle.paper.proofs.Bools.{both_left, both_right, and_false}

-- the lowest number above every opcode of the tables but PHASE
abbrev pub limit : ℕ
limit = 97

abbrev small : List ℕ → Bool
small [] = true
small (x ∷ xs) = ltb x limit && small xs

not_among : (opcode : ℕ) (xs : List ℕ) → limit ≤ opcode → small xs ≡ true → among opcode xs ≡ false
not_among opcode [] h t = refl
not_among opcode (x ∷ xs) h t =
    let less : x < limit = ltb-true x limit (both_left (ltb x limit) (small xs) t) in
    rw (ne_eqb opcode x (λ e. omega arith)) (not_among opcode xs h (both_right (ltb x limit) (small xs) t))

abbrev pub small_rows : List Row → Bool
small_rows [] = true
small_rows (r ∷ rs) = small r.opcodes && small_rows rs

pub not_listed : (v : Version) (opcode : ℕ) (rs : List Row) → limit ≤ opcode → small_rows rs ≡ true → entry_in rs v opcode ≡ absent
not_listed v opcode [] h t = refl
not_listed v opcode (r ∷ rs) h t =
    rw (not_among opcode r.opcodes h (both_left (small r.opcodes) (small_rows rs) t), and_false (is_one v r.allowed))
    (not_listed v opcode rs h (both_right (small r.opcodes) (small_rows rs) t))

-- the table of the versions without sizes
abbrev is_small : FirstRow → Bool
is_small r = ltb r.opcode limit || eqb r.opcode PHASE

abbrev are_small : List FirstRow → Bool
are_small [] = true
are_small (r ∷ rs) = is_small r && are_small rs

module _ (v : Version) (opcode : ℕ) (h : limit ≤ opcode) (other : opcode ≡ PHASE → ⊥) where
  unlike : (n : ℕ) (low : Bool) → ltb n limit ≡ low → low || eqb n PHASE ≡ true → opcode ≡ n → ⊥
  unlike n true l t e = let less : n < limit = ltb-true n limit l in omega arith
  unlike n false l t e = other (rw (← (eqb-true n PHASE t)) e)

  not_first : (rs : List FirstRow) → are_small rs ≡ true → first_entry_in rs v opcode ≡ absent
  not_first [] t = refl
  not_first (r ∷ rs) t =
      rw (ne_eqb opcode r.opcode (unlike r.opcode (ltb r.opcode limit) refl (both_left (is_small r) (are_small rs) t)))
      (not_first rs (both_right (is_small r) (are_small rs) t))

  pub beyond : entry_of v opcode ≡ absent
  unfolding rows first_rows entry_of
  beyond = by (has_sizes v)
    where
      by : (sized : Bool) → pick sized (entry_in rows v opcode) (first_entry_in first_rows v opcode) ≡ absent
      by true = not_listed v opcode rows h refl
      by false = not_first first_rows refl
