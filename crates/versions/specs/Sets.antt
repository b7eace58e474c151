-- A list of small numbers as one number: each raises its own bit.
use Rattle.std.specs.Prelude.{ℕ, ◌+◌, ◌/◌, ◌%◌, ◌^◌, Bool, List, [], ◌∷◌, eqb}

abbrev pub set_of : List ℕ → ℕ
set_of [] = 0
set_of (k ∷ ks) = 2 ^ k + set_of ks

unfoldable pub holds : ℕ → ℕ → Bool
holds set k = eqb (set / 2 ^ k % 2) 1
