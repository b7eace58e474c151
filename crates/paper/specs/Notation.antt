-- Notation: bits of a token, lists of numbers, a choice.
use Rattle.std.specs.Prelude.{ℕ, suc, ◌-◌, ◌/◌, ◌%◌, ◌^◌, Bool, true, false, ◌||◌, List, [], ◌∷◌, eqb}

-- a token's bits from one down to another: "Bits 27:24" are `bits 27 24`
abbrev pub bits : ℕ → ℕ → ℕ → ℕ
bits high low token = token / 2 ^ low % 2 ^ (suc high - low)

-- one bit
abbrev pub bit : ℕ → ℕ → ℕ
bit place token = bits place place token

-- the first where the test holds, else the second
abbrev pub pick : {A : Type 0} → Bool → A → A → A
pick true a b = a
pick false a b = b

-- a number stands in a list
abbrev pub among : ℕ → List ℕ → Bool
among n [] = false
among n (x ∷ xs) = eqb n x || among n xs
