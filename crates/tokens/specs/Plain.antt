-- Tokens whose layout is right in every version, at a free place and at one that has no name.
use Rattle.std.specs.Prelude.{ℕ, Bool, ◌&&◌, eqb, leb}
use Rattle.paper.specs.Notation.{bits, bit}

-- "15:14 zero; bit 31 one", bit 13 zero, modifier 0 or 1
abbrev pub plain_source : ℕ → Bool
plain_source token =
    eqb (bits 15 14 token) 0
    && (eqb (bit 13 token) 0
    && (leb (bits 27 24 token) 1 && eqb (bit 31 token) 1))

-- "15:14 zero; bit 31 one", bit 13 zero, "23 and 27:24 zero", and neither of the bits that are "pixel only"
abbrev pub plain_destination : ℕ → Bool
plain_destination token =
    eqb (bits 15 14 token) 0
    && (eqb (bit 13 token) 0
    && (eqb (bits 22 21 token) 0
    && (eqb (bit 23 token) 0
    && (eqb (bits 27 24 token) 0 && eqb (bit 31 token) 1))))
