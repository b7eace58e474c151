-- Document 02, Q-3: "Tell me reserved bit, modifier or relative addressing, and the lowest offending bit."
use Rattle.std.specs.Prelude.{ℕ, zero, suc, ◌-◌, Bool, ◌&&◌, ◌||◌, List, [], ◌∷◌, eqb, ltb}
use Rattle.paper.specs.Notation.{bit, pick, among}
use Rattle.paper.specs.declared.Reason.TheVariants.{Reserved as RESERVED, Modifier as MODIFIER, Relative as RELATIVE}
use Rattle.paper.specs.Judgements.{Token, good_token, bad_token}

-- so many bits from one on, and the bits from one down to another: "Bits 27:24" are `span 27 24`
abbrev pub bits_from : ℕ → ℕ → List ℕ
bits_from k zero = []
bits_from k (suc n) = k ∷ bits_from (suc k) n

abbrev pub span : ℕ → ℕ → List ℕ
span high low = bits_from low (suc high - low)

-- the lowest bit of a field, which tells of it, where its value is not lawful
abbrev pub unless : Bool → ℕ → List ℕ
unless lawful low = pick lawful [] (low ∷ [])

-- "another field with lawful values besides 0 by its lowest bit, a must-be-zero bit by itself": bit k offends if it must be zero and is not, or
-- is the lowest of a field whose value is not lawful
abbrev pub offends : List ℕ → List ℕ → ℕ → ℕ → Bool
offends zeros fields token k = (among k zeros && eqb (bit k token) 1) || among k fields

-- the lowest bit for which a test holds, of so many from k on; the one behind them where it holds for none
unfoldable pub lowest_from : (ℕ → Bool) → ℕ → ℕ → ℕ
lowest_from test k zero = k
lowest_from test k (suc n) = pick (test k) k (lowest_from test (suc k) n)

-- "the lowest offending bit" of bits 30:0; 31 where none offends
unfoldable pub lowest : (ℕ → Bool) → ℕ
lowest test = lowest_from test 0 31

-- "Where several hold: bit 31, then reserved bits, then relative addressing, then modifier."
-- "a wrong modifier is told by bit 24", and "bit 13 set where it may not be is RELATIVE"
abbrev pub fault_by : ℕ → (ℕ → Bool) → Bool → Bool → Token
fault_by token reserved is_relative_laid is_modifier_laid =
    pick (eqb (bit 31 token) 0) (bad_token RESERVED 31)
    (pick (ltb (lowest reserved) 31) (bad_token RESERVED (lowest reserved))
    (pick is_relative_laid (pick is_modifier_laid good_token (bad_token MODIFIER 24)) (bad_token RELATIVE 13)))
