-- Laws of one token's layout.
use mathlib.Core.Path.{◌≡◌, refl}
use mathlib.Core.Bool.{Bool, true, false, ◌&&◌, ◌||◌}
use Prim.Native.Nat.{ℕ}
use native.Mathlib.Omega.{arith}
use lib.Dec.{eqb}
use Rattle.paper.specs.Notation.{bits, bit}
use Rattle.paper.specs.Versions.{is_pixel}
use Rattle.paper.specs.OperandTokens.{has_shift_scale, plain_modifiers, further_modifiers, has_further, negated, source_modifier, modifier_of, both_laid, relative_laid, destination_laid, type_of}
use Rattle.versions.specs.Sets.{set_of, holds}
use Rattle.versions.proofs.Sets.{Agrees, set_among}
use Rattle.paper.specs.declared.Version.{Version}
use Rattle.paper.specs.Places.{Place}

plain_agree : Agrees plain_modifiers
unfolding holds
plain_agree = refl

further_agree : Agrees further_modifiers
unfolding holds
further_agree = refl

-- the modifiers of most sources, by the code's sets of them
pub source_modifier_lem : (v : Version) (token : ℕ) → source_modifier v (modifier_of token) (type_of token) ≡
    holds (set_of plain_modifiers) (modifier_of token)
    || ((has_further v && holds (set_of further_modifiers) (modifier_of token)) || negated (modifier_of token) (type_of token))
source_modifier_lem v token =
    rw (set_among plain_modifiers plain_agree (modifier_of token) (omega arith), set_among further_modifiers further_agree (modifier_of token) (omega arith))

-- the same tests, bit 13 by itself
relative_last : (a b c d e : Bool) → a && (b && (c && (d && e))) ≡ (a && (b && (c && d))) && e
relative_last false b c d e = refl
relative_last true false c d e = refl
relative_last true true false d e = refl
relative_last true true true false e = refl
relative_last true true true true e = refl

pub destination_order : (v : Version) (place : Place) (token : ℕ) → destination_laid v place token ≡
    (both_laid token && ((eqb (bits 22 21 token) 0 || is_pixel v) && (eqb (bit 23 token) 0 && (eqb (bits 27 24 token) 0 || has_shift_scale v))))
    && relative_laid v place token
destination_order v place token =
    relative_last (both_laid token) (eqb (bits 22 21 token) 0 || is_pixel v) (eqb (bit 23 token) 0) (eqb (bits 27 24 token) 0 || has_shift_scale v) (relative_laid v place token)
