-- A version's token names it; and what is computed of each version holds of every one.
use Rattle.std.specs.Prelude.{Some}
use Prim.Native.Nat.{ℕ}
use mathlib.Core.Path.{◌≡◌, refl}
use mathlib.Core.Bool.{Bool, true, false, ◌&&◌}
use mathlib.Core.List.{List, [], ◌∷◌}
use lib.Dec.{eqb}
use Rattle.paper.specs.Notation.{pick}
use Rattle.paper.specs.Versions.{versions, version_token, named_among, named}
use Rattle.paper.specs.declared.Version.{Version}
use Rattle.paper.specs.declared.Version.TheVariants.{V2, V3, P2, P3, V1, P11, P12, P13, P14}
use Rattle.paper.proofs.Bools.{both_left, both_right, apart}

pub named_back : (v : Version) → named (version_token v) ≡ Some v
named_back V2 = refl
named_back V3 = refl
named_back P2 = refl
named_back P3 = refl
named_back V1 = refl
named_back P11 = refl
named_back P12 = refl
named_back P13 = refl
named_back P14 = refl

-- a rule of versions, tested on each of a list
abbrev pub in_each : (Version → Bool) → List Version → Bool
in_each rule [] = true
in_each rule (v ∷ vs) = rule v && in_each rule vs

each_named : (rule : Version → Bool) (vs : List Version) (token : ℕ) (v : Version) → in_each rule vs ≡ true → named_among vs token ≡ Some v → rule v ≡ true
each_named rule [] token v t e = apart (cc)
each_named rule (w ∷ vs) token v t e =
    by (eqb token (version_token w)) (each_named rule vs token v (both_right (rule w) (in_each rule vs) t)) e
  where
    by : (b : Bool) → (named_among vs token ≡ Some v → rule v ≡ true) → pick b (Some w) (named_among vs token) ≡ Some v → rule v ≡ true
    by true next h = let same : w ≡ v = cc in rw (← same) (both_left (rule w) (in_each rule vs) t)
    by false next h = next h

pub each : (rule : Version → Bool) → in_each rule versions ≡ true → (v : Version) → rule v ≡ true
each rule tested v = each_named rule versions (version_token v) v tested (named_back v)
