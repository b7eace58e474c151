-- What the kinds of places say of a token.
use mathlib.Core.Path.{◌≡◌, refl, sym}
use mathlib.Core.Bool.{true, false}
use Prim.Native.Nat.{ℕ}
use Rattle.paper.specs.Notation.{pick}
use Rattle.paper.specs.Places.{Place, raw, usage, declared, destination, source, condition, predicate, relative, is_raw, is_destination}
use Rattle.paper.specs.OperandTokens.{is_free, destination_laid, source_laid, laid}
use Rattle.paper.proofs.Bools.{never}
use Rattle.paper.specs.declared.Version.{Version}

pub laid_by : (v : Version) (place : Place) (token : ℕ) → is_raw place ≡ false →
    laid v place token ≡ pick (is_destination place) (destination_laid v place token) (source_laid v place token)
laid_by v raw token r = never (sym r)
laid_by v usage token r = never (sym r)
laid_by v declared token r = refl
laid_by v (destination types) token r = refl
laid_by v (source types) token r = refl
laid_by v condition token r = refl
laid_by v predicate token r = refl
laid_by v relative token r = refl

-- a place that is free is not kept as it stands
pub free_unraw : (place : Place) → is_raw place ≡ true → is_free place ≡ false
free_unraw raw r = refl
free_unraw usage r = refl
free_unraw declared r = never r
free_unraw (destination types) r = never r
free_unraw (source types) r = never r
free_unraw condition r = never r
free_unraw predicate r = never r
free_unraw relative r = never r
