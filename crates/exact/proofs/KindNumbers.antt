-- What is told of the kind of a row's operands leaves one number.
use mathlib.Core.Path.{◌≡◌, refl, sym, ◌∙◌}
use mathlib.Core.Bool.{Bool, true, false}
use Prim.Native.Nat.{ℕ}
use lib.Dec.{eqb}
use borrow.Author.Tests.{eqb-true}
use Rattle.paper.specs.Notation.{pick}
use Rattle.paper.proofs.OneToOne.{told_back}
use Rattle.exact.specs.declared.Kind.{Kind}
use Rattle.exact.specs.declared.Kind.TheVariants.{Empty, Ds, Dss, Dsss, Sampled, Source, Constant}
use Rattle.exact.specs.Exact.{kind_by, kind_number}

-- a kind that has this number, whatever else it may be
step : (n m : ℕ) (b : Bool) (a other : Kind) → eqb n m ≡ b → kind_number a ≡ m → kind_number other ≡ n → kind_number (pick b a other) ≡ n
step n m true a other e is rest = is ∙ sym (eqb-true n m e)
step n m false a other e is rest = rest

pub kind_back : (n : ℕ) → kind_number (kind_by n) ≡ n
kind_back n =
    step n 1 _ Empty _ refl refl (step n 2 _ Ds _ refl refl (step n 3 _ Dss _ refl refl (step n 4 _ Dsss _ refl refl
    (step n 5 _ Sampled _ refl refl (step n 6 _ Source _ refl refl (step n 7 _ Constant _ refl refl refl))))))

pub same_kind : (n m : ℕ) → kind_by n ≡ kind_by m → n ≡ m
same_kind = told_back kind_by kind_number kind_back
