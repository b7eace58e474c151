use mathlib.Core.Path.{◌≡◌, refl}
use mathlib.Core.List.{List}
use Prim.Native.Nat.{ℕ}
use Rattle.paper.specs.Places.{predicate}
use Rattle.places.specs.Places.{place_by}
use Rattle.records.specs.Record.{width_at}
use Rattle.records.proofs.read_predicate.Goals as goal

is_predicate : place_by 93 ≡ predicate
unfolding place_by
is_predicate = refl

one : (tokens : List ℕ) → width_at predicate tokens ≡ 1
unfolding width_at
one tokens = refl

pub read_operand-requires : goal.read_operand-requires
read_operand-requires c = rw (is_predicate, one _) (rw c.if-predicated.true at c.requires)

pub returns-then-predicated : goal.returns-then-predicated
returns-then-predicated c =
    let e = c.read_operand.ensures in
    rw c.if-predicated.true (rw is_predicate at e.0, rw (is_predicate, one _) at e.1)
