-- What every class of an opcode has, by one test of the table of classes.
use Prim.Native.Nat.{ℕ, suc}
use mathlib.Core.Path.{◌≡◌, refl}
use mathlib.Core.Bool.{Bool, true, false, not, ◌&&◌}
use mathlib.Core.List.{List, [], ◌∷◌}
use native.Mathlib.Omega.{arith}
use lib.Dec.{eqb}
use borrow.Author.Tests.{eqb-true, not-true}
use Rattle.paper.specs.Notation.{pick, among}
use Rattle.paper.specs.Blocks.{Classed, classes, class_among, class_of}
use Rattle.paper.specs.Walk.{counts}
use Rattle.paper.specs.declared.Class.{Class}
use Rattle.paper.specs.declared.Class.TheVariants.{One}
use Rattle.paper.specs.declared.Single.TheVariants.{Plain}
use Rattle.paper.proofs.Bools.{both_left, both_right}
use Rattle.blocks.specs.Begins.{ends_stream}
use Rattle.blocks.proofs.Counting.{counts_add}

module _ (rule : Class → Bool) where
  abbrev every : List Classed → Bool
  every [] = rule (One Plain)
  every (row ∷ rows) = rule row.class && every rows

  picked : (b : Bool) (c d : Class) → rule c ≡ true → rule d ≡ true → rule (pick b c d) ≡ true
  picked true c d h j = h
  picked false c d h j = j

  among_rows : (rows : List Classed) → every rows ≡ true → (opcode : ℕ) → rule (class_among rows opcode) ≡ true
  among_rows [] t opcode = t
  among_rows (row ∷ rows) t opcode =
      picked (among opcode row.opcodes) row.class (class_among rows opcode) (both_left (rule row.class) (every rows) t)
      (among_rows rows (both_right (rule row.class) (every rows) t) opcode)

  pub class_has : every classes ≡ true → (opcode : ℕ) → rule (class_of opcode) ≡ true
  unfolding class_of
  class_has t opcode = among_rows classes t opcode

-- no opcode of the table is END's
pub class_no_end : (opcode : ℕ) → ends_stream (class_of opcode) ≡ false
unfolding classes
class_no_end opcode = not-true (ends_stream (class_of opcode)) (class_has (λ c. not (ends_stream c)) refl opcode)

-- every instruction of the table is counted
pub class_counted : (opcode n : ℕ) → counts (class_of opcode) n ≡ suc n
unfolding classes
class_counted opcode n =
    let one : counts (class_of opcode) 0 ≡ 1 = eqb-true (counts (class_of opcode) 0) 1 (class_has (λ c. eqb (counts c 0) 1) refl opcode) in
    omega (arith, counts_add (class_of opcode) n 0, one)
