-- The number leaves one rule of the controls.
use mathlib.Core.Path.{◌≡◌, refl}
use Prim.Native.Nat.{ℕ}
use lib.Dec.{eqb}
use Rattle.paper.specs.Notation.{pick}
use Rattle.paper.proofs.OneToOne.{told_back}
use Rattle.shapes.specs.Rules.{rule_number}
use Rattle.shapes.specs.declared.Rule.{Rule}
use Rattle.shapes.specs.declared.Rule.TheVariants.{Zero, Comparison, Texture, Sizeless}

abbrev numbered_rule : ℕ → Rule
numbered_rule n = pick (eqb n 1) Comparison (pick (eqb n 2) Texture (pick (eqb n 3) Sizeless Zero))

rule_back : (r : Rule) → numbered_rule (rule_number r) ≡ r
rule_back Zero = refl
rule_back Comparison = refl
rule_back Texture = refl
rule_back Sizeless = refl

pub same_rule : (a b : Rule) → rule_number a ≡ rule_number b → a ≡ b
same_rule = told_back rule_number numbered_rule rule_back
