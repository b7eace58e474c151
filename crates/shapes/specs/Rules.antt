-- The rules of the controls, by their numbers in a shape.
use Rattle.std.specs.Prelude.{ℕ}
use Rattle.shapes.specs.declared.Rule.{Rule}
use Rattle.shapes.specs.declared.Rule.TheVariants.{Zero, Comparison, Texture, Sizeless}

abbrev pub rule_number : Rule → ℕ
rule_number Zero = 0
rule_number Comparison = 1
rule_number Texture = 2
rule_number Sizeless = 3
