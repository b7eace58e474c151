-- The form of U that DCL takes with a register type, as a digit of a version's row has it.
use Rattle.std.specs.Prelude.{ℕ, Option, Some, None}
use Rattle.versions.specs.declared.Form.{Form}
use Rattle.versions.specs.declared.Form.TheVariants.{Sampler, Plain, Usage}

abbrev pub form_number : Option Form → ℕ
form_number None = 0
form_number (Some Sampler) = 1
form_number (Some Plain) = 2
form_number (Some Usage) = 3
