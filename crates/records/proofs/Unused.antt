-- An operand whose fields are all zero is that of an unused place.
use mathlib.Core.Path.{◌≡◌}
use Rattle.std.proofs.Common.{rules}
use Rattle.records.specs.declared.Operand.{Operand}
use Rattle.records.specs.Record.{no_operand}

pub all_zero : (o : Operand) → (o.number ≡ 0) × ((o.kind ≡ 0) × ((o.mask ≡ 0) ×
    ((o.swizzle ≡ 0) × ((o.modifier ≡ 0) × ((o.result ≡ 0) ×
    ((o.shift ≡ 0) × ((o.relative ≡ 0) × ((o.relative_number ≡ 0) ×
    ((o.relative_kind ≡ 0) × ((o.relative_swizzle ≡ 0) × (o.raw ≡ 0))))))))))) → o ≡ no_operand
all_zero o zero = search rules
