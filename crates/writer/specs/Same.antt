-- A record compared with another, number by number.
use Rattle.std.specs.Prelude.{ℕ, Bool, true, false, ◌&&◌, List, [], ◌∷◌, eqb}
use Rattle.records.specs.declared.Operand.{Operand}
use Rattle.records.specs.declared.Record.{Record}

-- a number and those behind it, compared with others
abbrev pub same_numbers : ℕ → List ℕ → ℕ → List ℕ → Bool
same_numbers m [] n [] = eqb m n
same_numbers m [] n (k ∷ others) = false
same_numbers m (k ∷ rest) n [] = false
same_numbers m (k ∷ rest) n (l ∷ others) = eqb m n && same_numbers k rest l others

abbrev pub operand_numbers : Operand → List ℕ
operand_numbers a =
    a.kind
    ∷ (a.mask
    ∷ (a.swizzle
    ∷ (a.modifier
    ∷ (a.result
    ∷ (a.shift
    ∷ (a.relative
    ∷ (a.relative_number
    ∷ (a.relative_kind
    ∷ (a.relative_swizzle
    ∷ (a.raw ∷ []))))))))))

abbrev pub same_operand : Operand → Operand → Bool
same_operand a b = same_numbers a.number (operand_numbers a) b.number (operand_numbers b)

unfoldable pub same_operands : List Operand → List Operand → Bool
same_operands [] [] = true
same_operands [] (b ∷ others) = false
same_operands (a ∷ rest) [] = false
same_operands (a ∷ rest) (b ∷ others) = same_operand a b && same_operands rest others

abbrev pub record_numbers : Record → List ℕ
record_numbers a = a.controls ∷ (a.predicated ∷ (a.coissue ∷ (a.extent ∷ [])))

abbrev pub same_fields : Record → Record → Bool
same_fields a b = same_numbers a.opcode (record_numbers a) b.opcode (record_numbers b)

unfoldable pub same_record : Record → Record → Bool
same_record a b = same_fields a b && same_operands a.operands b.operands
