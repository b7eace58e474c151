-- Two records compared: the test holds exactly where they are equal.
use mathlib.Core.Path.{◌≡◌, refl}
use mathlib.Core.Bool.{true}
use mathlib.Core.List.{List, [], ◌∷◌}
use Prim.Native.Nat.{ℕ}
use lib.Dec.{eqb}
use borrow.Author.Tests.{eqb-true, eq-eqb}
use Rattle.paper.proofs.Bools.{both_left, both_right, apart}
use Rattle.records.specs.declared.Operand.{Operand}
use Rattle.records.specs.declared.Record.{Record}
use Rattle.writer.specs.Same.{same_numbers, operand_numbers, same_operand, same_operands, record_numbers, same_fields, same_record}

-- equal numbers
numbers_equal : (m : ℕ) (rest : List ℕ) (n : ℕ) (others : List ℕ) → same_numbers m rest n others ≡ true → ◌≡◌ {A = List ℕ} (m ∷ rest) (n ∷ others)
numbers_equal m [] n [] h = let one = eqb-true m n h in cc
numbers_equal m [] n (l ∷ others) h = apart (cc)
numbers_equal m (k ∷ rest) n [] h = apart (cc)
numbers_equal m (k ∷ rest) n (l ∷ others) h =
    let one = eqb-true m n (both_left (eqb m n) (same_numbers k rest l others) h) in
    let later = numbers_equal k rest l others (both_right (eqb m n) (same_numbers k rest l others) h) in
    cc

numbers_own : (m : ℕ) (rest : List ℕ) → same_numbers m rest m rest ≡ true
numbers_own m [] = eq-eqb m m refl
numbers_own m (k ∷ rest) = rw (eq-eqb m m refl) (numbers_own k rest)

-- make an equal operand, and an equal record
unfoldable operand_of_lem : ℕ → ℕ → ℕ → ℕ → ℕ → ℕ → ℕ → ℕ → ℕ → ℕ → ℕ → ℕ → Operand
operand_of_lem number kind mask swizzle modifier result shift relative number2 kind2 swizzle2 raw =
    record {
      number = number;
      kind = kind;
      mask = mask;
      swizzle = swizzle;
      modifier = modifier;
      result = result;
      shift = shift;
      relative = relative;
      relative_number = number2;
      relative_kind = kind2;
      relative_swizzle = swizzle2;
      raw = raw;
    }

operand_same : (a a' b b' c c' d d' e e' f f' g g' h h' i i' j j' k k' l l' : ℕ) →
    ◌≡◌ {A = List ℕ} (a ∷ (b ∷ (c ∷ (d ∷ (e ∷ (f ∷ (g ∷ (h ∷ (i ∷ (j ∷ (k ∷ (l ∷ [])))))))))))) (a' ∷ (b' ∷ (c' ∷ (d' ∷ (e' ∷ (f' ∷ (g' ∷ (h' ∷ (i' ∷ (j' ∷ (k' ∷ (l' ∷ [])))))))))))) →
    operand_of_lem a b c d e f g h i j k l ≡ operand_of_lem a' b' c' d' e' f' g' h' i' j' k' l'
operand_same a a' b b' c c' d d' e e' f f' g g' h h' i i' j j' k k' l l' z = cc

pub operand_equal : (a b : Operand) → same_operand a b ≡ true → a ≡ b
unfolding operand_of_lem
operand_equal a b h = operand_same _ _ _ _ _ _ _ _ _ _ _ _ _ _ _ _ _ _ _ _ _ _ _ _ (numbers_equal a.number (operand_numbers a) b.number (operand_numbers b) h)

-- field by field
pub operand_by : (a b : Operand) → a.number ≡ b.number → a.kind ≡ b.kind → a.mask ≡ b.mask → a.swizzle ≡ b.swizzle → a.modifier ≡ b.modifier →
    a.result ≡ b.result → a.shift ≡ b.shift → a.relative ≡ b.relative → a.relative_number ≡ b.relative_number →
    a.relative_kind ≡ b.relative_kind → a.relative_swizzle ≡ b.relative_swizzle → a.raw ≡ b.raw → a ≡ b
unfolding operand_of_lem
operand_by a b c d e f g h i j k l m n = operand_same _ _ _ _ _ _ _ _ _ _ _ _ _ _ _ _ _ _ _ _ _ _ _ _ (cc)

unfoldable record_of : ℕ → ℕ → ℕ → ℕ → ℕ → List Operand → Record
record_of opcode controls predicated coissue size operands =
    record { opcode = opcode; controls = controls; predicated = predicated; coissue = coissue; extent = size; operands = operands }

record_same : (a a' b b' c c' d d' e e' : ℕ) (f f' : List Operand) →
    ◌≡◌ {A = List ℕ} (a ∷ (b ∷ (c ∷ (d ∷ (e ∷ []))))) (a' ∷ (b' ∷ (c' ∷ (d' ∷ (e' ∷ []))))) → f ≡ f' →
    record_of a b c d e f ≡ record_of a' b' c' d' e' f'
record_same a a' b b' c c' d d' e e' f f' z t = cc

pub record_by_lem : (a b : Record) → a.opcode ≡ b.opcode → a.controls ≡ b.controls → a.predicated ≡ b.predicated → a.coissue ≡ b.coissue → a.extent ≡ b.extent →
    a.operands ≡ b.operands → a ≡ b
unfolding record_of
record_by_lem a b c d e f g h = record_same _ _ _ _ _ _ _ _ _ _ _ _ (cc) h

operands_equal : (a b : List Operand) → same_operands a b ≡ true → a ≡ b
unfolding same_operands
operands_equal [] [] h = refl
operands_equal [] (y ∷ b) h = apart (cc)
operands_equal (x ∷ a) [] h = apart (cc)
operands_equal (x ∷ a) (y ∷ b) h =
    let one = operand_equal x y (both_left (same_operand x y) (same_operands a b) h) in
    let rest = operands_equal a b (both_right (same_operand x y) (same_operands a b) h) in
    cc

pub record_equal : (a b : Record) → same_record a b ≡ true → a ≡ b
unfolding same_record record_of
record_equal a b h =
    record_same _ _ _ _ _ _ _ _ _ _ _ _
    (numbers_equal a.opcode (record_numbers a) b.opcode (record_numbers b) (both_left (same_fields a b) (same_operands a.operands b.operands) h))
    (operands_equal a.operands b.operands (both_right (same_fields a b) (same_operands a.operands b.operands) h))

-- an operand is the same as itself, and a record is
pub operand_own : (a : Operand) → same_operand a a ≡ true
operand_own a = numbers_own a.number (operand_numbers a)

operands_own : (a : List Operand) → same_operands a a ≡ true
unfolding same_operands
operands_own [] = refl
operands_own (x ∷ a) = rw (operand_own x) (operands_own a)

pub record_own : (a : Record) → same_record a a ≡ true
unfolding same_record
record_own a = rw (numbers_own a.opcode (record_numbers a)) (operands_own a.operands)
