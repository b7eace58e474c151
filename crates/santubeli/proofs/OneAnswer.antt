-- The promise of the entry that writes leaves one struct and one content of the buffer, refusals too. The other entries promise equations.
use mathlib.Core.Path.{◌≡◌, ap}
use mathlib.Core.List.{List}
use Prim.Native.Nat.{ℕ}
use Rattle.records.specs.declared.Record.{Record}
use Rattle.writer.specs.Writing.{ToldWriting, Writes}
use Rattle.writer.proofs.Exactly.{one_writing_lem}
use Rattle.santubeli.specs.declared.WriteAnswer.{WriteAnswer}
use Rattle.santubeli.specs.Entries.{write_told}

-- the struct that tells this
abbrev telling : ToldWriting → WriteAnswer
telling told = record { number = told.number; position = told.position; next = told.next }

pub one_write_answer : (version : ℕ) (r : Record) (body buffer : List ℕ) (at : ℕ) (a b : WriteAnswer) (x y : List ℕ) →
    Writes version r body buffer at (write_told a) x → Writes version r body buffer at (write_told b) y → (a ≡ b) × (x ≡ y)
one_write_answer version r body buffer at a b x y p q =
    let one = one_writing_lem version r body buffer at p q in
    (ap telling one.0, one.1)
