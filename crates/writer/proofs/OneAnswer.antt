-- The writer's promise leaves one answer and one content of the buffer, refusals too.
use Rattle.std.specs.Prelude.{Ok, Err}
use mathlib.Core.Path.{◌≡◌, sym, ap}
use mathlib.Core.List.{List}
use Prim.Native.Nat.{ℕ}
use Rattle.records.specs.declared.Record.{Record}
use Rattle.paper.proofs.OneToOne.{same_reason, no_reason_zero}
use Rattle.writer.specs.Writing.{Written, ToldWriting, told_writing, Writes}
use Rattle.writer.proofs.Exactly.{one_writing_lem}

-- what a writing tells is that writing's alone
pub told_one : (a b : Written) → told_writing a ≡ told_writing b → a ≡ b
told_one (Ok m) (Ok n) e = ap Ok (ap (λ (t : ToldWriting). t.next) e)
told_one (Ok m) (Err s) e = absurd (no_reason_zero s (ap (λ (t : ToldWriting). t.number) e))
told_one (Err r) (Ok n) e = absurd (no_reason_zero r (sym (ap (λ (t : ToldWriting). t.number) e)))
told_one (Err r) (Err s) e = ap Err (same_reason r s (ap (λ (t : ToldWriting). t.number) e))

module _ (version : ℕ) (r : Record) (body buffer : List ℕ) (at : ℕ) where
  -- what `write` promises of its answer and of the buffer as it leaves it
  pub Promised : Written → List ℕ → Type 0
  Promised answer after = Writes version r body buffer at (told_writing answer) after

  pub one_answer : (a b : Written) (x y : List ℕ) → Promised a x → Promised b y → (a ≡ b) × (x ≡ y)
  unfolding Promised
  one_answer a b x y p q = let one = one_writing_lem version r body buffer at p q in (told_one a b one.0, one.1)
