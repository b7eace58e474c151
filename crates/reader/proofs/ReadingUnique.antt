-- The reader's answer is one: what it tells of a version, tokens and a place leaves no other. A record is that of its instruction's own tokens.
use Rattle.std.specs.Prelude.{Ok, Err}
use mathlib.Core.Path.{◌≡◌, sym, ap, ◌∙◌}
use mathlib.Core.List.{List}
use Prim.Native.Nat.{ℕ, suc, ◌+◌, ◌<◌}
use lib.ListN.{length, take, drop}
use borrow.Author.Tests.{lt-ltb}
use Rattle.paper.specs.Instruction.{judged}
use Rattle.paper.specs.declared.Version.{Version}
use Rattle.paper.proofs.OneToOne.{same_refusal, no_reason_zero}
use Rattle.paper.specs.declared.Class.{Class}
use Rattle.paper.specs.Judgements.{good_instruction}
use Rattle.records.specs.declared.Record.{Record}
use Rattle.records.specs.Record.{record_of}
use Rattle.records.proofs.OwnRecord.{record_own}
use Rattle.reader.specs.Reading.{Answer, got, reading_at, reading, ToldReading, told_reading}

-- what a reading tells is that reading's alone
pub told_one : (a b : Answer) → told_reading a ≡ told_reading b → a ≡ b
unfolding told_reading
told_one (Ok r) (Ok s) e =
    ap (λ next. got next r.instruction) (ap (λ (t : ToldReading). t.next) e) ∙ ap (got s.next) (ap (λ (t : ToldReading). t.instruction) e)
told_one (Ok r) (Err s) e = absurd (no_reason_zero s.reason (ap (λ (t : ToldReading). t.number) e))
told_one (Err r) (Ok s) e = absurd (no_reason_zero r.reason (sym (ap (λ (t : ToldReading). t.number) e)))
told_one (Err r) (Err s) e =
    ap Err (same_refusal r s (ap (λ (t : ToldReading). t.number) e) (ap (λ (t : ToldReading). t.position) e) (ap (λ (t : ToldReading). t.detail) e))

-- the next place and the record of a yes
pub same_got : {m n : ℕ} {i j : Record} → got m i ≡ got n j → (m ≡ n) × (i ≡ j)
unfolding told_reading
same_got e = let told = ap told_reading e in (ap (λ (t : ToldReading). t.next) told, ap (λ (t : ToldReading). t.instruction) told)

pub reading_unique : (version : ℕ) (tokens : List ℕ) (at : ℕ) (r : Answer) → told_reading r ≡ told_reading (reading version tokens at) → r ≡ reading version tokens at
reading_unique version tokens at r e = told_one r (reading version tokens at) e

-- "one instruction has one record"
pub reading_own : (v : Version) (tokens : List ℕ) (at size : ℕ) (class : Class) → at < length tokens → judged v (drop at tokens) ≡ good_instruction size class →
    reading_at v tokens at ≡ got (at + size + 1) (record_of v (take (suc size) (drop at tokens)))
unfolding reading_at
reading_own v tokens at size class some j = rw (lt-ltb at (length tokens) some, j, record_own v (drop at tokens) j)
