-- What is told of the first note from a place on leaves one answer.
use Rattle.std.specs.Prelude.{Ok, Err}
use mathlib.Core.Path.{◌≡◌, sym, ap}
use mathlib.Core.List.{List}
use Prim.Native.Nat.{ℕ}
use Rattle.paper.proofs.OneToOne.{same_refusal, no_reason_zero}
use Rattle.notes.specs.declared.Note.{Note}
use Rattle.notes.specs.Noted.{note, noted, ToldNoted, told_noted, Noted}

-- the note that tells this
abbrev telling : ToldNoted → Note
telling told = note told.notes told.at told.comments told.next

pub same_noted : (a b : Noted) → told_noted a ≡ told_noted b → a ≡ b
unfolding told_noted
same_noted (Ok m) (Ok n) e = ap Ok (ap telling e)
same_noted (Ok m) (Err s) e = absurd (no_reason_zero s.reason (ap (λ (t : ToldNoted). t.number) e))
same_noted (Err r) (Ok n) e = absurd (no_reason_zero r.reason (sym (ap (λ (t : ToldNoted). t.number) e)))
same_noted (Err r) (Err s) e = ap Err (same_refusal r s (ap (λ t. t.number) e) (ap (λ t. t.position) e) (ap (λ t. t.detail) e))

pub one_note : (version : ℕ) (tokens : List ℕ) (at : ℕ) (a : Noted) → told_noted a ≡ told_noted (noted version tokens at) → a ≡ noted version tokens at
one_note version tokens at a e = same_noted a (noted version tokens at) e
