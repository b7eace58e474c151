-- What is told of an edit leaves one answer, and the promise of an edit leaves one content.
use Rattle.std.specs.Prelude.{Ok, Err}
use Prim.Native.Nat.{ℕ}
use mathlib.Core.Path.{◌≡◌, ap, sym, ◌∙◌}
use mathlib.Core.List.{List}
use Rattle.paper.proofs.OneToOne.{same_refusal, no_reason_zero}
use Rattle.edit.specs.declared.Edited.TheVariants.{Joined, Accepted}
use Rattle.edit.specs.Edit.{ToldEdit, told_edit, edited_in, buffer_after, Outcome}
use Rattle.paper.proofs.Bools.{apart}

-- Of two edits one thing is told only if they have one answer.
pub same_edit : (a b : Outcome) → told_edit a ≡ told_edit b → a ≡ b
same_edit (Ok (Joined n)) (Ok (Joined m)) e = ap (λ (n : ℕ). Ok (Joined n)) (ap (λ (t : ToldEdit). t.tokens) e)
same_edit (Ok (Joined n)) (Ok (Accepted m)) e = apart (sym (ap (λ (t : ToldEdit). t.joined) e))
same_edit (Ok (Joined n)) (Err r) e = absurd (no_reason_zero r.reason (ap (λ (t : ToldEdit). t.number) e))
same_edit (Ok (Accepted n)) (Ok (Joined m)) e = apart (ap (λ (t : ToldEdit). t.joined) e)
same_edit (Ok (Accepted n)) (Ok (Accepted m)) e = ap (λ (n : ℕ). Ok (Accepted n)) (ap (λ (t : ToldEdit). t.tokens) e)
same_edit (Ok (Accepted n)) (Err r) e = absurd (no_reason_zero r.reason (ap (λ (t : ToldEdit). t.number) e))
same_edit (Err a) (Ok (Joined m)) e = absurd (no_reason_zero a.reason (sym (ap (λ (t : ToldEdit). t.number) e)))
same_edit (Err a) (Ok (Accepted m)) e = absurd (no_reason_zero a.reason (sym (ap (λ (t : ToldEdit). t.number) e)))
same_edit (Err a) (Err b) e =
    ap Err (same_refusal a b (ap (λ (t : ToldEdit). t.number) e) (ap (λ (t : ToldEdit). t.position) e) (ap (λ (t : ToldEdit). t.detail) e))

-- The promise of an edit, that it tells the definition's answer and leaves the definition's buffer, leaves one answer and one content:
-- two answers with contents that both keep it are equal.
pub one_answer : (buffer : List ℕ) (n i j : ℕ) (run : List ℕ) (a b : Outcome) (x y : List ℕ) →
    told_edit a ≡ told_edit (edited_in buffer n i j run) → x ≡ buffer_after buffer n i j run →
    told_edit b ≡ told_edit (edited_in buffer n i j run) → y ≡ buffer_after buffer n i j run → (a ≡ b) × (x ≡ y)
one_answer buffer n i j run a b x y told-a is_x told-b is_y = (same_edit a b (told-a ∙ sym told-b), is_x ∙ sym is_y)
