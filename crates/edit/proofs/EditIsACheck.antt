-- An edit of an accepted stream is a check of the splice: the same yes or no, and of a no the same number and position.
use Rattle.std.specs.Prelude.{Some, Ok, Err}
use Prim.Native.Nat.{ℕ}
use mathlib.Core.Path.{◌≡◌, refl, ap, sym, ◌∙◌}
use mathlib.Core.Bool.{Bool, true, false}
use mathlib.Core.Option.{some}
use mathlib.Core.List.{List}
use lib.ListN.{length, get_or}
use Rattle.paper.specs.Notation.{pick}
use Rattle.paper.specs.Numbers.{refusal}
use Rattle.paper.specs.Versions.{named}
use Rattle.paper.specs.Stream.{walked, verdict, length_laid, on_named}
use Rattle.paper.specs.declared.Version.{Version}
use Rattle.paper.specs.Judgements.{Verdict}
use Rattle.paper.specs.declared.Reason.TheVariants.{Length as LENGTH}
use Rattle.paper.specs.declared.Refusal.{Refusal}
use Rattle.edit.specs.declared.Edited.TheVariants.{Joined, Accepted}
use Rattle.edit.specs.Edit.{splice, new_length, placed, fits, meets_at_end, on_verdict, edited, Outcome}
use Rattle.edit.specs.Refusals.{edit_refusal, check_refusal}
use Rattle.paper.proofs.Bools.{apart}
use Rattle.edit.proofs.Allowed.{Allowed, places, allowed_answer, new_length_lem, splice_verdict}
use Rattle.edit.proofs.JoinedIsTheOldVerdict.{joined_accepted}

same_refusal : (x : Verdict) (n : ℕ) → edit_refusal (on_verdict x n) ≡ check_refusal x
same_refusal (Ok c) n = refl
same_refusal (Err r) n = refl

-- An edit that is allowed, of any stream, accepted or not, is JOINED if the states meet at the run's end, and else has the verdict of the splice and the splice's length.
pub answered : (room : ℕ) (old : List ℕ) (i j : ℕ) (run : List ℕ) (v : Version) → Allowed room old i j run v →
    edited room old i j run ≡
    pick (meets_at_end v old i j run) (Ok (Joined (length (splice old i j run)))) (on_verdict (verdict (splice old i j run)) (length (splice old i j run)))
answered room old i j run v a =
    let p = places v old i j a.place in
    let size = new_length_lem old i j run p.behind p.order p.before in
    allowed_answer room old i j run v a ∙ rw (← size, splice_verdict a)

-- Unless it is JOINED, an edit that is allowed, also of a refused stream, is a check of the splice.
pub unless_joined : (room : ℕ) (old : List ℕ) (i j : ℕ) (run : List ℕ) (v : Version) → Allowed room old i j run v →
    ((n : ℕ) → edited room old i j run ≡ Ok (Joined n) → ⊥) → edit_refusal (edited room old i j run) ≡ check_refusal (verdict (splice old i j run))
unless_joined room old i j run v a never = this (meets_at_end v old i j run) (answered room old i j run v a)
  where
    this : (b : Bool) →
        edited room old i j run ≡ pick b (Ok (Joined (length (splice old i j run)))) (on_verdict (verdict (splice old i j run)) (length (splice old i j run))) →
        edit_refusal (edited room old i j run) ≡ check_refusal (verdict (splice old i j run))
    this true e = absurd (never (length (splice old i j run)) e)
    this false e = ap edit_refusal e ∙ same_refusal (verdict (splice old i j run)) (length (splice old i j run))

-- an accepted stream has a lawful length
accepted_laid : (b : Bool) (x : Verdict) (c : ℕ) → pick b x (Err (refusal LENGTH 0)) ≡ Ok c → b ≡ true
accepted_laid true x c e = refl
accepted_laid false x c e = apart (cc)

laid_accepted : (old : List ℕ) (c : ℕ) → verdict old ≡ Ok c → length_laid (length old) ≡ true
unfolding verdict
laid_accepted old c e = accepted_laid (length_laid (length old)) (on_named (named (get_or old 0 0)) (λ v. walked v old)) c e

-- Take an accepted stream, two of its boundaries in order, and a run that fits.
module _ (room : ℕ) (old : List ℕ) (i j : ℕ) (run : List ℕ) (v : Version) (c : ℕ)
    (accepted : verdict old ≡ Ok c) (version : named (get_or old 0 0) ≡ Some v)
    (place : placed v old i j ≡ true) (fit : fits room (new_length (length old) i j (length run)) ≡ true) where
  allowed : Allowed room old i j run v
  allowed = record { laid = laid_accepted old c accepted; known = version; place = place; fit = fit }

  -- The edit is a yes exactly if a check of the splice is one, and where they are refusals they are equal, in number and position.
  pub edit_is_a_check : edit_refusal (edited room old i j run) ≡ check_refusal (verdict (splice old i j run))
  edit_is_a_check = this (edited room old i j run) refl
    where
      this : (x : Outcome) → edited room old i j run ≡ x → edit_refusal (edited room old i j run) ≡ check_refusal (verdict (splice old i j run))
      this (Ok (Joined n)) e = ap edit_refusal e ∙ sym (ap check_refusal (joined_accepted room old i j run n e c accepted).1)
      this (Ok (Accepted n)) e = unless_joined room old i j run v allowed (λ m f. apart (cc))
      this (Err r) e = unless_joined room old i j run v allowed (λ m f. apart (cc))

  -- In particular: where the check of the splice refuses, the edit gives that refusal,
  pub check_refuses : (r : Refusal) → verdict (splice old i j run) ≡ Err r → edited room old i j run ≡ Err r
  check_refuses r e = this (edited room old i j run) (edit_is_a_check ∙ ap check_refusal e)
    where
      this : (x : Outcome) → edit_refusal x ≡ some r → x ≡ Err r
      this (Ok (Joined n)) f = apart (cc)
      this (Ok (Accepted n)) f = apart (cc)
      this (Err s) f = cc

  -- and where the edit refuses, the check of the splice gives that refusal.
  pub edit_refuses : (r : Refusal) → edited room old i j run ≡ Err r → verdict (splice old i j run) ≡ Err r
  edit_refuses r e = this (verdict (splice old i j run)) (sym edit_is_a_check ∙ ap edit_refusal e)
    where
      this : (x : Verdict) → check_refusal x ≡ some r → x ≡ Err r
      this (Ok d) f = apart (cc)
      this (Err s) f = cc
