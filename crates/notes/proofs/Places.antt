-- Where a note lies: ahead of the place that the search began at, its comments before it, and the next place behind it, inside the tokens.
use Rattle.std.specs.Prelude.{Ok, Err}
use mathlib.Core.Path.{◌≡◌, sym, ap, ◌∙◌}
use mathlib.Core.List.{List}
use Prim.Native.Nat.{ℕ, suc, ◌+◌, ◌≤◌, ◌<◌}
use native.Mathlib.Omega.{arith}
use lib.ListN.{length, drop, length-drop}
use Rattle.paper.specs.Instruction.{judged}
use Rattle.paper.specs.declared.Version.{Version}
use Rattle.paper.specs.declared.Class.{Class}
use Rattle.paper.specs.declared.Refusal.{Refusal}
use Rattle.paper.specs.Judgements.{good_instruction}
use Rattle.paper.proofs.OneToOne.{no_reason_zero}
use Rattle.paper.proofs.OwnTokens.{good_within}
use Rattle.notes.specs.declared.Note.{Note}
use Rattle.notes.specs.Noted.{note, noted, told_noted, Noted}
use Rattle.notes.proofs.Ends.{search_ends, every_answer}
use Rattle.notes.proofs.OneAnswer.{same_noted}

-- a refusal is no note
never_found : (r : Refusal) (n : Note) → ◌≡◌ {A = Noted} (Err r) (Ok n) → ⊥
unfolding told_noted
never_found r n e = no_reason_zero r.reason (sym (ap (λ (x : Noted). (told_noted x).number) e))

-- a note found from a place on
pub record Lies (tokens : List ℕ) (from : ℕ) (n : Note) : Type 0 where
  pub comes : from ≤ n.at
  pub begins : n.comments ≤ n.at
  pub ends : n.at < n.next
  pub inside : n.next ≤ length tokens

module _ (tokens : List ℕ) (from : ℕ) where
  abbrev Told : Noted → Type 0
  Told x = (n : Note) → x ≡ Ok n → Lies tokens from n

  refused : (r : Refusal) → Told (Err r)
  refused r n e = absurd (never_found r n e)

  pub lying : (v : Version) (p size notes comments : ℕ) (class : Class) → from ≤ p → comments ≤ p → p < length tokens →
      judged v (drop p tokens) ≡ good_instruction size class → Told (Ok (note notes p comments (p + suc size)))
  lying v p size notes comments class ahead behind some j n e =
      let at : p ≡ n.at = cc in
      let begin : comments ≡ n.comments = cc in
      let next : p + suc size ≡ n.next = cc in
      record {
        comes = omega arith;
        begins = omega arith;
        ends = omega arith;
        inside = omega (arith, good_within size class v (drop p tokens) j, length-drop p tokens);
      }

  pub found_lies : (version : ℕ) (n : Note) → noted version tokens from ≡ Ok n → Lies tokens from n
  found_lies = every_answer tokens from Told (refused _) (refused _) (λ v. search_ends v tokens from Told (refused _) (λ p r some j. refused _) (lying v))

  -- of an answer that tells it
  pub told_lies : (version : ℕ) (answer : Noted) → told_noted answer ≡ told_noted (noted version tokens from) → (n : Note) → answer ≡ Ok n → Lies tokens from n
  told_lies version answer e n f = found_lies version n (sym (same_noted answer (noted version tokens from) e) ∙ f)
