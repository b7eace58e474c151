-- "Both yeses give the new length; the buffer then holds the splice, and what lies past it is as before."
use Rattle.std.specs.Prelude.{Ok, Err}
use Prim.Native.Nat.{ℕ, ◌≤◌}
use mathlib.Core.Path.{◌≡◌, refl, ap, sym, ◌∙◌}
use mathlib.Core.Bool.{Bool, true, false}
use mathlib.Core.List.{List, ◌++◌}
use native.Mathlib.Omega.{arith}
use lib.Dec.{leb}
use lib.ListN.{length, take, drop, length-append, length-drop}
use lib.Seq.{take_at, drop_at}
use borrow.Author.Tests.{leb-true}
use Rattle.paper.specs.Notation.{pick}
use Rattle.paper.specs.Stream.{verdict, most_tokens}
use Rattle.paper.specs.declared.Version.{Version}
use Rattle.paper.specs.declared.Refusal.{Refusal}
use Rattle.paper.specs.Judgements.{Verdict}
use Rattle.edit.specs.declared.Edited.TheVariants.{Joined, Accepted}
use Rattle.edit.specs.Edit.{splice, new_length, meets_at_end, on_verdict, edited, edited_in, held_after, buffer_after, Outcome}
use Rattle.paper.proofs.Bools.{apart, both}
use Rattle.edit.proofs.Allowed.{Allowed, places, joined_allowed, accepted_allowed, joined_held, accepted_held, new_length_lem}
use Rattle.edit.proofs.JoinedIsTheOldVerdict.{joined_accepted}
use Rattle.edit.proofs.EditIsACheck.{answered}

-- the length of the splice of an allowed edit is within the room
allowed_fits : {room : ℕ} {old : List ℕ} {i j : ℕ} {run : List ℕ} {v : Version} → Allowed room old i j run v → length (splice old i j run) ≤ room
allowed_fits {room} {old} {i} {j} {run} {v} a =
    let p = places v old i j a.place in
    let size = new_length (length old) i j (length run) in
    let enough = leb-true size room (both (leb size room) (leb size most_tokens) a.fit).0 in
    omega (arith, new_length_lem old i j run p.behind p.order p.before)

module _ (room : ℕ) (old : List ℕ) (i j : ℕ) (run : List ℕ) (k : ℕ) where
  -- A JOINED edit gives the length of the splice, which is within the room.
  pub joined_length : edited room old i j run ≡ Ok (Joined k) → (k ≡ length (splice old i j run)) × (k ≤ room)
  joined_length e =
      let a = joined_allowed room old i j run k e in
      let size = this (meets_at_end a.0 old i j run) (verdict (splice old i j run)) (sym e ∙ answered room old i j run a.0 a.1) in
      (size, omega (arith, allowed_fits a.1))
    where
      this : (b : Bool) (x : Verdict) → Ok (Joined k) ≡ pick b (Ok (Joined (length (splice old i j run)))) (on_verdict x (length (splice old i j run))) →
          k ≡ length (splice old i j run)
      this true x f = cc
      this false (Ok d) f = apart (cc)
      this false (Err r) f = apart (cc)

  -- So does an ACCEPTED one, and a check accepts the splice.
  pub accepted_length : edited room old i j run ≡ Ok (Accepted k) →
      (k ≡ length (splice old i j run)) × (k ≤ room) × ((d : ℕ) × (verdict (splice old i j run) ≡ Ok d))
  accepted_length e =
      let a = accepted_allowed room old i j run k e in
      let s = this (meets_at_end a.0 old i j run) (verdict (splice old i j run)) refl (sym e ∙ answered room old i j run a.0 a.1) in
      (s.0, omega (arith, s.0, allowed_fits a.1), s.1)
    where
      this : (b : Bool) (x : Verdict) → verdict (splice old i j run) ≡ x →
          Ok (Accepted k) ≡ pick b (Ok (Joined (length (splice old i j run)))) (on_verdict x (length (splice old i j run))) →
          (k ≡ length (splice old i j run)) × ((d : ℕ) × (verdict (splice old i j run) ≡ Ok d))
      this true x g f = apart (cc)
      this false (Ok d) g f = (cc, (d, g))
      this false (Err r) g f = apart (cc)

-- a buffer that holds a stream of k tokens, and past it what it held before
pub record Holds (buffer after stream : List ℕ) (k : ℕ) : Type 0 where
  pub stream_held : take k after ≡ stream
  pub rest_kept : drop k after ≡ drop k buffer
  pub as_long : length after ≡ length buffer

holds : (buffer stream : List ℕ) (k : ℕ) → k ≡ length stream → k ≤ length buffer → Holds buffer (stream ++ drop k buffer) stream k
holds buffer stream k e h = record {
  stream_held = take_at stream (drop k buffer) k (sym e);
  rest_kept = drop_at stream (drop k buffer) k (sym e);
  as_long = simp (length-append, length-drop) (omega arith);
}

module _ (buffer : List ℕ) (n i j : ℕ) (run : List ℕ) where
  module _ (k : ℕ) where
    after_joined : edited_in buffer n i j run ≡ Ok (Joined k) → buffer_after buffer n i j run ≡ splice (take n buffer) i j run ++ drop k buffer
    unfolding buffer_after
    after_joined e = ap (λ (x : Outcome). held_after x buffer n i j run) e

    after_accepted : edited_in buffer n i j run ≡ Ok (Accepted k) → buffer_after buffer n i j run ≡ splice (take n buffer) i j run ++ drop k buffer
    unfolding buffer_after
    after_accepted e = ap (λ (x : Outcome). held_after x buffer n i j run) e

    -- After a JOINED edit the buffer's first k tokens are the splice, and what lies past them is as before.
    pub holds_joined : edited_in buffer n i j run ≡ Ok (Joined k) → Holds buffer (buffer_after buffer n i j run) (splice (take n buffer) i j run) k
    holds_joined e =
        let l = joined_length (length buffer) (take n buffer) i j run k (joined_held buffer n i j run k e).1 in
        rw (after_joined e) (holds buffer (splice (take n buffer) i j run) k l.0 l.1)

    -- After an ACCEPTED one too.
    pub holds_accepted : edited_in buffer n i j run ≡ Ok (Accepted k) → Holds buffer (buffer_after buffer n i j run) (splice (take n buffer) i j run) k
    holds_accepted e =
        let l = accepted_length (length buffer) (take n buffer) i j run k (accepted_held buffer n i j run k e).1 in
        rw (after_accepted e) (holds buffer (splice (take n buffer) i j run) k l.0 l.1)

    -- What a JOINED edit leaves of an accepted stream is accepted by a check.
    pub joined_stays_accepted : (c : ℕ) → verdict (take n buffer) ≡ Ok c → edited_in buffer n i j run ≡ Ok (Joined k) →
        (d : ℕ) × (verdict (take k (buffer_after buffer n i j run)) ≡ Ok d)
    joined_stays_accepted c accepted e =
        let v = joined_accepted (length buffer) (take n buffer) i j run k (joined_held buffer n i j run k e).1 c accepted in
        (v.0, ap verdict (holds_joined e).stream_held ∙ v.1)

    -- What an ACCEPTED edit leaves is accepted by a check, whatever the old stream was.
    pub accepted_is_accepted : edited_in buffer n i j run ≡ Ok (Accepted k) → (d : ℕ) × (verdict (take k (buffer_after buffer n i j run)) ≡ Ok d)
    accepted_is_accepted e =
        let l = accepted_length (length buffer) (take n buffer) i j run k (accepted_held buffer n i j run k e).1 in
        (l.2.0, ap verdict (holds_accepted e).stream_held ∙ l.2.1)

  -- A refused edit leaves the buffer as it was.
  pub refused_keeps : (r : Refusal) → edited_in buffer n i j run ≡ Err r → buffer_after buffer n i j run ≡ buffer
  unfolding buffer_after
  refused_keeps r e = ap (λ (x : Outcome). held_after x buffer n i j run) e
