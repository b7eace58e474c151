-- Demand 3: what is proved of an edit of a list, joined to an edit of the first n tokens of a buffer.
use Rattle.std.specs.Prelude.{Some, Ok, Err}
use Prim.Native.Nat.{ℕ, ◌≤◌}
use mathlib.Core.Path.{◌≡◌, refl, ap, sym, ◌∙◌}
use mathlib.Core.Bool.{true}
use mathlib.Core.List.{List}
use mathlib.Core.Logic.{⊎_elim}
use native.Mathlib.Omega.{arith}
use lib.ListN.{length, take}
use lib.Seq.{length-take-le}
use borrow.Author.Tests.{le-leb}
use Rattle.paper.specs.Notation.{pick}
use Rattle.paper.specs.Stream.{most_tokens, verdict}
use Rattle.paper.specs.declared.Refusal.{Refusal}
use Rattle.cutting.proofs.AcceptedIsACutting.{accepted_is_a_cutting}
use Rattle.paper.proofs.StreamVerdict.{verdict_walked}
use Rattle.edit.specs.declared.Edited.TheVariants.{Joined, Accepted}
use Rattle.edit.specs.Boundaries.{standing_at, is_boundary}
use Rattle.edit.specs.Edit.{new_length, placed, fits, meets_at_end, on_verdict, edited, edited_in, buffer_after, carried}
use Rattle.edit.specs.Refusals.{edit_refusal, check_refusal}
use Rattle.edit.proofs.Allowed.{Allowed, places, joined_allowed, joined_held, accepted_held}
use Rattle.edit.proofs.EditIsACheck.{answered, edit_is_a_check}
use Rattle.edit.proofs.JoinedIsTheOldVerdict.{refused_behind, carried_by, joined_refused}
use Rattle.edit.proofs.JoinedByPrefix.{joined_by_prefix}
use Rattle.edit.proofs.BufferHoldsTheSplice.{Holds as HoldsTokens, joined_length, accepted_length, holds_joined, holds_accepted, refused_keeps}
use Rattle.demands.specs.Reading.{ReadPlace}
use Rattle.demands.specs.Demand3.{Boundary, Replaces, edited_stream, Holds, Moved, Demand3}
use Rattle.demands.proofs.Boundaries.{boundary_is}

-- a replacement is allowed: what the edit tests before it walks the splice
module _ (buffer : List ℕ) (n i j : ℕ) (run : List ℕ) (h : Replaces buffer n i j run) where
  held : length (take n buffer) ≡ n
  held = length-take-le n buffer h.is_held

  -- both boundaries are of one version
  same_version : h.last.version ≡ h.first.version
  same_version = let both : Some h.last.version ≡ Some h.first.version = sym h.last.is_named ∙ h.first.is_named in cc

  is_placed : placed h.first.version (take n buffer) i j ≡ true
  is_placed =
      let last : is_boundary (standing_at h.first.version (take n buffer) j) ≡ true = rw same_version at h.last.is_reached in
      rw (h.first.is_reached, last, le-leb i j h.in_order) refl

  has_room_lem : fits (length buffer) (new_length (length (take n buffer)) i j (length run)) ≡ true
  has_room_lem =
      rw (held, le-leb (new_length n i j (length run)) (length buffer) h.has_room, le-leb (new_length n i j (length run)) most_tokens h.is_short) refl

  in_buffer : edited_in buffer n i j run ≡ edited (length buffer) (take n buffer) i j run
  unfolding edited_in
  in_buffer = rw (le-leb n (length buffer) h.is_held) refl

  is_check : (count : ℕ) → verdict (take n buffer) ≡ Ok count →
      edit_refusal (edited_in buffer n i j run) ≡ check_refusal (verdict (edited_stream buffer n i j run))
  is_check count accepted =
      ap edit_refusal in_buffer
      ∙ edit_is_a_check (length buffer) (take n buffer) i j run h.first.version count accepted h.first.is_named is_placed has_room_lem

  -- a stream with a boundary behind its version has two tokens at least
  allowed : n ≤ most_tokens → Allowed (length buffer) (take n buffer) i j run h.first.version
  allowed short =
      let p = places h.first.version (take n buffer) i j is_placed in
      let two : 2 ≤ length (take n buffer) = omega arith in
      let few : length (take n buffer) ≤ most_tokens = omega (arith, held) in
      record {
        laid = rw (le-leb 2 (length (take n buffer)) two, le-leb (length (take n buffer)) most_tokens few) refl;
        known = h.first.is_named;
        place = is_placed;
        fit = has_room_lem;
      }

  which : n ≤ most_tokens →
      edited_in buffer n i j run ≡
      pick (meets_at_end h.first.version (take n buffer) i j run) (Ok (Joined (length (edited_stream buffer n i j run))))
      (on_verdict (verdict (edited_stream buffer n i j run)) (length (edited_stream buffer n i j run)))
  which short = in_buffer ∙ answered (length buffer) (take n buffer) i j run h.first.version (allowed short)

-- what a yes leaves in the buffer
module _ (buffer : List ℕ) (n i j : ℕ) (run : List ℕ) (given : ℕ) where
  after_yes : given ≡ length (edited_stream buffer n i j run) →
      HoldsTokens buffer (buffer_after buffer n i j run) (edited_stream buffer n i j run) given →
      Holds buffer (buffer_after buffer n i j run) (edited_stream buffer n i j run) given
  after_yes e h = record { is_length = e; is_long = h.as_long; is_held = h.stream_held; is_kept = h.rest_kept }

  after_joined : edited_in buffer n i j run ≡ Ok (Joined given) → Holds buffer (buffer_after buffer n i j run) (edited_stream buffer n i j run) given
  after_joined e =
      after_yes (joined_length (length buffer) (take n buffer) i j run given (joined_held buffer n i j run given e).1).0
      (holds_joined buffer n i j run given e)

  after_accepted : edited_in buffer n i j run ≡ Ok (Accepted given) → Holds buffer (buffer_after buffer n i j run) (edited_stream buffer n i j run) given
  after_accepted e =
      after_yes (accepted_length (length buffer) (take n buffer) i j run given (accepted_held buffer n i j run given e).1).0
      (holds_accepted buffer n i j run given e)

  -- a refusal of the old stream, moved
  moved : (r : Refusal) → verdict (take n buffer) ≡ Err r → edited_in buffer n i j run ≡ Ok (Joined given) →
      Moved (edited_stream buffer n i j run) i j (length run) r
  moved r e answer =
      let h = joined_held buffer n i j run given answer in
      let a = joined_allowed (length buffer) (take n buffer) i j run given h.1 in
      let p = places a.0 (take n buffer) i j a.1.place in
      let walk = sym (verdict_walked (take n buffer) a.0 a.1.laid a.1.known) ∙ e in
      let behind = refused_behind a.0 (take n buffer) j p.last r p.last_stands walk in
      record {
        position = carried i j (length run) r.position;
        is_refused = joined_refused (length buffer) (take n buffer) i j run given h.1 r e;
        is_moved = carried_by i j (length run) r.position p.order behind;
      }

module _ (stream : List ℕ) (count p : ℕ) (accept : verdict stream ≡ Ok count) where
  read_at : Boundary stream p → ReadPlace stream p
  read_at b = (boundary_is stream count b.version accept b.is_named p).1 b.is_reached

  bounds_at : ReadPlace stream p → Boundary stream p
  bounds_at r =
      let l = accepted_is_a_cutting stream count accept in
      record { version = l.version; is_named = l.is_named; is_reached = (boundary_is stream count l.version accept l.is_named p).0 r }

pub demand_3 : Demand3
demand_3 = record {
  boundary_is_read = read_at;
  read_is_boundary = bounds_at;
  edit_is_a_check = λ buffer n i j run count accepted h. is_check buffer n i j run h count accepted;
  yes_holds = λ buffer n i j run given. ⊎_elim (after_joined buffer n i j run given) (after_accepted buffer n i j run given);
  no_keeps = refused_keeps;
  which_yes = λ buffer n i j run short h. which buffer n i j run h short;
  joined_reads_no_more = λ one other n i j run given as_long same. (joined_by_prefix one other n i j run given as_long same).0;
  joined_of_refused = λ buffer n i j run given r e answer.
      let m = moved buffer n i j run given r e answer in
      (m, rw (after_joined buffer n i j run given answer).is_held m);
}
