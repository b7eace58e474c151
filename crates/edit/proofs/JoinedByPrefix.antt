-- JOINED reads nothing from j on: whether an edit is JOINED is decided by the first j tokens of the old stream, the run, and the lengths of stream and buffer.
use Rattle.std.specs.Prelude.{Ok}
use Prim.Native.Nat.{ℕ, ◌+◌, ◌≤◌}
use mathlib.Core.Path.{◌≡◌, ap, sym, ◌∙◌}
use mathlib.Core.Bool.{true}
use mathlib.Core.List.{List, ◌++◌, append_assoc}
use native.Mathlib.Omega.{arith}
use lib.ListN.{length, take, drop, get_or, length-append}
use lib.Seq.{take_at, take-take, get_or-take, length-take-le}
use borrow.Author.Tests.{le-leb}
use Rattle.paper.specs.Versions.{named}
use Rattle.paper.specs.Stream.{length_laid}
use Rattle.paper.specs.declared.Version.{Version}
use Rattle.edit.specs.declared.Edited.TheVariants.{Joined}
use Rattle.edit.specs.Boundaries.{standing_at}
use Rattle.edit.specs.Edit.{splice, new_length, placed, fits, meets_at_end, edited, edited_in}
use Rattle.edit.proofs.Prefix.{same_boundary, splice_length}
use Rattle.edit.proofs.SameBlocks.{met, meeting}
use Rattle.edit.proofs.Allowed.{Allowed, Places, places, allowed_answer, joined_allowed, joined_held}
use Rattle.edit.proofs.JoinedIsTheOldVerdict.{joined_meets}

-- the first tokens of a splice, up to the run's end
up_to_run : (old : List ℕ) (i j : ℕ) (run : List ℕ) → i ≤ length old → take (i + length run) (splice old i j run) ≡ take i old ++ run
up_to_run old i j run h =
    let e : length (take i old ++ run) ≡ i + length run = simp (length-append, length-take-le i old h) in
    rw append_assoc at (take_at (take i old ++ run) (drop j old) (i + length run) e)

-- two streams of one length, with the same first j tokens
module _ (old other : List ℕ) (i j : ℕ) (run : List ℕ) (as_long : length old ≡ length other) (same : take j old ≡ take j other) where
  same_first : (k : ℕ) → k ≤ j → take k old ≡ take k other
  same_first k h = sym (take-take k j old h) ∙ ap (take k) same ∙ take-take k j other h

  module _ (v : Version) (p : Places v old i j) where
    same_places : placed v other i j ≡ true
    same_places =
        let first = same_boundary v old other i p.first (same_first i p.order) (omega arith) p.first_stands in
        let last = same_boundary v old other j p.last same (omega arith) p.last_stands in
        rw (first, last) (le-leb i j p.order)

    same_meeting : meets_at_end v old i j run ≡ true → meets_at_end v other i j run ≡ true
    unfolding meets_at_end
    same_meeting e =
        let m = met (standing_at v old j) (standing_at v (splice old i j run) (i + length run)) e in
        let begins : take (i + length run) (splice old i j run) ≡ take (i + length run) (splice other i j run) =
        up_to_run old i j run (omega arith) ∙ ap (λ (l : List ℕ). l ++ run) (same_first i p.order) ∙ sym (up_to_run other i j run (omega arith)) in
        meeting (standing_at v other j) (standing_at v (splice other i j run) (i + length run)) m.0
        (same_boundary v old other j m.0 same (omega arith) m.1)
        (same_boundary v (splice old i j run) (splice other i j run) (i + length run) m.0 begins
        (omega (arith, splice_length other i j run (omega arith))) m.2)

  -- Two streams of one length with the same first j tokens: where the edit of the one is JOINED, so is that of the other, with the same length.
  pub joined_as_well : (room k : ℕ) → edited room old i j run ≡ Ok (Joined k) → edited room other i j run ≡ Ok (Joined k)
  joined_as_well room k e =
      let a = joined_allowed room old i j run k e in
      let p = places a.0 old i j a.1.place in
      let m = joined_meets a.0 old i j run k a.2 in
      let start : get_or old 0 0 ≡ get_or other 0 0 =
      sym (get_or-take j old 0 0 (omega arith)) ∙ ap (λ (l : List ℕ). get_or l 0 0) same ∙ get_or-take j other 0 0 (omega arith) in
      let allowed : Allowed room other i j run a.0 = record {
        laid = ap length_laid (sym as_long) ∙ a.1.laid;
        known = ap named (sym start) ∙ a.1.known;
        place = same_places a.0 p;
        fit = ap (λ (n : ℕ). fits room (new_length n i j (length run))) (sym as_long) ∙ a.1.fit;
      } in
      allowed_answer room other i j run a.0 allowed ∙ rw (same_meeting a.0 p m.0) (ap (λ (n : ℕ). Ok (Joined n)) (ap (λ (n : ℕ). new_length n i j (length run)) (sym as_long) ∙ m.1))

one_way : (b c : List ℕ) (n i j : ℕ) (run : List ℕ) (k : ℕ) → length b ≡ length c → take j b ≡ take j c →
    edited_in b n i j run ≡ Ok (Joined k) → edited_in c n i j run ≡ Ok (Joined k)
unfolding edited_in
one_way b c n i j run k as_long same e =
    let h = joined_held b n i j run k e in
    let fits_b : n ≤ length b = h.0 in
    let fits_c : n ≤ length c = omega arith in
    let a = joined_allowed (length b) (take n b) i j run k h.1 in
    let p = places a.0 (take n b) i j a.1.place in
    let inside : j ≤ n = omega (arith, length-take-le n b fits_b) in
    let first : take j (take n b) ≡ take j (take n c) = take-take j n b inside ∙ same ∙ sym (take-take j n c inside) in
    let lengths : length (take n b) ≡ length (take n c) = length-take-le n b fits_b ∙ sym (length-take-le n c fits_c) in
    rw (le-leb n (length c) fits_c)
    (ap (λ (room : ℕ). edited room (take n c) i j run) (sym as_long) ∙ joined_as_well (take n b) (take n c) i j run lengths first (length b) k h.1)

-- Two buffers of one length with the same first j tokens, edited with the same n, i, j and run: both are JOINED or neither is, with the same length.
pub joined_by_prefix : (b c : List ℕ) (n i j : ℕ) (run : List ℕ) (k : ℕ) → length b ≡ length c → take j b ≡ take j c →
    (edited_in b n i j run ≡ Ok (Joined k) → edited_in c n i j run ≡ Ok (Joined k)) × (edited_in c n i j run ≡ Ok (Joined k) → edited_in b n i j run ≡ Ok (Joined k))
joined_by_prefix b c n i j run k as_long same = (one_way b c n i j run k as_long same, one_way c b n i j run k (sym as_long) (sym same))
