-- An edit that is not refused before the splice is walked: what is then known of the old stream, of the places and of the splice.
use Rattle.std.specs.Prelude.{Option, Some, None, Ok}
use Prim.Native.Nat.{ℕ, ◌≤◌, ◌<◌}
use mathlib.Core.Path.{◌≡◌, refl, ap, ◌∙◌}
use mathlib.Core.Bool.{Bool, true, false, ◌&&◌}
use mathlib.Core.List.{List, ◌++◌}
use native.Mathlib.Omega.{arith}
use lib.Dec.{leb}
use lib.ListN.{length, take, drop, get_or, get_or-append}
use lib.Seq.{get_or-take, length-take-le}
use borrow.Author.Tests.{leb-true, le-leb}
use Rattle.paper.specs.Notation.{pick}
use Rattle.paper.specs.Versions.{named}
use Rattle.paper.specs.Walk.{WalkState}
use Rattle.paper.proofs.StreamVerdict.{verdict_walked}
use Rattle.paper.specs.Stream.{walked, verdict, most_tokens, length_laid}
use Rattle.paper.specs.declared.Version.{Version}
use Rattle.paper.specs.declared.Reason.{Reason}
use Rattle.paper.specs.declared.Reason.TheVariants.{Length as LENGTH, Version as VERSION, Place as PLACE, Room as ROOM}
use Rattle.edit.specs.declared.Edited.TheVariants.{Joined, Accepted}
use Rattle.edit.specs.Boundaries.{stands_with, standing_at, is_boundary}
use Rattle.edit.specs.Edit.{splice, new_length, placed, fits, spliced, edit_refused, edit_named, edited, edited_in, Outcome}
use Rattle.edit.proofs.Standing.{ahead, standing_comes}
use Rattle.paper.proofs.Bools.{apart, both}
use Rattle.edit.proofs.Prefix.{splice_length}
use Rattle.edit.proofs.SameBlocks.{boundary}

-- neither LENGTH nor VERSION nor PLACE nor ROOM refuses the edit
pub record Allowed (room : ℕ) (old : List ℕ) (i j : ℕ) (run : List ℕ) (v : Version) : Type 0 where
  pub laid : length_laid (length old) ≡ true
  pub known : named (get_or old 0 0) ≡ Some v
  pub place : placed v old i j ≡ true
  pub fit : fits room (new_length (length old) i j (length run)) ≡ true

-- both places are boundaries, in order; so they lie behind the version and before the token count
pub record Places (v : Version) (old : List ℕ) (i j : ℕ) : Type 0 where
  pub first : WalkState
  pub last : WalkState
  pub first_stands : standing_at v old i ≡ stands_with first
  pub last_stands : standing_at v old j ≡ stands_with last
  pub behind : 1 ≤ i
  pub order : i ≤ j
  pub before : j < length old

pub places : (v : Version) (old : List ℕ) (i j : ℕ) → placed v old i j ≡ true → Places v old i j
places v old i j e =
    let b = both (is_boundary (standing_at v old i)) (is_boundary (standing_at v old j) && leb i j) e in
    let c = both (is_boundary (standing_at v old j)) (leb i j) b.1 in
    let f = boundary (standing_at v old i) b.0 in
    let l = boundary (standing_at v old j) c.0 in
    record {
      first = f.0;
      last = l.0;
      first_stands = f.1;
      last_stands = l.1;
      behind = ahead (standing_comes v old i f.0 f.1).0;
      order = leb-true i j c.1;
      before = (standing_comes v old j l.0 l.1).1;
    }

-- an answer that no refusal of these gives is what stands behind the test
past : (answer : Outcome) → ((reason : Reason) → edit_refused reason ≡ answer → ⊥) →
    (b : Bool) (next : Outcome) (reason : Reason) → pick b next (edit_refused reason) ≡ answer → (b ≡ true) × (next ≡ answer)
past answer other true next reason e = (refl, e)
past answer other false next reason e = absurd (other reason e)

-- a yes is none of them
joined_other : (n : ℕ) (reason : Reason) → edit_refused reason ≡ Ok (Joined n) → ⊥
joined_other n reason e = apart (cc)

accepted_other : (n : ℕ) (reason : Reason) → edit_refused reason ≡ Ok (Accepted n) → ⊥
accepted_other n reason e = apart (cc)

module _ (room : ℕ) (old : List ℕ) (i j : ℕ) (run : List ℕ) where
  after_place_lem : Version → Outcome
  after_place_lem v = pick (fits room (new_length (length old) i j (length run))) (spliced v old i j run) (edit_refused ROOM)

  after_version_lem : Version → Outcome
  after_version_lem v = pick (placed v old i j) (after_place_lem v) (edit_refused PLACE)

  -- an edit that is allowed is answered by the splice
  pub allowed_answer : (v : Version) → Allowed room old i j run v → edited room old i j run ≡ spliced v old i j run
  unfolding edited after_version_lem after_place_lem
  allowed_answer v a =
      ap (λ (b : Bool). pick b (edit_named (named (get_or old 0 0)) after_version_lem) (edit_refused LENGTH)) a.laid
      ∙ ap (λ (n : Option Version). edit_named n after_version_lem) a.known
      ∙ ap (λ (b : Bool). pick b (after_place_lem v) (edit_refused PLACE)) a.place
      ∙ ap (λ (b : Bool). pick b (spliced v old i j run) (edit_refused ROOM)) a.fit

  -- an answer that none of the four refusals gives is the splice's, and the edit is allowed
  module _ (answer : Outcome) (other : (reason : Reason) → edit_refused reason ≡ answer → ⊥) where
    past_version : (x : Option Version) → edit_named x after_version_lem ≡ answer → (v : Version) × (x ≡ Some v) × (after_version_lem v ≡ answer)
    past_version (Some v) e = (v, refl, e)
    past_version None e = absurd (other VERSION e)

    pub answer_allowed : edited room old i j run ≡ answer → (v : Version) × Allowed room old i j run v × (spliced v old i j run ≡ answer)
    unfolding edited after_version_lem after_place_lem
    answer_allowed e =
        let l = past answer other (length_laid (length old)) (edit_named (named (get_or old 0 0)) after_version_lem) LENGTH e in
        let w = past_version (named (get_or old 0 0)) l.1 in
        let p = past answer other (placed w.0 old i j) (after_place_lem w.0) PLACE w.2 in
        let r = past answer other (fits room (new_length (length old) i j (length run))) (spliced w.0 old i j run) ROOM p.1 in
        (w.0, record { laid = l.0; known = w.1; place = p.0; fit = r.0 }, r.1)

  pub joined_allowed : (n : ℕ) → edited room old i j run ≡ Ok (Joined n) → (v : Version) × Allowed room old i j run v × (spliced v old i j run ≡ Ok (Joined n))
  joined_allowed n e = answer_allowed (Ok (Joined n)) (joined_other n) e

  pub accepted_allowed : (n : ℕ) → edited room old i j run ≡ Ok (Accepted n) → (v : Version) × Allowed room old i j run v × (spliced v old i j run ≡ Ok (Accepted n))
  accepted_allowed n e = answer_allowed (Ok (Accepted n)) (accepted_other n) e

-- a yes in a buffer is one of the first n tokens, which the buffer holds
module _ (buffer : List ℕ) (n i j : ℕ) (run : List ℕ) (k : ℕ) where
  pub joined_held : edited_in buffer n i j run ≡ Ok (Joined k) → (n ≤ length buffer) × (edited (length buffer) (take n buffer) i j run ≡ Ok (Joined k))
  unfolding edited_in
  joined_held e =
      let h = past (Ok (Joined k)) (joined_other k) (leb n (length buffer)) (edited (length buffer) (take n buffer) i j run) LENGTH e in
      (leb-true n (length buffer) h.0, h.1)

  pub accepted_held : edited_in buffer n i j run ≡ Ok (Accepted k) → (n ≤ length buffer) × (edited (length buffer) (take n buffer) i j run ≡ Ok (Accepted k))
  unfolding edited_in
  accepted_held e =
      let h = past (Ok (Accepted k)) (accepted_other k) (leb n (length buffer)) (edited (length buffer) (take n buffer) i j run) LENGTH e in
      (leb-true n (length buffer) h.0, h.1)

-- the verdict of a stream with a lawful length and version is its walk's
-- a splice between two places of the old stream has the new length and the old version
module _ (old : List ℕ) (i j : ℕ) (run : List ℕ) (behind : 1 ≤ i) (order : i ≤ j) (before : j < length old) where
  pub new_length_lem : length (splice old i j run) ≡ new_length (length old) i j (length run)
  new_length_lem = omega (arith, splice_length old i j run (omega arith))

  pub same_version : get_or (splice old i j run) 0 0 ≡ get_or old 0 0
  same_version =
      get_or-append (take i old) (run ++ drop j old) 0 0 (omega (arith, length-take-le i old (omega arith)))
      ∙ get_or-take i old 0 0 behind

  pub splice_laid : (room : ℕ) → fits room (new_length (length old) i j (length run)) ≡ true → length_laid (length (splice old i j run)) ≡ true
  splice_laid room fit =
      let few = leb-true (new_length (length old) i j (length run)) most_tokens
      (both (leb (new_length (length old) i j (length run)) room) (leb (new_length (length old) i j (length run)) most_tokens) fit).1 in
      let least : 2 ≤ length (splice old i j run) = omega (arith, new_length_lem) in
      let most : length (splice old i j run) ≤ most_tokens = omega (arith, new_length_lem) in
      rw (le-leb 2 (length (splice old i j run)) least, le-leb (length (splice old i j run)) most_tokens most)

-- the verdict of the splice of an allowed edit is its walk's
pub splice_verdict : {room : ℕ} {old : List ℕ} {i j : ℕ} {run : List ℕ} {v : Version} → Allowed room old i j run v →
    verdict (splice old i j run) ≡ walked v (splice old i j run)
splice_verdict {room} {old} {i} {j} {run} {v} a =
    let p = places v old i j a.place in
    verdict_walked (splice old i j run) v (splice_laid old i j run p.behind p.order p.before room a.fit)
    (ap named (same_version old i j run p.behind p.order p.before) ∙ a.known)
