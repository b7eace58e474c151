-- The answer of an edit, in the order of document 01: LENGTH, VERSION, PLACE, ROOM, and what the buffer holds after a yes.
use Rattle.std.specs.Prelude.{Result, Ok, Err}
use Rattle.std.specs.Result.{IsErrAnd}
use Rattle.std.proofs.lemmas.Result.{err_from_is_err_and}
use Prim.Native.Nat.{ℕ, ◌≤◌, ◌<◌}
use mathlib.Core.Path.{◌≡◌, refl, ap, sym, ◌∙◌}
use mathlib.Core.List.{List, ◌++◌}
use native.Mathlib.Omega.{arith}
use lib.ListN.{length, take, drop, get_or}
use lib.Seq.{length-take-le}
use borrow.Author.Tests.{le-leb, lt-leb}
use Rattle.paper.proofs.Bools.{and_false}
use Rattle.paper.specs.Versions.{named}
use Rattle.paper.specs.Stream.{most_tokens}
use Rattle.paper.specs.declared.Version.{Version}
use Rattle.paper.specs.declared.Refusal.{Refusal}
use Rattle.paper.specs.declared.Reason.TheVariants.{Length as LENGTH, Place as PLACE, Room as ROOM}
use Rattle.edit.specs.declared.Edited.{Edited}
use Rattle.edit.specs.declared.Edited.TheVariants.{Joined, Accepted}
use Rattle.edit.specs.Boundaries.{Standing, nowhere, stands_with, standing_at}
use Rattle.edit.specs.Edit.{splice, new_length, spliced, edit_refused, edit_named, edited, edited_in, held_after, buffer_after, Outcome}
use Rattle.edit.proofs.Standing.{reached_standing, standing_reached}
use Rattle.edit.proofs.Allowed.{Allowed, places, new_length_lem, joined_allowed, accepted_allowed, joined_held, accepted_held}
use Rattle.edit.proofs.BufferHoldsTheSplice.{joined_length, accepted_length}
use Rattle.walk.specs.declared.State.{State}
use Rattle.splicer.specs.Splicing.{with_run, spliced_in}
use Rattle.splicer.proofs.Answers.{run_taken}
use Rattle.editor.specs.Found.{Between}
use Rattle.editor.specs.Answers.{after_place, after_version}

-- what a `?` behind an `ok_or` returns
pub exit : {T U : Type 0} {r : Result U Refusal} {given refusal : Refusal} → IsErrAnd r (λ x. x ≡ given) →
    ◌≡◌ {A = Result T Refusal} (Err given) (Err refusal) → r ≡ Err refusal
exit {r = r} {given = given} {refusal = refusal} h e =
    let p = err_from_is_err_and r h in
    let same : given ≡ refusal = cc in
    p.1 ∙ ap Err (p.2 ∙ same)

-- PLACE
module _ (v : Version) (old : List ℕ) where
  pub before_first : (q : ℕ) → q < 1 → standing_at v old q ≡ nowhere
  before_first q h = this (standing_at v old q) refl
    where
      this : (x : Standing) → standing_at v old q ≡ x → x ≡ nowhere
      this nowhere e = refl
      this (stands_with w) e = absurd (omega (arith, (standing_reached v old q w e).0))

  pub behind_last : (q : ℕ) → length old ≤ q → standing_at v old q ≡ nowhere
  behind_last q h = this (standing_at v old q) refl
    where
      this : (x : Standing) → standing_at v old q ≡ x → x ≡ nowhere
      this nowhere e = refl
      this (stands_with w) e = absurd (omega (arith, (standing_reached v old q w e).1))

  module _ (room i j : ℕ) (run : List ℕ) where
    pub no_first : standing_at v old i ≡ nowhere → after_version v room old i j run ≡ edit_refused PLACE
    unfolding after_version
    no_first e = rw e

    pub no_second : standing_at v old j ≡ nowhere → after_version v room old i j run ≡ edit_refused PLACE
    unfolding after_version
    no_second e = rw (e, and_false)

    pub crossed : j < i → after_version v room old i j run ≡ edit_refused PLACE
    unfolding after_version
    crossed h = rw (lt-leb i j h, and_false, and_false)

    -- ROOM
    pub too_long : most_tokens < new_length (length old) i j (length run) → after_place v room old i j run ≡ edit_refused ROOM
    unfolding after_place
    too_long h = rw (lt-leb (new_length (length old) i j (length run)) most_tokens h, and_false)

    pub no_room : room < new_length (length old) i j (length run) → after_place v room old i j run ≡ edit_refused ROOM
    unfolding after_place
    no_room h = rw (lt-leb (new_length (length old) i j (length run)) room h)

    pub has_room_lem : new_length (length old) i j (length run) ≤ most_tokens → new_length (length old) i j (length run) ≤ room →
        after_place v room old i j run ≡ spliced v old i j run
    unfolding after_place
    has_room_lem h g = rw (le-leb (new_length (length old) i j (length run)) room g, le-leb (new_length (length old) i j (length run)) most_tokens h)

  pub both_placed : (room : ℕ) (first last : State) (run : List ℕ) → Between v old first last →
      after_version v room old first.at last.at run ≡ after_place v room old first.at last.at run
  unfolding after_version
  both_placed room first last run b =
      let o = b.order in
      let i = b.inside in
      rw (
        reached_standing v old first.at b.from.carries (omega arith) b.from.reaches,
        reached_standing v old last.at b.upto.carries b.inside b.upto.reaches,
        le-leb first.at last.at b.order,
      )

-- LENGTH and VERSION
module _ (room : ℕ) (old : List ℕ) (i j : ℕ) (run : List ℕ) where
  pub too_few : length old < 2 → edited room old i j run ≡ edit_refused LENGTH
  unfolding edited
  too_few h = rw (lt-leb 2 (length old) h)

  module _ (two : 2 ≤ length old) where
    pub too_many : most_tokens < length old → edited room old i j run ≡ edit_refused LENGTH
    unfolding edited
    too_many h = rw (le-leb 2 (length old) two, lt-leb (length old) most_tokens h)

    pub by_version : length old ≤ most_tokens → edited room old i j run ≡ edit_named (named (get_or old 0 0)) (λ v. after_version v room old i j run)
    unfolding edited after_version after_place
    by_version h = rw (le-leb 2 (length old) two, le-leb (length old) most_tokens h)

-- in a buffer
module _ (buffer : List ℕ) (n i j : ℕ) (run : List ℕ) where
  pub not_held : length buffer < n → edited_in buffer n i j run ≡ edit_refused LENGTH
  unfolding edited_in
  not_held h = rw (lt-leb n (length buffer) h)

  pub held : n ≤ length buffer → edited_in buffer n i j run ≡ edited (length buffer) (take n buffer) i j run
  unfolding edited_in
  held h = rw (le-leb n (length buffer) h)

  module _ (k : ℕ) where
    taken : (v : Version) → n ≤ length buffer → Allowed (length buffer) (take n buffer) i j run v → k ≡ length (splice (take n buffer) i j run) → k ≤ length buffer →
        spliced_in buffer n i j run ≡ splice (take n buffer) i j run ++ drop k buffer
    unfolding with_run
    taken v inside a long room =
        let p = places v (take n buffer) i j a.place in
        let used = length-take-le n buffer inside in
        let before : j < n = omega (arith, p.before) in
        let new = new_length_lem (take n buffer) i j run p.behind p.order p.before in
        let size : new_length n i j (length run) ≡ k = omega (arith, long, new, used) in
        run_taken buffer n i j run p.order (omega arith) inside (omega arith) ∙ ap (λ (x : ℕ). splice (take n buffer) i j run ++ drop x buffer) size

    -- after a yes the buffer holds the splice
    after_joined : edited_in buffer n i j run ≡ Ok (Joined k) → spliced_in buffer n i j run ≡ buffer_after buffer n i j run
    unfolding buffer_after
    after_joined e =
        let h = joined_held buffer n i j run k e in
        let a = joined_allowed (length buffer) (take n buffer) i j run k h.1 in
        let l = joined_length (length buffer) (take n buffer) i j run k h.1 in
        taken a.0 h.0 a.1 l.0 l.1 ∙ sym (ap (λ (x : Outcome). held_after x buffer n i j run) e)

    after_accepted : edited_in buffer n i j run ≡ Ok (Accepted k) → spliced_in buffer n i j run ≡ buffer_after buffer n i j run
    unfolding buffer_after
    after_accepted e =
        let h = accepted_held buffer n i j run k e in
        let a = accepted_allowed (length buffer) (take n buffer) i j run k h.1 in
        let l = accepted_length (length buffer) (take n buffer) i j run k h.1 in
        taken a.0 h.0 a.1 l.0 l.1 ∙ sym (ap (λ (x : Outcome). held_after x buffer n i j run) e)

  pub after_yes : (x : Edited) → edited_in buffer n i j run ≡ Ok x → spliced_in buffer n i j run ≡ buffer_after buffer n i j run
  after_yes (Joined k) e = after_joined k e
  after_yes (Accepted k) e = after_accepted k e
