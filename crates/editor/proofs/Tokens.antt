-- The tokens of a splice from i on, and the steps over them.
use Prim.Native.Nat.{ℕ, ◌+◌, ◌-◌, ◌≤◌, ◌<◌, min}
use mathlib.Core.Path.{◌≡◌, refl, sym, ap, ◌∙◌}
use mathlib.Core.Bool.{Bool, true, false}
use mathlib.Core.List.{List, ◌++◌, append_assoc}
use native.Mathlib.Nat.{add-zero}
use native.Mathlib.Omega.{arith}
use lib.Dec.{leb}
use lib.ListN.{length, take, drop, length-append, length-drop, take-append-drop}
use lib.Seq.{take_all, take_at, take-append-le, drop-append-le, drop-append-add, drop-drop, length-take-le}
use borrow.Author.Tests.{leb-true, leb-false}
use borrow.Rule.Slice.PartMut.{put_mid}
use Rattle.std.proofs.lemmas.Slice.{take-put_mid}
use Rattle.paper.specs.Instruction.{judged}
use Rattle.paper.specs.declared.Version.{Version}
use Rattle.told.specs.Numbered.{judged_from}
use Rattle.stretches.specs.Stretch.{told_at}
use Rattle.edit.specs.Edit.{splice}
use Rattle.edit.proofs.Prefix.{splice_length}
use Rattle.walk.specs.declared.State.{State}
use Rattle.walk.specs.Steps.{on_judged}
use Rattle.walk.specs.Shown.{most_shown}
use Rattle.walk.specs.Stands.{step_at}
use Rattle.walk.proofs.Telling.{whole_moves, far_moves, end_moves}
use Rattle.editor.specs.Steps.{behind_run}

-- the step where the same tokens lie elsewhere, in a whole stream
pub step_there : (v : Version) (s t : List ℕ) (at : ℕ) (state : State) → drop at s ≡ drop state.at t →
    on_judged (judged_from (told_at v s 0 at)) state ≡ step_at v t state
unfolding step_at
step_there v s t at state e = whole_moves v state s at ∙ ap (λ (x : List ℕ). on_judged (judged v x) state) e

-- and in a part of so many tokens, where sixteen from the instruction on are in the part, or all that are there
step_part : (v : Version) (s : List ℕ) (start n beyond at : ℕ) (state : State) → start + n + beyond ≡ length s → at < n →
    (n < at + most_shown → beyond ≡ 0) → start + at ≡ state.at →
    on_judged (judged_from (told_at v (take n (drop start s)) beyond at)) state ≡ step_at v s state
unfolding step_at
step_part v s start n beyond at state inside h all place = rw place at (by (leb (at + most_shown) n) refl)
  where
    by : (b : Bool) → leb (at + most_shown) n ≡ b →
        on_judged (judged_from (told_at v (take n (drop start s)) beyond at)) state ≡ on_judged (judged v (drop (start + at) s)) state
    by true e = far_moves v state s start n beyond inside at h (leb-true (at + most_shown) n e)
    by false e = end_moves v state s start n beyond inside at h (all (leb-false (at + most_shown) n e))

module _ (run old : List ℕ) (j : ℕ) where
  run_first : take (length run) (behind_run run old j) ≡ run
  unfolding behind_run
  run_first = take-append-le (length run) run (drop j old) (omega arith) ∙ take_all (length run) run (omega arith)

  past_run : (at : ℕ) → drop (length run + at) (behind_run run old j) ≡ drop (j + at) old
  unfolding behind_run
  past_run at = drop-append-add run (drop j old) at ∙ drop-drop at j old

  module _ (i : ℕ) (inside : i ≤ length old) where
    -- the splice from i on
    splice_behind : (at : ℕ) → drop (i + at) (splice old i j run) ≡ drop at (behind_run run old j)
    unfolding behind_run
    splice_behind at = rw (length-take-le i old inside) at (drop-append-add (take i old) (run ++ drop j old) at)

    module _ (v : Version) (state : State) (behind : i ≤ state.at) where
      -- the step over the old tokens
      pub step_in_old : length run ≤ state.at - i →
          on_judged (judged_from (told_at v old 0 (j + (state.at - i - length run)))) state ≡ step_at v (splice old i j run) state
      step_in_old past =
          let k = state.at - i in
          let place : i + k ≡ state.at = omega arith in
          let over : length run + (k - length run) ≡ k = omega arith in
          let same : drop (j + (k - length run)) old ≡ drop (i + k) (splice old i j run) =
          sym (past_run (k - length run)) ∙ ap (λ (n : ℕ). drop n (behind_run run old j)) over ∙ sym (splice_behind k) in
          step_there v old (splice old i j run) (j + (k - length run)) state (rw place at same)

      -- the step over the run alone
      pub step_in_run : state.at - i + most_shown ≤ length run →
          on_judged (judged_from (told_at v run (length old - j) (state.at - i))) state ≡ step_at v (splice old i j run) state
      step_in_run far =
          let stream = splice old i j run in
          let start : drop i stream ≡ behind_run run old j = rw (add-zero i) at (splice_behind 0) in
          let here : take (length run) (drop i stream) ≡ run = ap (take (length run)) start ∙ run_first in
          rw here at
          (step_part v stream i (length run) (length old - j) (state.at - i) state (omega (arith, splice_length old i j run inside)) (omega arith)
          (λ l. absurd (omega arith)) (omega arith))

      -- the step over the end of the run and old tokens behind it, gathered into a window
      module _ (more : ℕ) (window own-part old-part : List ℕ) (within : state.at - i < length run) (few : length run - (state.at - i) ≤ most_shown)
          (before : j ≤ length old) (more-is : more ≡ min (length old - j) (most_shown - (length run - (state.at - i))))
          (own_is : own-part ≡ take (length run - (state.at - i)) (drop (state.at - i) run)) (old_is : old-part ≡ take more (drop j old)) where
        abbrev own : ℕ
        own = length run - (state.at - i)

        abbrev gathered : List ℕ
        gathered = take (own + more) (put_mid own (own + more - own) (own-part ++ window) old-part)

        gathered_is : gathered ≡ take (own + more) (drop (state.at - i) (behind_run run old j))
        unfolding behind_run
        gathered_is =
            let k = state.at - i in
            let rest = drop j old in
            let long : length (drop k run) ≡ own = omega (arith, length-drop k run) in
            let all : own-part ≡ drop k run = own_is ∙ take_all own (drop k run) (omega (arith, length-drop k run)) in
            let old_long : length old-part ≡ more = ap length old_is ∙ length-take-le more rest (omega (arith, length-drop j old)) in
            let own_long : length own-part ≡ own = ap length all ∙ long in
            let both_long : length (own-part ++ old-part) ≡ own + more = omega (arith, length-append own-part old-part) in
            let put : gathered ≡ own-part ++ old-part =
            take-put_mid own (own + more - own) (own-part ++ window) old-part (own + more) (omega arith) (omega (arith, length-append own-part window))
            ∙ ap (λ (l : List ℕ). l ++ old-part) (take_at own-part window own own_long) in
            let whole : drop k (run ++ rest) ≡ own-part ++ old-part ++ drop more rest =
            drop-append-le k run rest (omega arith) ∙ rw (all, old_is, append_assoc, take-append-drop) in
            put ∙ sym (ap (take (own + more)) whole ∙ take_at (own-part ++ old-part) (drop more rest) (own + more) both_long)

        pub step_gathered : on_judged (judged_from (told_at v gathered (length old - j - more) 0)) state ≡ step_at v (splice old i j run) state
        step_gathered =
            let k = state.at - i in
            let stream = splice old i j run in
            let long = splice_length old i j run inside in
            let shown = own + more in
            let there : gathered ≡ take shown (drop (i + k) stream) = gathered_is ∙ ap (take shown) (sym (splice_behind k)) in
            rw there (step_part v stream (i + k) shown (length old - j - more) 0 state (omega arith) (omega arith) (λ l. omega arith) (omega arith))
