-- A step by the number that tells of its instruction.
use Rattle.std.proofs.Common.{◌≡◌, ℕ, ◌+◌, ◌<◌, ◌≤◌, List, length, take, drop, ap, ◌∙◌}
use Rattle.paper.specs.Instruction.{judged}
use Rattle.paper.specs.declared.Version.{Version}
use Rattle.paper.specs.Judgements.{Judged}
use Rattle.paper.proofs.OneInstruction.{judged_bit}
use Rattle.told.specs.Numbered.{judged_number, judged_from}
use Rattle.stretches.specs.Stretch.{told_at}
use Rattle.told.proofs.Numbers.{judged_back}
use Rattle.stretches.proofs.Stretches.{told_whole, told_far, told_end}
use Rattle.walk.specs.Shown.{most_shown}
use Rattle.walk.specs.declared.State.{State}
use Rattle.walk.specs.Steps.{on_judged}

-- what is told of an instruction moves the state as the instruction does
pub told_moves : (v : Version) (state : State) (told : ℕ) (tokens : List ℕ) → told ≡ judged_number (judged v tokens) →
    on_judged (judged_from told) state ≡ on_judged (judged v tokens) state
told_moves v state told tokens e =
    ap (λ (x : Judged). on_judged x state) (ap judged_from e ∙ judged_back (length tokens) (judged v tokens) (judged_bit v tokens))

module _ (v : Version) (state : State) (s : List ℕ) where
  -- an instruction of a whole stream
  pub whole_moves : (at : ℕ) → on_judged (judged_from (told_at v s 0 at)) state ≡ on_judged (judged v (drop at s)) state
  whole_moves at = told_moves v state (told_at v s 0 at) (drop at s) (told_whole v s at)

  -- an instruction of a part of n tokens from `start` on, behind which at least fifteen tokens are shown, or all
  module _ (start n beyond : ℕ) (inside : start + n + beyond ≡ length s) (at : ℕ) (h : at < n) where
    pub far_moves : at + most_shown ≤ n →
        on_judged (judged_from (told_at v (take n (drop start s)) beyond at)) state ≡ on_judged (judged v (drop (start + at) s)) state
    far_moves far =
        told_moves v state (told_at v (take n (drop start s)) beyond at) (drop (start + at) s) (told_far v s start n beyond inside at h far)

    pub end_moves : beyond ≡ 0 →
        on_judged (judged_from (told_at v (take n (drop start s)) beyond at)) state ≡ on_judged (judged v (drop (start + at) s)) state
    end_moves none =
        told_moves v state (told_at v (take n (drop start s)) beyond at) (drop (start + at) s) (told_end v s start n beyond inside at h none)
