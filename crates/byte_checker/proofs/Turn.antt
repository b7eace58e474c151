-- A turn of the walk over the part of a stream that a window holds.
use Rattle.std.proofs.Common.{◌≡◌, ℕ, ◌+◌, ◌-◌, ◌^◌, ◌≤◌, ◌<◌, ◌⊎◌, min, true, List, length, take, drop, subst, ⊎_elim, arith}
use Rattle.std.proofs.lemmas.List.{length-map}
use Rattle.std.specs.Int.{w32, from_le_bytes}
use Rattle.paper.specs.declared.Version.{Version}
use Rattle.stretches.proofs.Stretches.{told_far, told_end}
use Rattle.walk.specs.declared.State.{State}
use Rattle.walk.specs.declared.Step.{Step}
use Rattle.walk.specs.Shown.{most_claimed}
use Rattle.walk.specs.Steps.{goes_on, told_step, Passes}
use Rattle.walk.specs.Stands.{Stands, Comes}
use Rattle.walk.proofs.Stretching.{Shows, pass_comes}
use Rattle.walk.proofs.Comes.{left_to, comes_on, comes_turn}
use Rattle.byte_checker.specs.Bytes.{tokens_of}

-- a part from a state on, so many tokens of which are walked: behind these fifteen more are in it, or the stream ends with it
module _
    (v : Version)
    (tokens : List (List ℕ))
    (fits : length tokens < 2 ^ 64)
    (part : List ℕ)
    (from : State)
    (begins : from.at < length tokens)
    (size : length part ≡ min 192 (length tokens - from.at))
    (held : part ≡ take (length part) (drop from.at (tokens_of tokens)))
    (stop : ℕ)
    (inside : stop ≤ length part)
    (enough : (length tokens - from.at - length part ≡ 0) ⊎ (stop + most_claimed ≤ length part))
  where
    abbrev s : List ℕ
    s = tokens_of tokens

    abbrev beyond : ℕ
    beyond = length tokens - from.at - length part

    abbrev shown : List ℕ
    shown = take (length part) (drop from.at s)

    long : length s ≡ length tokens
    long = length-map tokens (from_le_bytes w32)

    module _ (state : State) (stands : Stands v s state) (after : from.at ≤ state.at) (before : state.at < from.at + stop) where
      -- what is told in the part is of the stream's instruction there
      part_shows : Shows v s shown beyond (state.at - from.at) state.at stop
      part_shows =
          record {
            inside = omega (arith, long, size);
            same =
                λ k h.
                let q = state.at - from.at + k in
                let place : from.at + q ≡ state.at + k = omega arith in
                let here : q < length part = omega arith in
                let all : from.at + length part + beyond ≡ length s = omega (arith, long, size) in
                rw (← place)
                (⊎_elim
                (λ none. told_end v s from.at (length part) beyond all q here none)
                (λ far. told_far v s from.at (length part) beyond all q here (omega arith))
                enough);
          }

      -- the walk stands behind this state, or the verdict is known
      part_comes : (x : Step) → Passes v shown state (state.at - from.at) stop beyond (told_step x) → Comes v s (state.at + 1) x
      part_comes x p =
          pass_comes v s (omega (arith, long)) shown beyond stop (state.at - from.at) stop state stands part_shows (omega arith) (omega arith) x p

    -- a turn begins where the walk stands, before the part's end, and comes further
    pub turned : (step : Step) → Comes v s from.at step → goes_on step (from.at + stop) ≡ true →
        (x : Step) → Passes v part step.state (step.state.at - from.at) stop beyond (told_step x) →
        (left_to x (from.at + stop) < left_to step (from.at + stop)) × Comes v s from.at x
    turned step comes on x passes =
        let h = comes_on v s step from.at comes (from.at + stop) on in
        let is = subst (λ (p : List ℕ). Passes v p step.state (step.state.at - from.at) stop beyond (told_step x)) held passes in
        comes_turn v s step from.at comes (from.at + stop) on x (step.state.at + 1) (part_comes step.state h.0 h.1 h.2 x is) (omega arith)
