-- One step of the walk: a stretch of plain instructions is passed, the instruction at its end is judged, and the state moves behind it.
-- Document 01, "The numbers given back": RUN-OUT, the operands, then BLOCK and DEPTH.
use Rattle.std.specs.Prelude.{◌≡◌, ℕ, ◌+◌, ◌-◌, ◌%◌, ◌^◌, Bool, true, false, ◌&&◌, ◌||◌, List, nat_lt, Ok, Err, Some, None, Result}
use Rattle.paper.specs.Notation.{pick}
use Rattle.paper.specs.Numbers.{number_of, refusal, moved_by}
use Rattle.paper.specs.Blocks.{class_phase}
use Rattle.paper.specs.Walk.{counts}
use Rattle.paper.specs.declared.Version.{Version}
use Rattle.paper.specs.declared.Class.{Class}
use Rattle.paper.specs.declared.Reason.TheVariants.{RunOut as RUN_OUT, Tail as TAIL}
use Rattle.paper.specs.Judgements.{Judged, good_instruction, bad_instruction, Verdict}
use Rattle.told.specs.Numbered.{judged_from}
use Rattle.stretches.specs.Stretch.{Stretched}
use Rattle.stretches.specs.declared.Stretch.{Stretch}
use Rattle.walk.specs.declared.State.{State}
use Rattle.walk.specs.declared.Pace.{Pace}
use Rattle.paper.specs.declared.Refusal.{Refusal}
use Rattle.walk.specs.declared.Pace.TheVariants.{On, Done}
use Rattle.walk.specs.declared.Step.{Step}
use Rattle.walk.specs.Kinds.{next_by, Next}

-- A sum of positions as 64 bits hold it. No stream that fits a memory has a position that wraps.
abbrev pub wrapped : ℕ → ℕ
wrapped n = n % 2 ^ 64

-- the walk begins behind the version
abbrev pub begun : State
begun = record { at = 1; count = 0; kinds = 0; phased = false }

-- the state behind an instruction that takes so many tokens behind its first one
abbrev pub behind_of : State → ℕ → Class → ℕ → State
behind_of state size class kinds =
    record {
      at = wrapped (wrapped (state.at + size) + 1);
      count = wrapped (counts class state.count);
      kinds = kinds;
      phased = state.phased || class_phase class;
    }

-- the state behind so many tokens of plain instructions, of which there are so many
abbrev pub advanced : State → ℕ → ℕ → State
advanced state tokens instructions =
    record {
      at = wrapped (state.at + tokens);
      count = wrapped (state.count + instructions);
      kinds = state.kinds;
      phased = state.phased;
    }

-- the state at the end of a stretch that begins at a place of the tokens shown
abbrev pub passed : State → ℕ → Stretch → State
passed state at stretch = advanced state (stretch.at - at) stretch.count

-- what a step of the walk answers
abbrev pub Answer : Type 0
Answer = Result Pace Refusal

abbrev pub step_of : Answer → State → Step
step_of answer state = record { answer = answer; state = state }

-- the state of a refusal is the one before it
abbrev pub on_next_by : Next → State → ℕ → Class → Step
on_next_by (Ok (Some kinds)) state size class = step_of (Ok On) (behind_of state size class kinds)
on_next_by (Err reason) state size class = step_of (Err (refusal reason state.at)) state
on_next_by (Ok None) state size class = step_of (Ok Done) (behind_of state size class state.kinds)

abbrev pub on_judged : Judged → State → Step
on_judged (good_instruction size class) state = on_next_by (next_by state.kinds state.phased class) state size class
on_judged (bad_instruction r) state = step_of (Err (moved_by (λ p. wrapped (state.at + p)) r)) state

-- what is told of a step: the number of a refusal, or 0, its position and its detail; 1 where an END finishes the stream; the state
pub record ToldStep : Type 0 where
  pub number : ℕ
  pub position : ℕ
  pub detail : ℕ
  pub finished : ℕ
  pub state : State

abbrev pub told_move : Answer → State → ToldStep
told_move (Ok On) state = record { number = 0; position = 0; detail = 0; finished = 0; state = state }
told_move (Ok Done) state = record { number = 0; position = 0; detail = 0; finished = 1; state = state }
told_move (Err r) state =
    record { number = number_of r.reason; position = r.position; detail = r.detail; finished = 0; state = state }

unfoldable pub told_step : Step → ToldStep
told_step step = told_move step.answer step.state

-- from a state that is at a place of the tokens shown: over a stretch from there on, and the instruction at its end
pub record Passes (v : Version) (tokens : List ℕ) (state : State) (at stop beyond : ℕ) (told : ToldStep) : Type 0 where
  pub stretch : Stretch
  pub stretched : Stretched v tokens at stop beyond stretch
  pub steps : told ≡ told_step (on_judged (judged_from stretch.told) (passed state at stretch))

-- the walk goes on, before a position
abbrev pub is_on : Answer → Bool
is_on (Ok On) = true
is_on (Ok Done) = false
is_on (Err r) = false

abbrev pub goes_on : Step → ℕ → Bool
goes_on step until = is_on step.answer && nat_lt step.state.at until

-- behind the END that finishes a stream of so many tokens: "tokens after END" are TAIL
abbrev pub end_of : State → ℕ → Verdict
end_of state tokens = pick (nat_lt state.at tokens) (Err (refusal TAIL state.at)) (Ok state.count)

-- the verdict behind the last step; where the walk would go on no token is left, which is RUN-OUT at the token count
abbrev pub verdict_by : Answer → State → ℕ → Verdict
verdict_by (Ok On) state tokens = Err (refusal RUN_OUT tokens)
verdict_by (Ok Done) state tokens = end_of state tokens
verdict_by (Err r) state tokens = Err r

abbrev pub verdict_of : Step → ℕ → Verdict
verdict_of step tokens = verdict_by step.answer step.state tokens
