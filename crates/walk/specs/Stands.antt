-- Where a walk stands in a stream, and where a step of it comes to.
use Rattle.std.specs.Prelude.{◌≡◌, ℕ, ◌+◌, ◌≤◌, List, length, drop, Ok, Err}
use Rattle.paper.specs.Instruction.{judged}
use Rattle.paper.specs.Walk.{WalkState, begin}
use Rattle.paper.specs.Blocks.{most_open}
use Rattle.paper.specs.Stream.{cut_from, walked}
use Rattle.paper.specs.declared.Version.{Version}
use Rattle.blocks.specs.Reach.{Reaches}
use Rattle.blocks.specs.Nesting.{count_of}
use Rattle.walk.specs.declared.State.{State}
use Rattle.walk.specs.declared.Pace.TheVariants.{On, Done}
use Rattle.walk.specs.declared.Step.{Step}
use Rattle.walk.specs.Kinds.{kinds_number}
use Rattle.walk.specs.Steps.{on_judged, verdict_by, Answer}

-- The walk of the stream comes to this position, carrying the open blocks and the mark of a PHASE, past so many instructions.
pub record Stands (v : Version) (s : List ℕ) (state : State) : Type 0 where
  pub carries : WalkState
  pub numbered : state.kinds ≡ kinds_number carries.kinds
  pub marked : state.phased ≡ carries.phased
  pub few : length carries.kinds ≤ most_open
  pub within : state.at ≤ length s
  pub counted : state.count ≤ state.at
  pub reaches : Reaches (cut_from v s 1) begin (cut_from v s state.at) carries
  pub counts : count_of (cut_from v s 1) ≡ state.count + count_of (cut_from v s state.at)

-- the step at a position of a stream
unfoldable pub step_at : Version → List ℕ → State → Step
step_at v s state = on_judged (judged v (drop state.at s)) state

-- Where a step of the walk comes to: it stands at a position or behind, or the verdict of the stream is known.
abbrev pub comes_by : Version → List ℕ → ℕ → Answer → State → Type 0
comes_by v s from (Ok On) state = Stands v s state × (from ≤ state.at)
comes_by v s from (Ok Done) state = verdict_by (Ok Done) state (length s) ≡ walked v s
comes_by v s from (Err r) state = verdict_by (Err r) state (length s) ≡ walked v s

abbrev pub Comes : Version → List ℕ → ℕ → Step → Type 0
Comes v s from step = comes_by v s from step.answer step.state
