-- Boundaries, as the code finds them.
use Rattle.std.specs.Prelude.{ℕ, ◌+◌, ◌-◌, ◌≤◌, ◌<◌, ◌≡◌, Option, Some, None, List, length}
use Rattle.paper.specs.Stream.{most_tokens}
use Rattle.paper.specs.declared.Version.{Version}
use Rattle.edit.specs.Boundaries.{nowhere, standing_at}
use Rattle.walk.specs.declared.State.{State}
use Rattle.walk.specs.Stands.{Stands}

-- the walk stands at the position so, or the position is no boundary
abbrev pub FoundAt : Version → List ℕ → ℕ → Option State → Type 0
FoundAt v s target (Some state) = Stands v s state × (state.at ≡ target)
FoundAt v s target None = standing_at v s target ≡ nowhere

-- both places of an edit, in order
pub record Between (v : Version) (old : List ℕ) (first last : State) : Type 0 where
  pub from : Stands v old first
  pub upto : Stands v old last
  pub order : first.at ≤ last.at
  pub inside : last.at < length old

-- a position of the splice, at i or behind
pub record InSplice (old : List ℕ) (i j : ℕ) (run : List ℕ) (at : ℕ) : Type 0 where
  pub order : i ≤ j
  pub inside : j ≤ length old
  pub few_old : length old ≤ most_tokens
  pub few_run : length run ≤ most_tokens
  pub behind : i ≤ at
  pub before : at < i + (length run + (length old - j))
