-- The tokens of a splice, by those of the run and of the old stream.
use Rattle.std.specs.Prelude.{ℕ, List, ◌++◌, drop}

-- the tokens of a splice from i on: "the run, the old tokens from j"
unfoldable pub behind_run : List ℕ → List ℕ → ℕ → List ℕ
behind_run run old j = run ++ drop j old
