-- The offending bits of a token, where the bits that must be zero, and those that tell of a field, are sets.
use Rattle.std.specs.Prelude.{ℕ, Bool, ◌&&◌, ◌||◌}
use Rattle.versions.specs.Sets.{holds}

abbrev pub offends_in : ℕ → ℕ → ℕ → ℕ → Bool
offends_in zeros fields token k = (holds zeros k && holds token k) || holds fields k
