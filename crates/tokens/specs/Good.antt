-- A token that is good at its place, where the place's types are a set and it is free exactly if sizes are stated.
use Rattle.std.specs.Prelude.{ℕ, Bool, ◌&&◌, ◌||◌, eqb}
use Rattle.paper.specs.Notation.{bit}
use Rattle.paper.specs.OperandTokens.{both_laid, source_modifier, modifier_of, type_of, laid, relative_sources, marked_sources}
use Rattle.paper.specs.Places.{free_destination}
use Rattle.paper.specs.declared.Version.{Version}
use Rattle.versions.specs.Sets.{holds}

abbrev pub good_written : Version → ℕ → ℕ → Bool
good_written v types token = laid v free_destination token && holds types (type_of token)

-- bit 13 is zero, or the version's sources may have it
abbrev pub source_laid_in : Version → ℕ → Bool
source_laid_in v token =
    (both_laid token && source_modifier v (modifier_of token) (type_of token))
    && (eqb (bit 13 token) 0 || (relative_sources v || marked_sources v))

abbrev pub good_read : Version → ℕ → ℕ → Bool
good_read v types token = source_laid_in v token && holds types (type_of token)
