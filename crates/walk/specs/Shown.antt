-- How many tokens of an instruction are looked at.
use Rattle.std.specs.Prelude.{ℕ, ◌+◌}

-- "Bits 27:24 are the size": nothing but a comment claims more tokens behind its first one
abbrev pub most_claimed : ℕ
most_claimed = 15

-- its first token and these
abbrev pub most_shown : ℕ
most_shown = most_claimed + 1
