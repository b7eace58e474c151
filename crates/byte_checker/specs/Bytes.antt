-- Document 01, "What the build does": "it hands the check a byte range, tokens little-endian".
use Rattle.std.specs.Prelude.{ℕ, ◌+◌, ◌*◌, ◌%◌, List, [], ◌∷◌, map, eqb, length, Err}
use Rattle.std.specs.Int.{w32, from_le_bytes}
use Rattle.paper.specs.Notation.{pick}
use Rattle.paper.specs.Numbers.{refusal}
use Rattle.paper.specs.Stream.{verdict}
use Rattle.paper.specs.declared.Reason.TheVariants.{Length as LENGTH}
use Rattle.paper.specs.Judgements.{Verdict}

-- four bytes, the lowest first
abbrev pub little_endian : ℕ → ℕ → ℕ → ℕ → ℕ
little_endian b0 b1 b2 b3 = b0 + 0x100 * b1 + 0x10000 * b2 + 0x1000000 * b3

-- fewer than four bytes at the end are no token
unfoldable pub tokens_in : List ℕ → List ℕ
tokens_in [] = []
tokens_in (b0 ∷ []) = []
tokens_in (b0 ∷ b1 ∷ []) = []
tokens_in (b0 ∷ b1 ∷ b2 ∷ []) = []
tokens_in (b0 ∷ b1 ∷ b2 ∷ b3 ∷ rest) = little_endian b0 b1 b2 b3 ∷ tokens_in rest

-- the same, where the bytes stand in fours
abbrev pub tokens_of : List (List ℕ) → List ℕ
tokens_of = map (from_le_bytes w32)

-- LENGTH: "bytes not a multiple of 4"
unfoldable pub bytes_verdict : List ℕ → Verdict
bytes_verdict bytes = pick (eqb (length bytes % 4) 0) (verdict (tokens_in bytes)) (Err (refusal LENGTH 0))
