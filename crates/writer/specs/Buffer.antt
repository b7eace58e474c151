-- Tokens in a buffer, each of 32 bits.
use Rattle.std.specs.Prelude.{ℕ, ◌+◌, ◌%◌, ◌^◌, ◌≡◌, List, ◌++◌, map, length, take, drop}
use Rattle.std.proofs.lemmas.List.Edits.{sets}

-- each token cut to its lowest 32 bits
abbrev pub word : ℕ → ℕ
word token = token % 2 ^ 32

unfoldable pub words_of : List ℕ → List ℕ
words_of tokens = map word tokens

-- exactly the tokens from a place on that the new ones cover are changed
unfoldable pub pasted : List ℕ → ℕ → List ℕ → List ℕ
pasted buffer at tokens = take at buffer ++ (tokens ++ drop (at + length tokens) buffer)

-- tokens stored from a place of a room on: the next place, and what the room holds then
pub record Put (tokens room : List ℕ) (at next : ℕ) (after : List ℕ) : Type 0 where
  pub next_is : next ≡ at + length tokens
  pub after_is : after ≡ sets room at (words_of tokens)
