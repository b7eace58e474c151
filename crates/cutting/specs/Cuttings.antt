-- A cutting of tokens: chunks whose concatenation is the tokens, each lawful alone, the last one END and no other one END.
use Rattle.std.specs.Prelude.{ℕ, ◌+◌, ◌≡◌, true, false, List, [], ◌∷◌, ◌++◌, length, drop, get_or, Some}
use Rattle.paper.specs.Versions.{named}
use Rattle.paper.specs.Instruction.{judged}
use Rattle.paper.specs.Blocks.{Cut, out, then}
use Rattle.paper.specs.Stream.{length_laid}
use Rattle.paper.specs.declared.Version.{Version}
use Rattle.paper.specs.Judgements.{good_instruction}
use Rattle.paper.specs.declared.Class.{Class}
use Rattle.paper.specs.declared.Class.TheVariants.{Closes}
use Rattle.paper.specs.declared.Closer.TheVariants.{End}
use Rattle.paper.specs.Walk.{counts}
use Rattle.blocks.specs.Begins.{ends_stream, Lawful}

-- the chunks, one behind the other
abbrev pub joined : List (List ℕ) → List ℕ
joined [] = []
joined (chunk ∷ chunks) = chunk ++ joined chunks

-- a chunk is lawful alone: judged with nothing behind it, it is good, takes all its tokens, and has this class
abbrev pub Alone : Version → ℕ → List ℕ → Class → Type 0
Alone v first rest class = judged v (first ∷ rest) ≡ good_instruction (length rest) class

-- chunks with their classes: each lawful alone, the last one END and no other one END
pub data Chunks (v : Version) : List (List ℕ) → List Class → Type 0 where
  last : {first : ℕ} {rest : List ℕ} → Alone v first rest (Closes End) → Chunks v ((first ∷ rest) ∷ []) (Closes End ∷ [])
  next : {first : ℕ} {rest : List ℕ} {class : Class} {chunks : List (List ℕ)} {classes : List Class} →
      Alone v first rest class → ends_stream class ≡ false → Chunks v chunks classes → Chunks v ((first ∷ rest) ∷ chunks) (class ∷ classes)

abbrev pub Cutting : Version → List ℕ → List (List ℕ) → List Class → Type 0
Cutting v tokens chunks classes = Chunks v chunks classes × (joined chunks ≡ tokens)

-- a cutting as the blocks see it, from a position on: the classes, each with its chunk's position
abbrev pub cut_of : List (List ℕ) → List Class → ℕ → Cut
cut_of [] classes p = out p
cut_of (chunk ∷ chunks) [] p = out p
cut_of (chunk ∷ chunks) (class ∷ classes) p = then class p (cut_of chunks classes (p + length chunk))

-- the number of chunks that are neither comments nor END
abbrev pub instructions : List Class → ℕ
instructions [] = 0
instructions (class ∷ classes) = counts class (instructions classes)

-- a stream of n instructions: of lawful length, its first token names a version, and the tokens behind that have a cutting, the classes of
-- which are a body and END by the grammar of the blocks
pub record LawfulStream (stream : List ℕ) (n : ℕ) : Type 0 where
  pub is_long : length_laid (length stream) ≡ true
  pub version : Version
  pub is_named : named (get_or stream 0 0) ≡ Some version
  pub chunks : List (List ℕ)
  pub classes : List Class
  pub is_cutting : Cutting version (drop 1 stream) chunks classes
  pub is_derived : Lawful (cut_of chunks classes 1)
  pub is_count : instructions classes ≡ n
