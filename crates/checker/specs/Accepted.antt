-- Document 01, "Blocks": "After the version a stream is a body and END."
use Rattle.std.specs.Prelude.{ℕ, ◌≡◌, true, false, List, length, get_or, Some}
use Rattle.paper.specs.Versions.{named}
use Rattle.paper.specs.Blocks.{out, then, Body}
use Rattle.paper.specs.Stream.{cut_from, length_laid}
use Rattle.paper.specs.declared.Version.{Version}
use Rattle.paper.specs.declared.Class.TheVariants.{Closes}
use Rattle.paper.specs.declared.Closer.TheVariants.{End}
use Rattle.blocks.specs.Nesting.{count_of}

-- a lawful length, a version, a body and END with nothing behind, and the number of the instructions
pub record Grammatical (stream : List ℕ) (n : ℕ) : Type 0 where
  pub laid : length_laid (length stream) ≡ true
  pub version : Version
  pub names : named (get_or stream 0 0) ≡ Some version
  pub ends_at : ℕ
  pub up_to : ℕ
  pub body : Body 0 false false (cut_from version stream 1) (then (Closes End) ends_at (out up_to))
  pub counted : n ≡ count_of (cut_from version stream 1)
