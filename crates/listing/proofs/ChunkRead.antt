-- A chunk in a stream: it is judged as it is alone, and the reader gives its record and the place behind it.
use Prim.Native.Nat.{ℕ, suc, ◌+◌, ◌≤◌, ◌<◌}
use mathlib.Core.Path.{◌≡◌, refl, sym, ap, ◌∙◌}
use mathlib.Core.List.{List, ◌∷◌, ◌++◌}
use native.Mathlib.Omega.{arith}
use lib.ListN.{length, take, drop, length-drop}
use lib.Seq.{take-length, take_at, drop_at, drop-drop}
use borrow.Author.Tests.{le-leb}
use Rattle.paper.specs.Versions.{version_token}
use Rattle.paper.specs.Instruction.{judged}
use Rattle.paper.specs.Stream.{most_tokens}
use Rattle.paper.specs.declared.Version.{Version}
use Rattle.paper.specs.declared.Class.{Class}
use Rattle.paper.specs.Judgements.{good_instruction}
use Rattle.paper.proofs.VersionTokens.{named_back}
use Rattle.cutting.specs.Cuttings.{Alone}
use Rattle.paper.proofs.OwnTokens.{good_alone}
use Rattle.records.specs.Record.{record_of}
use Rattle.reader.specs.Reading.{got, reading}
use Rattle.reader.proofs.ReadingUnique.{reading_own}

module _ (v : Version) (first : ℕ) (rest other : List ℕ) {class : Class} (alone : Alone v first rest class)
    (s : List ℕ) (at : ℕ) (here : drop at s ≡ (first ∷ rest) ++ other) where
  own : take (suc (length rest)) (first ∷ rest) ≡ first ∷ rest
  own = take-length (first ∷ rest)

  pub judged_here : judged v (drop at s) ≡ good_instruction (length rest) class
  judged_here = rw here (ap (λ (c : List ℕ). judged v (c ++ other)) (sym own) ∙ good_alone (length rest) class v (first ∷ rest) other alone)

  pub inside : at < length s
  inside = omega (arith, length-drop at s, ap length here)

  pub behind : drop (at + suc (length rest)) s ≡ other
  behind = rw (← drop-drop (suc (length rest)) at s, here) (drop_at (first ∷ rest) other (suc (length rest)) refl)

  pub read_here : length s ≤ most_tokens → reading (version_token v) s at ≡ got (at + suc (length rest)) (record_of v (first ∷ rest))
  unfolding reading
  read_here few =
      let front : take (suc (length rest)) (drop at s) ≡ first ∷ rest = rw here (take_at (first ∷ rest) other (suc (length rest)) refl) in
      let place : at + length rest + 1 ≡ at + suc (length rest) = omega arith in
      rw (le-leb (length s) most_tokens few, named_back v, ← place)
      (reading_own v s at (length rest) class inside judged_here ∙ ap (λ (c : List ℕ). got (at + length rest + 1) (record_of v c)) front)
