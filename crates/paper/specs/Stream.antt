-- Document 01, "What the build does" and "The numbers given back": the verdict of a stream.
use Rattle.std.specs.Prelude.{ℕ, zero, suc, ◌+◌, Bool, ◌&&◌, List, [], ◌∷◌, leb, length, drop, get_or, Option, Some, None, Err}
use Rattle.paper.specs.Notation.{pick}
use Rattle.paper.specs.Versions.{named}
use Rattle.paper.specs.Numbers.{refusal, moved_by, ToldVerdict, told}
use Rattle.paper.specs.Instruction.{judged}
use Rattle.paper.specs.Blocks.{Cut, out, wrong, then}
use Rattle.paper.specs.Walk.{begin, walk}
use Rattle.paper.specs.declared.Version.{Version}
use Rattle.paper.specs.Judgements.{Judged, good_instruction, bad_instruction, Verdict}
use Rattle.paper.specs.declared.Reason.TheVariants.{Length as LENGTH, Version as VERSION}

-- the instruction at a position, and what follows it
abbrev pub cut_one : Judged → ℕ → (ℕ → Cut) → Cut
cut_one (good_instruction size class) p rest = then class p (rest (suc size))
cut_one (bad_instruction r) p rest = wrong p (moved_by (λ q. p + q) r)

-- tokens from position p on, cut into instructions; the first number bounds how many there are
unfoldable pub cutting : ℕ → Version → List ℕ → ℕ → Cut
cutting zero v tokens p = out p
cutting (suc most) v [] p = out p
cutting (suc most) v (token ∷ rest) p =
    cut_one (judged v (token ∷ rest)) p (λ n. cutting most v (drop n (token ∷ rest)) (p + n))

-- a stream from position p on
unfoldable pub cut_from : Version → List ℕ → ℕ → Cut
cut_from v stream p = cutting (length (drop p stream)) v (drop p stream) p

-- the walk of a stream, from behind its version on
unfoldable pub walked : Version → List ℕ → Verdict
walked v stream = walk 0 (cut_from v stream 1) begin

-- "fewer than 2 or more than 16,384 tokens"
abbrev pub most_tokens : ℕ
most_tokens = 16384

abbrev pub length_laid : ℕ → Bool
length_laid n = leb 2 n && leb n most_tokens

abbrev pub on_named : Option Version → (Version → Verdict) → Verdict
on_named (Some v) next = next v
on_named None next = Err (refusal VERSION 0)

-- "the first in this order: LENGTH, VERSION, then instruction by instruction"
unfoldable pub verdict : List ℕ → Verdict
verdict stream =
    pick (length_laid (length stream)) (on_named (named (get_or stream 0 0)) (λ v. walked v stream))
    (Err (refusal LENGTH 0))

-- what a check tells of a stream
abbrev pub checked : List ℕ → ToldVerdict
checked stream = told (verdict stream)
