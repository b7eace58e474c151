-- A stretch of plain instructions, and the instruction at its end.
use Rattle.std.specs.Prelude.{ℕ, suc, ◌+◌, ◌<◌, ◌≡◌, true, false, ◌&&◌, List, ltb, length, drop, get_or}
use Rattle.paper.specs.Notation.{pick}
use Rattle.paper.specs.Numbers.{refusal}
use Rattle.paper.specs.declared.Version.{Version}
use Rattle.paper.specs.declared.Reason.TheVariants.{RunOut as RUN_OUT}
use Rattle.told.specs.Numbered.{refusal_number, judged_number, is_plain, size_in}
use Rattle.stretches.specs.declared.Stretch.{Stretch}
use Rattle.instruction.specs.Shown.{judged_in}

-- what is told of the instruction at a place of these tokens, behind which so many more are there
unfoldable pub told_at : Version → List ℕ → ℕ → ℕ → ℕ
told_at v tokens beyond at =
    pick (ltb at (length tokens))
    (judged_number (judged_in v (get_or tokens at 0) (drop (at + 1) tokens) (length (drop (at + 1) tokens) + beyond)))
    (refusal_number (refusal RUN_OUT 0))

-- the place behind it
abbrev pub next_at : ℕ → ℕ → ℕ
next_at at told = at + 1 + size_in told

-- so many plain instructions lead from one place to another, and those behind the first begin before `stop`
pub data PlainTo (v : Version) (tokens : List ℕ) (beyond stop start : ℕ) : ℕ → ℕ → Type 0 where
  here : PlainTo v tokens beyond stop start start 0
  past : {at n : ℕ} → PlainTo v tokens beyond stop start at n → is_plain (told_at v tokens beyond at) ≡ true →
      next_at at (told_at v tokens beyond at) < stop → PlainTo v tokens beyond stop start (next_at at (told_at v tokens beyond at)) (suc n)

-- they lead to an instruction that is not plain, or behind which the next one does not begin before `stop`
pub record Stretched (v : Version) (tokens : List ℕ) (start stop beyond : ℕ) (r : Stretch) : Type 0 where
  pub leads : PlainTo v tokens beyond stop start r.at r.count
  pub is : r.told ≡ told_at v tokens beyond r.at
  pub ends : (is_plain r.told && ltb (next_at r.at r.told) stop) ≡ false
