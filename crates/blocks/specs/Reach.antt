-- Where a walk comes to, and a verdict whose positions are moved.
use Rattle.std.specs.Prelude.{ℕ, ◌≡◌, List, [], ◌∷◌, Ok, Err}
use Rattle.paper.specs.Numbers.{moved_by}
use Rattle.paper.specs.Blocks.{Cut, out, wrong, then}
use Rattle.paper.specs.Walk.{WalkState, step, Next, go, bad, finish}
use Rattle.paper.specs.declared.Class.{Class}
use Rattle.paper.specs.declared.Reason.TheVariants.{Tail as TAIL}
use Rattle.paper.specs.Judgements.{Verdict}

-- a walk at a, in the state w, comes to b in the state u
pub data Reaches : Cut → WalkState → Cut → WalkState → Type 0 where
  here : {a : Cut} {w : WalkState} → Reaches a w a w
  past : {c : Class} {p : ℕ} {a b : Cut} {w u t : WalkState} →
      step w c ≡ go u → Reaches a u b t → Reaches (then c p a) w b t

-- nothing may follow the END that finishes a stream
abbrev pub onwards : Next → List Class → (WalkState → Next) → Next
onwards (go w) cs next = next w
onwards (bad reason) cs next = bad reason
onwards finish [] next = finish
onwards finish (c ∷ cs) next = bad TAIL

-- the state after a row of classes, from the state w on
unfoldable pub open_after : WalkState → List Class → Next
open_after w [] = go w
open_after w (c ∷ cs) = onwards (step w c) cs (λ next. open_after next cs)

-- a verdict with its positions moved; a yes gives another count
abbrev pub moved : ℕ → (ℕ → ℕ) → Verdict → Verdict
moved count f (Ok n) = Ok count
moved count f (Err r) = Err (moved_by f r)

unfoldable pub moved_cut : (ℕ → ℕ) → Cut → Cut
moved_cut f (out p) = out (f p)
moved_cut f (wrong p r) = wrong (f p) (moved_by f r)
moved_cut f (then c p a) = then c (f p) (moved_cut f a)

-- the position that a cut begins at
unfoldable pub start_of : Cut → ℕ
start_of (out p) = p
start_of (wrong p r) = p
start_of (then c p a) = p
