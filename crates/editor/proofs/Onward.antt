-- A walk with a boundary ahead goes on to it, and stops before it only where there is none.
use Rattle.std.specs.Bool.{then_some}
use Prim.Native.Nat.{ℕ, suc, ◌+◌, ◌≤◌, ◌<◌}
use mathlib.Core.Path.{◌≡◌, refl, ap, sym, ◌∙◌}
use mathlib.Core.Bool.{Bool, true, false}
use mathlib.Core.List.{List}
use native.Mathlib.Omega.{arith}
use lib.ListN.{length, drop}
use borrow.Author.Tests.{lt-ltb}
use Rattle.paper.specs.Instruction.{judged}
use Rattle.paper.specs.Walk.{WalkState, go, step}
use Rattle.paper.specs.declared.Version.{Version}
use Rattle.paper.specs.declared.Class.{Class}
use Rattle.paper.specs.Judgements.{good_instruction}
use Rattle.edit.specs.Boundaries.{Standing, nowhere, stands_with, standing_at}
use Rattle.edit.proofs.Standing.{Comes as Leads, stays, passes, ahead, standing_comes, reached_standing}
use Rattle.paper.proofs.Bools.{apart}
use Rattle.walk.specs.declared.State.{State}
use Rattle.walk.specs.declared.Step.{Step}
use Rattle.walk.specs.Kinds.{kinds_number, numbered, next_by}
use Rattle.walk.specs.Steps.{behind_of, goes_on}
use Rattle.walk.specs.Stands.{Stands, step_at, Comes}
use Rattle.walk.proofs.OnStream.{next_said}
use Rattle.walk.proofs.Comes.{comes_on, comes_not}
use Rattle.editor.specs.Found.{FoundAt}

-- where a step does not go on at a position or before it, that position is no boundary
abbrev pub Misses : Version → List ℕ → ℕ → Step → Type 0
Misses v s t step = goes_on step (t + 1) ≡ false → standing_at v s t ≡ nowhere

-- of two positions that a walk comes to, it comes from the first to the second
between : {v : Version} {s : List ℕ} {a p t : ℕ} {w u z : WalkState} → Leads v s a w p u → Leads v s a w t z → p ≤ t → Leads v s p u t z
between stays c h = c
between (passes j e l c) stays h = absurd (omega (arith, ahead c))
between (passes {size = size} {u = u} j e l c) (passes {size = other} {u = as-well} k f m d) h =
    let same_size : other ≡ size = cc in
    let same_state_lem : as-well ≡ u = cc in
    between c (rw (same_size, same_state_lem) at d) h

-- the instruction that it passes first
record First (v : Version) (s : List ℕ) (p t : ℕ) (w : WalkState) : Type 0 where
  pub size : ℕ
  pub class : Class
  pub next : WalkState
  pub good : judged v (drop p s) ≡ good_instruction size class
  pub goes : step w class ≡ go next
  pub near : p + suc size ≤ t

first_of : {v : Version} {s : List ℕ} {p t : ℕ} {w z : WalkState} → Leads v s p w t z → p < t → First v s p t w
first_of stays h = absurd (omega arith)
first_of (passes {size = size} {class = class} {u = u} j e l c) h =
    record { size = size; class = class; next = u; good = j; goes = e; near = ahead c }

module _ (v : Version) (s : List ℕ) (state : State) (h : Stands v s state) (inside : state.at < length s) where
  -- where the walk stands is a boundary
  pub stands_here : standing_at v s state.at ≡ stands_with h.carries
  stands_here = reached_standing v s state.at h.carries inside h.reaches

  module _ (t : ℕ) (before : state.at < t) where
    -- a boundary ahead: the step goes on, and not past it
    goes_to : (z : WalkState) → standing_at v s t ≡ stands_with z → goes_on (step_at v s state) (t + 1) ≡ true
    unfolding step_at
    goes_to z e =
        let here = (standing_comes v s state.at h.carries stands_here).0 in
        let there = (standing_comes v s t z e).0 in
        let f = first_of (between here there (omega arith)) before in
        let said : next_by state.kinds state.phased f.class ≡ numbered (go f.next) =
        next_said v s state h f.class ∙ ap numbered f.goes in
        rw (f.good, said) (lt-ltb (behind_of state f.size f.class (kinds_number f.next.kinds)).at (t + 1) (omega (arith, f.near)))

    -- so there is none where the step does not go on up to it
    pub none_ahead : Misses v s t (step_at v s state)
    none_ahead g = this (standing_at v s t) refl
      where
        this : (x : Standing) → standing_at v s t ≡ x → x ≡ nowhere
        this nowhere e = refl
        this (stands_with z) e = let on = goes_to z e in let both : true ≡ false = sym on ∙ g in apart (cc)

-- behind the last step of a walk up to a position: it stands there, or the position is no boundary
pub found_is : (v : Version) (s : List ℕ) (t : ℕ) (step : Step) → Comes v s 0 step → goes_on step t ≡ false → Misses v s t step → (b : Bool) → goes_on step (t + 1) ≡ b →
    FoundAt v s t (then_some b step.state)
found_is v s t step c g m true e =
    let on = comes_on v s step t (comes_not v s step 0 c t g) (t + 1) e in
    (on.0, omega (arith, on.1, on.2))
found_is v s t step c g m false e = m e
