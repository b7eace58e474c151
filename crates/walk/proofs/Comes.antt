-- A walk that takes step after step up to a position: its steps come further each time, and behind the last one the verdict is known.
use Rattle.std.specs.Prelude.{Ok, Err}
use Rattle.std.proofs.Common.{◌≡◌, ℕ, ◌-◌, ◌<◌, ◌≤◌, true, false, List, length, refl, arith, ltb-false, ltb-true, le-ltb}
use Rattle.paper.proofs.Bools.{apart}
use Rattle.paper.specs.Stream.{walked}
use Rattle.paper.specs.declared.Version.{Version}
use Rattle.walk.specs.declared.State.{State}
use Rattle.walk.specs.declared.Pace.TheVariants.{On, Done}
use Rattle.walk.specs.declared.Step.{Step}
use Rattle.walk.specs.Steps.{step_of, goes_on, verdict_by, verdict_of, Answer}
use Rattle.walk.specs.Stands.{Stands, comes_by, Comes}
use Rattle.walk.proofs.OnStream.{stands_out}

-- how far a walk that goes on is from a position: what falls with each step
abbrev left_by : Answer → State → ℕ → ℕ
left_by (Ok On) state until = until - state.at
left_by (Ok Done) state until = 0
left_by (Err r) state until = 0

abbrev pub left_to : Step → ℕ → ℕ
left_to step until = left_by step.answer step.state until

-- a step that goes on before a position
on_by : (answer : Answer) (state : State) (until : ℕ) → goes_on (step_of answer state) until ≡ true → (answer ≡ Ok On) × (state.at < until)
on_by (Ok On) state until g = (cc, ltb-true state.at until g)
on_by (Ok Done) state until g = apart (cc)
on_by (Err r) state until g = apart (cc)

-- a step that does not go on before a position does not before an earlier one
off_by : (answer : Answer) (state : State) (until earlier : ℕ) → goes_on (step_of answer state) until ≡ false → earlier ≤ until → goes_on (step_of answer state) earlier ≡ false
off_by (Ok On) state until earlier g h = le-ltb state.at earlier (omega (arith, ltb-false state.at until g))
off_by (Ok Done) state until earlier g h = refl
off_by (Err r) state until earlier g h = refl

pub goes_not : (step : Step) (until earlier : ℕ) → goes_on step until ≡ false → earlier ≤ until → goes_on step earlier ≡ false
goes_not step until earlier g h = off_by step.answer step.state until earlier g h

module _ (v : Version) (s : List ℕ) where
  less_by : (answer : Answer) (state : State) (more until at : ℕ) → comes_by v s more answer state → at < more → at < until →
      left_by answer state until < until - at
  less_by (Ok On) state more until at c h g = omega (arith, c.1)
  less_by (Ok Done) state more until at c h g = omega arith
  less_by (Err r) state more until at c h g = omega arith

  since_by : (answer : Answer) (state : State) (more from : ℕ) → comes_by v s more answer state → from ≤ more → comes_by v s from answer state
  since_by (Ok On) state more from c h = (c.0, omega (arith, c.1))
  since_by (Ok Done) state more from c h = c
  since_by (Err r) state more from c h = c

  not_by : (answer : Answer) (state : State) (from until : ℕ) → comes_by v s from answer state → goes_on (step_of answer state) until ≡ false →
      comes_by v s until answer state
  not_by (Ok On) state from until c g = (c.0, ltb-false state.at until g)
  not_by (Ok Done) state from until c g = c
  not_by (Err r) state from until c g = c

  verdict_by_lem : (answer : Answer) (state : State) → comes_by v s (length s) answer state → verdict_by answer state (length s) ≡ walked v s
  verdict_by_lem (Ok On) state c = stands_out v s state c.0 c.1
  verdict_by_lem (Ok Done) state c = c
  verdict_by_lem (Err r) state c = c

  module _ (step : Step) (from : ℕ) (comes : Comes v s from step) where
    pub comes_since : (earlier : ℕ) → earlier ≤ from → Comes v s earlier step
    comes_since earlier h = since_by step.answer step.state from earlier comes h

    module _ (until : ℕ) where
      -- it goes on before the position: the next step begins where the walk stands
      pub comes_on : goes_on step until ≡ true → Stands v s step.state × (from ≤ step.state.at) × (step.state.at < until)
      comes_on g =
          let on = on_by step.answer step.state until g in
          let c : comes_by v s from (Ok On) step.state = rw on.0 at comes in
          (c.0, c.1, on.1)

      -- it does not: it is at the position or behind it, or the verdict is known
      pub comes_not : goes_on step until ≡ false → Comes v s until step
      comes_not g = not_by step.answer step.state from until comes g

      -- and a next step that comes further than where it stands is nearer to the position
      pub comes_turn : goes_on step until ≡ true → (next : Step) (more : ℕ) → Comes v s more next → step.state.at < more →
          (left_to next until < left_to step until) × Comes v s from next
      comes_turn g next more further h =
          let on = on_by step.answer step.state until g in (
            rw on.0 (less_by next.answer next.state more until step.state.at further h on.1),
            since_by next.answer next.state more from further (omega (arith, (comes_on g).1)),
          )

    -- the verdict where the walk does not go on
    pub comes_verdict : goes_on step (length s) ≡ false → verdict_of step (length s) ≡ walked v s
    comes_verdict g = verdict_by_lem step.answer step.state (comes_not (length s) g)
