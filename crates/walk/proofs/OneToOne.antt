-- What is told of a step leaves one answer, and so does the promise of a pass.
use Rattle.std.specs.Prelude.{Ok, Err}
use Rattle.std.proofs.Common.{◌≡◌, ℕ, eqb, List, sym, refl, ap, ◌∙◌, ne_eqb}
use Rattle.paper.specs.Notation.{pick}
use Rattle.paper.specs.Numbers.{number_of, reason_by, refusal_at_bit}
use Rattle.paper.specs.declared.Version.{Version}
use Rattle.paper.specs.declared.Reason.{Reason}
use Rattle.paper.proofs.OneToOne.{told_back, reason_back, no_reason_zero}
use Rattle.told.specs.Numbered.{judged_from}
use Rattle.stretches.specs.declared.Stretch.{Stretch}
use Rattle.stretches.proofs.Stretches.{one_stretch}
use Rattle.walk.specs.declared.State.{State}
use Rattle.walk.specs.declared.Pace.TheVariants.{On, Done}
use Rattle.walk.specs.declared.Step.{Step}
use Rattle.walk.specs.Steps.{passed, step_of, on_judged, ToldStep, told_move, told_step, Passes, Answer}

step_from : ToldStep → Step
step_from t =
    step_of
    (pick (eqb t.number 0) (pick (eqb t.finished 0) (Ok On) (Ok Done)) (Err (refusal_at_bit (reason_by t.number) t.position t.detail)))
    t.state

step_back : (answer : Answer) (state : State) → step_from (told_move answer state) ≡ step_of answer state
unfolding step_from
step_back (Ok On) state = refl
step_back (Ok Done) state = refl
step_back (Err r) state =
    rw (ne_eqb (number_of r.reason) 0 (λ e. no_reason_zero r.reason (sym e)))
    (ap (λ (x : Reason). step_of (Err (refusal_at_bit x r.position r.detail)) state) (reason_back r.reason))

pub same_step : (a b : Step) → told_step a ≡ told_step b → a ≡ b
unfolding told_step
same_step = told_back told_step step_from (λ s. step_back s.answer s.state)

pub one_pass : (v : Version) (tokens : List ℕ) (state : State) (at stop beyond : ℕ) (a b : Step) →
    Passes v tokens state at stop beyond (told_step a) → Passes v tokens state at stop beyond (told_step b) → a ≡ b
one_pass v tokens state at stop beyond a b p q =
    let same : p.stretch ≡ q.stretch = one_stretch v tokens beyond stop at p.stretch q.stretch p.stretched q.stretched in
    same_step a b
    (p.steps ∙ ap (λ (r : Stretch). told_step (on_judged (judged_from r.told) (passed state at r))) same ∙ sym q.steps)
