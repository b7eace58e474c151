-- The walk passes a stretch of plain instructions, and steps over the instruction at its end.
use Rattle.std.proofs.Common.{◌≡◌, ℕ, suc, ◌+◌, ◌-◌, ◌^◌, ◌<◌, ◌≤◌, List, length, drop, sym, refl, ap, ◌∙◌, subst, add-zero, mod-eq_of_lt, arith}
use Rattle.paper.specs.Instruction.{judged}
use Rattle.paper.specs.declared.Version.{Version}
use Rattle.paper.specs.declared.Class.TheVariants.{One}
use Rattle.paper.specs.declared.Single.TheVariants.{Plain}
use Rattle.paper.specs.Judgements.{good_instruction}
use Rattle.told.specs.Numbered.{size_in, judged_number, judged_from}
use Rattle.stretches.specs.Stretch.{told_at, PlainTo, here, past, Stretched}
use Rattle.stretches.specs.declared.Stretch.{Stretch}
use Rattle.stretches.proofs.Stretches.{told_whole, plain_judged}
use Rattle.walk.specs.declared.State.{State}
use Rattle.walk.specs.declared.Step.{Step}
use Rattle.walk.specs.Steps.{passed, on_judged, told_step, Passes}
use Rattle.walk.specs.Stands.{Stands, step_at, Comes}
use Rattle.walk.proofs.OneToOne.{same_step}
use Rattle.walk.proofs.Telling.{told_moves}
use Rattle.walk.proofs.OnStream.{stands_plain, step_comes}
use Rattle.walk.proofs.Comes.{comes_since}

-- a stretch that is judged, stepped over
pub passes_over : {v : Version} {tokens : List ℕ} (state : State) {at stop beyond : ℕ} (r : Stretch) (x : Step) → Stretched v tokens at stop beyond r →
    told_step x ≡ told_step (on_judged (judged_from r.told) (passed state at r)) → Passes v tokens state at stop beyond (told_step x)
passes_over state r x s e = record { stretch = r; stretched = s; steps = e }

-- a stretch leads on, and is one instruction where the next one may not begin before a stop
pub leads_ahead : {v : Version} {tokens : List ℕ} {beyond stop start at n : ℕ} → PlainTo v tokens beyond stop start at n → start ≤ at
leads_ahead here = omega arith
leads_ahead (past l p s) = omega (arith, leads_ahead l)

leads_none : {v : Version} {tokens : List ℕ} {beyond start at n : ℕ} → PlainTo v tokens beyond 0 start at n → (at ≡ start) × (n ≡ 0)
leads_none here = (refl, refl)
leads_none (past l p s) = absurd (omega arith)

-- so many tokens and so many instructions further, with the same blocks and the same mark
abbrev further : State → ℕ → ℕ → State
further state tokens instructions =
    record { at = state.at + tokens; count = state.count + instructions; kinds = state.kinds; phased = state.phased }

passed_is : (state : State) (at : ℕ) (r : Stretch) (tokens : ℕ) → r.at ≡ at + tokens → state.at + tokens < 2 ^ 64 → state.count + r.count < 2 ^ 64 →
    passed state at r ≡ further state tokens r.count
passed_is state at r tokens e h g =
    let along : at + tokens - at ≡ tokens = omega arith in
    rw (e, along, mod-eq_of_lt h, mod-eq_of_lt g)

-- with stop 0 a pass is the step over one instruction
pub pass_one : (v : Version) (tokens : List ℕ) (state : State) (at beyond : ℕ) (x : Step) → state.at < 2 ^ 64 → state.count < 2 ^ 64 →
    Passes v tokens state at 0 beyond (told_step x) → x ≡ on_judged (judged_from (told_at v tokens beyond at)) state
pass_one v tokens state at beyond x h g p =
    let none = leads_none p.stretched.leads in
    let is : passed state at p.stretch ≡ state =
    passed_is state at p.stretch 0 (omega (arith, none.0)) (omega arith) (omega (arith, none.1)) ∙ rw (none.1, add-zero state.at, add-zero state.count) in
    same_step x (on_judged (judged_from p.stretch.told) (passed state at p.stretch)) p.steps ∙ rw (is, p.stretched.is, none.0)

-- Tokens that show a stream: from the place `at` of theirs on, which is the position `there` of the stream, up to their place `end`, what is told
-- of an instruction is of the stream's
pub record Shows (v : Version) (s tokens : List ℕ) (beyond at there end : ℕ) : Type 0 where
  pub inside : there + (end - at) ≤ length s
  pub same : (k : ℕ) → at + k < end → told_at v tokens beyond (at + k) ≡ judged_number (judged v (drop (there + k) s))

-- a pass, as the walk of a stream goes: it stands somewhere before `end`, and steps from there
pub record Steps (v : Version) (s : List ℕ) (from end : ℕ) (step : Step) : Type 0 where
  pub last : State
  pub stands : Stands v s last
  pub behind : from ≤ last.at
  pub before : last.at < end
  pub steps : step_at v s last ≡ step

module _ (v : Version) (s : List ℕ) (fits : length s < 2 ^ 64) where
  -- where the walk comes to so
  pub steps_comes : (from end : ℕ) (x : Step) → Steps v s from end x → end ≤ length s → Comes v s (from + 1) x
  steps_comes from end x t h =
      let inside : t.last.at < length s = omega (arith, t.before) in
      let comes = subst (Comes v s (t.last.at + 1)) t.steps (step_comes v s t.last t.stands inside fits) in
      comes_since v s x (t.last.at + 1) comes (from + 1) (omega (arith, t.behind))

  -- a plain instruction further
  plain_stands : (state : State) (k n : ℕ) → Stands v s (further state k n) → state.at + k < length s → (size : ℕ) →
      judged v (drop (state.at + k) s) ≡ good_instruction size (One Plain) → Stands v s (further state (k + suc size) (suc n))
  plain_stands state k n stands inside size good =
      let place : state.at + k + suc size ≡ state.at + (k + suc size) = omega arith in
      let more : suc (state.count + n) ≡ state.count + suc n = omega arith in
      rw (place, more) at (stands_plain v s (further state k n) stands inside fits size good)

  module _
      (tokens : List ℕ)
      (beyond stop at end : ℕ)
      (state : State)
      (stands : Stands v s state)
      (shows : Shows v s tokens beyond at state.at end)
      (begins : at < end)
      (stops : stop ≤ end)
    where
      stretch_stands : {q n : ℕ} → PlainTo v tokens beyond stop at q n → (k : ℕ) × (q ≡ at + k) × (q < end) × Stands v s (further state k n)
      stretch_stands here = (0, omega arith, begins, rw (add-zero state.at, add-zero state.count) stands)
      stretch_stands (past {at = q} {n = n} l plain less) =
          let p = stretch_stands l in
          let k = p.0 in
          let told = told_at v tokens beyond q in
          let is = ap (told_at v tokens beyond) p.1 ∙ shows.same k (omega (arith, p.1, p.2)) in
          let good = plain_judged (judged v (drop (state.at + k) s)) told is plain in
          let inside : state.at + k < length s = omega (arith, p.1, p.2, shows.inside) in
          (k + suc (size_in told), omega (arith, p.1), omega arith, plain_stands state k n p.3 inside (size_in told) good)

      -- the pass is a step of the stream's walk
      pub pass_steps : (x : Step) → Passes v tokens state at stop beyond (told_step x) → Steps v s state.at (state.at + (end - at)) x
      unfolding step_at
      pass_steps x p =
          let l = stretch_stands p.stretched.leads in
          let r = p.stretch in
          let last = further state l.0 r.count in
          let before : state.at + l.0 < state.at + (end - at) = omega (arith, l.1, l.2) in
          let is : passed state at r ≡ last =
          passed_is state at r l.0 l.1 (omega (arith, shows.inside)) (omega (arith, shows.inside, l.3.counted)) in
          let tells = p.stretched.is ∙ ap (told_at v tokens beyond) l.1 ∙ shows.same l.0 (omega (arith, l.1, l.2)) in
          record {
            last = last;
            stands = l.3;
            behind = omega arith;
            before = before;
            steps =
                sym
                (same_step x (on_judged (judged_from r.told) (passed state at r)) p.steps
                ∙ ap (on_judged (judged_from r.told)) is
                ∙ told_moves v last r.told (drop (state.at + l.0) s) tells);
          }

      -- it comes to where the walk then stands, or the verdict of the stream is known
      pub pass_comes : (x : Step) → Passes v tokens state at stop beyond (told_step x) → Comes v s (state.at + 1) x
      pass_comes x p = steps_comes state.at (state.at + (end - at)) x (pass_steps x p) shows.inside

  -- a stream shows itself
  pub shows_whole : (at end : ℕ) → at < end → end ≤ length s → Shows v s s 0 at at end
  shows_whole at end h g = record { inside = omega arith; same = λ k l. told_whole v s (at + k) }
