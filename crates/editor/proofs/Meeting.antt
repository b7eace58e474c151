-- Where the walk of the splice meets the old one, and what the edit answers where it does and where it does not.
use Rattle.std.specs.Prelude.{Ok}
use Prim.Native.Nat.{ℕ, ◌+◌, ◌-◌, ◌<◌}
use mathlib.Core.Path.{◌≡◌, refl, ap, sym, ◌∙◌}
use mathlib.Core.Bool.{Bool, true, false, ◌&&◌, beq}
use mathlib.Core.List.{List}
use native.Mathlib.Omega.{arith}
use lib.Dec.{eqb, ltb}
use lib.ListN.{length}
use borrow.Author.Tests.{eqb-true, eq-eqb, le-ltb, ltb-true, ltb-false}
use Rattle.paper.specs.Walk.{WalkState}
use Rattle.paper.specs.declared.Version.{Version}
use Rattle.edit.specs.declared.Edited.TheVariants.{Joined}
use Rattle.edit.specs.Boundaries.{nowhere, stands_with, standing_at}
use Rattle.edit.specs.Edit.{splice, new_length, meets_at_end, on_verdict, spliced, Outcome}
use Rattle.edit.proofs.Standing.{reached_standing}
use Rattle.paper.proofs.Bools.{apart, and_false, both}
use Rattle.edit.proofs.Prefix.{splice_length}
use Rattle.edit.proofs.SameBlocks.{same_mark, mark_itself, state_same, met as both_stand, meeting}
use Rattle.walk.specs.declared.State.{State}
use Rattle.walk.specs.declared.Step.{Step}
use Rattle.walk.specs.Kinds.{kinds_number}
use Rattle.walk.specs.Steps.{is_on, goes_on, verdict_of}
use Rattle.walk.specs.Stands.{Stands, step_at, Comes}
use Rattle.walk.proofs.OpenBlocks.{number_same}
use Rattle.walk.proofs.Comes.{goes_not, comes_verdict}
use Rattle.editor.specs.Found.{Between}
use Rattle.editor.proofs.Onward.{none_ahead}

-- three equations, tested together
module _ (a b c d : ℕ) (x y : Bool) where
  all_equal : eqb a b && (eqb c d && beq x y) ≡ true → (a ≡ b) × (c ≡ d) × (x ≡ y)
  all_equal e =
      let t = both (eqb a b) (eqb c d && beq x y) e in
      let r = both (eqb c d) (beq x y) t.1 in
      (eqb-true a b t.0, eqb-true c d r.0, same_mark x y r.1)

  not_all : eqb a b && (eqb c d && beq x y) ≡ false → a ≡ b → c ≡ d → x ≡ y → ⊥
  not_all e f g h = let z : true ≡ false = rw (eq-eqb a b f, eq-eqb c d g, h, mark_itself y) at e in apart (cc)

module _ (v : Version) (old : List ℕ) (first last : State) (run : List ℕ) where
  abbrev stream : List ℕ
  stream = splice old first.at last.at run

  abbrev end : ℕ
  end = first.at + length run

  abbrev whole : ℕ
  whole = end + (length old - last.at)

  abbrev answer : Outcome
  answer = spliced v old first.at last.at run

  abbrev Meets : Bool → Type 0
  Meets met = meets_at_end v old first.at last.at run ≡ met

  -- the code's test
  abbrev meets_at : State → Bool
  meets_at state = eqb state.at end && (eqb state.kinds last.kinds && beq state.phased last.phased)

  -- where a step does not go on at the run's end or before it, the walk has not met the old one
  abbrev pub Unmet : Step → Type 0
  Unmet step = goes_on step (end + 1) ≡ false → Meets false

  module _ (b : Between v old first last) where
    long : length stream ≡ whole
    long = let i = b.inside in let o = b.order in splice_length old first.at last.at run (omega arith)

    as_told : whole ≡ new_length (length old) first.at last.at (length run)
    as_told = let i = b.inside in let o = b.order in omega arith

    last_stands : standing_at v old last.at ≡ stands_with b.upto.carries
    last_stands = reached_standing v old last.at b.upto.carries b.inside b.upto.reaches

    nowhere_meets : standing_at v stream end ≡ nowhere → Meets false
    unfolding meets_at_end
    nowhere_meets e = rw (last_stands, e)

    module _ (state : State) (h : Stands v stream state) where
      end_stands : state.at ≡ end → standing_at v stream end ≡ stands_with h.carries
      end_stands e =
          let i = b.inside in
          let inside : state.at < length stream = omega (arith, long) in
          rw e at (reached_standing v stream state.at h.carries inside h.reaches)

      -- at the run's end, with the blocks and the mark that the old stream has at j
      meets_here : state.at ≡ end → state.kinds ≡ last.kinds → state.phased ≡ last.phased → Meets true
      unfolding meets_at_end
      meets_here e same mark =
          let there = b.upto in
          let blocks = number_same h.carries.kinds there.carries.kinds (sym h.numbered ∙ same ∙ there.numbered) in
          let is = state_same h.carries there.carries blocks (sym h.marked ∙ mark ∙ there.marked) in
          meeting (standing_at v old last.at) (standing_at v stream end) there.carries last_stands (end_stands e ∙ ap stands_with is)

      -- and with others
      differs_here : state.at ≡ end → (state.kinds ≡ last.kinds → state.phased ≡ last.phased → ⊥) → Meets false
      unfolding meets_at_end
      differs_here e different = this (meets_at_end v old first.at last.at run) refl
        where
          this : (met : Bool) → Meets met → met ≡ false
          this true m =
              let t = both_stand (standing_at v old last.at) (standing_at v stream end) m in
              let there = last_stands in
              let here = end_stands e in
              let states : stands_with h.carries ≡ stands_with b.upto.carries = sym here ∙ t.2 ∙ sym t.1 ∙ there in
              let same : h.carries ≡ b.upto.carries = cc in
              absurd (different (h.numbered ∙ ap (λ (w : WalkState). kinds_number w.kinds) same ∙ sym b.upto.numbered)
              (h.marked ∙ ap (λ (w : WalkState). w.phased) same ∙ sym b.upto.marked))
          this false m = refl

      -- JOINED
      pub turn_joined : meets_at state ≡ true → Ok (Joined whole) ≡ answer
      turn_joined met =
          let t = all_equal state.at end state.kinds last.kinds state.phased last.phased met in
          rw (meets_here t.0 t.1 t.2, as_told)

    -- a turn of the loop that does not meet the old walk
    module _ (step : Step) (unmet : Unmet step) (h : Stands v stream step.state) (before : step.state.at < whole) (other : meets_at step.state ≡ false) where
      pub turn_unmet : Unmet (step_at v stream step.state)
      turn_unmet off = by_order (ltb step.state.at end) refl (ltb end step.state.at) refl
        where
          by_order : (x : Bool) → ltb step.state.at end ≡ x → (y : Bool) → ltb end step.state.at ≡ y → Meets false
          by_order true e y f = nowhere_meets (none_ahead v stream step.state h (omega (arith, long)) end (ltb-true step.state.at end e) off)
          by_order false e true f = unmet (rw (le-ltb step.state.at (end + 1) (omega (arith, ltb-true end step.state.at f))) (and_false (is_on step.answer)))
          by_order false e false f =
              let here : step.state.at ≡ end = omega (arith, ltb-false step.state.at end e, ltb-false end step.state.at f) in
              differs_here step.state h here
              (not_all step.state.at end step.state.kinds last.kinds step.state.phased last.phased other here)

    -- behind the last step: all of the splice is read
    pub turn_last : (step : Step) → Comes v stream first.at step → Unmet step → goes_on step whole ≡ false → on_verdict (verdict_of step whole) whole ≡ answer
    turn_last step comes unmet off =
        let i = b.inside in
        let read = comes_verdict v stream step first.at comes (rw long off) in
        rw (unmet (goes_not step whole (end + 1) off (omega arith)), ← read, long, ← as_told)
