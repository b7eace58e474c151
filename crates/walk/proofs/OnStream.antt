-- The step at a position of a stream is the walk's.
use Rattle.std.specs.Prelude.{Ok, Err}
use Rattle.std.proofs.Common.{◌≡◌, ℕ, suc, ◌+◌, ◌-◌, ◌^◌, ◌<◌, ◌≤◌, Bool, true, false, ◌||◌, ltb, List, length, drop, sym, refl, ap, ◌∙◌, subst, add-zero, mod-eq_of_lt, arith, length-drop, ltb-false, ltb-true}
use Rattle.paper.specs.Notation.{pick}
use Rattle.paper.specs.Numbers.{refusal, moved_by}
use Rattle.paper.specs.Instruction.{judged}
use Rattle.paper.specs.Blocks.{Cut, wrong, then, class_phase}
use Rattle.paper.specs.Walk.{WalkState, begin, marked, step, go, bad, finish, at_end, counts}
use Rattle.paper.specs.Walk.{Next as Said}
use Rattle.paper.specs.Stream.{cut_one, cut_from, walked}
use Rattle.paper.specs.declared.Version.{Version}
use Rattle.paper.specs.declared.Class.{Class}
use Rattle.paper.specs.declared.Class.TheVariants.{One, Opens, Closes}
use Rattle.paper.specs.declared.Single.TheVariants.{Comment, Plain, Break, Label, Return, Phase}
use Rattle.paper.specs.declared.Closer.TheVariants.{Else, EndIf, EndLoop, EndRep, End}
use Rattle.paper.specs.declared.Reason.TheVariants.{RunOut as RUN_OUT, Tail as TAIL}
use Rattle.paper.specs.Judgements.{Judged, good_instruction, bad_instruction}
use Rattle.paper.proofs.Bools.{or_false}
use Rattle.paper.proofs.OwnTokens.{good_inside}
use Rattle.paper.proofs.OneInstruction.{judged_near}
use Rattle.blocks.specs.Reach.{here, past}
use Rattle.blocks.proofs.Cutting.{cut_none, cut_at}
use Rattle.blocks.proofs.Reach.{reached, reaches_on}
use Rattle.blocks.specs.Nesting.{nesting, count_of}
use Rattle.blocks.proofs.Counting.{counts_add, walked_nesting}
use Rattle.walk.specs.declared.State.{State}
use Rattle.walk.specs.declared.Pace.TheVariants.{On, Done}
use Rattle.walk.specs.Kinds.{kinds_number, numbered, next_by}
use Rattle.walk.specs.Steps.{wrapped, begun, behind_of, step_of, on_next_by, on_judged}
use Rattle.walk.specs.Stands.{Stands, step_at, Comes}
use Rattle.walk.proofs.OpenBlocks.{next_is, step_few, step_mark}

-- what an instruction adds to a count

counts_most : (c : Class) (n : ℕ) → counts c n ≤ suc n
counts_most (One Comment) n = omega arith
counts_most (One Plain) n = omega arith
counts_most (One Break) n = omega arith
counts_most (One Label) n = omega arith
counts_most (One Return) n = omega arith
counts_most (One Phase) n = omega arith
counts_most (Opens o) n = omega arith
counts_most (Closes Else) n = omega arith
counts_most (Closes EndIf) n = omega arith
counts_most (Closes EndLoop) n = omega arith
counts_most (Closes EndRep) n = omega arith
counts_most (Closes End) n = omega arith

-- the walk stands behind the version at first
pub stands_first : (v : Version) (s : List ℕ) → 1 ≤ length s → Stands v s begun
unfolding kinds_number
stands_first v s h =
    record {
      carries = begin;
      numbered = refl;
      marked = refl;
      few = omega arith;
      within = h;
      counted = omega arith;
      reaches = here;
      counts = omega arith;
    }

module _ (v : Version) (s : List ℕ) (state : State) (h : Stands v s state) where
  -- the step over the numbers is the walk's
  pub next_said : (class : Class) → next_by state.kinds state.phased class ≡ numbered (step h.carries class)
  next_said class = rw (h.numbered, h.marked) (next_is h.carries class)

  -- the verdict is that of what is left
  stands_verdict : walked v s ≡ nesting (count_of (cut_from v s 1)) (cut_from v s state.at) h.carries
  stands_verdict = walked_nesting v s ∙ reached h.reaches (count_of (cut_from v s 1))

  -- "no token where an instruction must start" is RUN-OUT at the token count
  pub stands_out : length s ≤ state.at → Err (refusal RUN_OUT (length s)) ≡ walked v s
  unfolding nesting
  stands_out le =
      let at : state.at ≡ length s = omega (arith, h.within) in
      sym (stands_verdict ∙ rw (cut_none v s state.at le, at))

-- behind the END that finishes the stream: nothing follows, or TAIL
module _ (v : Version) (s : List ℕ) (p count : ℕ) (counted : count_of (cut_from v s 1) ≡ count + count_of (cut_from v s p)) where
  tail_cut : (x : Judged) → Err (refusal TAIL p) ≡ at_end (count_of (cut_from v s 1)) (cut_one x p (λ n. cut_from v s (p + n)))
  tail_cut (good_instruction size class) = refl
  tail_cut (bad_instruction r) = refl

  at_end_lem : (b : Bool) → ltb p (length s) ≡ b →
      pick b (Err (refusal TAIL p)) (Ok count) ≡ at_end (count_of (cut_from v s 1)) (cut_from v s p)
  unfolding count_of
  at_end_lem true e = rw (cut_at v s p (ltb-true p (length s) e)) (tail_cut (judged v (drop p s)))
  at_end_lem false e =
      let none = cut_none v s p (ltb-false p (length s) e) in
      let total : count_of (cut_from v s 1) ≡ count = rw (none, add-zero count) at counted in
      rw none (ap Ok (sym total))

-- where a step comes to

abbrev state_at : ℕ → ℕ → ℕ → Bool → State
state_at at counted kinds phased = record { at = at; count = counted; kinds = kinds; phased = phased }

module _ (v : Version) (s : List ℕ) (state : State) (h : Stands v s state) (lt : state.at < length s) (fits : length s < 2 ^ 64) where
  -- a good instruction and the state behind it
  module _ (size : ℕ) (class : Class) (e : judged v (drop state.at s) ≡ good_instruction size class) where
    cut_good : cut_from v s state.at ≡ then class state.at (cut_from v s (state.at + suc size))
    cut_good = cut_at v s state.at lt ∙ rw e

    size_in : size < length s - state.at
    size_in = omega (arith, good_inside size class v s state.at e)

    behind_is : (kinds : ℕ) →
        state_at (state.at + suc size) (counts class state.count) kinds (state.phased || class_phase class) ≡ behind_of state size class kinds
    behind_is kinds =
        let inner : wrapped (state.at + size) ≡ state.at + size = mod-eq_of_lt (omega (arith, size_in)) in
        let sum : state.at + size + 1 ≡ state.at + suc size = omega arith in
        let at : wrapped (state.at + suc size) ≡ state.at + suc size = mod-eq_of_lt (omega (arith, size_in)) in
        let count : wrapped (counts class state.count) ≡ counts class state.count =
        mod-eq_of_lt (omega (arith, counts_most class state.count, h.counted)) in
        rw (inner, sum, at, count)

    counts_behind : count_of (cut_from v s 1) ≡ counts class state.count + count_of (cut_from v s (state.at + suc size))
    unfolding count_of
    counts_behind =
        h.counts
        ∙ ap (λ (a : Cut). state.count + count_of a) cut_good
        ∙ counts_add class state.count (count_of (cut_from v s (state.at + suc size)))

    stands_behind : (w : WalkState) → step h.carries class ≡ go w →
        Stands v s (state_at (state.at + suc size) (counts class state.count) (kinds_number w.kinds) (state.phased || class_phase class))
    stands_behind w f =
        record {
          carries = w;
          numbered = refl;
          marked = ap (λ (b : Bool). b || class_phase class) h.marked ∙ step_mark h.carries w class f;
          few = step_few h.carries w class h.few f;
          within = omega (arith, size_in);
          counted = omega (arith, counts_most class state.count, h.counted);
          reaches = reaches_on h.reaches (rw cut_good (past f here));
          counts = counts_behind;
        }

    comes_next : (x : Said) → step h.carries class ≡ x → Comes v s (state.at + 1) (on_next_by (numbered x) state size class)
    unfolding nesting
    comes_next (go w) f =
        subst (λ (x : State). Comes v s (state.at + 1) (step_of (Ok On) x)) (behind_is (kinds_number w.kinds)) (stands_behind w f, omega arith)
    comes_next (bad reason) f = sym (stands_verdict v s state h ∙ rw (cut_good, f))
    comes_next finish f =
        subst (λ (x : State). Comes v s (state.at + 1) (step_of (Ok Done) x)) (behind_is state.kinds)
        (at_end_lem v s (state.at + suc size) (counts class state.count) counts_behind (ltb (state.at + suc size) (length s)) refl
        ∙ sym (stands_verdict v s state h ∙ rw (cut_good, f)))

  -- a plain instruction leaves the blocks and the mark as they are
  pub stands_plain : (size : ℕ) → judged v (drop state.at s) ≡ good_instruction size (One Plain) →
      Stands v s (state_at (state.at + suc size) (suc state.count) state.kinds state.phased)
  stands_plain size e =
      rw (or_false state.phased, ← h.numbered) at (stands_behind size (One Plain) e (marked false h.carries) refl)

  comes_judged : (x : Judged) → judged v (drop state.at s) ≡ x → Comes v s (state.at + 1) (on_judged x state)
  unfolding nesting
  comes_judged (good_instruction size class) e = rw (next_said v s state h class) (comes_next size class e (step h.carries class) refl)
  comes_judged (bad_instruction q) e =
      let near : q.position ≤ length (drop state.at s) - 1 = rw e at (judged_near v (drop state.at s)) in
      let at : wrapped (state.at + q.position) ≡ state.at + q.position = mod-eq_of_lt (omega (arith, near, length-drop state.at s)) in
      let cut : cut_from v s state.at ≡ wrong state.at (moved_by (λ p. state.at + p) q) = cut_at v s state.at lt ∙ rw e in
      rw at (sym (stands_verdict v s state h ∙ rw cut))

  -- the walk stands further on, or the verdict of the stream is known
  pub step_comes : Comes v s (state.at + 1) (step_at v s state)
  unfolding step_at
  step_comes = comes_judged (judged v (drop state.at s)) refl
