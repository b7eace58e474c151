-- From the body behind the version to the verdict of a stream.
use Rattle.std.specs.Prelude.{Ok, Err}
use Prim.Native.Nat.{ℕ, ◌+◌, ◌<◌, ◌≤◌}
use mathlib.Core.Path.{◌≡◌, refl, ap, sym, ◌∙◌}
use mathlib.Core.Bool.{Bool, true, false}
use mathlib.Core.List.{List}
use native.Mathlib.Omega.{arith}
use lib.Dec.{ltb}
use lib.ListN.{length, drop}
use borrow.Author.Tests.{ltb-true, ltb-false}
use Rattle.paper.specs.Notation.{pick}
use Rattle.paper.specs.Numbers.{refusal}
use Rattle.paper.specs.Instruction.{judged}
use Rattle.paper.specs.Blocks.{Cut}
use Rattle.paper.specs.Walk.{at_end}
use Rattle.paper.specs.Stream.{cut_one, cut_from, walked}
use Rattle.paper.specs.declared.Version.{Version}
use Rattle.paper.specs.declared.Closer.{Closer}
use Rattle.paper.specs.declared.Closer.TheVariants.{Else, EndIf, EndLoop, EndRep, End}
use Rattle.paper.specs.declared.Reason.TheVariants.{Tail as TAIL}
use Rattle.paper.specs.declared.Refusal.{Refusal}
use Rattle.paper.specs.Judgements.{Judged, good_instruction, bad_instruction}
use Rattle.blocks.specs.Descent.{stopped, body_of, on_stream, descended}
use Rattle.blocks.proofs.Cutting.{cut_none, cut_at}
use Rattle.blocks.proofs.WalkIsGrammar.{descent_is_walk}
use Rattle.blocks.specs.Nesting.{count_of}
use Rattle.blocks.proofs.Counting.{walked_nesting}
use Rattle.checker.specs.declared.Place.{Place}
use Rattle.checker.specs.declared.Stop.{Stop}
use Rattle.checker.specs.Ends.{place, around, stop, Stops, BodyIs, ending}

module _ (v : Version) (s : List ℕ) where
  -- tokens behind END
  tail_one : (k next : ℕ) (j : Judged) (rest : ℕ → Cut) → at_end k (cut_one j next rest) ≡ Err (refusal TAIL next)
  tail_one k next (good_instruction size class) rest = refl
  tail_one k next (bad_instruction r) rest = refl

  tail : (k next : ℕ) → next < length s → at_end k (cut_from v s next) ≡ Err (refusal TAIL next)
  tail k next h = ap (at_end k) (cut_at v s next h) ∙ tail_one k next (judged v (drop next s)) (λ n. cut_from v s (next + n))

  module _ (p : Place) (next : ℕ) (h : Stops v s (place 1 0) (stop End p next)) where
    -- none
    whole_count : length s ≤ next → p.count ≡ count_of (cut_from v s 1)
    unfolding count_of
    whole_count le = omega (arith, h.counted, ap count_of (cut_none v s next le))

    at_end_lem : (test : Bool) → ltb next (length s) ≡ test →
        pick test (Err (refusal TAIL next)) (Ok p.count) ≡ at_end (count_of (cut_from v s 1)) (cut_from v s next)
    at_end_lem true e = sym (tail (count_of (cut_from v s 1)) next (ltb-true next (length s) e))
    at_end_lem false e =
        let le : length s ≤ next = ltb-false next (length s) e in
        ap Ok (whole_count le) ∙ sym (ap (at_end (count_of (cut_from v s 1))) (cut_none v s next le))

  stream_end : (c : Closer) (p : Place) (next : ℕ) → Stops v s (place 1 0) (stop c p next) →
      ending (length s) (stop c p next) ≡ on_stream (count_of (cut_from v s 1)) (stopped c p.at (cut_from v s next))
  stream_end Else p next h = refl
  stream_end EndIf p next h = refl
  stream_end EndLoop p next h = refl
  stream_end EndRep p next h = refl
  stream_end End p next h = at_end_lem p next h (ltb next (length s)) refl

  whole : on_stream (count_of (cut_from v s 1)) (body_of 0 false false (cut_from v s 1)) ≡ walked v s
  unfolding descended
  whole = descent_is_walk (count_of (cut_from v s 1)) (cut_from v s 1) ∙ sym (walked_nesting v s)

module _ {v : Version} {s : List ℕ} where
  pub stream_stopped : {t : Stop} → BodyIs v s (around 0 false) false (place 1 0) (Ok t) → ending (length s) t ≡ walked v s
  stream_stopped {t} h =
      stream_end v s t.closer t.place t.next h.within
      ∙ ap (on_stream (count_of (cut_from v s 1))) h.is ∙ whole v s

  pub stream_broken : {r : Refusal} → BodyIs v s (around 0 false) false (place 1 0) (Err r) → Err r ≡ walked v s
  stream_broken h = ap (on_stream (count_of (cut_from v s 1))) h.is ∙ whole v s
