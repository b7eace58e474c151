-- The search, by what is told of the instruction at a place.
use Rattle.std.specs.Prelude.{Ok, Err}
use mathlib.Core.Path.{◌≡◌, sym, ap, ◌∙◌}
use mathlib.Core.List.{List}
use Prim.Native.Nat.{ℕ, suc, ◌+◌, ◌≤◌, ◌<◌}
use native.Mathlib.Omega.{arith}
use lib.ListN.{length, drop, get_or, length-drop}
use Rattle.paper.specs.Notation.{pick}
use Rattle.paper.specs.Numbers.{refusal, moved_by, told_instruction}
use Rattle.paper.specs.Instruction.{judged}
use Rattle.paper.specs.Stream.{cut_from}
use Rattle.paper.specs.declared.Version.{Version}
use Rattle.paper.specs.declared.Reason.TheVariants.{RunOut as RUN_OUT}
use Rattle.paper.specs.declared.Refusal.{Refusal}
use Rattle.paper.specs.declared.Class.{Class}
use Rattle.paper.specs.Judgements.{Judged, good_instruction, bad_instruction}
use Rattle.paper.proofs.OneToOne.{same_instruction}
use Rattle.paper.proofs.OneInstruction.{judged_near, judged_bit}
use Rattle.paper.proofs.OwnTokens.{good_within}
use Rattle.told.specs.Numbered.{judged_from}
use Rattle.told.proofs.Numbers.{judged_back}
use Rattle.stretches.specs.Stretch.{told_at}
use Rattle.stretches.proofs.Stretches.{told_whole}
use Rattle.blocks.proofs.Cutting.{cut_none, cut_at, start_at}
use Rattle.notes.specs.declared.Before.{Before}
use Rattle.notes.specs.NotedShapes.{notes_of, behind_of}
use Rattle.notes.specs.Noted.{begin, note, ends, noted_in}

module _ (v : Version) (s : List ℕ) (before : Before) (comments at : ℕ) where
  -- no token is left
  pub search_none : length s ≤ at → noted_in v s (cut_from v s at) before comments ≡ Err (refusal RUN_OUT (length s))
  unfolding noted_in
  search_none h = rw (cut_none v s at h)

  module _ (told : ℕ) (some : at < length s) (is : told ≡ told_at v s 0 at) where
    judges : (judgement : Judged) → told_instruction judgement ≡ told_instruction (judged_from told) → judged v (drop at s) ≡ judgement
    judges judgement e =
        sym (same_instruction judgement (judged_from told) e ∙ ap judged_from (is ∙ told_whole v s at) ∙ judged_back (length (drop at s)) (judged v (drop at s)) (judged_bit v (drop at s)))

    -- a refused instruction, and a good one
    module _ (r : Refusal) (tells : told_instruction (bad_instruction r) ≡ told_instruction (judged_from told)) where
      pub search_refused : noted_in v s (cut_from v s at) before comments ≡ Err (moved_by (λ p. at + p) r)
      unfolding noted_in
      search_refused = rw (cut_at v s at some, judges (bad_instruction r) tells)

      pub refused_inside : at + r.position < length s
      refused_inside =
          let near = rw (judges (bad_instruction r) tells) at (judged_near v (drop at s)) in
          omega (arith, near, length-drop at s)

    module _ (size : ℕ) (class : Class) (tells : told_instruction (good_instruction size class) ≡ told_instruction (judged_from told)) where
      pub search_good : noted_in v s (cut_from v s at) before comments ≡
          pick (ends (notes_of v (get_or s at 0) (get_or s (at + 1) 0) before) (get_or s at 0))
          (Ok (note (notes_of v (get_or s at 0) (get_or s (at + 1) 0) before) at (begin before comments at) (at + 1 + size)))
          (noted_in v s (cut_from v s (at + 1 + size)) (behind_of (get_or s at 0) before) (begin before comments at))
      unfolding noted_in
      search_good =
          let place : at + suc size ≡ at + 1 + size = omega arith in
          rw (cut_at v s at some, judges (good_instruction size class) tells, place, start_at v s (at + 1 + size))

      pub good_inside : at + 1 + size ≤ length s
      good_inside = omega (arith, good_within size class v (drop at s) (judges (good_instruction size class) tells), length-drop at s)
