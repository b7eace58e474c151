-- Where the search ends: it runs out of tokens, at an instruction that is refused, or at a good one, of which it tells.
use Rattle.std.specs.Prelude.{Option, Some, None, Ok, Err}
use mathlib.Core.Path.{◌≡◌, refl}
use mathlib.Core.Bool.{Bool, true, false}
use mathlib.Core.List.{List}
use Prim.Native.Nat.{ℕ, zero, suc, ◌+◌, ◌≤◌, ◌<◌}
use native.Mathlib.Omega.{arith}
use lib.Dec.{leb}
use lib.ListN.{length, drop, get_or}
use borrow.Author.Tests.{leb-true, leb-false}
use Rattle.paper.specs.Notation.{pick}
use Rattle.paper.specs.Numbers.{refusal, moved_by}
use Rattle.paper.specs.Instruction.{judged}
use Rattle.paper.specs.Versions.{named}
use Rattle.paper.specs.Stream.{cut_one, cut_from, most_tokens}
use Rattle.paper.specs.declared.Version.{Version}
use Rattle.paper.specs.declared.Class.{Class}
use Rattle.paper.specs.declared.Refusal.{Refusal}
use Rattle.paper.specs.Judgements.{Judged, good_instruction, bad_instruction}
use Rattle.paper.specs.declared.Reason.TheVariants.{Length as LENGTH, Version as VERSION, RunOut as RUN_OUT}
use Rattle.blocks.proofs.Cutting.{cut_none, cut_at, start_at}
use Rattle.notes.specs.declared.Before.{Before}
use Rattle.notes.specs.declared.Before.TheVariants.{Nothing, Comments, Stop, Further, SecondStop}
use Rattle.notes.specs.NotedShapes.{notes_of, behind_of}
use Rattle.notes.specs.Noted.{begin, note, ends, noted_in, noted_from, on_version, noted, Noted}

-- comments begin before what they stand before
begin_before : (before : Before) (comments at : ℕ) → comments ≤ at → begin before comments at ≤ at
begin_before Nothing comments at h = omega arith
begin_before Comments comments at h = h
begin_before Stop comments at h = h
begin_before Further comments at h = h
begin_before SecondStop comments at h = h

module _
    (v : Version)
    (s : List ℕ)
    (from : ℕ)
    (P : Noted → Type 0)
    (runs_out : P (Err (refusal RUN_OUT (length s))))
    (is_refused_lem : (p : ℕ) (r : Refusal) → p < length s → judged v (drop p s) ≡ bad_instruction r → P (Err (moved_by (λ q. p + q) r)))
    (is_found : (p size notes comments : ℕ) (class : Class) → from ≤ p → comments ≤ p → p < length s → judged v (drop p s) ≡ good_instruction size class →
    P (Ok (note notes p comments (p + suc size))))
  where
    module _ (at : ℕ) (ahead : from ≤ at) (some : at < length s) (before : Before) (comments : ℕ) (behind : comments ≤ at) where
      good : (size : ℕ) (class : Class) → judged v (drop at s) ≡ good_instruction size class →
          (test : Bool) → P (noted_in v s (cut_from v s (at + suc size)) (behind_of (get_or s at 0) before) (begin before comments at)) →
          P (pick test (Ok (note (notes_of v (get_or s at 0) (get_or s (at + 1) 0) before) at (begin before comments at) (at + suc size)))
          (noted_in v s (cut_from v s (at + suc size)) (behind_of (get_or s at 0) before) (begin before comments at)))
      good size class j true later =
          is_found at size (notes_of v (get_or s at 0) (get_or s (at + 1) 0) before) (begin before comments at) class ahead (begin_before before comments at behind) some j
      good size class j false later = later

      one : (judgement : Judged) → judged v (drop at s) ≡ judgement →
          ((size : ℕ) → P (noted_in v s (cut_from v s (at + suc size)) (behind_of (get_or s at 0) before) (begin before comments at))) →
          P (noted_in v s (cut_one judgement at (λ n. cut_from v s (at + n))) before comments)
      unfolding noted_in
      one (good_instruction size class) j later =
          rw (start_at v s (at + suc size)) (good size class j (ends (notes_of v (get_or s at 0) (get_or s (at + 1) 0) before) (get_or s at 0)) (later size))
      one (bad_instruction r) j later = is_refused_lem at r some j

    place : (at : ℕ) → from ≤ at → (before : Before) (comments : ℕ) → comments ≤ at → (none : Bool) → leb (length s) at ≡ none →
        (at < length s → (size : ℕ) → P (noted_in v s (cut_from v s (at + suc size)) (behind_of (get_or s at 0) before) (begin before comments at))) →
        P (noted_in v s (cut_from v s at) before comments)
    unfolding noted_in
    place at ahead before comments behind true e later = rw (cut_none v s at (leb-true (length s) at e)) runs_out
    place at ahead before comments behind false e later =
        let some = leb-false (length s) at e in
        rw (cut_at v s at some) (one at ahead some before comments behind (judged v (drop at s)) refl (later some))

    from_place : (most at : ℕ) → length s ≤ at + most → from ≤ at → (before : Before) (comments : ℕ) → comments ≤ at →
        P (noted_in v s (cut_from v s at) before comments)
    from_place zero at h ahead before comments behind =
        place at ahead before comments behind (leb (length s) at) refl (λ some size. absurd (omega arith))
    from_place (suc most) at h ahead before comments behind =
        place at ahead before comments behind (leb (length s) at) refl
        (λ some size. from_place most (at + suc size) (omega arith) (omega arith) (behind_of (get_or s at 0) before) (begin before comments at) (omega (arith, begin_before before comments at behind)))

    pub search_ends : P (noted_from v s from)
    unfolding noted_from
    search_ends = from_place (length s) from (omega arith) (omega arith) Nothing from (omega arith)

-- and before the search LENGTH and VERSION: what holds of these and of each version's search holds of every answer
module _ (tokens : List ℕ) (from : ℕ) (P : Noted → Type 0) (too_long : P (Err (refusal LENGTH 0))) (unknown : P (Err (refusal VERSION 0)))
    (searched : (v : Version) → P (noted_from v tokens from)) where
  by_version : (name : Option Version) → P (on_version name tokens from)
  by_version (Some v) = searched v
  by_version None = unknown

  by_length : (name : Option Version) (few : Bool) → P (pick few (on_version name tokens from) (Err (refusal LENGTH 0)))
  by_length name true = by_version name
  by_length name false = too_long

  pub every_answer : (version : ℕ) → P (noted version tokens from)
  unfolding noted
  every_answer version = by_length (named version) (leb (length tokens) most_tokens)
