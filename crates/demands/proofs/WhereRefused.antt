-- Where and why a stream is refused: LENGTH, VERSION, or at the place to which the walk comes, in one of four ways.
use Rattle.std.specs.Prelude.{Option, Some, None, Ok, Err}
use Prim.Native.Nat.{ℕ, zero, suc, ◌+◌, ◌≤◌, ◌<◌}
use mathlib.Core.Path.{◌≡◌, refl, sym, ◌∙◌}
use mathlib.Core.Bool.{Bool, true, false}
use mathlib.Core.List.{List, [], ◌∷◌, ◌++◌}
use native.Mathlib.Omega.{arith}
use lib.Dec.{leb}
use lib.ListN.{length, drop, get_or}
use borrow.Author.Tests.{leb-true, leb-false}
use Rattle.paper.specs.Numbers.{refusal, moved_by}
use Rattle.paper.specs.Versions.{named}
use Rattle.paper.specs.Instruction.{judged}
use Rattle.paper.specs.Blocks.{Cut, then}
use Rattle.paper.specs.Walk.{WalkState, begin, Next, go, bad, finish, step, on_next, at_end}
use Rattle.paper.specs.Stream.{cut_one, cut_from, walked, length_laid, verdict}
use Rattle.paper.specs.declared.Version.{Version}
use Rattle.paper.specs.Judgements.{Judged, good_instruction, bad_instruction, Verdict}
use Rattle.paper.specs.declared.Reason.{Reason}
use Rattle.paper.specs.declared.Reason.TheVariants.{Length as LENGTH, Version as VERSION, RunOut as RUN_OUT, Tail as TAIL}
use Rattle.paper.specs.declared.Refusal.{Refusal}
use Rattle.paper.specs.declared.Class.{Class}
use Rattle.blocks.specs.Begins.{Leads, Begins, reason_after}
use Rattle.blocks.proofs.Cutting.{cut_none, cut_at}
use Rattle.blocks.proofs.Refused.{none_begins_refused}
use Rattle.blocks.specs.Nesting.{nesting, count_of}
use Rattle.blocks.proofs.Counting.{walked_nesting}
use Rattle.paper.proofs.OwnTokens.{good_inside}
use Rattle.paper.proofs.Bools.{apart}
use Rattle.paper.proofs.StreamVerdict.{laid_two, verdict_length, verdict_version, verdict_walked}
use Rattle.edit.proofs.Standing.{Comes, stays, passes}

-- a walk at p, in the state w, is refused: there is no token where it comes to; the instruction there is refused by itself; the
-- blocks that are open there do not let it stand; or it is the END that finishes the stream, and tokens follow
pub data Refusing (v : Version) (s : List ℕ) (p : ℕ) (w : WalkState) : Refusal → Type 0 where
  runs_out : {u : WalkState} → Comes v s p w (length s) u → Refusing v s p w (refusal RUN_OUT (length s))
  unlawful : {q : ℕ} {u : WalkState} {r : Refusal} → Comes v s p w q u → q < length s → judged v (drop q s) ≡ bad_instruction r →
      Refusing v s p w (moved_by (λ x. q + x) r)
  breaks : {q size : ℕ} {class : Class} {u : WalkState} {reason : Reason} → Comes v s p w q u → judged v (drop q s) ≡ good_instruction size class →
      step u class ≡ bad reason → Refusing v s p w (refusal reason q)
  trails : {q : ℕ} → q < length s → Refusing v s p w (refusal TAIL q)

-- a refusal further on is one from here on
further : {v : Version} {s : List ℕ} {p size : ℕ} {class : Class} {w u : WalkState} {r : Refusal} → judged v (drop p s) ≡ good_instruction size class →
    step w class ≡ go u → p < length s → Refusing v s (p + suc size) u r → Refusing v s p w r
further j e h (runs_out c) = runs_out (passes j e h c)
further j e h (unlawful c l k) = unlawful (passes j e h c) l k
further j e h (breaks c k b) = breaks (passes j e h c) k b
further j e h (trails l) = trails l

module _ (v : Version) (s : List ℕ) (r : Refusal) where
  same : (p : ℕ) (w : WalkState) (x : Refusal) → ◌≡◌ {A = Verdict} (Err x) (Err r) → Refusing v s p w x → Refusing v s p w r
  same p w x e h = let f : x ≡ r = cc in rw f at h

  out_of_tokens : (n p : ℕ) (w : WalkState) → p ≡ length s → nesting n (cut_from v s p) w ≡ Err r → Refusing v s p w r
  unfolding nesting
  out_of_tokens n p w at e =
      same p w (refusal RUN_OUT (length s)) (sym (rw (at, cut_none v s (length s) (omega arith))) ∙ e) (runs_out {u = w} (rw at stays))

  at_end_lem : (judgement : Judged) (n q : ℕ) (rest : ℕ → Cut) → at_end n (cut_one judgement q rest) ≡ Err r → ◌≡◌ {A = Verdict} (Err (refusal TAIL q)) (Err r)
  at_end_lem (good_instruction size class) n q rest e = e
  at_end_lem (bad_instruction x) n q rest e = e

  behind_end : (n p q : ℕ) (w : WalkState) → (none : Bool) → leb (length s) q ≡ none → at_end n (cut_from v s q) ≡ Err r → Refusing v s p w r
  behind_end n p q w true l e =
      let yes_to : ◌≡◌ {A = Verdict} (Ok n) (Err r) = rw (cut_none v s q (leb-true (length s) q l)) at e in
      apart (cc)
  behind_end n p q w false l e =
      let inside = leb-false (length s) q l in
      same p w (refusal TAIL q) (at_end_lem (judged v (drop q s)) n q (λ m. cut_from v s (q + m)) (rw (cut_at v s q inside) at e)) (trails inside)

  module _ (n p : ℕ) (w : WalkState) (inside : p < length s)
      (later : (m size : ℕ) (u : WalkState) → p + suc size ≤ length s → nesting m (cut_from v s (p + suc size)) u ≡ Err r → Refusing v s (p + suc size) u r) where
    by_step : (size : ℕ) (class : Class) → judged v (drop p s) ≡ good_instruction size class → (x : Next) → step w class ≡ x →
        on_next x n p (cut_from v s (p + suc size)) (λ next. nesting n (cut_from v s (p + suc size)) next) ≡ Err r → Refusing v s p w r
    by_step size class j (go u) st e = further j st inside (later n size u (good_inside size class v s p j) e)
    by_step size class j (bad reason) st e = same p w (refusal reason p) e (breaks stays j st)
    by_step size class j finish st e = behind_end n p (p + suc size) w (leb (length s) (p + suc size)) refl e

    by_judged : (judgement : Judged) → judged v (drop p s) ≡ judgement → nesting n (cut_one judgement p (λ m. cut_from v s (p + m))) w ≡ Err r →
        Refusing v s p w r
    unfolding nesting
    by_judged (good_instruction size class) j e = by_step size class j (step w class) refl e
    by_judged (bad_instruction x) j e = same p w (moved_by (λ q. p + q) x) e (unlawful stays inside j)

  -- the first number bounds how many tokens are left
  walk_refused : (most n p : ℕ) (w : WalkState) → p ≤ length s → length s ≤ p + most → nesting n (cut_from v s p) w ≡ Err r → Refusing v s p w r
  walk_refused zero n p w h l e = out_of_tokens n p w (omega arith) e
  walk_refused (suc most) n p w h l e =
      this (leb (length s) p) refl (λ m size u k f. walk_refused most m (p + suc size) u k (omega arith) f)
    where
      this : (none : Bool) → leb (length s) p ≡ none →
          ((m size : ℕ) (u : WalkState) → p + suc size ≤ length s → nesting m (cut_from v s (p + suc size)) u ≡ Err r → Refusing v s (p + suc size) u r) →
          Refusing v s p w r
      this true t later = out_of_tokens n p w (omega (arith, leb-true (length s) p t)) e
      this false t later =
          let inside = leb-false (length s) p t in
          by_judged n p w inside later (judged v (drop p s)) refl (rw (cut_at v s p inside) at e)

  walked_refused : 1 ≤ length s → walked v s ≡ Err r → Refusing v s 1 begin r
  walked_refused h e = walk_refused (length s) (count_of (cut_from v s 1)) 1 begin h (omega arith) (sym (walked_nesting v s) ∙ e)

-- a refused stream
pub data StreamRefused (s : List ℕ) (r : Refusal) : Type 0 where
  for_length : refusal LENGTH 0 ≡ r → StreamRefused s r
  for_version : refusal VERSION 0 ≡ r → StreamRefused s r
  in_walk : (v : Version) → length_laid (length s) ≡ true → named (get_or s 0 0) ≡ Some v → Refusing v s 1 begin r → StreamRefused s r

module _ (s : List ℕ) (r : Refusal) (e : verdict s ≡ Err r) where
  by_version : (name : Option Version) → named (get_or s 0 0) ≡ name → length_laid (length s) ≡ true → StreamRefused s r
  by_version (Some v) known laid =
      in_walk v laid known
      (walked_refused v s r (omega (arith, laid_two (length s) laid)) (sym (verdict_walked s v laid known) ∙ e))
  by_version None known laid =
      let f : ◌≡◌ {A = Verdict} (Err (refusal VERSION 0)) (Err r) = sym (verdict_version s laid known) ∙ e in
      for_version (cc)

  by_length : (is_long : Bool) → length_laid (length s) ≡ is_long → StreamRefused s r
  by_length true laid = by_version (named (get_or s 0 0)) refl laid
  by_length false laid =
      let f : ◌≡◌ {A = Verdict} (Err (refusal LENGTH 0)) (Err r) = sym (verdict_length s laid) ∙ e in
      for_length (cc)

  pub stream_refused : StreamRefused s r
  stream_refused = by_length (length_laid (length s)) refl

-- and the other way, of a nesting: where the classes before begin a lawful stream and with the next one they begin none, the walk is refused
pub nesting_refused : (v : Version) (s : List ℕ) {cs : List Class} {c : Class} {p : ℕ} {b : Cut} → Leads cs (cut_from v s 1) (then c p b) →
    Begins cs → (Begins (cs ++ c ∷ []) → ⊥) → walked v s ≡ Err (refusal (reason_after cs c) p)
nesting_refused v s leads before through = walked_nesting v s ∙ none_begins_refused (count_of (cut_from v s 1)) leads before through
