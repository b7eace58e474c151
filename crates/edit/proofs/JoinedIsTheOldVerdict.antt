-- JOINED "means that the splice has the old stream's verdict: accepted if that was, else the same number, the position moved by m - (j - i)".
use Rattle.std.specs.Prelude.{Ok, Err}
use Prim.Native.Nat.{ℕ, zero, suc, ◌+◌, ◌-◌, ◌≤◌}
use mathlib.Core.Path.{◌≡◌, refl, ap, sym, ◌∙◌}
use mathlib.Core.Bool.{Bool, true, false}
use mathlib.Core.List.{List, [], ◌∷◌, ◌++◌, append_assoc}
use native.Mathlib.Omega.{arith}
use lib.ListN.{length, take, drop, length-append}
use lib.Seq.{drop_at, length-take-le}
use borrow.Author.Tests.{le-leb}
use Rattle.paper.specs.Notation.{pick}
use Rattle.paper.specs.Numbers.{refusal, moved_by}
use Rattle.paper.specs.Instruction.{judged}
use Rattle.paper.specs.Blocks.{Cut, out, wrong, then}
use Rattle.paper.specs.Walk.{WalkState, Next, go, bad, finish, step, at_end, on_next}
use Rattle.paper.specs.Stream.{cut_one, cutting, cut_from, walked, verdict}
use Rattle.paper.specs.declared.Version.{Version}
use Rattle.paper.specs.declared.Reason.TheVariants.{RunOut as RUN_OUT, Tail as TAIL}
use Rattle.paper.specs.declared.Refusal.{Refusal}
use Rattle.paper.specs.Judgements.{Judged, good_instruction, bad_instruction, Verdict}
use Rattle.blocks.specs.Reach.{moved, start_of}
use Rattle.blocks.proofs.Reach.{reached, joined}
use Rattle.blocks.proofs.Cutting.{cut_moved, start_of_lem}
use Rattle.blocks.specs.Nesting.{nesting, count_of}
use Rattle.blocks.proofs.Counting.{walked_nesting}
use Rattle.edit.specs.declared.Edited.TheVariants.{Joined}
use Rattle.edit.specs.Boundaries.{stands_with, standing_at}
use Rattle.edit.specs.Edit.{splice, new_length, meets_at_end, on_verdict, spliced, edited, carried}
use Rattle.edit.proofs.Standing.{standing_reached}
use Rattle.paper.proofs.Bools.{apart}
use Rattle.edit.proofs.SameBlocks.{met}
use Rattle.edit.proofs.Allowed.{places, joined_allowed, splice_verdict}
use Rattle.paper.proofs.StreamVerdict.{verdict_walked}

-- the tokens of a splice from the run's end on are the old ones from j on
drop_splice : (old : List ℕ) (i j : ℕ) (run : List ℕ) → i ≤ length old → drop (i + length run) (splice old i j run) ≡ drop j old
drop_splice old i j run h =
    let e : length (take i old ++ run) ≡ i + length run = simp (length-append, length-take-le i old h) in
    rw append_assoc at (drop_at (take i old ++ run) (drop j old) (i + length run) e)

-- Where the states meet at the run's end, the walk of the splice is the walk of the old stream, its positions moved from j to the run's end.
pub joined_walked : (v : Version) (old : List ℕ) (i j : ℕ) (run : List ℕ) → i ≤ j → meets_at_end v old i j run ≡ true →
    walked v (splice old i j run) ≡ moved (count_of (cut_from v (splice old i j run) 1)) (λ p. i + length run + (p - j)) (walked v old)
unfolding meets_at_end
joined_walked v old i j run order e =
    let m = met (standing_at v old j) (standing_at v (splice old i j run) (i + length run)) e in
    let a = standing_reached v old j m.0 m.1 in
    let b = standing_reached v (splice old i j run) (i + length run) m.0 m.2 in
    let same = cut_moved v old (splice old i j run) j (i + length run) (sym (drop_splice old i j run (omega arith))) in
    let f : ℕ → ℕ = λ p. i + length run + (p - j) in
    walked_nesting v (splice old i j run)
    ∙ joined (count_of (cut_from v old 1)) (count_of (cut_from v (splice old i j run) 1)) f a.2 (rw same at b.2)
    ∙ ap (moved (count_of (cut_from v (splice old i j run) 1)) f) (sym (walked_nesting v old))

-- a walk from p on is refused at p or later
position_of : (x r : Refusal) → ◌≡◌ {A = Verdict} (Err x) (Err r) → x.position ≡ r.position
position_of x r e = let same : x ≡ r = cc in ap (λ (y : Refusal). y.position) same

late_end : (n : ℕ) (c : Cut) (r : Refusal) → at_end n c ≡ Err r → start_of c ≡ r.position
unfolding start_of
late_end n (out p) r e = apart (cc)
late_end n (wrong p x) r e = position_of (refusal TAIL p) r e
late_end n (then class p rest) r e = position_of (refusal TAIL p) r e

late_next : (n p : ℕ) (rest : Cut) (on : WalkState → Verdict) (r : Refusal) → p ≤ start_of rest → ((w : WalkState) → on w ≡ Err r → p ≤ r.position) →
    (x : Next) → on_next x n p rest on ≡ Err r → p ≤ r.position
late_next n p rest on r h later (go w) e = later w e
late_next n p rest on r h later (bad reason) e = omega (arith, position_of (refusal reason p) r e)
late_next n p rest on r h later finish e = omega (arith, late_end n rest r e)

late_one : (n p : ℕ) (rest : ℕ → Cut) (w : WalkState) (r : Refusal) → ((m : ℕ) → p ≤ start_of (rest m)) →
    ((m : ℕ) (u : WalkState) → nesting n (rest m) u ≡ Err r → p ≤ r.position) →
    (judgement : Judged) → nesting n (cut_one judgement p rest) w ≡ Err r → p ≤ r.position
unfolding nesting
late_one n p rest w r h later (good_instruction size class) e =
    late_next n p (rest (suc size)) (λ next. nesting n (rest (suc size)) next) r (h (suc size)) (later (suc size)) (step w class) e
late_one n p rest w r h later (bad_instruction x) e = omega (arith, position_of (moved_by (λ q. p + q) x) r e)

late : (most n : ℕ) (v : Version) (tokens : List ℕ) (p : ℕ) (w : WalkState) (r : Refusal) → nesting n (cutting most v tokens p) w ≡ Err r → p ≤ r.position
unfolding cutting nesting
late zero n v tokens p w r e = omega (arith, position_of (refusal RUN_OUT p) r e)
late (suc most) n v [] p w r e = omega (arith, position_of (refusal RUN_OUT p) r e)
late (suc most) n v (token ∷ rest) p w r e =
    late_one n p (λ m. cutting most v (drop m (token ∷ rest)) (p + m)) w r
    (λ m. omega (arith, start_of_lem most v (drop m (token ∷ rest)) (p + m)))
    (λ m u f. omega (arith, late most n v (drop m (token ∷ rest)) (p + m) u r f))
    (judged v (token ∷ rest)) e

-- A stream with a boundary at j is refused at j or later.
pub refused_behind : (v : Version) (s : List ℕ) (j : ℕ) (w : WalkState) (r : Refusal) → standing_at v s j ≡ stands_with w → walked v s ≡ Err r → j ≤ r.position
unfolding cut_from
refused_behind v s j w r b e =
    let c = standing_reached v s j w b in
    late (length (drop j s)) (count_of (cut_from v s 1)) v (drop j s) j w r (sym (reached c.2 (count_of (cut_from v s 1))) ∙ sym (walked_nesting v s) ∙ e)

-- "the position moved by m - (j - i)", without a number below zero
pub carried_by : (i j m p : ℕ) → i ≤ j → j ≤ p → carried i j m p + (j - i) ≡ p + m
carried_by i j m p h l = rw (le-leb j p l) (omega arith)

-- a splice is JOINED only where the states meet
joined_when : (b : Bool) (x : Verdict) (m n : ℕ) → pick b (Ok (Joined m)) (on_verdict x m) ≡ Ok (Joined n) → (b ≡ true) × (m ≡ n)
joined_when true x m n e = (refl, cc)
joined_when false (Ok c) m n e = apart (cc)
joined_when false (Err r) m n e = apart (cc)

pub joined_meets : (v : Version) (old : List ℕ) (i j : ℕ) (run : List ℕ) (n : ℕ) → spliced v old i j run ≡ Ok (Joined n) →
    (meets_at_end v old i j run ≡ true) × (new_length (length old) i j (length run) ≡ n)
joined_meets v old i j run n e =
    joined_when (meets_at_end v old i j run) (walked v (splice old i j run)) (new_length (length old) i j (length run)) n e

-- JOINED, the states meeting: the verdict of the splice is that of the old stream, its position carried
module _ (v : Version) (old : List ℕ) (i j : ℕ) (run : List ℕ) (order : i ≤ j) (meeting : meets_at_end v old i j run ≡ true) where
  pub meets_accepted : (c : ℕ) → walked v old ≡ Ok c → walked v (splice old i j run) ≡ Ok (count_of (cut_from v (splice old i j run) 1))
  meets_accepted c e =
      joined_walked v old i j run order meeting
      ∙ ap (moved (count_of (cut_from v (splice old i j run) 1)) (λ p. i + length run + (p - j))) e

  pub meets_refused : (r : Refusal) → walked v old ≡ Err r → walked v (splice old i j run) ≡ Err (moved_by (carried i j (length run)) r)
  unfolding meets_at_end
  meets_refused r e =
      let m = met (standing_at v old j) (standing_at v (splice old i j run) (i + length run)) meeting in
      let behind = refused_behind v old j m.0 r m.1 e in
      joined_walked v old i j run order meeting
      ∙ ap (moved (count_of (cut_from v (splice old i j run) 1)) (λ p. i + length run + (p - j))) e
      ∙ rw (le-leb j r.position behind) refl

-- An edit that is JOINED:
module _ (room : ℕ) (old : List ℕ) (i j : ℕ) (run : List ℕ) (n : ℕ) (answer : edited room old i j run ≡ Ok (Joined n)) where
  -- the splice is accepted if the old stream was;
  pub joined_accepted : (c : ℕ) → verdict old ≡ Ok c → (d : ℕ) × (verdict (splice old i j run) ≡ Ok d)
  joined_accepted c e =
      let a = joined_allowed room old i j run n answer in
      let p = places a.0 old i j a.1.place in
      let m = joined_meets a.0 old i j run n a.2 in
      let before = sym (verdict_walked old a.0 a.1.laid a.1.known) ∙ e in
      (count_of (cut_from a.0 (splice old i j run) 1), splice_verdict a.1 ∙ meets_accepted a.0 old i j run p.order m.0 c before)

  -- else it is refused with the same number, at the position to which the edit carries the old one.
  pub joined_refused : (r : Refusal) → verdict old ≡ Err r → verdict (splice old i j run) ≡ Err (moved_by (carried i j (length run)) r)
  joined_refused r e =
      let a = joined_allowed room old i j run n answer in
      let p = places a.0 old i j a.1.place in
      let m = joined_meets a.0 old i j run n a.2 in
      let before = sym (verdict_walked old a.0 a.1.laid a.1.known) ∙ e in
      splice_verdict a.1 ∙ meets_refused a.0 old i j run p.order m.0 r before
