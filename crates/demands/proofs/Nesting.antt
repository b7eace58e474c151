-- BLOCK and DEPTH, from the verdict of a stream to the grammar and back.
use Rattle.std.specs.Prelude.{Some, Err}
use Prim.Native.Nat.{ℕ, suc, ◌+◌, ◌≤◌, ◌<◌}
use mathlib.Core.Path.{◌≡◌, refl, ap, sym, ◌∙◌}
use mathlib.Core.Bool.{Bool, true, false, not}
use mathlib.Core.List.{List, [], ◌∷◌, ◌++◌}
use native.Mathlib.Omega.{arith}
use lib.ListN.{length, drop, get_or}
use Rattle.paper.specs.Notation.{pick, among}
use Rattle.paper.specs.Numbers.{number_of, refusal}
use Rattle.paper.specs.Versions.{named}
use Rattle.paper.specs.Instruction.{judged}
use Rattle.paper.specs.Blocks.{then, most_open}
use Rattle.paper.specs.Walk.{WalkState, begin, go, bad, step}
use Rattle.paper.specs.Stream.{cut_from, length_laid, verdict}
use Rattle.paper.specs.declared.Version.{Version}
use Rattle.paper.specs.Judgements.{good_instruction, Verdict}
use Rattle.paper.specs.declared.Reason.{Reason}
use Rattle.paper.specs.declared.Reason.TheVariants.{Length as LENGTH, Version as VERSION, RunOut as RUN_OUT, Block as BLOCK, Depth as DEPTH, Tail as TAIL}
use Rattle.paper.specs.declared.Refusal.{Refusal}
use Rattle.paper.specs.declared.Class.{Class}
use Rattle.paper.specs.declared.Class.TheVariants.{One, Opens, Closes}
use Rattle.blocks.specs.Begins.{Leads, nothing, first, Begins, ended, nesting_reason, reason_after}
use Rattle.blocks.specs.Reach.{open_after}
use Rattle.blocks.proofs.Cutting.{cut_at}
use Rattle.blocks.proofs.Refused.{open_append, begins_open, begins_none, step_reason}
use Rattle.walk.proofs.OpenBlocks.{step_few}
use Rattle.paper.proofs.Bools.{apart, never}
use Rattle.paper.proofs.StreamVerdict.{verdict_walked}
use Rattle.edit.proofs.Standing.{Comes, stays, passes}
use Rattle.demands.specs.Nesting.{GoodRow, standing, next, opens, BreaksAt, blocks_opened, blocks_closed, Nesting}
use Rattle.demands.proofs.BlocksCounted.{step_count, deep_enough}
use Rattle.paper.proofs.OwnTokens.{good_inside}
use Rattle.paper.proofs.OneInstruction.{judged_reason}
use Rattle.demands.proofs.WhereRefused.{Refusing, runs_out, unlawful, breaks, trails, StreamRefused, for_length, for_version, in_walk, stream_refused, nesting_refused}

-- a good instruction, and what follows it
cut_good : (v : Version) (s : List ℕ) (p size : ℕ) (class : Class) → judged v (drop p s) ≡ good_instruction size class →
    cut_from v s p ≡ then class p (cut_from v s (p + suc size))
cut_good v s p size class j =
    let inside : p < length s = omega (arith, good_inside size class v s p j) in
    cut_at v s p inside ∙ rw j

-- a row of instructions leads the cut
row_leads : {v : Version} {s : List ℕ} {p q : ℕ} {cs : List Class} → GoodRow v s p cs q → Leads cs (cut_from v s p) (cut_from v s q)
row_leads standing = nothing
row_leads {v} {s} (next {p = p} {size = size} {class = class} j r) = rw (cut_good v s p size class j) (first (row_leads r))

-- what a walk passes is a row, which leaves the state that the walk has
pub record Passed (v : Version) (s : List ℕ) (p : ℕ) (w : WalkState) (q : ℕ) (u : WalkState) : Type 0 where
  pub classes : List Class
  pub row : GoodRow v s p classes q
  pub leaves : open_after w classes ≡ go u
  pub counted : length u.kinds + blocks_closed classes ≡ length w.kinds + blocks_opened classes
  pub few : length w.kinds ≤ most_open → length u.kinds ≤ most_open

comes_row : {v : Version} {s : List ℕ} {p q : ℕ} {w u : WalkState} → Comes v s p w q u → Passed v s p w q u
unfolding open_after
comes_row stays = record { classes = []; row = standing; leaves = refl; counted = refl; few = λ h. h }
comes_row (passes {class = class} {w = w} {u = u} {z = z} j e h c) =
    let r = comes_row c in
    record {
      classes = class ∷ r.classes;
      row = next j r.row;
      leaves = rw e r.leaves;
      counted = step_count class w u (length z.kinds) r.classes e r.counted;
      few = λ l. r.few (step_few w u class l e);
    }

-- the reason of a nesting, and whether it is at an opener
abbrev reason_of : Bool → Reason
reason_of true = DEPTH
reason_of false = BLOCK

nesting_by : (class : Class) → nesting_reason class ≡ reason_of (opens class)
nesting_by (One s) = refl
nesting_by (Opens o) = refl
nesting_by (Closes c) = refl

never_tail : (opener : Bool) → reason_of opener ≡ TAIL → ⊥
never_tail true e = apart (cc)
never_tail false e = apart (cc)

same_opener_lem : (a b : Bool) → reason_of a ≡ reason_of b → a ≡ b
same_opener_lem true true e = refl
same_opener_lem true false e = apart (cc)
same_opener_lem false true e = apart (cc)
same_opener_lem false false e = refl

-- a reason of the nesting is that of no other refusal
abbrev is_other : Reason → Bool
is_other x = not (among (number_of x) (9 ∷ 10 ∷ []))

module _ (opener : Bool) where
  other : (x : Reason) → is_other x ≡ true → x ≡ reason_of opener → ⊥
  other x apart e = this opener (rw e at apart)
    where
      this : (o : Bool) → is_other (reason_of o) ≡ true → ⊥
      this true f = never f
      this false f = never f

-- a nesting that the walk refuses breaks there
module _ (s : List ℕ) (p : ℕ) (opener : Bool) (answer : verdict s ≡ Err (refusal (reason_of opener) p)) (v : Version)
    (laid : length_laid (length s) ≡ true) (known : named (get_or s 0 0) ≡ Some v) where
  not_ended : (test : Bool) (class : Class) → pick test TAIL (nesting_reason class) ≡ reason_of opener → test ≡ false
  not_ended true class e = absurd (never_tail opener (sym e))
  not_ended false class e = refl

  module _ (w : WalkState) (size : ℕ) (class : Class) (came : Comes v s 1 begin p w) (good : judged v (drop p s) ≡ good_instruction size class)
      (refused : step w class ≡ bad (reason_of opener)) where
    passed : Passed v s 1 begin p w
    passed = comes_row came

    none_begins : Begins (passed.classes ++ class ∷ []) → ⊥
    unfolding open_after
    none_begins =
        begins_none (passed.classes ++ class ∷ []) (reason_of opener) (open_append passed.classes (class ∷ []) begin w passed.leaves ∙ rw refused)

    begun : Begins passed.classes
    begun = begins_open passed.classes w passed.leaves

    no_end : ended passed.classes ≡ false
    no_end =
        let walk = nesting_refused v s (rw (cut_good v s p size class good) at (row_leads passed.row)) begun none_begins in
        let both : ◌≡◌ {A = Verdict} (Err (refusal (reason_after passed.classes class) p)) (Err (refusal (reason_of opener) p)) =
        sym walk ∙ sym (verdict_walked s v laid known) ∙ answer in
        let same : refusal (reason_after passed.classes class) p ≡ refusal (reason_of opener) p = cc in
        not_ended (ended passed.classes) class (ap (λ (r : Refusal). r.reason) same)

    broken : BreaksAt s p opener
    broken = record {
      is_long = laid;
      version = v;
      is_named = known;
      before = passed.classes;
      are_good = passed.row;
      have_no_end = no_end;
      begin = begun;
      size = size;
      class = class;
      is_good = good;
      is_opener = same_opener_lem (opens class) opener (sym (nesting_by class) ∙ sym (step_reason class w (reason_of opener) refused));
      begin_none = none_begins;
    }

    twenty_four : opener ≡ true → blocks_opened broken.before ≡ most_open + blocks_closed broken.before
    unfolding broken
    twenty_four isDepth =
        let reason : reason_of opener ≡ DEPTH = ap reason_of isDepth in
        let most = passed.few (omega arith) in
        let least = deep_enough class w (refused ∙ ap bad reason) in
        omega (arith, passed.counted)

  abbrev Broken : Type 0
  Broken = (b : BreaksAt s p opener) × (opener ≡ true → blocks_opened b.before ≡ most_open + blocks_closed b.before)

  by_walk : {r : Refusal} → Refusing v s 1 begin r → r ≡ refusal (reason_of opener) p → Broken
  by_walk (runs_out c) e = absurd (other opener RUN_OUT refl (ap (λ (x : Refusal). x.reason) e))
  by_walk (unlawful {q = q} {r = x} c l j) e =
      let apart = judged_reason (λ (y : Reason) (bit : ℕ). is_other y ≡ true) refl refl refl refl
      (record { reserved = λ bit b. refl; modifier = refl; relative = refl; register = refl }) v (drop q s) x j in
      absurd (other opener x.reason apart (ap (λ (y : Refusal). y.reason) e))
  by_walk (breaks {q = q} {size = size} {class = class} {u = u} {reason = reason} c j st) e =
      let at : q ≡ p = ap (λ (x : Refusal). x.position) e in
      let why : reason ≡ reason_of opener = ap (λ (x : Refusal). x.reason) e in
      let came : Comes v s 1 begin p u = rw at at c in
      let good : judged v (drop p s) ≡ good_instruction size class = rw at at j in
      let refused : step u class ≡ bad (reason_of opener) = st ∙ ap bad why in
      (broken u size class came good refused, twenty_four u size class came good refused)
  by_walk (trails l) e = absurd (never_tail opener (sym (ap (λ (x : Refusal). x.reason) e)))

-- and where a nesting breaks the stream is refused
module _ (s : List ℕ) (p : ℕ) (opener : Bool) where
  breaks_refused : BreaksAt s p opener → verdict s ≡ Err (refusal (reason_of opener) p)
  breaks_refused b =
      let v = b.version in
      let leads = rw (cut_good v s p b.size b.class b.is_good) at (row_leads b.are_good) in
      let walk = nesting_refused v s leads b.begin b.begin_none in
      let why : nesting_reason b.class ≡ reason_of opener = nesting_by b.class ∙ ap reason_of b.is_opener in
      verdict_walked s v b.is_long b.is_named ∙ walk ∙ rw (b.have_no_end, why) refl

  refused_breaks : (answer : verdict s ≡ Err (refusal (reason_of opener) p)) →
      (b : BreaksAt s p opener) × (opener ≡ true → blocks_opened b.before ≡ most_open + blocks_closed b.before)
  refused_breaks answer = this (stream_refused s (refusal (reason_of opener) p) answer)
    where
      this : StreamRefused s (refusal (reason_of opener) p) →
          (b : BreaksAt s p opener) × (opener ≡ true → blocks_opened b.before ≡ most_open + blocks_closed b.before)
      this (for_length e) = absurd (other opener LENGTH refl (ap (λ (x : Refusal). x.reason) e))
      this (for_version e) = absurd (other opener VERSION refl (ap (λ (x : Refusal). x.reason) e))
      this (in_walk v laid known w) = by_walk s p opener answer v laid known w refl

pub nesting : Nesting
nesting = record {
  block_breaks = λ s p e. (refused_breaks s p false e).0;
  breaks_block = λ s p b. breaks_refused s p false b;
  depth_breaks = λ s p e. let b = refused_breaks s p true e in (b.0, b.1 refl);
  breaks_depth = λ s p b. breaks_refused s p true b;
}
