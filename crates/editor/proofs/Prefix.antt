-- The walk of the splice stands at i as the walk of the old stream does: the prefix is not walked a second time.
use Prim.Native.Nat.{ℕ, suc, ◌+◌, ◌≤◌, ◌<◌}
use mathlib.Core.Path.{◌≡◌, ap, sym, ◌∙◌}
use mathlib.Core.List.{List}
use native.Mathlib.Nat.{zero-add}
use native.Mathlib.Omega.{arith}
use lib.ListN.{length, take, drop}
use Rattle.paper.specs.Walk.{WalkState, counts}
use Rattle.paper.specs.Stream.{cut_from}
use Rattle.paper.specs.declared.Version.{Version}
use Rattle.paper.specs.declared.Class.{Class}
use Rattle.blocks.proofs.Cutting.{cut_at}
use Rattle.blocks.specs.Nesting.{count_of}
use Rattle.edit.specs.Edit.{splice}
use Rattle.edit.proofs.Standing.{Comes, stays, passes, ahead, standing_comes, reached_standing, standing_reached}
use Rattle.edit.proofs.Prefix.{same_part, same_length, same_good, splice_length, splice_begins, prefix_stands}
use Rattle.walk.specs.declared.State.{State}
use Rattle.walk.specs.Stands.{Stands}
use Rattle.blocks.proofs.Counting.{counts_add}

counts_on : (class : Class) (k n : ℕ) → counts class (k + n) ≡ counts class k + n
counts_on class k n = omega (arith, counts_add class 0 (k + n), counts_add class 0 k)

-- a walk passes as many instructions wherever the tokens up to its end are the same
same_count : {v : Version} {s : List ℕ} (t : List ℕ) {p q : ℕ} {w u : WalkState} → take q s ≡ take q t → q ≤ length s → Comes v s p w q u →
    (k : ℕ) × (count_of (cut_from v s p) ≡ k + count_of (cut_from v s q)) × (count_of (cut_from v t p) ≡ k + count_of (cut_from v t q))
unfolding count_of
same_count {v} {s} t e h (stays {p = p}) = (0, sym (zero-add (count_of (cut_from v s p))), sym (zero-add (count_of (cut_from v t p))))
same_count {v} {s} t {q = q} e h (passes {size = size} {class = class} {p = p} j g inside c) =
    let a = ahead c in
    let later = same_count t e h c in
    let good = same_good v size class (drop p s) (drop p t) (same_part s t q p (suc size) e a) j in
    let there = same_length s t q p e h (omega arith) in (
      counts class later.0,
      rw (cut_at v s p inside, j) (ap (counts class) later.1 ∙ counts_on class later.0 (count_of (cut_from v s q))),
      rw (cut_at v t p there, good) (ap (counts class) later.2 ∙ counts_on class later.0 (count_of (cut_from v t q))),
    )

pub stands_spliced : (v : Version) (old : List ℕ) (j : ℕ) (run : List ℕ) (state : State) → Stands v old state → state.at ≤ j → j < length old →
    Stands v (splice old state.at j run) state
stands_spliced v old j run state h order inside =
    let i = state.at in
    let was = reached_standing v old i h.carries (omega arith) h.reaches in
    let comes = (standing_comes v old i h.carries was).0 in
    let same = sym (splice_begins old i j run (omega arith)) in
    let passed = same_count (splice old i j run) same (omega arith) comes in
    record {
      carries = h.carries;
      numbered = h.numbered;
      marked = h.marked;
      few = h.few;
      within = omega (arith, splice_length old i j run (omega arith));
      counted = h.counted;
      reaches = (standing_reached v (splice old i j run) i h.carries (prefix_stands v old i j run h.carries inside was)).2;
      counts = omega (arith, passed.1, passed.2, h.counts);
    }
