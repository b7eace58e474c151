-- The walk that counts as it goes has the verdict of the nesting, with the count of the whole cut.
use Prim.Native.Nat.{ℕ, ◌+◌}
use mathlib.Core.Path.{◌≡◌, refl, sym, ap, ◌∙◌}
use mathlib.Core.Bool.{true}
use mathlib.Core.List.{List}
use native.Mathlib.Nat.{zero-add}
use native.Mathlib.Omega.{arith}
use Rattle.paper.proofs.Bools.{never}
use Rattle.paper.specs.Blocks.{Cut, out, wrong, then}
use Rattle.paper.specs.Walk.{WalkState, begin, Next, go, bad, finish, step, counts, at_end, on_next, walk}
use Rattle.paper.specs.Stream.{cut_from, walked}
use Rattle.paper.specs.declared.Version.{Version}
use Rattle.paper.specs.declared.Class.{Class}
use Rattle.paper.specs.declared.Class.TheVariants.{One, Opens, Closes}
use Rattle.paper.specs.declared.Single.TheVariants.{Comment, Plain, Break, Label, Return, Phase}
use Rattle.paper.specs.declared.Closer.{Closer}
use Rattle.paper.specs.declared.Closer.TheVariants.{Else, EndIf, EndLoop, EndRep, End}
use Rattle.blocks.specs.Nesting.{nesting, count_of}
use Rattle.blocks.specs.Begins.{ends_stream}
use Rattle.blocks.proofs.Derived.{is_end_lem}
use Rattle.blocks.proofs.Refused.{says}

-- what an instruction adds, it adds before or behind
pub counts_add : (c : Class) (a n : ℕ) → a + counts c n ≡ counts c a + n
counts_add (One Comment) a n = refl
counts_add (One Plain) a n = omega arith
counts_add (One Break) a n = omega arith
counts_add (One Label) a n = omega arith
counts_add (One Return) a n = omega arith
counts_add (One Phase) a n = omega arith
counts_add (Opens o) a n = omega arith
counts_add (Closes Else) a n = omega arith
counts_add (Closes EndIf) a n = omega arith
counts_add (Closes EndLoop) a n = omega arith
counts_add (Closes EndRep) a n = omega arith
counts_add (Closes End) a n = refl

-- what finishes a walk is END, which is not counted
end_uncounted : (c : Class) (n : ℕ) → ends_stream c ≡ true → counts c n ≡ n
end_uncounted (One s) n e = never e
end_uncounted (Opens o) n e = never e
end_uncounted (Closes c) n e = ap (λ (d : Closer). counts (Closes d) n) (is_end_lem c e)

-- behind it nothing is counted: tokens there are TAIL
finished : (n m : ℕ) (a : Cut) → m ≡ n + count_of a → at_end n a ≡ at_end m a
unfolding count_of
finished n m (out p) e = ap (λ k. at_end k (out p)) (omega (arith, e))
finished n m (wrong p r) e = refl
finished n m (then c p a) e = refl

module _ (n : ℕ) (c : Class) (p : ℕ) (a : Cut)
    (later : (m : ℕ) (w : WalkState) → walk m a w ≡ nesting (m + count_of a) a w) where
  past_one : (w : WalkState) (x : Next) → step w c ≡ x →
      on_next x n p a (λ next. walk (counts c n) a next) ≡ on_next x (n + counts c (count_of a)) p a (λ next. nesting (n + counts c (count_of a)) a next)
  past_one w (go u) e = later (counts c n) u ∙ ap (λ k. nesting k a u) (sym (counts_add c n (count_of a)))
  past_one w (bad reason) e = refl
  past_one w finish e =
      let ends : ends_stream c ≡ true = rw e at (says c w) in
      finished n (n + counts c (count_of a)) a (ap (λ k. n + k) (end_uncounted c (count_of a) ends))

pub walk_counts : (n : ℕ) (a : Cut) (w : WalkState) → walk n a w ≡ nesting (n + count_of a) a w
unfolding walk nesting count_of
walk_counts n (out p) w = refl
walk_counts n (wrong p r) w = refl
walk_counts n (then c p a) w = past_one n c p a (λ m u. walk_counts m a u) w (step w c) refl

-- the walk of a stream
pub walked_nesting : (v : Version) (s : List ℕ) → walked v s ≡ nesting (count_of (cut_from v s 1)) (cut_from v s 1) begin
unfolding walked
walked_nesting v s = walk_counts 0 (cut_from v s 1) begin ∙ ap (λ n. nesting n (cut_from v s 1) begin) (zero-add (count_of (cut_from v s 1)))
