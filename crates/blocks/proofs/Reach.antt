-- What a walk reaches decides its verdict, and moved positions only move it.
use Prim.Native.Nat.{ℕ}
use mathlib.Core.Path.{◌≡◌, refl, ap, sym, ◌∙◌}
use mathlib.Core.List.{List, [], ◌∷◌}
use Rattle.paper.proofs.Bools.{apart}
use Rattle.paper.specs.Blocks.{Cut, out, wrong, then}
use Rattle.paper.specs.Walk.{WalkState, begin, step, Next, go, bad, finish, on_next, at_end}
use Rattle.paper.specs.declared.Class.{Class}
use Rattle.blocks.specs.Nesting.{nesting}
use Rattle.blocks.specs.Begins.{Leads, nothing, first}
use Rattle.blocks.specs.Reach.{Reaches, here, past, onwards, open_after, moved, moved_cut}

-- the verdict is that of what is reached
pub reached : {a b : Cut} {w u : WalkState} → Reaches a w b u → (n : ℕ) → nesting n a w ≡ nesting n b u
unfolding nesting
reached here n = refl
reached (past e r) n = rw e (reached r n)

-- what is reached goes on to what it reaches
pub reaches_on : {a b c : Cut} {w u t : WalkState} → Reaches a w b u → Reaches b u c t → Reaches a w c t
reaches_on here s = s
reaches_on (past e r) s = past e (reaches_on r s)

-- a walk past a row of classes comes to what follows them, in the state that they leave
module _ (c : Class) (p : ℕ) (cs : List Class) (a b : Cut) (w u : WalkState)
    (later : (t : WalkState) → open_after t cs ≡ go u → Reaches a t b u) where
  past_first : (x : Next) → step w c ≡ x → onwards x cs (λ next. open_after next cs) ≡ go u → Reaches (then c p a) w b u
  past_first (go t) e h = past e (later t h)
  past_first (bad r) e h = apart (cc)
  past_first finish e h = behind_end cs h
    where
      behind_end : (ds : List Class) → onwards finish ds (λ next. open_after next cs) ≡ go u → Reaches (then c p a) w b u
      behind_end [] f = apart (cc)
      behind_end (d ∷ ds) f = apart (cc)

pub leads_reaches : {cs : List Class} {a b : Cut} → Leads cs a b → (w u : WalkState) → open_after w cs ≡ go u → Reaches a w b u
unfolding open_after
leads_reaches nothing w u e = let f : w ≡ u = cc in rw f here
leads_reaches (first {c = c} {cs = cs} {p = p} {a = a} {b = b} l) w u e =
    past_first c p cs a b w u (λ t f. leads_reaches l t u f) (step w c) refl e

-- and what is reached stands behind a row of classes
pub reaches_leads : {a b : Cut} {w u : WalkState} → Reaches a w b u → (cs : List Class) × Leads cs a b × (open_after w cs ≡ go u)
unfolding open_after
reaches_leads here = ([], nothing, refl)
reaches_leads (past {c = c} e r) = let l = reaches_leads r in (c ∷ l.0, first l.1, rw e l.2)

-- positions moved

moved_end : (m n : ℕ) (f : ℕ → ℕ) (a : Cut) → at_end n (moved_cut f a) ≡ moved n f (at_end m a)
unfolding moved_cut
moved_end m n f (out p) = refl
moved_end m n f (wrong p r) = refl
moved_end m n f (then c p a) = refl

moved_next : (m n : ℕ) (f : ℕ → ℕ) (p : ℕ) (a : Cut) → ((w : WalkState) → nesting n (moved_cut f a) w ≡ moved n f (nesting m a w)) →
    (x : Next) → on_next x n (f p) (moved_cut f a) (λ next. nesting n (moved_cut f a) next) ≡ moved n f (on_next x m p a (λ next. nesting m a next))
moved_next m n f p a h (go w) = h w
moved_next m n f p a h (bad r) = refl
moved_next m n f p a h finish = moved_end m n f a

-- a stream whose positions are moved has the verdict moved
pub moved_walk : (m n : ℕ) (f : ℕ → ℕ) (a : Cut) (w : WalkState) → nesting n (moved_cut f a) w ≡ moved n f (nesting m a w)
unfolding nesting moved_cut
moved_walk m n f (out p) w = refl
moved_walk m n f (wrong p r) w = refl
moved_walk m n f (then c p a) w = moved_next m n f p a (λ next. moved_walk m n f a next) (step w c)

-- and its walk comes to what is moved too
pub moved_reaches : (f : ℕ → ℕ) {a b : Cut} {w u : WalkState} → Reaches a w b u → Reaches (moved_cut f a) w (moved_cut f b) u
unfolding moved_cut
moved_reaches f here = here
moved_reaches f (past e r) = past e (moved_reaches f r)

-- two walks that come to one cut, moved in the second, in the same state, have one verdict, moved in the second
pub joined : (m n : ℕ) (f : ℕ → ℕ) {a b c : Cut} {w : WalkState} → Reaches a begin c w → Reaches b begin (moved_cut f c) w →
    nesting n b begin ≡ moved n f (nesting m a begin)
joined m n f {a} {b} {c} {w} r s = reached s n ∙ moved_walk m n f c w ∙ ap (moved n f) (sym (reached r m))
