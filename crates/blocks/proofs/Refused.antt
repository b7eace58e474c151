-- A nesting is refused at the first instruction that no lawful stream has there.
use Rattle.std.specs.Prelude.{Ok, Err}
use Prim.Native.Nat.{ℕ}
use mathlib.Core.Path.{◌≡◌, refl, sym, ◌∙◌}
use mathlib.Core.Bool.{Bool, true, false}
use mathlib.Core.List.{List, [], ◌∷◌, ◌++◌}
use lib.Dec.{ltb}
use lib.ListN.{length}
use Rattle.paper.proofs.Bools.{apart}
use Rattle.paper.specs.Notation.{pick}
use Rattle.paper.specs.Numbers.{refusal}
use Rattle.paper.specs.Blocks.{Cut, out, then, may_stand, is_phase, most_open, closer_of}
use Rattle.paper.specs.Walk.{Kind, opened, past_else, in_loop, WalkState, begin, nested, marked, closes, elses, close_at, step, Next, go, bad, finish, on_next, at_end}
use Rattle.paper.specs.declared.Class.{Class}
use Rattle.paper.specs.declared.Class.TheVariants.{One, Opens, Closes}
use Rattle.paper.specs.declared.Opener.TheVariants.{If, Loop, Rep}
use Rattle.paper.specs.declared.Closer.{Closer}
use Rattle.paper.specs.declared.Closer.TheVariants.{Else, EndIf, EndLoop, EndRep, End}
use Rattle.paper.specs.declared.Refusal.{Refusal}
use Rattle.paper.specs.declared.Reason.{Reason}
use Rattle.paper.specs.declared.Reason.TheVariants.{Block as BLOCK, Depth as DEPTH, Tail as TAIL}
use Rattle.paper.specs.Judgements.{Verdict}
use Rattle.blocks.specs.Nesting.{nesting}
use Rattle.blocks.specs.Begins.{Leads, nothing, first, Begins, ends_stream, ended, nesting_reason, reason_after}
use Rattle.blocks.specs.Reach.{onwards, open_after}
use Rattle.blocks.proofs.WalkIsGrammar.{accepts, accepted}
use Rattle.blocks.proofs.Reach.{reached, leads_reaches}

-- what one step says: it goes on past no END, is refused for the class's own reason, and finishes at END
abbrev pub Says : Class → Next → Type 0
Says c (go w) = ends_stream c ≡ false
Says c (bad reason) = reason ≡ nesting_reason c
Says c finish = ends_stream c ≡ true

says_pick : (c : Class) (test : Bool) (x y : Next) → Says c x → Says c y → Says c (pick test x y)
says_pick c true x y h j = h
says_pick c false x y h j = j

says_end : (c : Closer) (test : Bool) → ends_stream (Closes c) ≡ test → Says (Closes c) (pick test finish (bad BLOCK))
says_end c true e = e
says_end c false e = refl

-- END closes no block
end_closes_none : (k : Kind) (ks : List Kind) (w : WalkState) → close_at End (k ∷ ks) w ≡ bad BLOCK
end_closes_none (opened If) ks w = refl
end_closes_none (opened Loop) ks w = refl
end_closes_none (opened Rep) ks w = refl
end_closes_none past_else ks w = refl

says_close : (c : Closer) (k : Kind) (ks : List Kind) (w : WalkState) → ends_stream (Closes c) ≡ false → Says (Closes c) (close_at c (k ∷ ks) w)
says_close c k ks w e =
    says_pick (Closes c) (elses c k) (go (nested (past_else ∷ ks) w)) (pick (closes c k) (go (nested ks w)) (bad BLOCK)) e
    (says_pick (Closes c) (closes c k) (go (nested ks w)) (bad BLOCK) e refl)

says_closer : (c : Closer) (ks : List Kind) (w : WalkState) → Says (Closes c) (close_at c ks w)
says_closer c [] w = says_end c (ends_stream (Closes c)) refl
says_closer Else (k ∷ ks) w = says_close Else k ks w refl
says_closer EndIf (k ∷ ks) w = says_close EndIf k ks w refl
says_closer EndLoop (k ∷ ks) w = says_close EndLoop k ks w refl
says_closer EndRep (k ∷ ks) w = says_close EndRep k ks w refl
says_closer End (k ∷ ks) w = rw (end_closes_none k ks w) refl

pub says : (c : Class) (w : WalkState) → Says c (step w c)
says (One s) w =
    says_pick (One s) (may_stand (length w.kinds) (in_loop w.kinds) w.phased s) (go (marked (is_phase s) w)) (bad BLOCK) refl refl
says (Opens o) w = says_pick (Opens o) (ltb (length w.kinds) most_open) (go (nested (opened o ∷ w.kinds) w)) (bad DEPTH) refl refl
says (Closes c) w = says_closer c w.kinds w

-- what a row of classes says, in the same way

abbrev RowSays : List Class → Next → Type 0
RowSays cs (go w) = ended cs ≡ false
RowSays cs (bad reason) = Unit
RowSays cs finish = ended cs ≡ true

row_more : (c : Class) (cs : List Class) → ends_stream c ≡ false → (x : Next) → RowSays cs x → RowSays (c ∷ cs) x
row_more c cs e (go w) h = rw e h
row_more c cs e (bad reason) h = tt
row_more c cs e finish h = rw e h

row_first : (c : Class) (cs : List Class) (next : WalkState → Next) → ((w : WalkState) → RowSays cs (next w)) →
    (x : Next) → Says c x → RowSays (c ∷ cs) (onwards x cs next)
row_first c cs next h (go w) e = row_more c cs e (next w) (h w)
row_first c cs next h (bad reason) e = tt
row_first c [] next h finish e = rw e
row_first c (d ∷ cs) next h finish e = tt

row_says : (cs : List Class) (w : WalkState) → RowSays cs (open_after w cs)
unfolding open_after
row_says [] w = refl
row_says (c ∷ cs) w = row_first c cs (λ next. open_after next cs) (λ next. row_says cs next) (step w c) (says c w)

-- where a walk past a row of classes comes to that has this verdict, with b behind them
abbrev Comes : ℕ → Cut → Verdict → Next → Type 0
Comes n b said (go w) = said ≡ nesting n b w
Comes n b said (bad reason) = (r : Refusal) × (said ≡ Err r)
Comes n b said finish = said ≡ at_end n b

behind_end : {cs : List Class} {a b : Cut} → Leads cs a b → (n : ℕ) (next : WalkState → Next) → Comes n b (at_end n a) (onwards finish cs next)
behind_end nothing n next = refl
behind_end (first {p = p} l) n next = (refusal TAIL p, refl)

comes_first : {cs : List Class} {a b : Cut} → Leads cs a b → (n p : ℕ) → ((w : WalkState) → Comes n b (nesting n a w) (open_after w cs)) →
    (x : Next) → Comes n b (on_next x n p a (λ next. nesting n a next)) (onwards x cs (λ next. open_after next cs))
comes_first l n p h (go w) = h w
comes_first l n p h (bad reason) = (refusal reason p, refl)
comes_first {cs} l n p h finish = behind_end l n (λ next. open_after next cs)

comes : {cs : List Class} {a b : Cut} → Leads cs a b → (n : ℕ) (w : WalkState) → Comes n b (nesting n a w) (open_after w cs)
unfolding nesting open_after
comes nothing n w = refl
comes (first {c = c} {p = p} l) n w = comes_first l n p (λ next. comes l n next) (step w c)

-- one more class
module _ (c : Class) (cs ds : List Class) (w u : WalkState)
    (later : (t : WalkState) → open_after t cs ≡ go u → open_after t (cs ++ ds) ≡ open_after u ds) where
  append_first : (x : Next) → onwards x cs (λ next. open_after next cs) ≡ go u →
      onwards x (cs ++ ds) (λ next. open_after next (cs ++ ds)) ≡ open_after u ds
  append_first (go t) e = later t e
  append_first (bad r) e = apart (cc)
  append_first finish e = not_behind cs e
    where
      not_behind : (es : List Class) → onwards finish es (λ next. open_after next cs) ≡ go u →
          onwards finish (cs ++ ds) (λ next. open_after next (cs ++ ds)) ≡ open_after u ds
      not_behind [] f = apart (cc)
      not_behind (d ∷ es) f = apart (cc)

-- the state after a row and a second one
pub open_append : (cs ds : List Class) (w u : WalkState) → open_after w cs ≡ go u → open_after w (cs ++ ds) ≡ open_after u ds
unfolding open_after
open_append [] ds w u e = let f : w ≡ u = cc in rw f
open_append (c ∷ cs) ds w u e = append_first c cs ds w u (λ t f. open_append cs ds t u f) (step w c) e

-- every way that the walk can go on can be completed: the open blocks are closed, innermost first, and END follows

abbrev closer_at : Kind → Closer
closer_at (opened o) = closer_of o
closer_at past_else = EndIf

closings : List Kind → Cut
closings [] = then (Closes End) 0 (out 0)
closings (k ∷ ks) = then (Closes (closer_at k)) 0 (closings ks)

own_closer : (k : Kind) (ks : List Kind) (w : WalkState) → close_at (closer_at k) (k ∷ ks) w ≡ go (nested ks w)
own_closer (opened If) ks w = refl
own_closer (opened Loop) ks w = refl
own_closer (opened Rep) ks w = refl
own_closer past_else ks w = refl

closings_walk : (n : ℕ) (ks : List Kind) (w : WalkState) → nesting n (closings ks) (nested ks w) ≡ Ok n
unfolding nesting closings
closings_walk n [] w = refl
closings_walk n (k ∷ ks) w = rw (own_closer k ks (nested (k ∷ ks) w)) (closings_walk n ks w)

laid : List Class → Cut → Cut
laid [] b = b
laid (c ∷ cs) b = then c 0 (laid cs b)

laid_leads : (cs : List Class) (b : Cut) → Leads cs (laid cs b) b
unfolding laid
laid_leads [] b = nothing
laid_leads (c ∷ cs) b = first (laid_leads cs b)

-- what the walk goes on from begins a lawful stream
pub begins_open : (cs : List Class) (w : WalkState) → open_after begin cs ≡ go w → Begins cs
begins_open cs w e =
    let closers = closings w.kinds in
    let l = laid_leads cs closers in
    let said = reached (leads_reaches l begin w e) 0 ∙ closings_walk 0 w.kinds w in
    (laid cs closers, closers, l, (accepted 0 0 (laid cs closers) said).1)

-- and so does what the walk finishes
pub begins_whole : (cs : List Class) → open_after begin cs ≡ finish → Begins cs
begins_whole cs e =
    let l = laid_leads cs (out 0) in
    let w : nesting 0 (laid cs (out 0)) begin ≡ Ok 0 = rw e at (comes l 0 begin) in
    (laid cs (out 0), out 0, l, (accepted 0 0 (laid cs (out 0)) w).1)

-- what the walk refuses begins none
pub begins_none : (cs : List Class) (reason : Reason) → open_after begin cs ≡ bad reason → Begins cs → ⊥
begins_none cs reason e b =
    let w : (r : Refusal) × (nesting 0 b.0 begin ≡ Err r) = rw e at (comes b.2 0 begin) in
    let yes_to : nesting 0 b.0 begin ≡ Ok 0 = accepts b.3.2 0 in
    let not_both : Err w.0 ≡ Ok 0 = sym w.1 ∙ yes_to in
    apart (cc)

-- a refusal of a step has the class's own reason: DEPTH for an opener, BLOCK for any other
pub step_reason : (c : Class) (w : WalkState) (reason : Reason) → step w c ≡ bad reason → reason ≡ nesting_reason c
step_reason c w reason e = rw e at (says c w)

module _ (n : ℕ) {cs : List Class} {a : Cut} {c : Class} {p : ℕ} {b : Cut} (leads : Leads cs a (then c p b)) where
  -- a step that refuses refuses the stream there
  step_refuses : (w : WalkState) (reason : Reason) → open_after begin cs ≡ go w → step w c ≡ bad reason → nesting n a begin ≡ Err (refusal reason p)
  unfolding nesting
  step_refuses w reason e s =
      let w : nesting n a begin ≡ nesting n (then c p b) w = reached (leads_reaches leads begin w e) n in
      w ∙ rw s

  -- where the walk refuses a nesting, what stands before begins a lawful stream, and with the instruction refused it begins none
  pub refused_none_begins : (w : WalkState) (reason : Reason) → open_after begin cs ≡ go w → step w c ≡ bad reason →
      (nesting n a begin ≡ Err (refusal reason p)) × (reason ≡ nesting_reason c) × Begins cs × (Begins (cs ++ c ∷ []) → ⊥)
  unfolding open_after
  refused_none_begins w reason e s =
      (step_refuses w reason e s, step_reason c w reason s, begins_open cs w e, begins_none (cs ++ c ∷ []) reason (open_append cs (c ∷ []) begin w e ∙ rw s))

  -- an END with a block open is BLOCK
  pub end_in_block : (k : Kind) (ks : List Kind) (w : WalkState) → c ≡ Closes End → open_after begin cs ≡ go (nested (k ∷ ks) w) →
      nesting n a begin ≡ Err (refusal BLOCK p)
  end_in_block k ks w isend e = step_refuses (nested (k ∷ ks) w) BLOCK e (rw isend (end_closes_none k ks (nested (k ∷ ks) w)))

  module _ (before : Begins cs) (through : Begins (cs ++ c ∷ []) → ⊥) where
    refused_step : (w : WalkState) → open_after begin cs ≡ go w → (x : Next) → step w c ≡ x → nesting n a begin ≡ Err (refusal (nesting_reason c) p)
    unfolding open_after
    refused_step w e (go u) s = absurd (through (begins_open (cs ++ c ∷ []) u (open_append cs (c ∷ []) begin w e ∙ rw s)))
    refused_step w e finish s = absurd (through (begins_whole (cs ++ c ∷ []) (open_append cs (c ∷ []) begin w e ∙ rw s)))
    refused_step w e (bad reason) s = rw (sym (step_reason c w reason s)) (step_refuses w reason e s)

    refused_row : (x : Next) → open_after begin cs ≡ x → nesting n a begin ≡ Err (refusal (reason_after cs c) p)
    refused_row (go w) e =
        let e' : ended cs ≡ false = rw e at (row_says cs begin) in
        rw e' (refused_step w e (step w c) refl)
    refused_row (bad reason) e = absurd (begins_none cs reason e before)
    refused_row finish e =
        let e' : ended cs ≡ true = rw e at (row_says cs begin) in
        rw e' (rw e at (comes leads n begin))

    -- where what stands before begins a lawful stream, and with this instruction it begins none, the walk refuses there:
    -- TAIL behind END, DEPTH at an opener, BLOCK at any other
    pub none_begins_refused : nesting n a begin ≡ Err (refusal (reason_after cs c) p)
    none_begins_refused = refused_row (open_after begin cs) refl
