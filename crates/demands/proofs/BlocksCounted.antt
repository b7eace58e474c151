-- What a step of the walk does to the number of open blocks: an opener opens one, and a closer other than ELSE closes one.
use Prim.Native.Nat.{ℕ, suc, ◌+◌, ◌≤◌}
use mathlib.Core.Path.{◌≡◌, refl}
use mathlib.Core.Bool.{Bool, true, false}
use mathlib.Core.List.{List, [], ◌∷◌}
use native.Mathlib.Omega.{arith}
use lib.Dec.{ltb}
use lib.ListN.{length}
use borrow.Author.Tests.{ltb-false}
use Rattle.paper.specs.Notation.{pick}
use Rattle.paper.specs.Blocks.{may_stand, is_phase, most_open}
use Rattle.paper.specs.Walk.{Kind, opened, past_else, in_loop, WalkState, nested, marked, is_else, is_end, elses, closes, go, bad, finish, close_at, step}
use Rattle.paper.specs.declared.Reason.{Reason}
use Rattle.paper.specs.declared.Reason.TheVariants.{Block as BLOCK, Depth as DEPTH}
use Rattle.paper.specs.declared.Class.{Class}
use Rattle.paper.specs.declared.Class.TheVariants.{One, Opens, Closes}
use Rattle.paper.specs.declared.Opener.TheVariants.{If, Loop, Rep}
use Rattle.paper.specs.declared.Closer.{Closer}
use Rattle.paper.specs.declared.Closer.TheVariants.{Else, EndIf, EndLoop, EndRep, End}
use Rattle.blocks.proofs.Refused.{step_reason}
use Rattle.paper.proofs.Bools.{apart}
use Rattle.demands.specs.Nesting.{closes_one, blocks_opened, blocks_closed}

-- a test that lets the walk go on
gone_on : (test : Bool) (w u : WalkState) (reason : Reason) → pick test (go w) (bad reason) ≡ go u → w ≡ u
gone_on true w u reason e = cc
gone_on false w u reason e = apart (cc)

never_on : (test : Bool) {A : Type 0} (u : WalkState) → pick test finish (bad BLOCK) ≡ go u → A
never_on true u e = apart (cc)
never_on false u e = apart (cc)

not_else : (c : Closer) (k : Kind) → is_else c ≡ false → elses c k ≡ false
not_else c (opened If) e = e
not_else c (opened Loop) e = refl
not_else c (opened Rep) e = refl
not_else c past_else e = refl

-- so many blocks are left open behind a row that closed and opened so many
module _ (left shut made : ℕ) where
  behind_closer : (c : Closer) (k : Kind) (ks : List Kind) (w u : WalkState) → is_else c ≡ false → close_at c (k ∷ ks) w ≡ go u →
      left + shut ≡ length u.kinds + made → left + suc shut ≡ suc (length ks) + made
  behind_closer c k ks w u other e h =
      omega (arith, rw (← gone_on (closes c k) (nested ks w) u BLOCK (rw (not_else c k other) at e)) at h)

  closer_count : (c : Closer) (k : Kind) (ks : List Kind) (w u : WalkState) → close_at c (k ∷ ks) w ≡ go u → left + shut ≡ length u.kinds + made →
      left + closes_one c shut ≡ suc (length ks) + made
  closer_count Else (opened If) ks w u e h = let same : u ≡ nested (past_else ∷ ks) w = cc in rw same at h
  closer_count Else (opened Loop) ks w u e h = apart (cc)
  closer_count Else (opened Rep) ks w u e h = apart (cc)
  closer_count Else past_else ks w u e h = apart (cc)
  closer_count EndIf k ks w u e h = behind_closer EndIf k ks w u refl e h
  closer_count EndLoop k ks w u e h = behind_closer EndLoop k ks w u refl e h
  closer_count EndRep k ks w u e h = behind_closer EndRep k ks w u refl e h
  closer_count End (opened If) ks w u e h = apart (cc)
  closer_count End (opened Loop) ks w u e h = apart (cc)
  closer_count End (opened Rep) ks w u e h = apart (cc)
  closer_count End past_else ks w u e h = apart (cc)

  closed_count : (c : Closer) (ks : List Kind) (w u : WalkState) → close_at c ks w ≡ go u → left + shut ≡ length u.kinds + made →
      left + closes_one c shut ≡ length ks + made
  closed_count c [] w u e h = never_on (is_end c) u e
  closed_count c (k ∷ ks) w u e h = closer_count c k ks w u e h

-- the blocks left open behind a row, with those that it closed, are the blocks open before it, with those that it opened
pub step_count : (class : Class) (w u : WalkState) (left : ℕ) (cs : List Class) → step w class ≡ go u →
    left + blocks_closed cs ≡ length u.kinds + blocks_opened cs → left + blocks_closed (class ∷ cs) ≡ length w.kinds + blocks_opened (class ∷ cs)
step_count (One s) w u left cs e h =
    rw (← gone_on (may_stand (length w.kinds) (in_loop w.kinds) w.phased s) (marked (is_phase s) w) u BLOCK e) at h
step_count (Opens o) w u left cs e h =
    omega (arith, rw (← gone_on (ltb (length w.kinds) most_open) (nested (opened o ∷ w.kinds) w) u DEPTH e) at h)
step_count (Closes c) w u left cs e h = closed_count left (blocks_closed cs) (blocks_opened cs) c w.kinds w u e h

-- DEPTH is given with 24 blocks open, or more
pub deep_enough : (class : Class) (w : WalkState) → step w class ≡ bad DEPTH → most_open ≤ length w.kinds
deep_enough (One s) w e = let f : DEPTH ≡ BLOCK = step_reason (One s) w DEPTH e in apart (cc)
deep_enough (Opens o) w e = this (ltb (length w.kinds) most_open) refl e
  where
    this : (test : Bool) → ltb (length w.kinds) most_open ≡ test → pick test (go (nested (opened o ∷ w.kinds) w)) (bad DEPTH) ≡ bad DEPTH → most_open ≤ length w.kinds
    this true t f = apart (cc)
    this false t f = ltb-false (length w.kinds) most_open t
deep_enough (Closes c) w e = let f : DEPTH ≡ BLOCK = step_reason (Closes c) w DEPTH e in apart (cc)
