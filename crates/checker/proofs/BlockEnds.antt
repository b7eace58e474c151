-- The ways in which a block ends behind its opener: at its own closer, behind an ELSE and a second body, or by a refusal.
use Rattle.std.specs.Prelude.{Ok, Err}
use Prim.Native.Nat.{ℕ, suc, ◌+◌, ◌^◌, ◌<◌, ◌≤◌}
use mathlib.Core.Path.{◌≡◌, refl, ap, sym, ◌∙◌}
use mathlib.Core.Bool.{Bool, true, false}
use mathlib.Core.List.{List}
use native.Mathlib.Numerals.{add-one}
use native.Mathlib.Omega.{arith}
use lib.ListN.{length}
use denote.Enum.Bare.{sameb}
use Rattle.paper.proofs.Bools.{never}
use Rattle.paper.specs.Notation.{pick}
use Rattle.paper.specs.Numbers.{refusal}
use Rattle.paper.specs.Blocks.{loops_in}
use Rattle.paper.specs.Walk.{opened, closes_opener, past_else, elses_opener, counts}
use Rattle.paper.specs.Stream.{cut_from}
use Rattle.paper.specs.declared.Version.{Version}
use Rattle.paper.specs.declared.Class.TheVariants.{Closes}
use Rattle.paper.specs.declared.Opener.{Opener}
use Rattle.paper.specs.declared.Opener.TheVariants.{If, Loop, Rep}
use Rattle.paper.specs.declared.Closer.{Closer}
use Rattle.paper.specs.declared.Closer.TheVariants.{Else, EndIf, EndLoop, EndRep, End}
use Rattle.paper.specs.declared.Refusal.{Refusal}
use Rattle.paper.specs.declared.Reason.TheVariants.{Block as BLOCK}
use Rattle.paper.specs.contracts.Opener.{the_type as opener_type}
use Rattle.paper.specs.contracts.Closer.{the_type as closer_type}
use Rattle.blocks.specs.Descent.{stopped, passed, refused, on_last, on_first, body_of, block_of}
use Rattle.blocks.proofs.Unfold.{block_opened}
use Rattle.blocks.specs.Nesting.{count_of}
use Rattle.checker.specs.declared.Place.{Place}
use Rattle.checker.specs.declared.Around.{Around}
use Rattle.checker.specs.declared.Stop.{Stop}
use Rattle.checker.specs.Ends.{place, around, body_end, block_end, Stops, BlockWithin, BodyEnd, BodyIs, BlockIs, closed_at}

-- an ELSE, at an IF
pub is_if : (o : Opener) → sameb opener_type o If ≡ true → o ≡ If
is_if If e = refl
is_if Loop e = never e
is_if Rep e = never e

pub is_else : (c : Closer) → sameb closer_type c Else ≡ true → c ≡ Else
is_else Else e = refl
is_else EndIf e = never e
is_else EndLoop e = never e
is_else EndRep e = never e
is_else End e = never e

pub not_if : (o : Opener) (c : Closer) → sameb opener_type o If ≡ false → elses_opener c o ≡ false
not_if If c e = never (sym e)
not_if Loop c e = refl
not_if Rep c e = refl

pub not_else : (o : Opener) (c : Closer) → sameb closer_type c Else ≡ false → elses_opener c o ≡ false
not_else o Else e = never (sym e)
not_else If EndIf e = refl
not_else If EndLoop e = refl
not_else If EndRep e = refl
not_else If End e = refl
not_else Loop c e = refl
not_else Rep c e = refl

-- the closer of a block counts
own_counts : (o : Opener) (c : Closer) → closes_opener c o ≡ true → (n : ℕ) → counts (Closes c) n ≡ suc n
own_counts o Else e n = refl
own_counts o EndIf e n = refl
own_counts o EndLoop e n = refl
own_counts o EndRep e n = refl
own_counts If End e n = never e
own_counts Loop End e n = never e
own_counts Rep End e n = never e

module _ (v : Version) (s : List ℕ) (o : Opener) where
  either_end : (test : Bool) (t : Stop) →
      block_end v s (pick test (Ok (place t.next (t.place.count + 1))) (Err (refusal BLOCK t.place.at))) ≡
      pick test (passed (cut_from v s t.next)) (refused (refusal BLOCK t.place.at))
  either_end true t = refl
  either_end false t = refl

  -- from p to a body that stops there, and behind it
  module _ (p q : Place) (after : p.at ≤ q.at) (same : q.count + count_of (cut_from v s q.at) ≡ p.count + count_of (cut_from v s p.at))
      (t : Stop) (h : Stops v s q t) where
    closed_within : (test : Bool) → closes_opener t.closer o ≡ test →
        BlockWithin v s p (pick test (Ok (place t.next (t.place.count + 1))) (Err (refusal BLOCK t.place.at)))
    closed_within true e =
        record {
          after = omega (arith, h.after, h.closer);
          inside = h.inside;
          few = omega (arith, h.few, h.closer);
          counted = omega (arith, same, h.counted, own_counts o t.closer e (count_of (cut_from v s t.next)));
        }
    closed_within false e = tt

    last_within : BlockWithin v s p (closed_at o t)
    last_within = closed_within (closes_opener t.closer o) refl

-- the count leaves room for one more
pub low : {v : Version} {s : List ℕ} {p : Place} {t : Stop} → length s < 2 ^ 64 → Stops v s p t → t.place.count + 1 < 2 ^ 64
low fits h = omega (arith, h.few, h.closer, h.inside)

-- a block in these blocks, whose first body stands inside it
module _ (phased : Bool) (o : Opener) (b : Around) {v : Version} {s : List ℕ} {p : Place} {inside : Around} (deeper : inside ≡ around (b.depth + 1) (loops_in o b.in_loop)) where
  opened_first : {e : BodyEnd} → BodyIs v s inside phased p e →
      on_first o (body_end v s e) (λ a. body_of (suc b.depth) b.in_loop phased a) ≡ block_of b.depth b.in_loop phased o (cut_from v s p.at)
  opened_first {e} h =
      let is : body_end v s e ≡ body_of (suc b.depth) (loops_in o b.in_loop) phased (cut_from v s p.at) = rw (deeper, add-one b.depth) at h.is in
      sym (block_opened b.depth b.in_loop phased o (cut_from v s p.at) ∙ ap (λ x. on_first o x (λ a. body_of (suc b.depth) b.in_loop phased a)) (sym is))

  pub block_broken : {r : Refusal} → BodyIs v s inside phased p (Err r) → BlockIs v s b phased p o (Err r)
  block_broken h = record { is = opened_first h; within = tt }

  module _ {first : Stop} (h : BodyIs v s inside phased p (Ok first)) where
    at_closer : (test : Bool) → elses_opener first.closer o ≡ test →
        pick test (on_last past_else (body_of (suc b.depth) b.in_loop phased (cut_from v s first.next)))
        (on_last (opened o) (stopped first.closer first.place.at (cut_from v s first.next))) ≡
        block_of b.depth b.in_loop phased o (cut_from v s p.at)
    at_closer test t = rw (← t) (opened_first h)

    pub block_closed : elses_opener first.closer o ≡ false → BlockIs v s b phased p o (closed_at o first)
    block_closed t =
        record {
          is = either_end v s o (closes_opener first.closer o) first ∙ at_closer false t;
          within = last_within v s o p p (omega arith) refl first h.within;
        }

    -- behind the ELSE of an IF, which counts, the second body stands inside it as well
    module _ (f : o ≡ If) (e : first.closer ≡ Else) {q : Place} (behind : q ≡ place first.next (first.place.count + 1))
        {again : Around} (as_deep : again ≡ around (b.depth + 1) b.in_loop) where
      else_on : {x : BodyEnd} → BodyIs v s again phased q x → on_last past_else (body_end v s x) ≡ block_of b.depth b.in_loop phased o (cut_from v s p.at)
      else_on k = ap (on_last past_else) (rw (as_deep, behind, add-one b.depth) at k.is) ∙ at_closer true (rw (f, e) refl)

      pub else_broken : {r : Refusal} → BodyIs v s again phased q (Err r) → BlockIs v s b phased p o (Err r)
      else_broken k = record { is = else_on k; within = tt }

      last_is : (t : Stop) → block_end v s (closed_at o t) ≡ on_last past_else (stopped t.closer t.place.at (cut_from v s t.next))
      last_is t = either_end v s o (closes_opener t.closer o) t ∙ rw f refl

      pub else_closed : {second : Stop} → BodyIs v s again phased q (Ok second) → BlockIs v s b phased p o (closed_at o second)
      else_closed {second} k =
          let counted : first.place.count + 1 + count_of (cut_from v s first.next) ≡ p.count + count_of (cut_from v s p.at) =
          omega (arith, rw e at h.within.counted)
          in
          record {
            is = last_is second ∙ else_on k;
            within =
                last_within v s o p (place first.next (first.place.count + 1)) (omega (arith, h.within.after, h.within.closer)) counted second
                (rw behind at k.within);
          }
