-- A body: it passes items and stretches of plain instructions, and ends at a closer or by a refusal.
use Rattle.std.specs.Prelude.{Ok, Err}
use Prim.Native.Nat.{ℕ, suc, ◌+◌, ◌%◌, ◌≤◌}
use mathlib.Core.Path.{◌≡◌, refl, ap, sym, ◌∙◌}
use mathlib.Core.Bool.{Bool, true, ◌||◌}
use mathlib.Core.List.{List}
use native.Mathlib.Nat.{add-zero}
use native.Mathlib.Omega.{arith}
use lib.ListN.{length, drop}
use borrow.Author.Tests.{eqb-true}
use Rattle.paper.proofs.Bools.{or_false}
use Rattle.paper.specs.Instruction.{judged}
use Rattle.paper.specs.Blocks.{Cut, out, wrong, then, begins_phase}
use Rattle.paper.specs.Stream.{cut_from}
use Rattle.paper.specs.declared.Version.{Version}
use Rattle.paper.specs.declared.Closer.{Closer}
use Rattle.paper.specs.declared.Refusal.{Refusal}
use Rattle.blocks.specs.Descent.{on_item, body_of}
use Rattle.blocks.proofs.Cutting.{cut_at}
use Rattle.blocks.proofs.Unfold.{body_out, body_wrong, body_then}
use Rattle.blocks.specs.Nesting.{count_of}
use Rattle.stretches.specs.Stretch.{told_at, next_at, PlainTo, here, past}
use Rattle.told.specs.Numbered.{is_plain, tells_phase}
use Rattle.told.proofs.Numbers.{phase_told}
use Rattle.stretches.proofs.Stretches.{told_whole, plain_from}
use Rattle.checker.specs.declared.Place.{Place}
use Rattle.checker.specs.declared.Around.{Around}
use Rattle.checker.specs.declared.Found.TheVariants.{Item, Closer as Closed}
use Rattle.checker.specs.Ends.{place, stop, item_end, item_at, StartsAt, Onward, Stops, ItemEnd, BodyIs, ItemIs}
use Rattle.checker.proofs.ItemEnds.{item_passed}

-- a body is its first item and the rest
body_on_lem : (depth : ℕ) (in_loop phased : Bool) (a : Cut) →
    body_of depth in_loop phased a ≡ on_item (item_at depth in_loop phased a) (λ b. body_of depth in_loop (phased || begins_phase a) b)
body_on_lem depth in_loop phased (out p) = body_out depth in_loop phased p
body_on_lem depth in_loop phased (wrong p r) = body_wrong depth in_loop phased p r
body_on_lem depth in_loop phased (then c p a) = body_then depth in_loop phased c p a

-- a body that began at p, behind a PHASE or not, has come to q, with the mark of a PHASE set or not
pub record Reached (v : Version) (s : List ℕ) (b : Around) (phased : Bool) (p q : Place) (mark : Bool) : Type 0 where
  pub after : p.at ≤ q.at
  pub inside : q.at ≤ length s
  pub few : q.count ≤ q.at
  pub same : body_of b.depth b.in_loop mark (cut_from v s q.at) ≡ body_of b.depth b.in_loop phased (cut_from v s p.at)
  pub counted : q.count + count_of (cut_from v s q.at) ≡ p.count + count_of (cut_from v s p.at)

module _ {v : Version} {s : List ℕ} {b : Around} {phased : Bool} {p : Place} where
  pub reached : StartsAt s b.depth p → Reached v s b phased p p phased
  reached h = record { after = omega arith; inside = h.starts; few = h.few; same = refl; counted = refl }

  module _ {q : Place} {mark : Bool} (g : Reached v s b phased p q mark) where
    further : {r : ItemEnd} → ItemIs v s b mark q r →
        on_item (item_end v s q.at r) (λ a. body_of b.depth b.in_loop (mark || begins_phase (cut_from v s q.at)) a) ≡ body_of b.depth b.in_loop phased (cut_from v s p.at)
    further h =
        ap (λ x. on_item x (λ a. body_of b.depth b.in_loop (mark || begins_phase (cut_from v s q.at)) a)) h.is
        ∙ sym (body_on_lem b.depth b.in_loop mark (cut_from v s q.at)) ∙ g.same

    pub reached_on : {t : Place} → ItemIs v s b mark q (Ok (Item t)) → {phase : Bool} {told : ℕ} → told ≡ told_at v s 0 q.at → phase ≡ tells_phase told →
        Reached v s b phased p t (mark || phase)
    reached_on {t} h same f =
        let o : Onward v s q t = h.within in
        let cut = cut_at v s q.at (omega (arith, o.after, o.inside)) in
        let seen = f ∙ ap tells_phase (same ∙ told_whole v s q.at)
        ∙ phase_told (judged v (drop q.at s)) q.at (λ i. cut_from v s (q.at + i)) ∙ ap begins_phase (sym cut) in
        record {
          after = omega (arith, g.after, o.after);
          inside = o.inside;
          few = o.few;
          same = rw seen (further h);
          counted = omega (arith, g.counted, o.counted);
        }

    pub body_stopped : {c : Closer} {next : ℕ} → ItemIs v s b mark q (Ok (Closed c next)) → BodyIs v s b phased p (Ok (stop c q next))
    body_stopped {c} {next} h =
        let o : Stops v s q (stop c q next) = h.within in
        record {
          is = further h;
          within = record {
            after = g.after;
            closer = o.closer;
            inside = o.inside;
            few = g.few;
            counted = o.counted ∙ g.counted;
          };
        }

    pub body_broken : {r : Refusal} → ItemIs v s b mark q (Err r) → BodyIs v s b phased p (Err r)
    body_broken h = record { is = further h; within = tt }

-- a stretch leads on
pub leads_on : {v : Version} {s : List ℕ} {beyond stop start at n : ℕ} → PlainTo v s beyond stop start at n → start ≤ at
leads_on here = omega arith
leads_on (past l plain before) = omega (arith, leads_on l)

-- a body passes a plain instruction wherever it stands, and so a stretch of them
module _ {v : Version} {s : List ℕ} {b : Around} {phased : Bool} {p : Place} (begun : StartsAt s b.depth p) where
  pub begins_at : {q : Place} {mark : Bool} → Reached v s b phased p q mark → StartsAt s b.depth q
  begins_at g = record { depths = begun.depths; starts = g.inside; few = g.few }

  plain_passed : {q : Place} {mark : Bool} → Reached v s b phased p q mark → is_plain (told_at v s 0 q.at) ≡ true →
      Reached v s b phased p (place (next_at q.at (told_at v s 0 q.at)) (q.count + 1)) mark
  plain_passed {q} {mark} g plain =
      let two : told_at v s 0 q.at % 32 ≡ 2 = eqb-true (told_at v s 0 q.at % 32) 2 plain in
      rw (two, or_false mark) at
      (reached_on g (item_passed v b (begins_at g, refl) refl (plain_from (told_at v s 0 q.at) plain) refl refl refl refl) refl refl)

  pub stretch_passed : {q : Place} {mark : Bool} → Reached v s b phased p q mark → {stop at n : ℕ} → PlainTo v s 0 stop q.at at n →
      Reached v s b phased p (place at (q.count + n)) mark
  stretch_passed {q} g here = rw (add-zero q.count) g
  stretch_passed {q} g (past {n} l plain before) =
      let more : q.count + suc n ≡ q.count + n + 1 = omega arith in
      rw more (plain_passed (stretch_passed g l) plain)
