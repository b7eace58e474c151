-- The ways in which an item ends: one instruction, a block, a closer, a refusal.
use Rattle.std.specs.Result.{IsErrAnd}
use Rattle.std.specs.Prelude.{Result, Ok, Err}
use Prim.Native.Nat.{ℕ, suc, ◌+◌, ◌-◌, ◌<◌, ◌≤◌}
use mathlib.Core.Path.{◌≡◌, refl, ap, sym, subst, ◌∙◌}
use mathlib.Core.Bool.{Bool, true, false}
use mathlib.Core.List.{List, []}
use native.Mathlib.Nat.{add-zero}
use native.Mathlib.Omega.{arith}
use lib.Dec.{ltb}
use lib.ListN.{length, drop, length-drop, drop_of_length-le}
use borrow.Author.Tests.{lt-ltb, le-ltb, ltb-true, ltb-false}
use Rattle.paper.specs.Numbers.{refusal, moved_by, told_instruction}
use Rattle.paper.specs.Instruction.{judged}
use Rattle.paper.specs.Blocks.{then, may_stand, most_open}
use Rattle.paper.specs.Stream.{cut_from}
use Rattle.paper.specs.declared.Version.{Version}
use Rattle.paper.specs.declared.Class.{Class}
use Rattle.paper.specs.declared.Class.TheVariants.{One, Opens, Closes}
use Rattle.paper.specs.declared.Single.{Single}
use Rattle.paper.specs.declared.Single.TheVariants.{Comment, Plain, Break, Label, Return, Phase}
use Rattle.paper.specs.declared.Opener.{Opener}
use Rattle.paper.specs.declared.Closer.{Closer}
use Rattle.paper.specs.declared.Refusal.{Refusal}
use Rattle.paper.specs.declared.Reason.TheVariants.{RunOut as RUN_OUT, Block as BLOCK, Depth as DEPTH}
use Rattle.paper.specs.Judgements.{Judged, good_instruction, bad_instruction}
use Rattle.paper.specs.Walk.{counts}
use Rattle.paper.proofs.OneToOne.{same_instruction}
use Rattle.blocks.specs.Descent.{refused, item_of, block_of}
use Rattle.blocks.proofs.Cutting.{cut_none, cut_at}
use Rattle.blocks.proofs.Unfold.{item_one, item_opens, item_closes}
use Rattle.blocks.proofs.Unphased.{block_unphased}
use Rattle.blocks.specs.Nesting.{count_of}
use Rattle.told.specs.Numbered.{judged_from}
use Rattle.stretches.specs.Stretch.{told_at}
use Rattle.told.proofs.Numbers.{judged_back}
use Rattle.stretches.proofs.Stretches.{told_whole}
use Rattle.checker.specs.declared.Place.{Place}
use Rattle.checker.specs.declared.Around.{Around}
use Rattle.checker.specs.declared.Found.TheVariants.{Item, Closer as Closed}
use Rattle.checker.specs.Ends.{place, item_at, StartsAt, Onward, ItemIs, BlockIs, tally_of}
use Rattle.paper.proofs.OwnTokens.{good_inside as ends_inside}
use Rattle.paper.proofs.OneInstruction.{Near, Within, judged_near, judged_bit}

tally_counts : (x : Single) (m n : ℕ) → m + tally_of x + n ≡ m + counts (One x) n
tally_counts Comment m n = omega arith
tally_counts Plain m n = omega arith
tally_counts Break m n = omega arith
tally_counts Label m n = omega arith
tally_counts Return m n = omega arith
tally_counts Phase m n = omega arith

tally_one : (x : Single) → tally_of x ≤ 1
tally_one Comment = omega arith
tally_one Plain = omega arith
tally_one Break = omega arith
tally_one Label = omega arith
tally_one Return = omega arith
tally_one Phase = omega arith

pub tally_small : (x : Single) {t : ℕ} → t ≡ tally_of x → t ≤ 1
tally_small x e = omega (arith, tally_one x)

onward : {v : Version} {s : List ℕ} {p q r : Place} → Onward v s p q → Onward v s q r → Onward v s p r
onward g h =
    record {
      after = omega (arith, g.after, h.after);
      inside = h.inside;
      few = h.few;
      counted = omega (arith, g.counted, h.counted);
    }

-- what a `?` hands on is the refusal that came
pub handed_on : {T : Type 0} (r : Result T Refusal) (e : Refusal) → IsErrAnd r (λ f. f ≡ e) → r ≡ Err e
handed_on (Ok x) e h = absurd h
handed_on (Err f) e h = ap Err h

-- "no token where an instruction must start" is RUN-OUT at the token count
out_is : (at : ℕ) (r : Refusal) → bad_instruction (refusal RUN_OUT 0) ≡ bad_instruction r →
    refused (refusal RUN_OUT at) ≡ refused (moved_by (λ p. at + p) r)
out_is at r e =
    let is : refusal RUN_OUT 0 ≡ r = cc in
    ap (λ n. refused (refusal RUN_OUT n)) (sym (add-zero at)) ∙ ap (λ (x : Refusal). refused (moved_by (λ p. at + p) x)) is

-- at a place p with these blocks around it, of whose instruction this is told
module _ (v : Version) (b : Around) {s : List ℕ} {p : Place} {told : ℕ} (begun : StartsAt s b.depth p × (told ≡ told_at v s 0 p.at))
    {j : Judged} (e : told_instruction j ≡ told_instruction (judged_from told)) where
  judged_at : j ≡ judged v (drop p.at s)
  judged_at =
      same_instruction _ _ e ∙ ap judged_from (begun.1 ∙ told_whole v s p.at)
      ∙ judged_back (length (drop p.at s)) (judged v (drop p.at s)) (judged_bit v (drop p.at s))

  -- an instruction that is good by itself
  module _ {size : ℕ} {class : Class} (f : j ≡ good_instruction size class) where
    pub good_inside : p.at + 1 + size ≤ length s
    good_inside = omega (arith, ends_inside size class v s p.at (sym judged_at ∙ f))

    cut : cut_from v s p.at ≡ then class p.at (cut_from v s (p.at + 1 + size))
    cut =
        let next : p.at + suc size ≡ p.at + 1 + size = omega arith in
        cut_at v s p.at (omega (arith, good_inside)) ∙ rw (← judged_at, f, next) refl

    begins : (phased : Bool) →
        item_at b.depth b.in_loop phased (cut_from v s p.at) ≡ item_of b.depth b.in_loop phased class p.at (cut_from v s (p.at + 1 + size))
    begins phased = ap (item_at b.depth b.in_loop phased) cut

    counted : count_of (cut_from v s p.at) ≡ counts class (count_of (cut_from v s (p.at + 1 + size)))
    unfolding count_of
    counted = ap count_of cut

    pub item_passed : {phased stands : Bool} {x : Single} {t : ℕ} → class ≡ One x → stands ≡ may_stand b.depth b.in_loop phased x → stands ≡ true →
        t ≡ tally_of x → ItemIs v s b phased p (Ok (Item (place (p.at + 1 + size) (p.count + t))))
    item_passed {phased} {stands} {x} {t} g stood held k =
        record {
          is = sym (begins phased ∙ rw (g, item_one b.depth b.in_loop phased x p.at (cut_from v s (p.at + 1 + size)), ← stood, held) refl);
          within = record {
            after = omega arith;
            inside = good_inside;
            few = omega (arith, begun.0.few, tally_small x k);
            counted = rw (k, counted, g) (tally_counts x p.count (count_of (cut_from v s (p.at + 1 + size))));
          };
        }

    pub item_barred : {phased stands : Bool} {x : Single} {r : Refusal} → class ≡ One x → stands ≡ may_stand b.depth b.in_loop phased x →
        stands ≡ false → r ≡ refusal BLOCK p.at → ItemIs v s b phased p (Err r)
    item_barred {phased} {stands} {x} g stood failed k =
        rw k (record {
          is = sym (begins phased ∙ rw (g, item_one b.depth b.in_loop phased x p.at (cut_from v s (p.at + 1 + size)), ← stood, failed) refl);
          within = tt;
        })

    module _ {o : Opener} (g : class ≡ Opens o) where
      opens : Onward v s p (place (p.at + 1 + size) (p.count + 1))
      opens =
          record {
            after = omega arith;
            inside = good_inside;
            few = omega (arith, begun.0.few);
            counted = rw (counted, g) (omega arith);
          }

      -- a block is told of no PHASE
      block_begins : (phased : Bool) → ltb b.depth most_open ≡ true →
          block_of b.depth b.in_loop false o (cut_from v s (p.at + 1 + size)) ≡ item_at b.depth b.in_loop phased (cut_from v s p.at)
      block_begins phased h =
          block_unphased b.depth b.in_loop false phased o (cut_from v s (p.at + 1 + size))
          ∙ sym (begins phased ∙ rw (g, item_opens b.depth b.in_loop phased o p.at (cut_from v s (p.at + 1 + size)), h) refl)

      module _ (phased : Bool) (h : b.depth < most_open) where
        pub item_opened : {q : Place} → BlockIs v s b false (place (p.at + 1 + size) (p.count + 1)) o (Ok q) → ItemIs v s b phased p (Ok (Item q))
        item_opened k = record { is = k.is ∙ block_begins phased (lt-ltb b.depth most_open h); within = onward opens k.within }

        pub block_refused : {r : Refusal} → BlockIs v s b false (place (p.at + 1 + size) (p.count + 1)) o (Err r) → ItemIs v s b phased p (Err r)
        block_refused k = record { is = k.is ∙ block_begins phased (lt-ltb b.depth most_open h); within = tt }

      pub item_deep : {phased : Bool} → most_open ≤ b.depth → {r : Refusal} → r ≡ refusal DEPTH p.at → ItemIs v s b phased p (Err r)
      item_deep {phased} h k =
          rw k (record {
            is = sym (begins phased ∙ rw (g, item_opens b.depth b.in_loop phased o p.at (cut_from v s (p.at + 1 + size)), le-ltb b.depth most_open h) refl);
            within = tt;
          })

    pub item_closer : {phased : Bool} {c : Closer} → class ≡ Closes c → ItemIs v s b phased p (Ok (Closed c (p.at + 1 + size)))
    item_closer {phased} {c} g =
        record {
          is = sym (begins phased ∙ rw (g, item_closes b.depth b.in_loop phased c p.at (cut_from v s (p.at + 1 + size))) refl);
          within = record {
            after = omega arith;
            closer = omega arith;
            inside = good_inside;
            few = begun.0.few;
            counted = rw (counted, g) refl;
          };
        }

  -- an instruction that is refused by itself
  module _ {r : Refusal} (f : j ≡ bad_instruction r) where
    pub wrong_inside : p.at + r.position ≤ length s
    wrong_inside =
        let fits : r.position ≤ length (drop p.at s) - 1 =
        subst (Within (Near (length (drop p.at s))) (length (drop p.at s))) (sym judged_at ∙ f) (judged_near v (drop p.at s))
        in
        omega (arith, begun.0.starts, length-drop p.at s)

    wrong_cut : (phased test : Bool) → ltb p.at (length s) ≡ test →
        item_at b.depth b.in_loop phased (cut_from v s p.at) ≡ refused (moved_by (λ n. p.at + n) r)
    unfolding judged
    wrong_cut phased true h =
        ap (item_at b.depth b.in_loop phased) (cut_at v s p.at (ltb-true p.at (length s) h)) ∙ rw (← judged_at, f) refl
    wrong_cut phased false h =
        let none : drop p.at s ≡ [] = drop_of_length-le s (ltb-false p.at (length s) h) in
        ap (item_at b.depth b.in_loop phased) (cut_none v s p.at (ltb-false p.at (length s) h))
        ∙ out_is p.at r (ap (judged v) (sym none) ∙ sym judged_at ∙ f)

    pub item_wrong : {phased : Bool} → ItemIs v s b phased p (Err (moved_by (λ n. p.at + n) r))
    item_wrong {phased} = record { is = sym (wrong_cut phased (ltb p.at (length s)) refl); within = tt }
