-- An instruction by the shape of its opcode, and by the tokens that are shown of it.
use mathlib.Core.Path.{◌≡◌, refl, sym, ap, ◌∙◌}
use mathlib.Core.Bool.{Bool, true, false}
use mathlib.Core.List.{List, [], ◌∷◌}
use Prim.Native.Nat.{ℕ, ◌+◌, ◌-◌, ◌<◌}
use native.Mathlib.Nat.{add-zero}
use native.Mathlib.Omega.{arith}
use lib.Dec.{leb, leb-zero}
use lib.ListN.{length, take, drop, get_or, length-take, length-drop}
use lib.Seq.{drop-drop, get_or-drop, take-take}
use borrow.Author.Tests.{le-leb, lt-leb, leb-true, leb-false}
use Rattle.paper.specs.Notation.{pick}
use Rattle.paper.specs.Numbers.{refusal}
use Rattle.paper.specs.InstructionToken.{opcode_of, comment_opcode, end_opcode}
use Rattle.paper.specs.Blocks.{class_of}
use Rattle.paper.specs.Instruction.{Head, broken, end, comment, operation, token_head, claim, by_head, judged}
use Rattle.paper.specs.Places.{Entry, absent, listed, entry_of}
use Rattle.paper.specs.declared.Version.{Version}
use Rattle.paper.specs.declared.Reason.TheVariants.{Bits as BITS, RunOut as RUN_OUT}
use Rattle.paper.specs.Judgements.{bad_instruction}
use Rattle.paper.proofs.Bools.{apart}
use Rattle.paper.proofs.FirstToken.{stray_comment, stray_end, no_row_lem, stray_bits, Says, is_broken, is_comment_lem, is_end_lem, is_listed, says, fifteen}
use Rattle.shapes.specs.Classes.{class_number}
use Rattle.shapes.specs.Shape.{shape_of, class_in}
use Rattle.shapes.proofs.Shapes.{shape_absent, shape_zero, shape_class}
use Rattle.shapes.proofs.Table.{beyond}
use Rattle.shapes.proofs.Computed.{Beyond}
use Rattle.instruction_token.specs.ByShape.{bits_by}
use Rattle.instruction_token.proofs.ByShape.{bits_by_lem, claim_by_lem, places_back, claim_there, claim_none, claim_few}
use Rattle.instruction.specs.Shown.{listed_head, room_for, judged_with, judged_in, unlisted_in}

module _ (v : Version) (first : ℕ) (behind : List ℕ) (left : ℕ) where
  -- where no row lists the opcode
  unlisted_by : (h : Head) → Says v first h → entry_of v (opcode_of first) ≡ absent → judged_with v h first behind left ≡ unlisted_in first left
  unfolding unlisted_in
  unlisted_by h (is_broken (stray_comment o l)) none = rw (leb-zero (length behind), o, l)
  unlisted_by h (is_broken (stray_end o n)) none = rw (leb-zero (length behind), o, n)
  unlisted_by h (is_broken (no_row_lem o e)) none = rw (leb-zero (length behind), o.no_comment, o.no_end)
  unlisted_by h (is_broken (stray_bits o e l)) none = apart (cc)
  unlisted_by h (is_comment_lem o l) none = rw (o, l)
  unlisted_by h (is_end_lem n) none = rw (leb-zero (length behind), n)
  unlisted_by h (is_listed o e l) none = apart (cc)

  pub judged_unlisted : shape_of v (opcode_of first) ≡ 0 → judged_in v first behind left ≡ unlisted_in first left
  unfolding judged_in
  judged_unlisted z = unlisted_by (token_head v first) (says v first) (shape_zero v (opcode_of first) z)

  -- where one does: it is neither a comment's opcode nor END's
  module _ (some : shape_of v (opcode_of first) ≡ 0 → ⊥) where
    listed_alone : {A : Type 0} → entry_of v (opcode_of first) ≡ absent → A
    listed_alone e = absurd (some (shape_absent v (opcode_of first) e))

    beyond_table : {A : Type 0} (opcode : ℕ) → Beyond opcode → opcode_of first ≡ opcode → A
    beyond_table opcode b e = listed_alone (ap (entry_of v) e ∙ beyond v opcode b.0 b.1)

    no_comment : Beyond comment_opcode
    no_comment = (omega arith, λ e. omega arith)

    no_end : Beyond end_opcode
    no_end = (omega arith, λ e. omega arith)

    shaped_by : (h : Head) → Says v first h → judged_with v h first behind left ≡
        pick (bits_by (shape_of v (opcode_of first)) first) (by_head v (listed_head (shape_of v (opcode_of first)) first) (opcode_of first) behind)
        (bad_instruction (refusal BITS 0))
    shaped_by h (is_broken (stray_comment o l)) = beyond_table comment_opcode no_comment o
    shaped_by h (is_broken (stray_end o n)) = beyond_table end_opcode no_end o
    shaped_by h (is_broken (no_row_lem o e)) = listed_alone e
    shaped_by h (is_broken (stray_bits {places} o e l)) = rw (leb-zero (length behind), bits_by_lem v first places e, l)
    shaped_by h (is_comment_lem o l) = beyond_table comment_opcode no_comment o
    shaped_by h (is_end_lem n) = beyond_table end_opcode no_end (ap opcode_of n)
    shaped_by h (is_listed {places} o e l) = rw (bits_by_lem v first places e, l, places_back v first places e l, claim_by_lem v first places e)

    pub judged_shaped : judged_in v first behind left ≡
        pick (bits_by (shape_of v (opcode_of first)) first) (by_head v (listed_head (shape_of v (opcode_of first)) first) (opcode_of first) behind)
        (bad_instruction (refusal BITS 0))
    unfolding judged_in
    judged_shaped = shaped_by (token_head v first) (says v first)

    class_by_lem : (entry : Entry) → entry_of v (opcode_of first) ≡ entry → class_in (shape_of v (opcode_of first)) ≡ class_number (class_of (opcode_of first))
    class_by_lem absent e = listed_alone e
    class_by_lem (listed places) e = shape_class v (opcode_of first) places e

    pub class_in_lem : class_in (shape_of v (opcode_of first)) ≡ class_number (class_of (opcode_of first))
    class_in_lem = class_by_lem (entry_of v (opcode_of first)) refl

-- where no token is, and where all the tokens behind the first are shown
pub judged_none : (v : Version) (tokens : List ℕ) → length tokens ≡ 0 → judged v tokens ≡ bad_instruction (refusal RUN_OUT 0)
unfolding judged
judged_none v [] h = refl
judged_none v (first ∷ rest) h = absurd (omega arith)

room_all : (h : Head) (n : ℕ) → room_for h n n ≡ n
room_all (broken reason) n = refl
room_all end n = refl
room_all (comment size) n = refl
room_all (operation places size) n = refl

pub judged_whole_lem : (v : Version) (tokens : List ℕ) (left : ℕ) → (length tokens ≡ 0 → ⊥) → left ≡ length (drop 1 tokens) →
    judged v tokens ≡ judged_in v (get_or tokens 0 0) (drop 1 tokens) left
unfolding judged judged_in
judged_whole_lem v [] left some e = absurd (some refl)
judged_whole_lem v (first ∷ rest) left some e = rw (e, room_all (token_head v first) (length rest))

-- nothing but a comment claims more than fifteen tokens behind its first, so that an instruction is judged alike wherever its first fifteen tokens are shown
module _ (a b : List ℕ) (same : take 15 a ≡ take 15 b) (size : ℕ) (few : size < 16) where
  same_part : take size a ≡ take size b
  same_part = sym (take-take size 15 a (omega arith)) ∙ ap (take size) same ∙ take-take size 15 b (omega arith)

  room_by : (enough : Bool) → leb size (length a) ≡ enough → leb size (length b) ≡ enough
  room_by true h =
      le-leb size (length b)
      (omega (arith, leb-true size (length a) h, sym (length-take 15 a) ∙ ap length same ∙ length-take 15 b))
  room_by false h =
      lt-leb size (length b)
      (omega (arith, leb-false size (length a) h, sym (length-take 15 a) ∙ ap length same ∙ length-take 15 b))

  same_room : leb size (length b) ≡ leb size (length a)
  same_room = room_by (leb size (length a)) refl

module _ (v : Version) (first : ℕ) (a b : List ℕ) (left : ℕ) (same : take 15 a ≡ take 15 b) where
  shown_by : (h : Head) → Says v first h → judged_with v h first a left ≡ judged_with v h first b left
  shown_by h (is_broken x) = rw (leb-zero (length a), leb-zero (length b))
  shown_by h (is_comment_lem o l) = refl
  shown_by h (is_end_lem n) = rw (leb-zero (length a), leb-zero (length b))
  shown_by h (is_listed o e l) =
      let few = fifteen v first h (is_listed o e l) (λ n c. apart (cc)) in
      rw (same_room a b same (claim h) few, same_part a b same (claim h) few)

  shown_alike : judged_in v first a left ≡ judged_in v first b left
  unfolding judged_in
  shown_alike = shown_by (token_head v first) (says v first)

pub judged_shown : (v : Version) (s behind : List ℕ) (at left : ℕ) → at < length s → left ≡ length s - (at + 1) →
    take 15 behind ≡ take 15 (drop (at + 1) s) → judged_in v (get_or s at 0) behind left ≡ judged v (drop at s)
judged_shown v s behind at left h l same =
    let token : get_or (drop at s) 0 0 ≡ get_or s at 0 = get_or-drop at s 0 0 ∙ ap (λ (n : ℕ). get_or s n 0) (add-zero at) in
    let rest : drop 1 (drop at s) ≡ drop (at + 1) s = drop-drop 1 at s in
    let whole = judged_whole_lem v (drop at s) left (λ e. omega (arith, length-drop at s)) (rw (rest, length-drop (at + 1) s) l) in
    shown_alike v (get_or s at 0) behind (drop (at + 1) s) left same ∙ sym (rw (token, rest) at whole)

-- what tells a first token's judgement: its shape, and its claim
pub ruleset first_laws = (judged_unlisted, judged_shaped, class_in_lem, claim_there, claim_none, claim_few)
