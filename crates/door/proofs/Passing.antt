-- What the judge tells of an instruction that the door looks at, and the law of the door: what it passes, the judge calls good.
use Prim.Native.Nat.{ℕ, zero, suc, ◌-◌, ◌/◌, ◌^◌, ◌≤◌, ◌<◌}
use mathlib.Core.Path.{◌≡◌, refl, sym, ap, ◌∙◌}
use mathlib.Core.Bool.{Bool, true, false}
use mathlib.Core.List.{List, ◌∷◌}
use Rattle.std.specs.Prelude.{Option, Some, None}
use Rattle.std.specs.Bool.{then_some}
use native.Mathlib.Nat.{mod-lt}
use native.Mathlib.Omega.{arith}
use lib.Dec.{eqb, leb, lit<}
use lib.ListN.{length, take}
use borrow.Author.Tests.{eqb-true, eqb-false, ne_eqb}
use Rattle.paper.specs.Notation.{bits, bit, pick}
use Rattle.paper.specs.OpcodeTable.{PHASE}
use Rattle.paper.specs.Numbers.{refusal}
use Rattle.paper.specs.Versions.{has_sizes}
use Rattle.paper.specs.InstructionToken.{opcode_of, controls_of, stated_size, is_predicated, bits_laid, unsized_bits_laid, comment_opcode, end_opcode}
use Rattle.paper.specs.Instruction.{Head, operation, token_head, claimed, operands, on_operands}
use Rattle.paper.specs.Places.{Types, Place, listed, entry_of, destination, source}
use Rattle.paper.specs.declared.Version.{Version}
use Rattle.paper.specs.declared.Reason.TheVariants.{RunOut as RUN_OUT}
use Rattle.paper.specs.Judgements.{Operands, good_operands, bad_operands, Judged, good_instruction, bad_instruction}
use Rattle.paper.specs.declared.Class.TheVariants.{One}
use Rattle.paper.specs.declared.Single.TheVariants.{Plain}
use Rattle.paper.proofs.Bools.{both_left, both_right, apart, never}
use Rattle.paper.proofs.FirstToken.{stray_comment, stray_end, no_row_lem, stray_bits, Says, is_broken, is_comment_lem, is_end_lem, is_listed, says}
use Rattle.shapes.proofs.Table.{limit, beyond}
use Rattle.uniform.specs.Uniform.{Kind, places_of, sources, uniform_of, row_of}
use Rattle.uniform.proofs.Uniform.{uniform_entry, uniform_plain, uniform_controls, uniform_declares, uniform_written_free, uniform_read_free, uniform_writes, uniform_reads, uniform_few}
use Rattle.instruction_token.specs.ByShape.{has_zeros}
use Rattle.told.specs.Numbered.{yes_number, judged_number}
use Rattle.instruction.specs.Shown.{judged_in}
use Rattle.door.specs.Door.{is_fit, Meant, is_common, count_of, claim_for, yes_of, passed}

pub sources_length : (n : ℕ) (types : Types) → length (sources n types) ≡ n
sources_length zero types = refl
sources_length (suc n) types = ap suc (sources_length n types)

module _ (v : Version) (first : ℕ) (common : is_common v first ≡ true) (some : (uniform_of v (opcode_of first)).count ≡ 0 → ⊥) where
  abbrev kind : Kind
  kind = uniform_of v (opcode_of first)

  abbrev row : List Place
  row = places_of kind

  entry : entry_of v (opcode_of first) ≡ listed row
  entry = uniform_entry v (opcode_of first) some

  -- its bits are laid out, and it is not predicated
  laid_by : (sized : Bool) → has_sizes v ≡ sized → (bits_laid v first row ≡ true) × (is_predicated first ≡ false)
  laid_by true s =
      let zeros : has_zeros first ≡ true = rw s at common in
      let high : first / 2 ^ 28 ≡ 0 = eqb-true (first / 2 ^ 28) 0 (both_left (eqb (first / 2 ^ 28) 0) _ zeros) in
      let controls : controls_of first ≡ 0 = eqb-true (controls_of first) 0 (both_right (eqb (first / 2 ^ 28) 0) _ zeros) in
      let reserved : bits 31 29 first ≡ 0 = omega arith in
      let unpredicated : bit 28 first ≡ 0 = omega arith in
      (rw (s, reserved, controls, unpredicated, uniform_controls v (opcode_of first) some), rw unpredicated)
  laid_by false s =
      let laid : unsized_bits_laid v first ≡ true = rw s at common in
      let zeros : bits 29 16 first ≡ 0 = eqb-true (bits 29 16 first) 0 (both_left (eqb (bits 29 16 first) 0) _ laid) in
      let unpredicated : bit 28 first ≡ 0 = omega arith in
      (rw s laid, rw unpredicated)

  laid : (bits_laid v first row ≡ true) × (is_predicated first ≡ false)
  laid = laid_by (has_sizes v) refl

  -- so many tokens are claimed
  claim_is : claimed v first row ≡ claim_for v first kind.count
  claim_is =
      let many : suc (length (sources (kind.count - 1) kind.read)) ≡ kind.count = rw (sources_length (kind.count - 1) kind.read) (omega arith) in
      ap (λ n. pick (has_sizes v) (stated_size first) n) many

  -- its first token says so: it is in the table, where neither a comment's opcode is nor END's
  elsewhere : {A : Type 0} (opcode : ℕ) → limit ≤ opcode → (opcode ≡ PHASE → ⊥) → opcode_of first ≡ opcode → A
  elsewhere opcode above other e = let none = ap (entry_of v) e ∙ beyond v opcode above other in apart (cc entry)

  head_by : (h : Head) → Says v first h → h ≡ operation row (claim_for v first kind.count)
  head_by h (is_broken (stray_comment o l)) = elsewhere comment_opcode (omega arith) (λ e. omega arith) o
  head_by h (is_broken (stray_end o n)) = elsewhere end_opcode (omega arith) (λ e. omega arith) o
  head_by h (is_broken (no_row_lem o e)) = apart (cc entry)
  head_by h (is_broken (stray_bits {places} o e l)) =
      let same : places ≡ row = cc entry in
      never (sym (rw same at l) ∙ laid.0)
  head_by h (is_comment_lem o l) = elsewhere comment_opcode (omega arith) (λ e. omega arith) o
  head_by h (is_end_lem n) = elsewhere end_opcode (omega arith) (λ e. omega arith) (ap opcode_of n)
  head_by h (is_listed {places} o e l) =
      let same : places ≡ row = cc entry in
      rw (same, laid.1) (ap (operation row) claim_is)

  pub judged_row : (behind : List ℕ) (left : ℕ) → judged_in v first behind left ≡
      pick (leb (claim_for v first kind.count) (length behind))
      (on_operands (operands v row 1 (take (claim_for v first kind.count) behind)) (claim_for v first kind.count) (One Plain))
      (bad_instruction (refusal RUN_OUT 0))
  unfolding judged_in
  judged_row behind left =
      rw (head_by (token_head v first) (says v first), uniform_declares v (opcode_of first) some, uniform_plain v (opcode_of first) some) refl

-- the door's answer, by what is asked
module _ (v : Version) (first : ℕ) (behind : List ℕ) where
  pub passes_none : count_of v first ≡ 0 → passed v first behind ≡ None
  unfolding passed
  passes_none z = rw z refl

  module _ (count claim : ℕ) (e : count ≡ count_of v first) (some : count ≡ 0 → ⊥) (c : claim ≡ claim_for v first count) where
    common_by : (b : Bool) (n : ℕ) → is_common v first ≡ b → count ≡ pick b n 0 → (b ≡ true) × (count ≡ n)
    common_by true n i h = (refl, h)
    common_by false n i h = absurd (some h)

    is : (is_common v first ≡ true) × (count ≡ (uniform_of v (opcode_of first)).count)
    is = common_by (is_common v first) (uniform_of v (opcode_of first)).count refl e

    there : (uniform_of v (opcode_of first)).count ≡ 0 → ⊥
    there none = some (is.1 ∙ none)

    claim_same : claim ≡ claim_for v first (uniform_of v (opcode_of first)).count
    claim_same = c ∙ ap (claim_for v first) is.1

    abbrev row_of_lem : List Place
    row_of_lem = places_of (uniform_of v (opcode_of first))

    judged_here : (left : ℕ) → judged_in v first behind left ≡
        pick (leb claim (length behind)) (on_operands (operands v row_of_lem 1 (take claim behind)) claim (One Plain)) (bad_instruction (refusal RUN_OUT 0))
    judged_here left = rw claim_same (judged_row v first is.0 there behind left)

    yes_by : (o : Operands) → yes_of (on_operands o claim (One Plain)) ≡ then_some (is_fit o) (yes_number claim 1)
    yes_by good_operands = refl
    yes_by (bad_operands r) = refl

    -- more tokens are claimed than there are
    pub passes_short : leb claim (length behind) ≡ false → passed v first behind ≡ None
    unfolding passed
    passes_short short = rw (judged_here (length behind), short) (either (eqb (count_of v first) 0))
      where
        either : (b : Bool) → ◌≡◌ {A = Option ℕ} (pick b None None) None
        either true = refl
        either false = refl

    -- they are there: whether they are operands of the row, whose sets are meant
    pub meant_written : (set : ℕ) → set ≡ (row_of v (opcode_of first)).written → Meant v (destination (uniform_of v (opcode_of first)).written) set
    meant_written set h =
        record { types = λ token. rw h (uniform_writes v (opcode_of first) there token); free = uniform_written_free v (opcode_of first) there }

    pub meant_read : (set : ℕ) → set ≡ (row_of v (opcode_of first)).read → Meant v (source (uniform_of v (opcode_of first)).read) set
    meant_read set h =
        record { types = λ token. rw h (uniform_reads v (opcode_of first) there token); free = uniform_read_free v (opcode_of first) there }

    pub passes_by : leb claim (length behind) ≡ true → (fit : Bool) →
        fit ≡ is_fit (operands v (destination (uniform_of v (opcode_of first)).written ∷ sources (count - 1) (uniform_of v (opcode_of first)).read) 1 (take claim behind)) →
        passed v first behind ≡ then_some fit (yes_number claim 1)
    unfolding passed
    passes_by enough fit f =
        rw (judged_here (length behind), enough, ne_eqb (count_of v first) 0 (λ z. some (e ∙ z)), f, is.1)
        (yes_by (operands v row_of_lem 1 (take claim behind)))

    -- the answer, by what is told of the tokens for the two sets of the row
    pub passes_told : leb claim (length behind) ≡ true → (claimed : List ℕ) → claimed ≡ take claim behind → (written read : ℕ) →
        written ≡ (row_of v (opcode_of first)).written → read ≡ (row_of v (opcode_of first)).read → (fit : Bool) →
        ((d s : Types) → Meant v (destination d) written → Meant v (source s) read → fit ≡ is_fit (operands v (destination d ∷ sources (count - 1) s) 1 claimed)) →
        passed v first behind ≡ then_some fit (yes_number claim 1)
    passes_told enough claimed same written read w r fit f =
        let kind = uniform_of v (opcode_of first) in
        passes_by enough fit
        (f kind.written kind.read (meant_written written w) (meant_read read r)
        ∙ ap (λ tokens. is_fit (operands v (destination kind.written ∷ sources (count - 1) kind.read) 1 tokens)) same)

    -- a claim is small
    pub claim_few : claim < 16
    claim_few = by (has_sizes v) refl
      where
        by : (sized : Bool) → has_sizes v ≡ sized → claim < 16
        by true s = rw (c, s) (mod-lt (first / 2 ^ 24) {m = 16} (lit< tt))
        by false s = rw (c, s, is.1) (omega (arith, uniform_few v (opcode_of first)))

-- the law of the door, however many tokens are left behind those that are shown
pub door_law : (v : Version) (first : ℕ) (behind : List ℕ) (left told : ℕ) → Some told ≡ passed v first behind → told ≡ judged_number (judged_in v first behind left)
unfolding passed
door_law v first behind left told pass = by (eqb (count_of v first) 0) refl pass
  where
    yes_told : (j : Judged) → Some told ≡ yes_of j → told ≡ judged_number j
    yes_told (good_instruction size class) h = cc
    yes_told (bad_instruction r) h = apart (cc)

    by : (none : Bool) → eqb (count_of v first) 0 ≡ none → Some told ≡ pick none None (yes_of (judged_in v first behind (length behind))) →
        told ≡ judged_number (judged_in v first behind left)
    by true z h = apart (cc)
    by false z h =
        let some = eqb-false (count_of v first) 0 z in
        yes_told (judged_in v first behind (length behind)) h
        ∙ ap judged_number (judged_here v first behind (count_of v first) (claim_for v first (count_of v first)) refl some refl (length behind) ∙ sym (judged_here v first behind (count_of v first) (claim_for v first (count_of v first)) refl some refl left))
