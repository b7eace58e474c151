-- An instruction and its own tokens: it takes at least one, only tokens that are there, and its answer depends on no other.
use mathlib.Core.Path.{◌≡◌, refl, ap, sym, ◌∙◌}
use mathlib.Core.Bool.{Bool, true, false}
use mathlib.Core.List.{List, [], ◌∷◌, ◌++◌, append-nil}
use Prim.Native.Nat.{ℕ, suc, ◌+◌, ◌≤◌}
use native.Mathlib.Omega.{arith}
use lib.Dec.{leb}
use lib.ListN.{length, take, drop, length-append, length-drop}
use lib.Seq.{take_at, length-take-le}
use borrow.Author.Tests.{le-leb, leb-true}
use Rattle.paper.specs.Notation.{pick}
use Rattle.paper.specs.Numbers.{refusal}
use Rattle.paper.specs.InstructionToken.{opcode_of}
use Rattle.paper.specs.Instruction.{Head, broken, end, comment, operation, token_head, operands_of, on_operands, claim, on_claimed, within, judged}
use Rattle.paper.specs.Places.{Place}
use Rattle.paper.specs.Blocks.{class_of}
use Rattle.paper.specs.declared.Version.{Version}
use Rattle.paper.specs.declared.Reason.TheVariants.{RunOut as RUN_OUT}
use Rattle.paper.specs.Judgements.{Operands, good_operands, bad_operands, Judged, good_instruction, bad_instruction}
use Rattle.paper.specs.declared.Class.{Class}
use Rattle.paper.proofs.Bools.{apart}

-- what is claimed and then something else, of which the claimed tokens are the first
same_within : (n : ℕ) (rest other : List ℕ) (next : List ℕ → Judged) → n ≤ length rest →
    within n (take n rest ++ other) (next (take n (take n rest ++ other))) ≡ within n rest (next (take n rest))
same_within n rest other next there =
    let long : length (take n rest) ≡ n = length-take-le n rest there in
    let still : n ≤ length (take n rest ++ other) = omega (arith, long, length-append (take n rest) other) in
    rw (le-leb n (length (take n rest ++ other)) still, le-leb n (length rest) there, take_at (take n rest) other n long)

-- where the claimed tokens are there, the answer, yes or no, is that of the claimed tokens with anything behind them
pub own_tokens : (v : Version) (first : ℕ) (rest other : List ℕ) → claim (token_head v first) ≤ length rest →
    judged v (first ∷ (take (claim (token_head v first)) rest ++ other)) ≡ judged v (first ∷ rest)
unfolding judged
own_tokens v first rest other there = same_within (claim (token_head v first)) rest other (on_claimed v (token_head v first) (opcode_of first)) there

-- a good instruction is as long as its first token claims
module _ (size : ℕ) (class : Class) where
  within_good : (n : ℕ) (rest : List ℕ) (next : Judged) → within n rest next ≡ good_instruction size class → (n ≤ length rest) × (next ≡ good_instruction size class)
  within_good n rest next e = there (leb n (length rest)) refl e
    where
      there : (test : Bool) → leb n (length rest) ≡ test → pick test next (bad_instruction (refusal RUN_OUT 0)) ≡ good_instruction size class →
          (n ≤ length rest) × (next ≡ good_instruction size class)
      there true t e = (leb-true n (length rest) t, e)
      there false t e = apart (cc)

  fit : (o : Operands) (n : ℕ) (c : Class) → on_operands o n c ≡ good_instruction size class → (o ≡ good_operands) × (n ≡ size) × (c ≡ class)
  fit good_operands n c e = (refl, cc, cc)
  fit (bad_operands r) n c e = apart (cc)

  -- an instruction of the table: its operands fit, and its size and its class are those told
  pub operands_good : (v : Version) (opcode : ℕ) (places : List Place) (n : ℕ) (behind : List ℕ) →
      on_claimed v (operation places n) opcode behind ≡ good_instruction size class →
      (operands_of v opcode places behind ≡ good_operands) × (n ≡ size) × (class_of opcode ≡ class)
  operands_good v opcode places n behind e = fit (operands_of v opcode places behind) n (class_of opcode) e

  claimed_good : (v : Version) (h : Head) (opcode : ℕ) (behind : List ℕ) → on_claimed v h opcode behind ≡ good_instruction size class → claim h ≡ size
  claimed_good v (broken reason) opcode behind e = apart (cc)
  claimed_good v end opcode behind e = cc
  claimed_good v (comment n) opcode behind e = cc
  claimed_good v (operation places n) opcode behind e = (operands_good v opcode places n behind e).1

  -- what it claims is there, and the answer is that of what it claims
  pub record GoodClaim (v : Version) (first : ℕ) (rest : List ℕ) : Type 0 where
    pub claims : claim (token_head v first) ≡ size
    pub there : size ≤ length rest
    pub good : on_claimed v (token_head v first) (opcode_of first) (take size rest) ≡ good_instruction size class

  pub good_claim : (v : Version) (first : ℕ) (rest : List ℕ) → judged v (first ∷ rest) ≡ good_instruction size class → GoodClaim v first rest
  unfolding judged
  good_claim v first rest e =
      let h = token_head v first in
      let g = within_good (claim h) rest (on_claimed v h (opcode_of first) (take (claim h) rest)) e in
      let same : claim h ≡ size = claimed_good v h (opcode_of first) (take (claim h) rest) g.1 in
      record { claims = same; there = rw same at g.0; good = rw same at g.1 }

  -- a good instruction takes at least one token and only tokens that are there: it takes suc size
  pub good_within : (v : Version) (tokens : List ℕ) → judged v tokens ≡ good_instruction size class → suc size ≤ length tokens
  unfolding judged
  good_within v [] e = apart (cc)
  good_within v (first ∷ rest) e = let there = (good_claim v first rest e).there in omega arith

  -- in a stream it ends at the token count or before
  pub good_inside : (v : Version) (s : List ℕ) (p : ℕ) → judged v (drop p s) ≡ good_instruction size class → p + suc size ≤ length s
  good_inside v s p j = omega (arith, good_within v (drop p s) j, length-drop p s)

  -- the answer of a good instruction depends on its own tokens alone
  pub good_alone : (v : Version) (tokens other : List ℕ) → judged v tokens ≡ good_instruction size class → judged v (take (suc size) tokens ++ other) ≡ good_instruction size class
  unfolding judged
  good_alone v [] other e = apart (cc)
  good_alone v (first ∷ rest) other e =
      let g = good_claim v first rest e in
      ap (λ (n : ℕ). judged v (first ∷ (take n rest ++ other))) (sym g.claims) ∙ own_tokens v first rest other (rw g.claims g.there) ∙ e

  pub good_own : (v : Version) (tokens : List ℕ) → judged v tokens ≡ good_instruction size class → judged v (take (suc size) tokens) ≡ good_instruction size class
  good_own v tokens e = rw (append-nil (take (suc size) tokens)) at (good_alone v tokens [] e)
