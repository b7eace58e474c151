-- An instruction and its refusal lie within its tokens, and a refusal is for one of eight reasons: what holds of each fault that an instruction
-- can have, where it can have it, holds of its refusal.
use Prim.Native.Nat.{ℕ, suc, ◌+◌, ◌-◌, ◌≤◌, ◌<◌}
use mathlib.Core.Path.{◌≡◌, refl}
use mathlib.Core.Bool.{Bool, true, false}
use mathlib.Core.List.{List, [], ◌∷◌}
use native.Mathlib.Omega.{arith}
use lib.Dec.{eqb, leb}
use lib.ListN.{length, take, drop, length-take, length-drop}
use borrow.Author.Tests.{leb-true}
use Rattle.paper.specs.Notation.{pick}
use Rattle.paper.specs.Numbers.{refusal, refusal_at_bit}
use Rattle.paper.specs.OpcodeTable.{DCL}
use Rattle.paper.specs.Places.{Place, relative}
use Rattle.paper.specs.OperandTokens.{type_of, token_at, brings_relative, left_over}
use Rattle.paper.specs.Dcl.{declared_at, usage_at, on_declared, declaration}
use Rattle.paper.specs.InstructionToken.{opcode_of, is_predicated, with_predicate}
use Rattle.paper.specs.Blocks.{class_of}
use Rattle.paper.specs.Instruction.{claimed, Head, token_head, on_token, relative_token, operand, on_taken, operands, operands_of, on_operands, claim, on_claimed, judged}
use Rattle.paper.specs.declared.Version.{Version}
use Rattle.paper.specs.declared.Reason.{Reason}
use Rattle.paper.specs.declared.Reason.TheVariants.{Opcode as OPCODE, Bits as BITS, RunOut as RUN_OUT, Size as SIZE}
use Rattle.paper.specs.declared.Refusal.{Refusal}
use Rattle.paper.specs.Judgements.{Token, good_token, bad_token, Taken, operand_taken, operand_refused, Operands, good_operands, bad_operands, Judged, good_instruction, bad_instruction}
use Rattle.paper.specs.declared.Class.{Class}
use Rattle.paper.proofs.Faults.{TokenFaults, OfToken, of_token, of_declared, of_usage}
use Rattle.paper.proofs.FirstToken.{Broken, stray_comment, stray_end, no_row_lem, stray_bits, Says, is_broken, is_comment_lem, is_end_lem, is_listed, says}

-- P holds of the faults that an instruction with this many tokens behind its first can have: those of the whole instruction stand at its
-- first token, a token's at that token
pub record Faults (P : Refusal → Type 0) (most : ℕ) : Type 0 where
  pub opcode : P (refusal OPCODE 0)
  pub bits : P (refusal BITS 0)
  pub run_out : P (refusal RUN_OUT 0)
  pub size : P (refusal SIZE 0)
  pub token : (p : ℕ) → p ≤ most → TokenFaults (λ reason bit. P (refusal_at_bit reason p bit))

-- a good answer takes tokens that are there, and P holds of a refusal
module _ (P : Refusal → Type 0) where
  abbrev pub Takes : ℕ → Taken → Type 0
  Takes left (operand_taken n) = n ≤ left
  Takes left (operand_refused r) = P r

  abbrev Fits : Operands → Type 0
  Fits good_operands = Unit {0}
  Fits (bad_operands r) = P r

  abbrev pub Within : ℕ → Judged → Type 0
  Within n (good_instruction size class) = size < n
  Within n (bad_instruction r) = P r

  module _ (most : ℕ) (faults : Faults P most) where
    -- one token, at an offset
    abbrev At : ℕ → Token → Type 0
    At offset t = OfToken (λ reason bit. P (refusal_at_bit reason offset bit)) t

    at_token : (v : Version) (place : Place) (token offset : ℕ) → offset ≤ most → At offset (token_at v place token)
    at_token v place token offset h = of_token _ (faults.token offset h) v place token

    on_token_lem : (t : Token) (offset left : ℕ) (next : Taken) → At offset t → Takes left next → Takes left (on_token t offset next)
    on_token_lem good_token offset left next h j = j
    on_token_lem (bad_token reason bit) offset left next h j = h

    -- one operand
    relative_takes : (v : Version) (offset : ℕ) (tokens : List ℕ) → offset + length tokens ≤ suc most →
        Takes (suc (length tokens)) (relative_token v offset tokens)
    relative_takes v offset [] h = faults.size
    relative_takes v offset (token ∷ rest) h =
        on_token_lem (token_at v relative token) offset _ (operand_taken 2) (at_token v relative token offset (omega arith)) (omega arith)

    either : (test : Bool) (left : ℕ) (x y : Taken) → Takes left x → Takes left y → Takes left (pick test x y)
    either true left x y h j = h
    either false left x y h j = j

    operand_takes : (v : Version) (place : Place) (offset : ℕ) (tokens : List ℕ) → offset + length tokens ≤ suc most →
        Takes (length tokens) (operand v place offset tokens)
    unfolding operand
    operand_takes v place offset [] h = faults.size
    operand_takes v place offset (token ∷ rest) h =
        on_token_lem (token_at v place token) offset _ _ (at_token v place token offset (omega arith))
        (either (brings_relative place token) (suc (length rest)) (relative_token v (offset + 1) rest) (operand_taken 1)
        (relative_takes v (offset + 1) rest (omega arith)) (omega arith))

    -- the operands
    left_over_lem : (tokens : List ℕ) → Fits (left_over tokens)
    left_over_lem [] = tt
    left_over_lem (token ∷ rest) = faults.size

    on_taken_lem : (left : ℕ) (taken : Taken) (next : ℕ → Operands) → Takes left taken → ((n : ℕ) → n ≤ left → Fits (next n)) →
        Fits (on_taken taken next)
    on_taken_lem left (operand_taken n) next h j = j n h
    on_taken_lem left (operand_refused r) next h j = h

    operands_fit : (v : Version) (places : List Place) (offset : ℕ) (tokens : List ℕ) → offset + length tokens ≤ suc most →
        Fits (operands v places offset tokens)
    unfolding operands
    operands_fit v [] offset tokens h = left_over_lem tokens
    operands_fit v (place ∷ rest) offset tokens h =
        on_taken_lem (length tokens) (operand v place offset tokens) _ (operand_takes v place offset tokens h)
        (λ n le. operands_fit v rest (offset + n) (drop n tokens) (omega (arith, length-drop n tokens)))

    declared_fit : (t u : Token) (rest : List ℕ) → At 2 t → At 1 u → Fits (on_declared t 2 (on_declared u 1 (left_over rest)))
    declared_fit good_token good_token rest h j = left_over_lem rest
    declared_fit good_token (bad_token reason bit) rest h j = j
    declared_fit (bad_token reason bit) u rest h j = h

    declaration_fit : (v : Version) (tokens : List ℕ) → length tokens ≤ most → Fits (declaration v tokens)
    unfolding declaration
    declaration_fit v [] h = faults.size
    declaration_fit v (u ∷ []) h = faults.size
    declaration_fit v (u ∷ (d ∷ rest)) h =
        declared_fit (declared_at v d) (usage_at v (type_of d) u) rest (of_declared _ (faults.token 2 (omega arith)) v d)
        (of_usage _ (faults.token 1 (omega arith)) v (type_of d) u)

    any_fit : (is_dcl : Bool) (v : Version) (places : List Place) (tokens : List ℕ) → length tokens ≤ most →
        Fits (pick is_dcl (declaration v tokens) (operands v places 1 tokens))
    any_fit true v places tokens h = declaration_fit v tokens h
    any_fit false v places tokens h = operands_fit v places 1 tokens (omega arith)

    -- the instruction
    on_operands_lem : (answer : Operands) (size : ℕ) (class : Class) → size ≤ most → Fits answer → Within (suc most) (on_operands answer size class)
    on_operands_lem good_operands size class h j = omega arith
    on_operands_lem (bad_operands r) size class h j = j

    on_broken : {v : Version} {token : ℕ} {reason : Reason} → Broken v token reason → P (refusal reason 0)
    on_broken (stray_comment o l) = faults.bits
    on_broken (stray_end o l) = faults.bits
    on_broken (no_row_lem o e) = faults.opcode
    on_broken (stray_bits o e l) = faults.bits

    on_claimed_lem : (v : Version) (token : ℕ) (h : Head) → Says v token h → (behind : List ℕ) → claim h ≤ most → length behind ≤ most →
        Within (suc most) (on_claimed v h (opcode_of token) behind)
    on_claimed_lem v token h (is_broken b) behind c l = on_broken b
    on_claimed_lem v token h (is_comment_lem o k) behind c l = omega arith
    on_claimed_lem v token h (is_end_lem e) behind c l = omega arith
    on_claimed_lem v token h (is_listed {places} o e k) behind c l =
        let row = with_predicate (is_predicated token) places in
        on_operands_lem (operands_of v (opcode_of token) row behind) (claimed v token places) (class_of (opcode_of token)) c
        (any_fit (eqb (opcode_of token) DCL) v row behind l)

  -- an instruction takes fewer tokens behind its first one than there are, and P holds of its refusal
  pub judged_within : (v : Version) (tokens : List ℕ) → Faults P (length tokens - 1) → Within (length tokens) (judged v tokens)
  unfolding judged
  judged_within v [] faults = faults.run_out
  judged_within v (token ∷ rest) faults = by (leb (claim (token_head v token)) (length rest)) refl
    where
      by : (there : Bool) → leb (claim (token_head v token)) (length rest) ≡ there →
          Within (suc (length rest))
          (pick there (on_claimed v (token_head v token) (opcode_of token) (take (claim (token_head v token)) rest)) (bad_instruction (refusal RUN_OUT 0)))
      by true e =
          let all : suc (length rest) - 1 ≡ length rest = omega arith in
          on_claimed_lem (length rest) (rw all at faults) v token (token_head v token) (says v token) (take (claim (token_head v token)) rest)
          (leb-true (claim (token_head v token)) (length rest) e)
          (omega (arith, length-take (claim (token_head v token)) rest))
      by false e = faults.run_out

-- a refusal's position is that of one of the tokens, or of the first
abbrev pub Near : ℕ → Refusal → Type 0
Near n r = r.position ≤ n - 1

pub judged_near : (v : Version) (tokens : List ℕ) → Within (Near (length tokens)) (length tokens) (judged v tokens)
judged_near v tokens =
    judged_within (Near (length tokens)) v tokens
    (record {
      opcode = omega arith;
      bits = omega arith;
      run_out = omega arith;
      size = omega arith;
      token = λ p h. record { reserved = λ bit b. h; modifier = h; relative = h; register = h };
    })

-- a refusal's detail is a bit
abbrev pub ToldBit : Refusal → Type 0
ToldBit r = r.detail < 32

pub judged_bit : (v : Version) (tokens : List ℕ) → Within ToldBit (length tokens) (judged v tokens)
judged_bit v tokens =
    judged_within ToldBit v tokens
    (record {
      opcode = omega arith;
      bits = omega arith;
      run_out = omega arith;
      size = omega arith;
      token = λ p h. record { reserved = λ bit b. b; modifier = omega arith; relative = omega arith; register = omega arith };
    })

-- a refusal is for one of eight reasons, and its detail is what goes with the reason
pub judged_reason : (Q : Reason → ℕ → Type 0) → Q OPCODE 0 → Q BITS 0 → Q RUN_OUT 0 → Q SIZE 0 → TokenFaults Q →
    (v : Version) (tokens : List ℕ) (r : Refusal) → judged v tokens ≡ bad_instruction r → Q r.reason r.detail
judged_reason Q opcode bits run_out size faults v tokens r e =
    rw e at
    (judged_within (λ x. Q x.reason x.detail) v tokens
    (record {
      opcode = opcode;
      bits = bits;
      run_out = run_out;
      size = size;
      token = λ p h. record { reserved = faults.reserved; modifier = faults.modifier; relative = faults.relative; register = faults.register };
    }))
