-- The tokens of operands that are judged good: what each is, and that they are there.
use mathlib.Core.Path.{◌≡◌, refl, sym, ap, ◌∙◌}
use mathlib.Core.Bool.{Bool, true, false}
use mathlib.Core.List.{List, [], ◌∷◌}
use Prim.Native.Nat.{ℕ, ◌+◌, ◌≤◌}
use native.Mathlib.Omega.{arith}
use lib.ListN.{length, drop, get_or, length-drop}
use Rattle.paper.specs.Notation.{pick}
use Rattle.paper.specs.OperandTokens.{type_of, laid, typed, token_at, brings_relative, left_over}
use Rattle.paper.specs.Instruction.{on_token, relative_token, operand, on_taken, operands}
use Rattle.paper.specs.declared.Version.{Version}
use Rattle.paper.specs.Judgements.{Token, good_token, bad_token, Taken, operand_taken, operand_refused, good_operands}
use Rattle.paper.specs.Places.{Place, relative}
use Rattle.records.specs.Record.{width_at}
use Rattle.paper.proofs.Bools.{apart, both_left}
use Rattle.paper.proofs.Faults.{is_good, token_good}
use Rattle.records.specs.ByClass.{width_of}

-- an operand that takes n of the tokens that are left: they are laid out as they should be
pub record Passed (v : Version) (place : Place) (tokens : List ℕ) (n : ℕ) : Type 0 where
  pub width : n ≡ width_at place tokens
  pub there : n ≤ length tokens
  pub first_laid : laid v place (get_or tokens 0 0) ≡ true
  pub second_laid : brings_relative place (get_or tokens 0 0) ≡ true → laid v relative (get_or tokens 1 0) ≡ true

good_laid : (v : Version) (place : Place) (token : ℕ) → token_at v place token ≡ good_token → laid v place token ≡ true
good_laid v place token g =
    both_left (laid v place token) (typed v place (type_of token)) (sym (token_good v place token) ∙ ap is_good g)

module _ (v : Version) (place : Place) (offset n token : ℕ) (good : token_at v place token ≡ good_token) where
  passed_relative : (follower : ℕ) (rest : List ℕ) (second : Token) → brings_relative place token ≡ true → token_at v relative follower ≡ second →
      on_token second (offset + 1) (operand_taken 2) ≡ operand_taken n → Passed v place (token ∷ (follower ∷ rest)) n
  unfolding width_at
  passed_relative follower rest good_token b s e =
      let two : n ≡ 2 = cc in
      record { width = rw b two; there = omega arith; first_laid = good_laid v place token good; second_laid = λ _. good_laid v relative follower s }
  passed_relative follower rest (bad_token reason bit) b s e = apart (cc)

  passed_good : (brings : Bool) (rest : List ℕ) → brings_relative place token ≡ brings →
      pick brings (relative_token v (offset + 1) rest) (operand_taken 1) ≡ operand_taken n → Passed v place (token ∷ rest) n
  unfolding width_at
  passed_good true [] b e = apart (cc)
  passed_good true (follower ∷ rest) b e = passed_relative follower rest (token_at v relative follower) b refl e
  passed_good false rest b e =
      let one : n ≡ 1 = cc in
      record {
        width = rw b one;
        there = omega arith;
        first_laid = good_laid v place token good;
        second_laid = λ t. apart (cc);
      }

passed_token : (v : Version) (place : Place) (offset n token : ℕ) (rest : List ℕ) (first : Token) → token_at v place token ≡ first →
    on_token first offset (pick (brings_relative place token) (relative_token v (offset + 1) rest) (operand_taken 1)) ≡ operand_taken n → Passed v place (token ∷ rest) n
passed_token v place offset n token rest good_token t e = passed_good v place offset n token t (brings_relative place token) rest refl e
passed_token v place offset n token rest (bad_token reason bit) t e = apart (cc)

pub passed : (v : Version) (place : Place) (offset n : ℕ) (tokens : List ℕ) → operand v place offset tokens ≡ operand_taken n → Passed v place tokens n
unfolding operand
passed v place offset n [] e = apart (cc)
passed v place offset n (token ∷ rest) e = passed_token v place offset n token rest (token_at v place token) refl e

-- the operands of a row take the tokens, no fewer and no more
pub data AllPassed (v : Version) : List Place → List ℕ → Type 0 where
  none : AllPassed v [] []
  more : {place : Place} {places : List Place} {tokens : List ℕ} → Passed v place tokens (width_at place tokens) → AllPassed v places (drop (width_at place tokens) tokens) →
      AllPassed v (place ∷ places) tokens

-- the first operand takes n tokens
pub step : {v : Version} {place : Place} {n : ℕ} {places : List Place} {tokens : List ℕ} → Passed v place tokens n → AllPassed v places (drop n tokens) → AllPassed v (place ∷ places) tokens
step p rest = more (rw p.width at p) (rw p.width at rest)

module _ (v : Version) where
  left_none : (tokens : List ℕ) → left_over tokens ≡ good_operands → AllPassed v [] tokens
  left_none [] e = none
  left_none (token ∷ rest) e = apart (cc)

  all_first : (place : Place) (places : List Place) (offset : ℕ) (tokens : List ℕ) (taken : Taken) →
      ((n : ℕ) → operands v places (offset + n) (drop n tokens) ≡ good_operands → AllPassed v places (drop n tokens)) →
      operand v place offset tokens ≡ taken → on_taken taken (λ n. operands v places (offset + n) (drop n tokens)) ≡ good_operands →
      AllPassed v (place ∷ places) tokens
  all_first place places offset tokens (operand_taken n) later t e =
      step (passed v place offset n tokens t) (later n e)
  all_first place places offset tokens (operand_refused r) later t e = apart (cc)

  pub all_passed : (places : List Place) (offset : ℕ) (tokens : List ℕ) → operands v places offset tokens ≡ good_operands → AllPassed v places tokens
  unfolding operands
  all_passed [] offset tokens e = left_none tokens e
  all_passed (place ∷ places) offset tokens e =
      all_first place places offset tokens (operand v place offset tokens) (λ n f. all_passed places (offset + n) (drop n tokens) f) refl e

pub passed_width : {v : Version} {places : List Place} {tokens : List ℕ} → AllPassed v places tokens → width_of places tokens ≡ length tokens
unfolding width_of
passed_width none = refl
passed_width (more {place} {places} {tokens} p rest) =
    let there = p.there in
    rw (passed_width rest, length-drop (width_at place tokens) tokens) (omega arith)
