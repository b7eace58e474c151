-- Operands alone cut a lawful stream into the chunks of its cutting.
use Rattle.std.specs.Prelude.{Ok}
use Prim.Native.Nat.{ℕ, suc, ◌+◌}
use mathlib.Core.Path.{◌≡◌, refl, ap, sym}
use mathlib.Core.Bool.{Bool, true, false}
use mathlib.Core.List.{List, [], ◌∷◌, ◌++◌}
use lib.Dec.{eqb}
use lib.ListN.{length, drop}
use lib.Seq.{take-length}
use borrow.Author.Tests.{eq-eqb}
use Rattle.paper.specs.Notation.{pick}
use Rattle.paper.specs.InstructionToken.{opcode_of, comment_opcode, is_predicated, with_predicate}
use Rattle.paper.specs.OperandTokens.{token_at, brings_relative, type_of, left_over}
use Rattle.paper.specs.Dcl.{declaration, declared_at, usage_at, on_declared}
use Rattle.paper.specs.Instruction.{claimed, Head, token_head, on_token, relative_token, operand, on_taken, operands, claim, on_claimed}
use Rattle.paper.specs.OpcodeTable.{DCL}
use Rattle.paper.proofs.Bools.{apart}
use Rattle.paper.proofs.FirstToken.{other_not_end, Says, is_broken, is_comment_lem, is_end_lem, is_listed, says}
use Rattle.paper.specs.declared.Version.{Version}
use Rattle.paper.specs.Judgements.{Token, good_token, bad_token, operand_taken, good_operands, good_instruction}
use Rattle.paper.specs.declared.Class.{Class}
use Rattle.paper.specs.Stream.{verdict}
use Rattle.paper.specs.Places.{Place, relative}
use Rattle.cutting.specs.Cuttings.{Alone, Cutting}
use Rattle.cutting.specs.ByOperands.{places_take, by_places, by_operands}
use Rattle.paper.proofs.OwnTokens.{operands_good, good_claim}
use Rattle.cutting.proofs.CutBy.{cut_by_lem}
use Rattle.cutting.proofs.AcceptedIsACutting.{accepted_is_a_cutting}

module _ (v : Version) (ps : List Place) (offset token : ℕ) (other : List ℕ)
    (behind : (o : ℕ) (tokens : List ℕ) → operands v ps o tokens ≡ good_operands → places_take ps (tokens ++ other) ≡ length tokens) where
  on_relative : (next : ℕ) (rest : List ℕ) (answer : Token) →
      on_taken (on_token answer (offset + 1) (operand_taken 2)) (λ n. operands v ps (offset + n) (drop n (token ∷ next ∷ rest))) ≡ good_operands →
      places_take ps (rest ++ other) ≡ length rest
  on_relative next rest good_token e = behind (offset + 2) rest e
  on_relative next rest (bad_token reason bit) e = apart (cc)

  on_operand : (answer : Token) (brings : Bool) (rest : List ℕ) →
      on_taken (on_token answer offset (pick brings (relative_token v (offset + 1) rest) (operand_taken 1))) (λ n. operands v ps (offset + n) (drop n (token ∷ rest)))
      ≡ good_operands →
      pick brings (suc (suc (places_take ps (drop 1 (rest ++ other))))) (suc (places_take ps (rest ++ other))) ≡ suc (length rest)
  on_operand (bad_token reason bit) brings rest e = apart (cc)
  on_operand good_token false rest e = ap suc (behind (offset + 1) rest e)
  on_operand good_token true [] e = apart (cc)
  on_operand good_token true (next ∷ rest) e = ap (λ (n : ℕ). suc (suc n)) (on_relative next rest (token_at v relative next) e)

-- operands that fit their tokens take just these, whatever stands behind them
places_take_lem : (v : Version) (ps : List Place) (offset : ℕ) (tokens other : List ℕ) → operands v ps offset tokens ≡ good_operands →
    places_take ps (tokens ++ other) ≡ length tokens
unfolding operands operand
places_take_lem v [] offset [] other e = refl
places_take_lem v [] offset (token ∷ rest) other e = apart (cc)
places_take_lem v (place ∷ ps) offset [] other e = apart (cc)
places_take_lem v (place ∷ ps) offset (token ∷ rest) other e =
    on_operand v ps offset token other (λ o tokens. places_take_lem v ps o tokens other) (token_at v place token) (brings_relative place token) rest e

-- a lawful DCL has two tokens behind its first
two : (destination used : Token) (rest : List ℕ) → on_declared destination 2 (on_declared used 1 (left_over rest)) ≡ good_operands → length rest ≡ 0
two (bad_token reason bit) used rest e = apart (cc)
two good_token (bad_token reason bit) rest e = apart (cc)
two good_token good_token [] e = refl
two good_token good_token (token ∷ rest) e = apart (cc)

declared_two : (v : Version) (tokens : List ℕ) → declaration v tokens ≡ good_operands → 2 ≡ length tokens
unfolding declaration
declared_two v [] e = apart (cc)
declared_two v (u ∷ []) e = apart (cc)
declared_two v (u ∷ (d ∷ rest)) e = ap (λ (n : ℕ). suc (suc n)) (sym (two (declared_at v d) (usage_at v (type_of d) u) rest e))

-- what the operands of a lawful instruction take is its tokens, whatever stands behind them
module _ (v : Version) (first : ℕ) (rest other : List ℕ) (class : Class) where
  by_kind : (is_dcl : Bool) (places : List Place) → pick is_dcl (declaration v rest) (operands v places 1 rest) ≡ good_operands →
      pick is_dcl 2 (places_take places (rest ++ other)) ≡ length rest
  by_kind true places e = declared_two v rest e
  by_kind false places e = places_take_lem v places 1 rest other e

  by_head_lem : (h : Head) → Says v first h → claim h ≡ length rest → on_claimed v h (opcode_of first) rest ≡ good_instruction (length rest) class →
      by_places v first (rest ++ other) ≡ length rest
  by_head_lem h (is_broken b) k e = apart (cc)
  by_head_lem h (is_comment_lem o l) k e = rw (eq-eqb (opcode_of first) comment_opcode o) k
  by_head_lem h (is_end_lem n) k e = rw n k
  by_head_lem h (is_listed {places} o l b) k e =
      let row = with_predicate (is_predicated first) places in
      rw (o.no_comment, other_not_end o, l)
      (by_kind (eqb (opcode_of first) DCL) row (operands_good (length rest) class v (opcode_of first) row (claimed v first places) rest e).0)

  places_right : Alone v first rest class → by_places v first (rest ++ other) ≡ length rest
  places_right alone =
      let g = good_claim (length rest) class v first rest alone in
      by_head_lem (token_head v first) (says v first) g.claims (rw (take-length rest) at g.good)

-- cutting by operands alone gives the chunks of a cutting
pub operands_cut : (v : Version) (tokens : List ℕ) (chunks : List (List ℕ)) (classes : List Class) → Cutting v tokens chunks classes →
    by_operands v tokens ≡ chunks
operands_cut v tokens chunks classes c = cut_by_lem v (by_places v) (places_right v) tokens chunks classes c

-- an accepted stream is cut by operands alone into the chunks of its cutting
pub accepted_by_operands : (s : List ℕ) (n : ℕ) (accept : verdict s ≡ Ok n) →
    by_operands (accepted_is_a_cutting s n accept).version (drop 1 s) ≡ (accepted_is_a_cutting s n accept).chunks
accepted_by_operands s n accept =
    let c = accepted_is_a_cutting s n accept in
    operands_cut c.version (drop 1 s) c.chunks c.classes c.is_cutting
