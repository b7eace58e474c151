-- Read back: the tokens of a record that was read are judged good, and reading them gives the record again.
use mathlib.Core.Path.{◌≡◌, refl, sym, ◌∙◌}
use mathlib.Core.List.{List, ◌∷◌}
use Prim.Native.Nat.{ℕ, suc, ◌^◌, ◌<◌}
use native.Mathlib.Omega.{arith}
use lib.ListN.{length, take}
use borrow.Author.Tests.{eq-eqb, le-leb}
use Rattle.paper.specs.Notation.{bit}
use Rattle.paper.specs.InstructionToken.{opcode_of, comment_opcode, comment_length}
use Rattle.paper.specs.Instruction.{comment, token_head, judged}
use Rattle.paper.specs.declared.Version.{Version}
use Rattle.paper.specs.declared.Class.{Class}
use Rattle.paper.specs.declared.Class.TheVariants.{One}
use Rattle.paper.specs.declared.Single.TheVariants.{Comment}
use Rattle.paper.specs.Judgements.{good_instruction}
use Rattle.records.specs.Record.{comment_record, record_of}
use Rattle.records.proofs.OwnRecord.{record_own}
use Rattle.paper.proofs.OwnTokens.{good_own}
use Rattle.record_tokens.specs.Tokens.{Words, comment_token, tokens_of, comment_body}
use Rattle.record_tokens.proofs.WrittenBack.{written_back}

module _ (v : Version) (tokens : List ℕ) {size : ℕ} {class : Class} (words : Words tokens) (j : judged v tokens ≡ good_instruction size class) where
  pub judged_back : judged v (tokens_of v (record_of v tokens) (comment_body v tokens)) ≡ good_instruction size class
  judged_back = rw (written_back v tokens words j) (good_own size class v tokens j)

  pub record_back : record_of v (tokens_of v (record_of v tokens) (comment_body v tokens)) ≡ record_of v tokens
  record_back = rw (written_back v tokens words j) (record_own v tokens j)

-- one record, and one body where it is a comment's, has one instruction
pub one_instruction : (v : Version) (a b : List ℕ) {m n : ℕ} {c d : Class} → Words a → Words b → judged v a ≡ good_instruction m c → judged v b ≡ good_instruction n d →
    record_of v a ≡ record_of v b → comment_body v a ≡ comment_body v b → take (suc m) a ≡ take (suc n) b
one_instruction v a b words-a words-b j k same body =
    sym (written_back v a words-a j) ∙ rw (same, body) (written_back v b words-b k)

-- a comment, with any body of its length
module _ (v : Version) (n : ℕ) (fits : n < 2 ^ 15) where
  comment_opcode_lem : opcode_of (comment_token n) ≡ comment_opcode
  comment_opcode_lem = omega arith

  comment_length_lem : comment_length (comment_token n) ≡ n
  comment_length_lem = omega arith

  comment_laid_lem : bit 31 (comment_token n) ≡ 0
  comment_laid_lem = omega arith

  comment_head : token_head v (comment_token n) ≡ comment n
  unfolding token_head
  comment_head = rw (comment_opcode_lem, eq-eqb _ _ comment_laid_lem, comment_length_lem)

  pub comment_written : (body : List ℕ) → tokens_of v (comment_record n) body ≡ comment_token n ∷ body
  unfolding tokens_of
  comment_written body = refl

  pub comment_judged : (body : List ℕ) → length body ≡ n → judged v (comment_token n ∷ body) ≡ good_instruction n (One Comment)
  unfolding judged
  comment_judged body h = rw (comment_head, le-leb n (length body) (omega arith))

  pub comment_read : (body : List ℕ) → record_of v (comment_token n ∷ body) ≡ comment_record n
  unfolding record_of
  comment_read body = rw (comment_head, comment_length_lem)
