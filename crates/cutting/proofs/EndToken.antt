-- END is known by its token.
use Prim.Native.Nat.{ℕ}
use mathlib.Core.Path.{◌≡◌, ap, sym, ◌∙◌}
use mathlib.Core.List.{List}
use lib.ListN.{length, take}
use borrow.Author.Tests.{eq-eqb}
use Rattle.paper.specs.InstructionToken.{opcode_of, end_token, is_predicated, with_predicate}
use Rattle.paper.specs.Instruction.{claimed, Head, token_head, on_claimed}
use Rattle.paper.specs.declared.Version.{Version}
use Rattle.paper.specs.declared.Single.TheVariants.{Comment}
use Rattle.paper.specs.declared.Closer.TheVariants.{End}
use Rattle.paper.specs.declared.Class.{Class}
use Rattle.paper.specs.declared.Class.TheVariants.{One, Closes}
use Rattle.paper.specs.Judgements.{good_instruction}
use Rattle.paper.proofs.Bools.{apart}
use Rattle.paper.proofs.FirstToken.{other_not_end, comment_not_end, Says, is_broken, is_comment_lem, is_end_lem, is_listed, says}
use Rattle.blocks.specs.Begins.{ends_stream}
use Rattle.blocks.proofs.Classes.{class_no_end}
use Rattle.cutting.specs.Cuttings.{Alone}
use Rattle.cutting.specs.CutBy.{is_end_token}
use Rattle.paper.proofs.OwnTokens.{operands_good, good_claim}

module _ (v : Version) (first : ℕ) (rest : List ℕ) (class : Class) where
  by_head_lem : (h : Head) → Says v first h → (behind : List ℕ) → on_claimed v h (opcode_of first) behind ≡ good_instruction (length rest) class →
      is_end_token first ≡ ends_stream class
  by_head_lem h (is_broken b) behind e = apart (cc)
  by_head_lem h (is_comment_lem o l) behind e = let is : One Comment ≡ class = cc in comment_not_end first o ∙ ap ends_stream is
  by_head_lem h (is_end_lem n) behind e = let is : Closes End ≡ class = cc in eq-eqb first end_token n ∙ ap ends_stream is
  by_head_lem h (is_listed {places} o l b) behind e =
      other_not_end o
      ∙ sym (class_no_end (opcode_of first))
      ∙ ap ends_stream (operands_good (length rest) class v (opcode_of first) (with_predicate (is_predicated first) places) (claimed v first places) behind e).2

  -- a lawful chunk is END's exactly if its first token is END
  pub ends_by_token : Alone v first rest class → is_end_token first ≡ ends_stream class
  ends_by_token alone =
      by_head_lem (token_head v first) (says v first) (take (length rest) rest) (good_claim (length rest) class v first rest alone).good
