-- Stated sizes alone cut a lawful stream into the chunks of its cutting.
use Rattle.std.specs.Prelude.{Ok}
use Prim.Native.Nat.{ℕ}
use mathlib.Core.Path.{◌≡◌, ◌∙◌}
use mathlib.Core.List.{List, ◌++◌}
use lib.ListN.{length, take, drop}
use borrow.Author.Tests.{eq-eqb}
use Rattle.paper.specs.InstructionToken.{opcode_of, comment_opcode}
use Rattle.paper.specs.Instruction.{Head, token_head, claim, on_claimed}
use Rattle.paper.specs.declared.Version.{Version}
use Rattle.paper.specs.declared.Class.{Class}
use Rattle.paper.specs.Judgements.{good_instruction}
use Rattle.paper.specs.Stream.{verdict}
use Rattle.paper.proofs.Bools.{apart}
use Rattle.paper.proofs.FirstToken.{other_not_end, Says, is_broken, is_comment_lem, is_end_lem, is_listed, says}
use Rattle.cutting.specs.Cuttings.{Alone, Cutting}
use Rattle.cutting.specs.BySize.{by_stated_size, by_sizes}
use Rattle.paper.proofs.OwnTokens.{good_claim}
use Rattle.cutting.proofs.CutBy.{cut_by_lem}
use Rattle.cutting.proofs.AcceptedIsACutting.{accepted_is_a_cutting}

-- the stated size of a lawful instruction is that of its tokens, whatever stands behind them
module _ (v : Version) (first : ℕ) (rest other : List ℕ) (class : Class) where
  by_head_lem : (h : Head) → Says v first h → (behind : List ℕ) → on_claimed v h (opcode_of first) behind ≡ good_instruction (length rest) class →
      by_stated_size v first (rest ++ other) ≡ claim h
  by_head_lem h (is_broken b) behind e = apart (cc)
  by_head_lem h (is_comment_lem o l) behind e = rw (eq-eqb (opcode_of first) comment_opcode o)
  by_head_lem h (is_end_lem n) behind e = rw n
  by_head_lem h (is_listed o l b) behind e = rw (o.no_comment, other_not_end o, l)

  size_right : Alone v first rest class → by_stated_size v first (rest ++ other) ≡ length rest
  size_right alone =
      let g = good_claim (length rest) class v first rest alone in
      by_head_lem (token_head v first) (says v first) (take (length rest) rest) g.good ∙ g.claims

-- cutting by stated sizes alone gives the chunks of a cutting
pub sizes_cut : (v : Version) (tokens : List ℕ) (chunks : List (List ℕ)) (classes : List Class) → Cutting v tokens chunks classes →
    by_sizes v tokens ≡ chunks
sizes_cut v tokens chunks classes c = cut_by_lem v (by_stated_size v) (size_right v) tokens chunks classes c

-- an accepted stream is cut by stated sizes alone into the chunks of its cutting
pub accepted_by_sizes : (s : List ℕ) (n : ℕ) (accept : verdict s ≡ Ok n) →
    by_sizes (accepted_is_a_cutting s n accept).version (drop 1 s) ≡ (accepted_is_a_cutting s n accept).chunks
accepted_by_sizes s n accept =
    let c = accepted_is_a_cutting s n accept in
    sizes_cut c.version (drop 1 s) c.chunks c.classes c.is_cutting
