-- The records of a cutting that are neither a comment's nor END's are as many as its instructions.
use mathlib.Core.Path.{◌≡◌, sym, ap, ◌∙◌}
use mathlib.Core.List.{List, ◌∷◌}
use Prim.Native.Nat.{ℕ, suc}
use lib.ListN.{length, take}
use Rattle.paper.specs.Notation.{pick}
use Rattle.paper.specs.InstructionToken.{opcode_of, is_predicated, with_predicate}
use Rattle.paper.specs.Instruction.{claimed, Head, token_head, on_claimed, judged}
use Rattle.paper.specs.Blocks.{class_of}
use Rattle.paper.specs.declared.Version.{Version}
use Rattle.paper.specs.declared.Class.{Class}
use Rattle.paper.specs.declared.Closer.TheVariants.{End}
use Rattle.paper.specs.declared.Class.TheVariants.{One, Closes}
use Rattle.paper.specs.declared.Single.TheVariants.{Comment}
use Rattle.paper.specs.Judgements.{good_instruction}
use Rattle.paper.specs.Walk.{counts}
use Rattle.blocks.proofs.Classes.{class_counted}
use Rattle.cutting.specs.Cuttings.{Chunks, last, next, instructions}
use Rattle.paper.proofs.FirstToken.{Says, is_broken, is_comment_lem, is_end_lem, is_listed, says}
use Rattle.paper.proofs.OwnTokens.{operands_good, good_claim}
use Rattle.paper.proofs.Bools.{apart}
use Rattle.records.specs.Record.{record_on, record_of}
use Rattle.listing.specs.Listing.{records_of, is_passed, counted}

-- an instruction of the table is counted, whatever it is to the blocks
listed_counts : (n opcode : ℕ) (class : Class) → class_of opcode ≡ class → suc n ≡ counts class n
listed_counts n opcode class e = sym (class_counted opcode n) ∙ ap (λ (x : Class). counts x n) e

-- a chunk's record counts as its class does
module _ (v : Version) (first : ℕ) (rest : List ℕ) (n size : ℕ) (class : Class) where
  counts_on : (h : Head) → Says v first h → (behind : List ℕ) → on_claimed v h (opcode_of first) behind ≡ good_instruction size class →
      pick (is_passed (record_on h first rest)) n (suc n) ≡ counts class n
  counts_on h (is_broken b) behind j = apart (cc)
  counts_on h (is_comment_lem o l) behind j = let c : One Comment ≡ class = cc in ap (λ (x : Class). counts x n) c
  counts_on h (is_end_lem e) behind j = let c : Closes End ≡ class = cc in ap (λ (x : Class). counts x n) c
  counts_on h (is_listed {places} o l b) behind j =
      rw (o.no_comment, o.no_end)
      (listed_counts n (opcode_of first) class
      (operands_good size class v (opcode_of first) (with_predicate (is_predicated first) places) (claimed v first places) behind j).2)

  chunk_counts : judged v (first ∷ rest) ≡ good_instruction size class → pick (is_passed (record_of v (first ∷ rest))) n (suc n) ≡ counts class n
  unfolding record_of
  chunk_counts j = counts_on (token_head v first) (says v first) (take size rest) (good_claim size class v first rest j).good

pub records_counted : {v : Version} {chunks : List (List ℕ)} {classes : List Class} → Chunks v chunks classes →
    counted (records_of v chunks) ≡ instructions classes
records_counted {v} (last {first} {rest} alone) = chunk_counts v first rest 0 (length rest) (Closes End) alone
records_counted {v} (next {first} {rest} {class} {chunks} alone n later) =
    chunk_counts v first rest (counted (records_of v chunks)) (length rest) class alone ∙ ap (counts class) (records_counted later)
