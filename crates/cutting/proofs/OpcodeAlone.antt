-- Document 02, Q-4: in a version without sizes "the opcode alone gives the cutting". An instruction that is no comment has as many tokens behind
-- its first as its opcode has operands, whatever its other bits and its operands are.
use Prim.Native.Nat.{ℕ}
use mathlib.Core.Path.{◌≡◌, refl, sym, ap, ◌∙◌}
use mathlib.Core.Bool.{false}
use mathlib.Core.List.{List}
use lib.Dec.{eqb}
use lib.ListN.{length, take}
use borrow.Author.Tests.{eqb-true, eq-eqb}
use Rattle.paper.specs.Versions.{has_sizes}
use Rattle.paper.specs.OpcodeTable.{rows}
use Rattle.paper.specs.FirstVersions.{first_rows}
use Rattle.paper.specs.InstructionToken.{opcode_of, comment_opcode, end_opcode}
use Rattle.paper.specs.Places.{entry_of}
use Rattle.paper.specs.Instruction.{Head, token_head, claim, on_claimed}
use Rattle.paper.specs.declared.Version.{Version}
use Rattle.paper.specs.declared.Class.{Class}
use Rattle.paper.specs.Judgements.{good_instruction}
use Rattle.paper.proofs.Bools.{apart, never}
use Rattle.paper.proofs.VersionTokens.{each}
use Rattle.paper.proofs.FirstToken.{Says, is_broken, is_comment_lem, is_end_lem, is_listed, says}
use Rattle.paper.proofs.OwnTokens.{good_claim}
use Rattle.cutting.specs.Cuttings.{Alone}
use Rattle.cutting.specs.CutBy.{is_comment}
use Rattle.cutting.specs.BySize.{by_opcode}

-- no table has an opcode of END's
end_none : (v : Version) → by_opcode v end_opcode ≡ 0
unfolding entry_of rows first_rows
end_none v = eqb-true _ _ (each (λ v. eqb (by_opcode v end_opcode) 0) refl v)

module _ (v : Version) (sizeless : has_sizes v ≡ false) where
  by_head_lem : (first : ℕ) (behind : List ℕ) (n : ℕ) (class : Class) → is_comment first ≡ false → (h : Head) → Says v first h →
      on_claimed v h (opcode_of first) behind ≡ good_instruction n class → claim h ≡ by_opcode v (opcode_of first)
  by_head_lem first behind n class other h (is_broken b) e = apart (cc)
  by_head_lem first behind n class other h (is_comment_lem o l) e = never (sym (rw (eq-eqb (opcode_of first) comment_opcode o) at other))
  by_head_lem first behind n class other h (is_end_lem t) e = sym (ap (λ token. by_opcode v (opcode_of token)) t ∙ end_none v)
  by_head_lem first behind n class other h (is_listed o l b) e = rw (l, sizeless)

  pub opcode_gives : (first : ℕ) (rest : List ℕ) (class : Class) → is_comment first ≡ false → Alone v first rest class →
      length rest ≡ by_opcode v (opcode_of first)
  opcode_gives first rest class other alone =
      let g = good_claim (length rest) class v first rest alone in
      sym g.claims ∙ by_head_lem first (take (length rest) rest) (length rest) class other (token_head v first) (says v first) g.good

  -- two instructions with one opcode are as long
  pub opcode_alone : (first other : ℕ) (rest more : List ℕ) (c d : Class) → is_comment first ≡ false → opcode_of first ≡ opcode_of other →
      Alone v first rest c → Alone v other more d → length rest ≡ length more
  opcode_alone first other rest more c d no_comment same a b =
      opcode_gives first rest c no_comment a
      ∙ ap (by_opcode v) same
      ∙ sym (opcode_gives other more d (rw same at no_comment) b)
