-- What the code tests holds of every record that can be written.
use mathlib.Core.Path.{◌≡◌, refl, sym, ◌∙◌}
use mathlib.Core.Bool.{Bool, true, false}
use mathlib.Core.List.{List, ◌∷◌}
use Prim.Native.Nat.{ℕ, ◌≤◌}
use native.Mathlib.Omega.{arith}
use lib.Dec.{eqb}
use lib.ListN.{length, replicate, length-replicate}
use borrow.Author.Tests.{eq-eqb, eqb-false, le-leb}
use Rattle.paper.specs.InstructionToken.{comment_opcode, end_opcode}
use Rattle.paper.specs.Instruction.{judged}
use Rattle.paper.specs.declared.Version.{Version}
use Rattle.paper.specs.declared.Class.{Class}
use Rattle.paper.specs.Judgements.{good_instruction}
use Rattle.paper.proofs.Bools.{apart}
use Rattle.shapes.specs.Shape.{shape_of}
use Rattle.shapes.proofs.Shapes.{shape_absent, shape_zero}
use Rattle.records.specs.declared.Record.{Record}
use Rattle.record_tokens.specs.Tokens.{instruction_token, tokens_behind}
use Rattle.writer.specs.Buffer.{word, words_of}
use Rattle.writer.specs.Writing.{body_length}
use Rattle.writer.specs.Row.{row_of, encoded_by, encoded_tokens}
use Rattle.writer.specs.Laid.{bare_fits}
use Rattle.writer.specs.Decided.{longest_comment, writable}
use Rattle.writer.proofs.Listed.{other_encoded}
use Rattle.writer.proofs.Readings.{Own, Lawfully, an_end, a_comment, an_entry, lawfully}
use Rattle.writer.proofs.LaidRecord.{end_absent, comment_absent, laid, own_laid, Heads}
use Rattle.writer.proofs.Yielding.{own_encoded, yielded_own, passed_writable}

-- a comment or END, and an instruction of the table
module _ (v : Version) (r : Record) (n : ℕ) where
  pub record Bare : Type 0 where
    pub controls : r.controls ≡ 0
    pub predicated : r.predicated ≡ 0
    pub coissue : r.coissue ≡ 0
    pub fits : bare_fits r.opcode r.extent n ≡ true

  pub record InTable : Type 0 where
    pub class : Class
    pub heads : Heads r (word (instruction_token v r (length (tokens_behind r (row_of v r)))))
    pub lent : n ≡ 0
    pub good : judged v (word (instruction_token v r (length (tokens_behind r (row_of v r)))) ∷ words_of (tokens_behind r (row_of v r))) ≡ good_instruction (length (words_of (tokens_behind r (row_of v r)))) class

  pub data Kinds : Type 0 where
    is_bare : shape_of v r.opcode ≡ 0 → Bare → Kinds
    in_table : (shape_of v r.opcode ≡ 0 → ⊥) → InTable → Kinds

  own : writable v r n ≡ true → Own v r × (n ≡ body_length r)
  own w =
      let long : length (replicate {A = ℕ} n 0) ≡ n = length-replicate {A = ℕ} n 0 in
      let can = passed_writable v r (replicate n 0) (rw long w) in
      (yielded_own v r can.yielded, sym long ∙ can.agrees)

  pub tested_laid : writable v r n ≡ true → laid v r ≡ true
  tested_laid w = own_laid v r (own w).0

module _ (v : Version) (first : ℕ) (rest : List ℕ) (class : Class) (short : length rest ≤ longest_comment) (good : judged v (first ∷ rest) ≡ good_instruction (length rest) class) where
  table : (r : Record) (n : ℕ) → n ≡ 0 → words_of (encoded_by v r (row_of v r)) ≡ first ∷ rest → Heads r first → InTable v r n
  unfolding words_of
  table r n none same heads =
      let front : word (instruction_token v r (length (tokens_behind r (row_of v r)))) ≡ first = cc in
      let behind : words_of (tokens_behind r (row_of v r)) ≡ rest = cc in
      record { class = class; heads = rw front heads; lent = none; good = rw (front, behind) good }

  kinds_by : {r : Record} {body : List ℕ} → Lawfully v first rest r body → (n : ℕ) → n ≡ body_length r → (eqb r.opcode comment_opcode ≡ false → words_of (encoded_tokens v r) ≡ first ∷ rest) → Kinds v r n
  unfolding bare_fits
  kinds_by an_end n agrees is =
      is_bare (shape_absent v end_opcode (end_absent v)) (record { controls = refl; predicated = refl; coissue = refl; fits = rw (eq-eqb n 0 agrees) })
  kinds_by (a_comment {n = k} h) n agrees is =
      is_bare (shape_absent v comment_opcode (comment_absent v))
      (record { controls = refl; predicated = refl; coissue = refl; fits = rw (eq-eqb n k agrees) (le-leb n longest_comment (omega arith)) })
  kinds_by {r} (an_entry operands l) n agrees is =
      let no = l.other.no_comment in
      let same = rw (other_encoded v r (eqb-false r.opcode end_opcode l.other.no_end)) at (is no) in
      in_table (λ none. let gone = shape_zero v r.opcode none in let entry = l.entry in apart (cc))
      (table r n (agrees ∙ rw no) same (record { opcode = refl; controls = refl; predicated = refl; coissue = refl; extent = refl }))

pub tested_kinds : (v : Version) (r : Record) (n : ℕ) → writable v r n ≡ true → Kinds v r n
tested_kinds v r n w =
    let it = own v r n w in
    let o = it.0 in
    kinds_by v o.first o.rest o.class (omega (arith, o.few)) o.good
    (rw o.record_is at (lawfully v o.first o.rest (length o.rest) o.class o.good)) n it.1 (own_encoded v r o)

-- so that a test that fails says that the record cannot be written
pub failed : (v : Version) (r : Record) (n : ℕ) → (writable v r n ≡ true → ⊥) → writable v r n ≡ false
failed v r n never = by (writable v r n) refl
  where
    by : (b : Bool) → writable v r n ≡ b → writable v r n ≡ false
    by true h = absurd (never h)
    by false h = h
