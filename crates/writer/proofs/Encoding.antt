-- What the code encodes of a record, before the body that it is lent.
use Rattle.std.specs.Prelude.{Option, Some, None}
use mathlib.Core.Path.{◌≡◌, refl, sym, ap, ◌∙◌}
use mathlib.Core.Bool.{Bool, true, false, ◌&&◌}
use mathlib.Core.List.{List, [], ◌∷◌, ◌++◌, append-nil}
use Prim.Native.Nat.{ℕ, suc, ◌+◌, ◌*◌, ◌^◌, ◌≤◌, ◌<◌}
use native.Mathlib.Omega.{arith}
use lib.Dec.{eqb, leb}
use lib.ListN.{length, take}
use borrow.Author.Tests.{eq-eqb, eqb-true, leb-true}
use Rattle.lists.proofs.Stores.{front_stored}
use Rattle.paper.specs.Notation.{pick, bit}
use Rattle.paper.specs.InstructionToken.{opcode_of, controls_of, is_coissued, comment_opcode, end_opcode, end_token}
use Rattle.paper.specs.Instruction.{token_head, judged}
use Rattle.paper.specs.declared.Version.{Version}
use Rattle.paper.specs.Judgements.{Judged, good_instruction, bad_instruction}
use Rattle.paper.proofs.Bools.{apart, never, both_left, both_right}
use Rattle.shapes.specs.Shape.{shape_of}
use Rattle.shapes.proofs.Shapes.{shape_absent, shape_zero}
use Rattle.records.specs.declared.Record.{Record}
use Rattle.records.specs.Record.{operand_count, empty_record, end_record, comment_record, record_of}
use Rattle.record_tokens.specs.Tokens.{comment_token, instruction_token, tokens_behind, tokens_of}
use Rattle.writer.specs.Buffer.{word, words_of, Put}
use Rattle.writer.specs.Row.{row_of, encoded_by, encoded_tokens}
use Rattle.writer.specs.Laid.{says_fields, bare_fits, bare_token, is_whole, PutIf}
use Rattle.writer.specs.Decided.{longest_comment, reads_back, writable, Encodes}
use Rattle.writer.proofs.Paste.{small, words_length, put_length}
use Rattle.writer.proofs.Same.{record_by_lem, record_own}
use Rattle.writer.proofs.Listed.{other_encoded}
use Rattle.writer.proofs.LaidRow.{none_padded}
use Rattle.writer.proofs.Readings.{alone_read}
use Rattle.writer.proofs.LaidRecord.{end_absent, comment_absent, absent_row, laid, laid_back}
use Rattle.writer.proofs.Yielding.{back_tokens}
use Rattle.writer.proofs.Tested.{Bare, Kinds, is_bare, in_table, InTable, tested_laid, tested_kinds, failed}
use Rattle.writer.proofs.Answers.{comment_writable, comment_tokens, other_writable}

module _ (v : Version) (r : Record) (n : ℕ) where
  pub encodes_none : (tokens : List ℕ) → writable v r n ≡ false → Encodes v r n None tokens
  encodes_none tokens h =
      record { inside = λ some. apart (cc); fails = λ none. h; passes = λ some. apart (cc); stands = λ some. apart (cc) }

  some_by : (is_end : Bool) → 1 ≤ length (pick is_end (end_token ∷ []) (encoded_by v r (row_of v r)))
  some_by true = omega arith
  some_by false = omega arith

  encoded_some : 1 ≤ length (encoded_tokens v r)
  unfolding encoded_tokens
  encoded_some = some_by (eqb r.opcode end_opcode)

  module _ (room after : List ℕ) (count : ℕ) (put : Put (encoded_tokens v r) room 0 count after) (fits : count ≤ length room) where
    pub front : take count after ≡ words_of (encoded_tokens v r)
    front = front_stored room (words_of (encoded_tokens v r)) after count fits (omega (arith, put.next_is, words_length (encoded_tokens v r))) put.after_is

    pub put_inside : count ≤ length after
    put_inside = omega (arith, put_length put)

    module _ (no_comment : eqb r.opcode comment_opcode ≡ false) (y : reads_back v r ≡ true) where
      stand_by : (body : List ℕ) → length body ≡ 0 → tokens_of v r body ≡ take count after ++ body
      stand_by [] long = rw (front, back_tokens v r no_comment y) (sym (append-nil (tokens_of v r [])))
      stand_by (token ∷ body) long = absurd (omega arith)

      pub encodes_other : n ≡ 0 → Encodes v r n (Some count) after
      encodes_other none =
          record {
            inside = λ {count = k} some. let is : count ≡ k = cc in rw (← is) put_inside;
            fails = λ zeros. apart (cc);
            passes = λ some. other_writable v r no_comment n none ∙ y;
            stands = λ {count = k} some body long. let is : count ≡ k = cc in rw (← is) (stand_by body (long ∙ none));
          }

-- END alone is read back
end_back : (v : Version) → reads_back v end_record ≡ true
unfolding reads_back encoded_tokens words_of judged token_head record_of
end_back v = rw (alone_read v end_record end_token [] (omega arith) refl refl) (record_own end_record)

end_tokens : (v : Version) (r : Record) → eqb r.opcode comment_opcode ≡ false → r.opcode ≡ end_opcode → (body : List ℕ) → length body ≡ 0 → tokens_of v r body ≡ end_token ∷ body
unfolding tokens_of
end_tokens v r other is [] h = rw (other, eq-eqb r.opcode end_opcode is)
end_tokens v r other is (token ∷ body) h = absurd (omega arith)

module _ (v : Version) (r : Record) (n : ℕ) where
  -- no record can be written whose operands do not fit
  pub misfit_fails : laid v r ≡ false → writable v r n ≡ false
  misfit_fails h = failed v r n (λ w. let t = tested_laid v r n w in bad t h)
    where
      bad : laid v r ≡ true → laid v r ≡ false → ⊥
      bad t h = apart (cc)

  abbrev no_fields : Bool
  no_fields = eqb r.controls 0 && (eqb r.predicated 0 && eqb r.coissue 0)

  -- a comment or END
  module _ (unlisted : shape_of v r.opcode ≡ 0) where
    bare_kind : Kinds v r n → Bare v r n
    bare_kind (is_bare z b) = b
    bare_kind (in_table some t) = absurd (some unlisted)

    pub bare_fails : no_fields ≡ false → writable v r n ≡ false
    bare_fails h =
        failed v r n (λ w. let b = bare_kind (tested_kinds v r n w) in
        bad (rw (eq-eqb r.controls 0 b.controls, eq-eqb r.predicated 0 b.predicated, eq-eqb r.coissue 0 b.coissue) refl))
      where
        bad : no_fields ≡ true → ⊥
        bad t = apart (cc)

    module _ (six : length r.operands ≡ operand_count) (fits : laid v r ≡ true) (none : no_fields ≡ true) where
      unmarked : r.predicated ≡ 0
      unmarked = eqb-true r.predicated 0 (both_left (eqb r.predicated 0) _ (both_right (eqb r.controls 0) _ none))

      row_none : row_of v r ≡ []
      row_none = rw unmarked (absent_row v r.opcode (shape_zero v r.opcode unlisted))

      is_empty : empty_record r.opcode r.extent ≡ r
      is_empty =
          record_by_lem (empty_record r.opcode r.extent) r refl (sym (eqb-true r.controls 0 (both_left (eqb r.controls 0) _ none))) (sym unmarked)
          (sym (eqb-true r.coissue 0 (both_right (eqb r.predicated 0) _ (both_right (eqb r.controls 0) _ none)))) refl
          (none_padded r.operands six (rw (row_none, unmarked) at fits))

      -- what is tested, and the tokens
      record Passes : Type 0 where
        can : writable v r n ≡ true
        are : (body : List ℕ) → length body ≡ n → tokens_of v r body ≡ word (bare_token r.opcode r.extent) ∷ body

      as_comment : r.opcode ≡ comment_opcode → n ≡ r.extent → leb n longest_comment ≡ true → Passes
      as_comment is agrees short =
          let same : comment_record r.extent ≡ r = ap (λ (k : ℕ). empty_record k r.extent) (sym is) ∙ is_empty in
          let fit : comment_token r.extent < 2 ^ 32 = omega (arith, leb-true n longest_comment short) in
          record {
            can = comment_writable v r is n agrees ∙ rw (← agrees, short) (rw agrees (rw same (record_own r)));
            are = λ body long. comment_tokens v r is body ∙ rw (eq-eqb r.opcode comment_opcode is, small (comment_token r.extent) fit);
          }

      as_end : eqb r.opcode comment_opcode ≡ false → n ≡ r.extent → r.opcode ≡ end_opcode → n ≡ 0 → Passes
      as_end other agrees is lent =
          let same : end_record ≡ r = ap (λ (k : ℕ). empty_record k 0) (sym is) ∙ ap (empty_record r.opcode) (sym lent ∙ agrees) ∙ is_empty in
          record {
            can = other_writable v r other n lent ∙ rw (← same) (end_back v);
            are = λ body long. end_tokens v r other is body (long ∙ lent) ∙ rw other;
          }

      bare_passes : bare_fits r.opcode r.extent n ≡ true → Passes
      unfolding bare_fits
      bare_passes f = by (eqb r.opcode comment_opcode) refl (both_right (eqb n r.extent) _ f)
        where
          agrees : n ≡ r.extent
          agrees = eqb-true n r.extent (both_left (eqb n r.extent) (pick (eqb r.opcode comment_opcode) (leb n longest_comment) (eqb r.opcode end_opcode && eqb n 0)) f)

          by : (is_comment : Bool) → eqb r.opcode comment_opcode ≡ is_comment → pick is_comment (leb n longest_comment) (eqb r.opcode end_opcode && eqb n 0) ≡ true → Passes
          by true c g = as_comment (eqb-true r.opcode comment_opcode c) agrees g
          by false c g =
              as_end c agrees (eqb-true r.opcode end_opcode (both_left (eqb r.opcode end_opcode) (eqb n 0) g)) (eqb-true n 0 (both_right (eqb r.opcode end_opcode) (eqb n 0) g))

      module _ (room after : List ℕ) (next : Option ℕ) (some : 1 ≤ length room) (e : PutIf (bare_fits r.opcode r.extent n) (bare_token r.opcode r.extent ∷ []) room next after) where
        bare_front : {count : ℕ} → next ≡ Some count → take count after ≡ word (bare_token r.opcode r.extent) ∷ []
        unfolding words_of
        bare_front {count} h =
            let p = e.put h in
            front_stored room (words_of (bare_token r.opcode r.extent ∷ [])) after count (omega (arith, p.next_is)) p.next_is p.after_is

        pub bare_encodes : Encodes v r n next after
        bare_encodes =
            record {
              inside = λ h. let p = e.put h in omega (arith, p.next_is, e.long);
              fails = λ z. failed v r n (λ w. let t = (bare_kind (tested_kinds v r n w)).fits in let f = e.fails z in bare_apart t f);
              passes = λ h. (bare_passes (e.passes h)).can;
              stands = λ h body long. rw (bare_front h) ((bare_passes (e.passes h)).are body long);
            }
          where
            bare_apart : bare_fits r.opcode r.extent n ≡ true → bare_fits r.opcode r.extent n ≡ false → ⊥
            bare_apart t f = apart (cc)

  -- an instruction of the table
  abbrev behind : List ℕ
  behind = tokens_behind r (row_of v r)

  abbrev first : ℕ
  first = word (instruction_token v r (length behind))

  module _ (some : shape_of v r.opcode ≡ 0 → ⊥) where
    listed_kind : Kinds v r n → InTable v r n
    listed_kind (is_bare z b) = absurd (some z)
    listed_kind (in_table h t) = t

    pub no_end : r.opcode ≡ end_opcode → ⊥
    no_end e = some (rw e (shape_absent v end_opcode (end_absent v)))

    pub no_comment : r.opcode ≡ comment_opcode → ⊥
    no_comment e = some (rw e (shape_absent v comment_opcode (comment_absent v)))

    abbrev says : Bool
    says = says_fields first r.opcode r.controls r.predicated r.coissue

    abbrev alone : Bool
    alone = eqb r.extent 0 && eqb n 0

    abbrev judged_whole : Bool
    judged_whole = is_whole (judged v (words_of (encoded_tokens v r))) (length (words_of (encoded_tokens v r)))

    listed_says : InTable v r n → says ≡ true
    listed_says t =
        let h = t.heads in
        rw (eq-eqb _ _ h.opcode, eq-eqb _ _ h.controls, eq-eqb _ _ h.predicated, eq-eqb _ _ h.coissue) refl

    listed_alone : InTable v r n → alone ≡ true
    listed_alone t = rw (eq-eqb _ _ (sym t.heads.extent), eq-eqb _ _ t.lent) refl

    listed_tokens_lem : words_of (encoded_tokens v r) ≡ first ∷ words_of behind
    unfolding words_of
    listed_tokens_lem = rw (other_encoded v r no_end)

    listed_whole : InTable v r n → judged_whole ≡ true
    listed_whole t = rw (listed_tokens_lem, t.good) (eq-eqb (length (words_of behind) + 1) (suc (length (words_of behind))) (omega arith))

    listed_fails : (test : Bool) → (InTable v r n → test ≡ true) → test ≡ false → writable v r n ≡ false
    listed_fails test passes f = failed v r n (λ w. let t = passes (listed_kind (tested_kinds v r n w)) in never_both test t f)
      where
        never_both : (b : Bool) → b ≡ true → b ≡ false → ⊥
        never_both b t f = apart (cc)

    pub says_fails : says ≡ false → writable v r n ≡ false
    says_fails f = listed_fails says listed_says f

    pub alone_fails : alone ≡ false → writable v r n ≡ false
    alone_fails f = listed_fails alone listed_alone f

    pub whole_fails : judged_whole ≡ false → writable v r n ≡ false
    whole_fails f = listed_fails judged_whole listed_whole f

    whole_by : (j : Judged) → judged v (first ∷ words_of behind) ≡ j → is_whole j (suc (length (words_of behind))) ≡ true → length r.operands ≡ operand_count → laid v r ≡ true →
        says ≡ true → r.extent ≡ 0 → length behind ≤ 2 * operand_count → reads_back v r ≡ true
    whole_by (good_instruction size class) j whole six fits f none short =
        let size_is : size ≡ length (words_of behind) = omega (arith, eqb-true (size + 1) (suc (length (words_of behind))) whole) in
        let g = both_right (eqb (opcode_of first) r.opcode) _ f in
        let h = both_right (eqb (controls_of first) r.controls) _ g in
        laid_back v r six fits no_end no_comment
        (record {
          opcode = eqb-true (opcode_of first) r.opcode (both_left (eqb (opcode_of first) r.opcode) _ f);
          controls = eqb-true (controls_of first) r.controls (both_left (eqb (controls_of first) r.controls) _ g);
          predicated = eqb-true (bit 28 first) r.predicated (both_left (eqb (bit 28 first) r.predicated) _ h);
          coissue = eqb-true (is_coissued first) r.coissue (both_right (eqb (bit 28 first) r.predicated) _ h);
          extent = sym none;
        })
        short class (j ∙ ap (λ (k : ℕ). good_instruction k class) size_is)
    whole_by (bad_instruction x) j whole six fits f none short = never whole

    pub whole_passes : judged_whole ≡ true → length r.operands ≡ operand_count → laid v r ≡ true → says ≡ true → alone ≡ true → length behind ≤ 2 * operand_count → reads_back v r ≡ true
    whole_passes whole six fits f none short =
        whole_by (judged v (first ∷ words_of behind)) refl (rw listed_tokens_lem at whole) six fits f (eqb-true r.extent 0 (both_left (eqb r.extent 0) (eqb n 0) none)) short
