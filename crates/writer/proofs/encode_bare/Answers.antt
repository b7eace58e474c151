use mathlib.Core.Path.{refl, sym}
use native.Mathlib.Omega.{arith}
use borrow.Author.Tests.{eq-eqb, ne_eqb, le-leb, lt-leb}
use Rattle.paper.specs.InstructionToken.{comment_opcode, end_token}
use Rattle.record_tokens.specs.Tokens.{comment_token}
use Rattle.writer.specs.Laid.{bare_fits}
use Rattle.writer.proofs.Paste.{small, put_one, put_failed, put_passed}
use Rattle.writer.proofs.encode_bare.Goals as goal

pub returns-then-lent-size : goal.returns-then-lent-size
unfolding bare_fits
returns-then-lent-size c = put_failed (rw (ne_eqb _ _ c.if-lent-size.true)) refl

pub returns-then-lent-gt-LONGEST_COMMENT : goal.returns-then-lent-gt-LONGEST_COMMENT
unfolding bare_fits
returns-then-lent-gt-LONGEST_COMMENT c =
    put_failed (rw (eq-eqb _ _ c.if-lent-size.false, eq-eqb _ _ c.if-opcode-eq-COMMENT.true, lt-leb _ _ c.if-lent-gt-LONGEST_COMMENT.true)) refl

pub returns-then-opcode-eq-COMMENT : goal.returns-then-opcode-eq-COMMENT
unfolding bare_fits
returns-then-opcode-eq-COMMENT c =
    let g = c.args in
    let is = eq-eqb g.opcode comment_opcode c.if-opcode-eq-COMMENT.true in
    put_passed (rw (eq-eqb _ _ c.if-lent-size.false, is, le-leb _ _ c.if-lent-gt-LONGEST_COMMENT.false))
    (put_one g.room.now _ (comment_token g.size) _ (rw is) (sym (small (comment_token g.size) (omega arith))))

pub returns-then-opcode-lent : goal.returns-then-opcode-lent
unfolding bare_fits
returns-then-opcode-lent c =
    let g = c.args in
    let no = ne_eqb g.opcode comment_opcode c.if-opcode-eq-COMMENT.false in
    put_passed (rw (eq-eqb _ _ c.if-lent-size.false, no) c.if-opcode-lent.true)
    (put_one g.room.now _ end_token _ (rw no) refl)

pub returns : goal.returns
unfolding bare_fits
returns c =
    let g = c.args in
    put_failed (rw (eq-eqb _ _ c.if-lent-size.false, ne_eqb g.opcode comment_opcode c.if-opcode-eq-COMMENT.false) c.if-opcode-lent.false) refl
