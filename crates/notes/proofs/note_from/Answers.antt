use mathlib.Core.Path.{◌≡◌, refl, sym, ◌∙◌}
use Prim.Native.Nat.{◌+◌}
use native.Mathlib.Omega.{arith}
use lib.ListN.{get_or}
use borrow.Author.Rules.{rules}
use Rattle.notes.specs.Noted.{noted_from}
use Rattle.notes.proofs.Search.{search_none, search_refused, refused_inside, search_good, good_inside}
use Rattle.notes.proofs.note_from.Goals as goal

pub loop-at-init : goal.loop-at-init
unfolding noted_from
loop-at-init c = refl

pub overflow_add-result : goal.overflow_add-result
overflow_add-result c =
    let g = c.args in
    let l = c.loop-at in
    let inside = refused_inside g.version g.tokens.now l.before l.comments l.at c.judge_at-told.result c.loop-at-test.true c.judge_at-told.ensures c.in-Err.refusal c.in-Err.ensures in
    omega (arith, inside)

pub returns-in-Err : goal.returns-in-Err
returns-in-Err c =
    let g = c.args in
    let l = c.loop-at in
    sym (l.invariant ∙ search_refused g.version g.tokens.now l.before l.comments l.at c.judge_at-told.result c.loop-at-test.true c.judge_at-told.ensures c.in-Err.refusal c.in-Err.ensures)

pub overflow_add-next-in-loop-at : goal.overflow_add-next-in-loop-at
overflow_add-next-in-loop-at c =
    let g = c.args in
    let l = c.loop-at in
    let i = c.in-Ok.instruction in
    let inside = good_inside g.version g.tokens.now l.before l.comments l.at c.judge_at-told.result c.loop-at-test.true c.judge_at-told.ensures i.size i.class c.in-Ok.ensures in
    omega (arith, inside)

pub returns-then-notes-opcode_of : goal.returns-then-notes-opcode_of
returns-then-notes-opcode_of c =
    let g = c.args in
    let l = c.loop-at in
    let i = c.in-Ok.instruction in
    let is = l.invariant ∙ search_good g.version g.tokens.now l.before l.comments l.at c.judge_at-told.result c.loop-at-test.true c.judge_at-told.ensures i.size i.class c.in-Ok.ensures in
    let second : c.unwrap_or-second.result ≡ get_or g.tokens.now (l.at + 1) 0 = search rules in
    let notes = rw second at c.notes_of-notes.ensures in
    rw (notes, c.begin-comments.ensures) (sym (is ∙ rw (← notes, ← c.opcode_of.ensures, c.if-notes-opcode_of.true)))

pub loop-at-preserved : goal.loop-at-preserved
loop-at-preserved c =
    let g = c.args in
    let l = c.loop-at in
    let i = c.in-Ok.instruction in
    let is = l.invariant ∙ search_good g.version g.tokens.now l.before l.comments l.at c.judge_at-told.result c.loop-at-test.true c.judge_at-told.ensures i.size i.class c.in-Ok.ensures in
    let second : c.unwrap_or-second.result ≡ get_or g.tokens.now (l.at + 1) 0 = search rules in
    let notes = rw second at c.notes_of-notes.ensures in
    rw (c.behind-before.ensures, c.begin-comments.ensures) (is ∙ rw (← notes, ← c.opcode_of.ensures, c.if-notes-opcode_of.false))

pub returns : goal.returns
returns c =
    let l = c.loop-at in
    let g = c.args in
    rw c.at.ensures (sym (l.invariant ∙ search_none g.version g.tokens.now l.before l.comments l.at c.loop-at-test.false))
