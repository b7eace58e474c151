use mathlib.Core.Path.{◌≡◌, sym, ◌∙◌}
use borrow.Author.Tests.{le-leb, lt-leb}
use Rattle.std.proofs.lemmas.Result.{err_from_is_err_and}
use Rattle.paper.proofs.OneToOne.{same_named}
use Rattle.notes.specs.Noted.{noted}
use Rattle.notes.proofs.next_note.Goals as goal

pub returns-then-tokens-gt-MOST_TOKENS : goal.returns-then-tokens-gt-MOST_TOKENS
unfolding noted
returns-then-tokens-gt-MOST_TOKENS c = rw (lt-leb _ _ c.if-tokens-gt-MOST_TOKENS.true, c.at.ensures)

pub returns-in_err-known : goal.returns-in_err-known
unfolding noted
returns-in_err-known c =
    let p = err_from_is_err_and c.from_residual.result c.from_residual.ensures.1 in
    let none = c.in_err-known.ensures.ok_part in
    let given = rw none at c.in_err-known.ensures.value in
    let same : p.0 ≡ c.at-2.result = p.2 ∙ cc in
    rw (le-leb _ _ c.if-tokens-gt-MOST_TOKENS.false, sym (same_named _ _ c.version_of.ensures) ∙ none, p.1, same, c.at-2.ensures)

pub returns : goal.returns
unfolding noted
returns c =
    rw (le-leb _ _ c.if-tokens-gt-MOST_TOKENS.false, sym (same_named _ _ c.version_of.ensures) ∙ c.in_ok-known.ensures.ok_part, c.note_from.ensures)
