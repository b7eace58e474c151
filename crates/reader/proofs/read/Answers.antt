use mathlib.Core.Path.{sym, ◌∙◌}
use borrow.Author.Tests.{le-leb, lt-leb}
use Rattle.paper.proofs.OneToOne.{same_named}
use Rattle.reader.specs.Reading.{reading}
use Rattle.reader.proofs.read.Goals as goal

pub returns-then-tokens-gt-MOST_TOKENS : goal.returns-then-tokens-gt-MOST_TOKENS
unfolding reading
returns-then-tokens-gt-MOST_TOKENS c = rw (lt-leb _ _ c.if-tokens-gt-MOST_TOKENS.true, c.at.ensures)

pub returns-in_default : goal.returns-in_default
unfolding reading
returns-in_default c = rw (le-leb _ _ c.if-tokens-gt-MOST_TOKENS.false, sym (same_named _ _ c.version_of.ensures) ∙ c.in_default.is, c.at-in_default.ensures)

pub returns : goal.returns
unfolding reading
returns c = rw (le-leb _ _ c.if-tokens-gt-MOST_TOKENS.false, sym (same_named _ _ c.version_of.ensures) ∙ c.in-Some.is, c.read_at.ensures)
