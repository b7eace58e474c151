use lib.ListN.{length}
use mathlib.Core.Path.{ap, sym, ◌∙◌}
use Rattle.paper.specs.Numbers.{told}
use Rattle.paper.proofs.OneToOne.{same_named}
use Rattle.paper.proofs.StreamVerdict.{verdict_length, verdict_version, verdict_walked}
use Rattle.checker.proofs.Laid.{laid}
use Rattle.checker.proofs.check.Goals as goal

pub returns-then-not-contains : goal.returns-then-not-contains
returns-then-not-contains c =
    let range = c.new.ensures in
    let short = laid c.new.result (length c.args.tokens.now) range.start range.end range.exhausted c.if-not-contains.ensures.value in
    rw c.at.ensures (ap told (sym (verdict_length c.args.tokens.now short)))

pub returns-in_default : goal.returns-in_default
returns-in_default c =
    let range = c.new.ensures in
    let long = laid c.new.result (length c.args.tokens.now) range.start range.end range.exhausted c.if-not-contains.ensures.value in
    rw c.at-in_default.ensures
    (ap told (sym (verdict_version c.args.tokens.now long (sym (same_named _ _ c.in_default.ensures)))))

pub returns : goal.returns
returns c =
    let range = c.new.ensures in
    let long = laid c.new.result (length c.args.tokens.now) range.start range.end range.exhausted c.if-not-contains.ensures.value in
    ap told (c.check_behind.ensures ∙ sym (verdict_walked c.args.tokens.now _ long (sym (same_named _ _ c.in-Some.ensures))))
