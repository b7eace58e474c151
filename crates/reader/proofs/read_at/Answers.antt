use mathlib.Core.Path.{◌≡◌, sym, ◌∙◌}
use native.Mathlib.Omega.{arith}
use borrow.Author.Tests.{le-ltb}
use Rattle.paper.specs.Numbers.{reason_by}
use Rattle.told.specs.Numbered.{number_in}
use Rattle.paper.proofs.OneToOne.{same_reason}
use Rattle.reader.specs.Reading.{reading_at}
use Rattle.reader.proofs.Steps.{reads_good, reads_refused}
use Rattle.reader.proofs.read_at.Goals as goal

pub returns-then-tokens-at : goal.returns-then-tokens-at
unfolding reading_at
returns-then-tokens-at c = rw (le-ltb _ _ c.if-tokens-at.true, c.at.ensures)

pub returns-then-is_refused : goal.returns-then-is_refused
returns-then-is_refused c =
    let why : c.reason_of.result ≡ reason_by (number_in c.judge_at-told.result) = same_reason _ _ c.reason_of.ensures in
    let refused = reads_refused c.args.version c.args.tokens.now c.args.at c.judge_at-told.result c.if-tokens-at.false c.judge_at-told.ensures (sym c.is_refused.ensures ∙ c.if-is_refused.true) in
    rw (refused.reads, why, c.bit_of-detail.ensures, c.position_of.ensures)

pub slice_bounds-read_record-end : goal.slice_bounds-read_record-end
slice_bounds-read_record-end c =
    let good = reads_good c.args.version c.args.tokens.now c.args.at c.judge_at-told.result c.if-tokens-at.false c.judge_at-told.ensures (sym c.is_refused.ensures ∙ c.if-is_refused.false) in
    omega (arith, c.size_of.ensures, good.inside)

pub read_record-instruction-requires : goal.read_record-instruction-requires
read_record-instruction-requires c =
    let good = reads_good c.args.version c.args.tokens.now c.args.at c.judge_at-told.result c.if-tokens-at.false c.judge_at-told.ensures (sym c.is_refused.ensures ∙ c.if-is_refused.false) in
    rw (c.class_of-class.ensures, c.size_of.ensures) good.readable

pub returns : goal.returns
returns c =
    let good = reads_good c.args.version c.args.tokens.now c.args.at c.judge_at-told.result c.if-tokens-at.false c.judge_at-told.ensures (sym c.is_refused.ensures ∙ c.if-is_refused.false) in
    rw (c.read_record-instruction.ensures, c.class_of-class.ensures, c.size_of.ensures) (sym good.reads)
