use mathlib.Core.Path.{sym, ap, ◌∙◌}
use native.Mathlib.Omega.{arith}
use Rattle.std.proofs.lemmas.Option.{IfSome_then}
use Rattle.exact.specs.Exact.{row_in}
use Rattle.exact.proofs.Exactly.{told_row}
use Rattle.door.proofs.Quickly.{quick_law}
use Rattle.door.proofs.quick.tell.Goals as goal

pub tell_operands-requires : goal.tell_operands-requires
tell_operands-requires c =
    let g = c.args in
    let exact = told_row g.version _ _ (sym c.has_sizes.ensures ∙ c.if-not-has_sizes.false) (c.in_ok-row.ensures ∙ ap (row_in g.version) c.opcode_of.ensures) in
    (omega arith, exact.known)

pub returns : goal.returns
returns c =
    let g = c.args in
    let exact = told_row g.version _ _ (sym c.has_sizes.ensures ∙ c.if-not-has_sizes.false) (c.in_ok-row.ensures ∙ ap (row_in g.version) c.opcode_of.ensures) in
    IfSome_then c.tell_operands.result c.tell_operands.ensures
    (λ told tells left. quick_law g.version g.first _ told g.behind.now left (omega arith) (sym c.upper_in.ensures ∙ c.if-upper_in-first.false) exact tells)
