use mathlib.Core.Path.{sym, ◌∙◌}
use Rattle.paper.specs.OperandTokens.{fault_at}
use Rattle.places.proofs.Places.{predicate_place, relative_place, free_source_place}
use Rattle.faults.proofs.FaultAt.{written_at, read_at}
use Rattle.faults.proofs.fault_at.Goals as goal

pub returns-then-is_raw : goal.returns-then-is_raw
unfolding fault_at
returns-then-is_raw c = rw (sym c.is_raw.ensures ∙ c.if-is_raw.true)

pub returns-then-is_destination : goal.returns-then-is_destination
returns-then-is_destination c =
    let d = c.before.before.before in
    let g = d.args in
    rw (written_at g.version g.token g.place (sym d.is_destination.ensures ∙ c.if-is_destination.true))
    (rw c.relative_destinations-relative.ensures at c.written_fault.ensures)

pub returns-then-place-eq-PREDICATE : goal.returns-then-place-eq-PREDICATE
unfolding fault_at
returns-then-place-eq-PREDICATE c = rw (c.if-place-eq-PREDICATE.true, predicate_place) (rw c.predicate_modifier.ensures at c.read_fault.ensures)

pub returns-then-place-eq-RELATIVE : goal.returns-then-place-eq-RELATIVE
unfolding fault_at
returns-then-place-eq-RELATIVE c = rw (c.if-place-eq-RELATIVE.true, relative_place) c.read_fault-then-place-eq-RELATIVE.ensures

pub returns-then-place-eq-FREE_SOURCE : goal.returns-then-place-eq-FREE_SOURCE
unfolding fault_at
returns-then-place-eq-FREE_SOURCE c =
    rw (c.if-place-eq-FREE_SOURCE.true, free_source_place)
    (rw (c.relative_sources.ensures, c.source_modifier-lawful.ensures) at c.read_fault-then-place-eq-FREE_SOURCE.ensures)

pub returns : goal.returns
returns c =
    let m = c.before.before.before in
    let e = m.before.before.before.before in
    let g = e.args in
    rw (read_at g.version g.token g.place (sym e.is_raw.ensures ∙ e.if-is_raw.false)
    (sym e.is_destination.ensures ∙ m.if-is_destination.false) m.if-place-eq-PREDICATE.false m.if-place-eq-RELATIVE.false c.if-place-eq-FREE_SOURCE.false)
    (rw (c.marked_sources.ensures, m.source_modifier-lawful.ensures) at c.read_fault-2.ensures)
