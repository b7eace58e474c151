use mathlib.Core.Path.{sym, ◌∙◌}
use native.Mathlib.Omega.{arith}
use lib.ListN.{drop}
use Rattle.places.specs.Places.{place_by}
use Rattle.records.proofs.Filled.{width_some, width_one, width_two, operand_one, operand_two}
use Rattle.records.proofs.read_operand.Goals as goal

pub bounds-behind-at : goal.bounds-behind-at
bounds-behind-at c = let g = c.args in omega (arith, width_some (place_by g.place) (drop g.at g.behind.now))

pub bounds-behind-at-then-brings_relative : goal.bounds-behind-at-then-brings_relative
bounds-behind-at-then-brings_relative c =
    let g = c.args in
    let two = width_two (place_by g.place) g.at g.behind.now (sym c.brings_relative.ensures ∙ c.if-brings_relative.true) in
    omega arith

pub returns-then-brings_relative : goal.returns-then-brings_relative
returns-then-brings_relative c =
    let g = c.args in
    let brings = sym c.brings_relative.ensures ∙ c.if-brings_relative.true in
    (c.operand_of.ensures ∙ sym (operand_two (place_by g.place) g.at g.behind.now brings), rw (width_two (place_by g.place) g.at g.behind.now brings))

pub returns : goal.returns
returns c =
    let g = c.args in
    let brings = sym c.brings_relative.ensures ∙ c.if-brings_relative.false in
    (c.operand_of-2.ensures ∙ sym (operand_one (place_by g.place) g.at g.behind.now brings), rw (width_one (place_by g.place) g.at g.behind.now brings))
