use mathlib.Core.Path.{sym, ap}
use Rattle.paper.specs.OpcodeTable.{rows}
use Rattle.paper.specs.Places.{entry_of, typed_places}
use Rattle.uniform.specs.Uniform.{kind_of, uniform_of}
use Rattle.uniform.specs.Cells.{free_cells}
use Rattle.uniform.proofs.Tables.{no_free_cells}
use Rattle.uniform.proofs.free_cells.Goals as goal

pub returns-in-1 : goal.returns-in-1
unfolding rows entry_of typed_places kind_of uniform_of free_cells
returns-in-1 c = ap free_cells (sym c.in-1.is)

pub returns-in-2 : goal.returns-in-2
unfolding rows entry_of typed_places kind_of uniform_of free_cells
returns-in-2 c = ap free_cells (sym c.in-2.is)

pub returns-in-3 : goal.returns-in-3
unfolding rows entry_of typed_places kind_of uniform_of free_cells
returns-in-3 c = ap free_cells (sym c.in-3.is)

pub returns-in-4 : goal.returns-in-4
unfolding rows entry_of typed_places kind_of uniform_of free_cells
returns-in-4 c = ap free_cells (sym c.in-4.is)

pub returns-in-5 : goal.returns-in-5
unfolding rows entry_of typed_places kind_of uniform_of free_cells
returns-in-5 c = ap free_cells (sym c.in-5.is)

pub returns-in-6 : goal.returns-in-6
unfolding rows entry_of typed_places kind_of uniform_of free_cells
returns-in-6 c = ap free_cells (sym c.in-6.is)

pub returns-in-7 : goal.returns-in-7
unfolding rows entry_of typed_places kind_of uniform_of free_cells
returns-in-7 c = ap free_cells (sym c.in-7.is)

pub returns-in-8 : goal.returns-in-8
unfolding rows entry_of typed_places kind_of uniform_of free_cells
returns-in-8 c = ap free_cells (sym c.in-8.is)

pub returns-in-9 : goal.returns-in-9
unfolding rows entry_of typed_places kind_of uniform_of free_cells
returns-in-9 c = ap free_cells (sym c.in-9.is)

pub returns-in-10 : goal.returns-in-10
unfolding rows entry_of typed_places kind_of uniform_of free_cells
returns-in-10 c = ap free_cells (sym c.in-10.is)

pub returns-in-11 : goal.returns-in-11
unfolding rows entry_of typed_places kind_of uniform_of free_cells
returns-in-11 c = ap free_cells (sym c.in-11.is)

pub returns-in-12 : goal.returns-in-12
unfolding rows entry_of typed_places kind_of uniform_of free_cells
returns-in-12 c = ap free_cells (sym c.in-12.is)

pub returns-in-13 : goal.returns-in-13
unfolding rows entry_of typed_places kind_of uniform_of free_cells
returns-in-13 c = ap free_cells (sym c.in-13.is)

pub returns-in-14 : goal.returns-in-14
unfolding rows entry_of typed_places kind_of uniform_of free_cells
returns-in-14 c = ap free_cells (sym c.in-14.is)

pub returns-in-15 : goal.returns-in-15
unfolding rows entry_of typed_places kind_of uniform_of free_cells
returns-in-15 c = ap free_cells (sym c.in-15.is)

pub returns-in-16 : goal.returns-in-16
unfolding rows entry_of typed_places kind_of uniform_of free_cells
returns-in-16 c = ap free_cells (sym c.in-16.is)

pub returns-in-17 : goal.returns-in-17
unfolding rows entry_of typed_places kind_of uniform_of free_cells
returns-in-17 c = ap free_cells (sym c.in-17.is)

pub returns-in-18 : goal.returns-in-18
unfolding rows entry_of typed_places kind_of uniform_of free_cells
returns-in-18 c = ap free_cells (sym c.in-18.is)

pub returns-in-19 : goal.returns-in-19
unfolding rows entry_of typed_places kind_of uniform_of free_cells
returns-in-19 c = ap free_cells (sym c.in-19.is)

pub returns-in-20 : goal.returns-in-20
unfolding rows entry_of typed_places kind_of uniform_of free_cells
returns-in-20 c = ap free_cells (sym c.in-20.is)

pub returns-in-21 : goal.returns-in-21
unfolding rows entry_of typed_places kind_of uniform_of free_cells
returns-in-21 c = ap free_cells (sym c.in-21.is)

pub returns-in-22 : goal.returns-in-22
unfolding rows entry_of typed_places kind_of uniform_of free_cells
returns-in-22 c = ap free_cells (sym c.in-22.is)

pub returns-in-23 : goal.returns-in-23
unfolding rows entry_of typed_places kind_of uniform_of free_cells
returns-in-23 c = ap free_cells (sym c.in-23.is)

pub returns-in-24 : goal.returns-in-24
unfolding rows entry_of typed_places kind_of uniform_of free_cells
returns-in-24 c = ap free_cells (sym c.in-24.is)

pub returns-in-32 : goal.returns-in-32
unfolding rows entry_of typed_places kind_of uniform_of free_cells
returns-in-32 c = ap free_cells (sym c.in-32.is)

pub returns-in-33 : goal.returns-in-33
unfolding rows entry_of typed_places kind_of uniform_of free_cells
returns-in-33 c = ap free_cells (sym c.in-33.is)

pub returns-in-34 : goal.returns-in-34
unfolding rows entry_of typed_places kind_of uniform_of free_cells
returns-in-34 c = ap free_cells (sym c.in-34.is)

pub returns-in-35 : goal.returns-in-35
unfolding rows entry_of typed_places kind_of uniform_of free_cells
returns-in-35 c = ap free_cells (sym c.in-35.is)

pub returns-in-36 : goal.returns-in-36
unfolding rows entry_of typed_places kind_of uniform_of free_cells
returns-in-36 c = ap free_cells (sym c.in-36.is)

pub returns-in-78 : goal.returns-in-78
unfolding rows entry_of typed_places kind_of uniform_of free_cells
returns-in-78 c = ap free_cells (sym c.in-78.is)

pub returns-in-79 : goal.returns-in-79
unfolding rows entry_of typed_places kind_of uniform_of free_cells
returns-in-79 c = ap free_cells (sym c.in-79.is)

pub returns-in-88 : goal.returns-in-88
unfolding rows entry_of typed_places kind_of uniform_of free_cells
returns-in-88 c = ap free_cells (sym c.in-88.is)

pub returns-in-90 : goal.returns-in-90
unfolding rows entry_of typed_places kind_of uniform_of free_cells
returns-in-90 c = ap free_cells (sym c.in-90.is)

pub returns-in-91 : goal.returns-in-91
unfolding rows entry_of typed_places kind_of uniform_of free_cells
returns-in-91 c = ap free_cells (sym c.in-91.is)

pub returns-in-92 : goal.returns-in-92
unfolding rows entry_of typed_places kind_of uniform_of free_cells
returns-in-92 c = ap free_cells (sym c.in-92.is)

pub returns-in_default : goal.returns-in_default
unfolding rows entry_of typed_places kind_of uniform_of free_cells
returns-in_default c = sym (no_free_cells c.args.opcode c.in_default.in_default-own.rest)
