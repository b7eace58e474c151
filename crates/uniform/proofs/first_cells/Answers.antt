use mathlib.Core.Path.{sym, ap}
use Rattle.paper.specs.FirstVersions.{first_rows}
use Rattle.paper.specs.Places.{entry_of}
use Rattle.uniform.specs.Uniform.{kind_of}
use Rattle.uniform.specs.Cells.{first_cells}
use Rattle.uniform.proofs.Tables.{no_first_cells}
use Rattle.uniform.proofs.first_cells.Goals as goal

pub returns-in-1 : goal.returns-in-1
unfolding first_rows entry_of kind_of first_cells
returns-in-1 c = ap first_cells (sym c.in-1.is)

pub returns-in-2 : goal.returns-in-2
unfolding first_rows entry_of kind_of first_cells
returns-in-2 c = ap first_cells (sym c.in-2.is)

pub returns-in-3 : goal.returns-in-3
unfolding first_rows entry_of kind_of first_cells
returns-in-3 c = ap first_cells (sym c.in-3.is)

pub returns-in-4 : goal.returns-in-4
unfolding first_rows entry_of kind_of first_cells
returns-in-4 c = ap first_cells (sym c.in-4.is)

pub returns-in-5 : goal.returns-in-5
unfolding first_rows entry_of kind_of first_cells
returns-in-5 c = ap first_cells (sym c.in-5.is)

pub returns-in-6 : goal.returns-in-6
unfolding first_rows entry_of kind_of first_cells
returns-in-6 c = ap first_cells (sym c.in-6.is)

pub returns-in-7 : goal.returns-in-7
unfolding first_rows entry_of kind_of first_cells
returns-in-7 c = ap first_cells (sym c.in-7.is)

pub returns-in-8 : goal.returns-in-8
unfolding first_rows entry_of kind_of first_cells
returns-in-8 c = ap first_cells (sym c.in-8.is)

pub returns-in-9 : goal.returns-in-9
unfolding first_rows entry_of kind_of first_cells
returns-in-9 c = ap first_cells (sym c.in-9.is)

pub returns-in-10 : goal.returns-in-10
unfolding first_rows entry_of kind_of first_cells
returns-in-10 c = ap first_cells (sym c.in-10.is)

pub returns-in-11 : goal.returns-in-11
unfolding first_rows entry_of kind_of first_cells
returns-in-11 c = ap first_cells (sym c.in-11.is)

pub returns-in-12 : goal.returns-in-12
unfolding first_rows entry_of kind_of first_cells
returns-in-12 c = ap first_cells (sym c.in-12.is)

pub returns-in-13 : goal.returns-in-13
unfolding first_rows entry_of kind_of first_cells
returns-in-13 c = ap first_cells (sym c.in-13.is)

pub returns-in-14 : goal.returns-in-14
unfolding first_rows entry_of kind_of first_cells
returns-in-14 c = ap first_cells (sym c.in-14.is)

pub returns-in-15 : goal.returns-in-15
unfolding first_rows entry_of kind_of first_cells
returns-in-15 c = ap first_cells (sym c.in-15.is)

pub returns-in-16 : goal.returns-in-16
unfolding first_rows entry_of kind_of first_cells
returns-in-16 c = ap first_cells (sym c.in-16.is)

pub returns-in-17 : goal.returns-in-17
unfolding first_rows entry_of kind_of first_cells
returns-in-17 c = ap first_cells (sym c.in-17.is)

pub returns-in-18 : goal.returns-in-18
unfolding first_rows entry_of kind_of first_cells
returns-in-18 c = ap first_cells (sym c.in-18.is)

pub returns-in-19 : goal.returns-in-19
unfolding first_rows entry_of kind_of first_cells
returns-in-19 c = ap first_cells (sym c.in-19.is)

pub returns-in-20 : goal.returns-in-20
unfolding first_rows entry_of kind_of first_cells
returns-in-20 c = ap first_cells (sym c.in-20.is)

pub returns-in-21 : goal.returns-in-21
unfolding first_rows entry_of kind_of first_cells
returns-in-21 c = ap first_cells (sym c.in-21.is)

pub returns-in-22 : goal.returns-in-22
unfolding first_rows entry_of kind_of first_cells
returns-in-22 c = ap first_cells (sym c.in-22.is)

pub returns-in-23 : goal.returns-in-23
unfolding first_rows entry_of kind_of first_cells
returns-in-23 c = ap first_cells (sym c.in-23.is)

pub returns-in-24 : goal.returns-in-24
unfolding first_rows entry_of kind_of first_cells
returns-in-24 c = ap first_cells (sym c.in-24.is)

pub returns-in-64 : goal.returns-in-64
unfolding first_rows entry_of kind_of first_cells
returns-in-64 c = ap first_cells (sym c.in-64.is)

pub returns-in-65 : goal.returns-in-65
unfolding first_rows entry_of kind_of first_cells
returns-in-65 c = ap first_cells (sym c.in-65.is)

pub returns-in-66 : goal.returns-in-66
unfolding first_rows entry_of kind_of first_cells
returns-in-66 c = ap first_cells (sym c.in-66.is)

pub returns-in-67 : goal.returns-in-67
unfolding first_rows entry_of kind_of first_cells
returns-in-67 c = ap first_cells (sym c.in-67.is)

pub returns-in-68 : goal.returns-in-68
unfolding first_rows entry_of kind_of first_cells
returns-in-68 c = ap first_cells (sym c.in-68.is)

pub returns-in-69 : goal.returns-in-69
unfolding first_rows entry_of kind_of first_cells
returns-in-69 c = ap first_cells (sym c.in-69.is)

pub returns-in-70 : goal.returns-in-70
unfolding first_rows entry_of kind_of first_cells
returns-in-70 c = ap first_cells (sym c.in-70.is)

pub returns-in-71 : goal.returns-in-71
unfolding first_rows entry_of kind_of first_cells
returns-in-71 c = ap first_cells (sym c.in-71.is)

pub returns-in-72 : goal.returns-in-72
unfolding first_rows entry_of kind_of first_cells
returns-in-72 c = ap first_cells (sym c.in-72.is)

pub returns-in-73 : goal.returns-in-73
unfolding first_rows entry_of kind_of first_cells
returns-in-73 c = ap first_cells (sym c.in-73.is)

pub returns-in-74 : goal.returns-in-74
unfolding first_rows entry_of kind_of first_cells
returns-in-74 c = ap first_cells (sym c.in-74.is)

pub returns-in-77 : goal.returns-in-77
unfolding first_rows entry_of kind_of first_cells
returns-in-77 c = ap first_cells (sym c.in-77.is)

pub returns-in-78 : goal.returns-in-78
unfolding first_rows entry_of kind_of first_cells
returns-in-78 c = ap first_cells (sym c.in-78.is)

pub returns-in-79 : goal.returns-in-79
unfolding first_rows entry_of kind_of first_cells
returns-in-79 c = ap first_cells (sym c.in-79.is)

pub returns-in-80 : goal.returns-in-80
unfolding first_rows entry_of kind_of first_cells
returns-in-80 c = ap first_cells (sym c.in-80.is)

pub returns-in-82 : goal.returns-in-82
unfolding first_rows entry_of kind_of first_cells
returns-in-82 c = ap first_cells (sym c.in-82.is)

pub returns-in-83 : goal.returns-in-83
unfolding first_rows entry_of kind_of first_cells
returns-in-83 c = ap first_cells (sym c.in-83.is)

pub returns-in-84 : goal.returns-in-84
unfolding first_rows entry_of kind_of first_cells
returns-in-84 c = ap first_cells (sym c.in-84.is)

pub returns-in-85 : goal.returns-in-85
unfolding first_rows entry_of kind_of first_cells
returns-in-85 c = ap first_cells (sym c.in-85.is)

pub returns-in-86 : goal.returns-in-86
unfolding first_rows entry_of kind_of first_cells
returns-in-86 c = ap first_cells (sym c.in-86.is)

pub returns-in-87 : goal.returns-in-87
unfolding first_rows entry_of kind_of first_cells
returns-in-87 c = ap first_cells (sym c.in-87.is)

pub returns-in-88 : goal.returns-in-88
unfolding first_rows entry_of kind_of first_cells
returns-in-88 c = ap first_cells (sym c.in-88.is)

pub returns-in_default : goal.returns-in_default
unfolding first_rows entry_of kind_of first_cells
returns-in_default c = sym (no_first_cells c.args.opcode c.in_default.in_default-own.rest)
