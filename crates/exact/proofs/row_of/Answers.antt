use mathlib.Core.Path.{sym, ap}
use Rattle.paper.specs.OpcodeTable.{rows}
use Rattle.paper.specs.Blocks.{classes, class_of}
use Rattle.paper.specs.Places.{entry_of, typed_places}
use Rattle.places.specs.Places.{decoded}
use Rattle.opcodes.specs.Rows.{row_of}
use Rattle.exact.specs.Exact.{exact_row}
use Rattle.exact.proofs.Exactly.{no_row_lem}
use Rattle.exact.proofs.row_of.Goals as goal

pub returns-in-0 : goal.returns-in-0
unfolding rows entry_of typed_places class_of classes row_of exact_row decoded
returns-in-0 c = ap exact_row (sym c.in-0.is)

pub returns-in-1 : goal.returns-in-1
unfolding rows entry_of typed_places class_of classes row_of exact_row decoded
returns-in-1 c = ap exact_row (sym c.in-1.is)

pub returns-in-2 : goal.returns-in-2
unfolding rows entry_of typed_places class_of classes row_of exact_row decoded
returns-in-2 c = ap exact_row (sym c.in-2.is)

pub returns-in-3 : goal.returns-in-3
unfolding rows entry_of typed_places class_of classes row_of exact_row decoded
returns-in-3 c = ap exact_row (sym c.in-3.is)

pub returns-in-4 : goal.returns-in-4
unfolding rows entry_of typed_places class_of classes row_of exact_row decoded
returns-in-4 c = ap exact_row (sym c.in-4.is)

pub returns-in-5 : goal.returns-in-5
unfolding rows entry_of typed_places class_of classes row_of exact_row decoded
returns-in-5 c = ap exact_row (sym c.in-5.is)

pub returns-in-6 : goal.returns-in-6
unfolding rows entry_of typed_places class_of classes row_of exact_row decoded
returns-in-6 c = ap exact_row (sym c.in-6.is)

pub returns-in-7 : goal.returns-in-7
unfolding rows entry_of typed_places class_of classes row_of exact_row decoded
returns-in-7 c = ap exact_row (sym c.in-7.is)

pub returns-in-8 : goal.returns-in-8
unfolding rows entry_of typed_places class_of classes row_of exact_row decoded
returns-in-8 c = ap exact_row (sym c.in-8.is)

pub returns-in-9 : goal.returns-in-9
unfolding rows entry_of typed_places class_of classes row_of exact_row decoded
returns-in-9 c = ap exact_row (sym c.in-9.is)

pub returns-in-10 : goal.returns-in-10
unfolding rows entry_of typed_places class_of classes row_of exact_row decoded
returns-in-10 c = ap exact_row (sym c.in-10.is)

pub returns-in-11 : goal.returns-in-11
unfolding rows entry_of typed_places class_of classes row_of exact_row decoded
returns-in-11 c = ap exact_row (sym c.in-11.is)

pub returns-in-12 : goal.returns-in-12
unfolding rows entry_of typed_places class_of classes row_of exact_row decoded
returns-in-12 c = ap exact_row (sym c.in-12.is)

pub returns-in-13 : goal.returns-in-13
unfolding rows entry_of typed_places class_of classes row_of exact_row decoded
returns-in-13 c = ap exact_row (sym c.in-13.is)

pub returns-in-14 : goal.returns-in-14
unfolding rows entry_of typed_places class_of classes row_of exact_row decoded
returns-in-14 c = ap exact_row (sym c.in-14.is)

pub returns-in-15 : goal.returns-in-15
unfolding rows entry_of typed_places class_of classes row_of exact_row decoded
returns-in-15 c = ap exact_row (sym c.in-15.is)

pub returns-in-16 : goal.returns-in-16
unfolding rows entry_of typed_places class_of classes row_of exact_row decoded
returns-in-16 c = ap exact_row (sym c.in-16.is)

pub returns-in-17 : goal.returns-in-17
unfolding rows entry_of typed_places class_of classes row_of exact_row decoded
returns-in-17 c = ap exact_row (sym c.in-17.is)

pub returns-in-18 : goal.returns-in-18
unfolding rows entry_of typed_places class_of classes row_of exact_row decoded
returns-in-18 c = ap exact_row (sym c.in-18.is)

pub returns-in-19 : goal.returns-in-19
unfolding rows entry_of typed_places class_of classes row_of exact_row decoded
returns-in-19 c = ap exact_row (sym c.in-19.is)

pub returns-in-20 : goal.returns-in-20
unfolding rows entry_of typed_places class_of classes row_of exact_row decoded
returns-in-20 c = ap exact_row (sym c.in-20.is)

pub returns-in-21 : goal.returns-in-21
unfolding rows entry_of typed_places class_of classes row_of exact_row decoded
returns-in-21 c = ap exact_row (sym c.in-21.is)

pub returns-in-22 : goal.returns-in-22
unfolding rows entry_of typed_places class_of classes row_of exact_row decoded
returns-in-22 c = ap exact_row (sym c.in-22.is)

pub returns-in-23 : goal.returns-in-23
unfolding rows entry_of typed_places class_of classes row_of exact_row decoded
returns-in-23 c = ap exact_row (sym c.in-23.is)

pub returns-in-24 : goal.returns-in-24
unfolding rows entry_of typed_places class_of classes row_of exact_row decoded
returns-in-24 c = ap exact_row (sym c.in-24.is)

pub returns-in-25 : goal.returns-in-25
unfolding rows entry_of typed_places class_of classes row_of exact_row decoded
returns-in-25 c = ap exact_row (sym c.in-25.is)

pub returns-in-28 : goal.returns-in-28
unfolding rows entry_of typed_places class_of classes row_of exact_row decoded
returns-in-28 c = ap exact_row (sym c.in-28.is)

pub returns-in-29 : goal.returns-in-29
unfolding rows entry_of typed_places class_of classes row_of exact_row decoded
returns-in-29 c = ap exact_row (sym c.in-29.is)

pub returns-in-30 : goal.returns-in-30
unfolding rows entry_of typed_places class_of classes row_of exact_row decoded
returns-in-30 c = ap exact_row (sym c.in-30.is)

pub returns-in-32 : goal.returns-in-32
unfolding rows entry_of typed_places class_of classes row_of exact_row decoded
returns-in-32 c = ap exact_row (sym c.in-32.is)

pub returns-in-33 : goal.returns-in-33
unfolding rows entry_of typed_places class_of classes row_of exact_row decoded
returns-in-33 c = ap exact_row (sym c.in-33.is)

pub returns-in-34 : goal.returns-in-34
unfolding rows entry_of typed_places class_of classes row_of exact_row decoded
returns-in-34 c = ap exact_row (sym c.in-34.is)

pub returns-in-35 : goal.returns-in-35
unfolding rows entry_of typed_places class_of classes row_of exact_row decoded
returns-in-35 c = ap exact_row (sym c.in-35.is)

pub returns-in-36 : goal.returns-in-36
unfolding rows entry_of typed_places class_of classes row_of exact_row decoded
returns-in-36 c = ap exact_row (sym c.in-36.is)

pub returns-in-37 : goal.returns-in-37
unfolding rows entry_of typed_places class_of classes row_of exact_row decoded
returns-in-37 c = ap exact_row (sym c.in-37.is)

pub returns-in-38 : goal.returns-in-38
unfolding rows entry_of typed_places class_of classes row_of exact_row decoded
returns-in-38 c = ap exact_row (sym c.in-38.is)

pub returns-in-39 : goal.returns-in-39
unfolding rows entry_of typed_places class_of classes row_of exact_row decoded
returns-in-39 c = ap exact_row (sym c.in-39.is)

pub returns-in-42 : goal.returns-in-42
unfolding rows entry_of typed_places class_of classes row_of exact_row decoded
returns-in-42 c = ap exact_row (sym c.in-42.is)

pub returns-in-43 : goal.returns-in-43
unfolding rows entry_of typed_places class_of classes row_of exact_row decoded
returns-in-43 c = ap exact_row (sym c.in-43.is)

pub returns-in-44 : goal.returns-in-44
unfolding rows entry_of typed_places class_of classes row_of exact_row decoded
returns-in-44 c = ap exact_row (sym c.in-44.is)

pub returns-in-47 : goal.returns-in-47
unfolding rows entry_of typed_places class_of classes row_of exact_row decoded
returns-in-47 c = ap exact_row (sym c.in-47.is)

pub returns-in-48 : goal.returns-in-48
unfolding rows entry_of typed_places class_of classes row_of exact_row decoded
returns-in-48 c = ap exact_row (sym c.in-48.is)

pub returns-in-66 : goal.returns-in-66
unfolding rows entry_of typed_places class_of classes row_of exact_row decoded
returns-in-66 c = ap exact_row (sym c.in-66.is)

pub returns-in-78 : goal.returns-in-78
unfolding rows entry_of typed_places class_of classes row_of exact_row decoded
returns-in-78 c = ap exact_row (sym c.in-78.is)

pub returns-in-79 : goal.returns-in-79
unfolding rows entry_of typed_places class_of classes row_of exact_row decoded
returns-in-79 c = ap exact_row (sym c.in-79.is)

pub returns-in-81 : goal.returns-in-81
unfolding rows entry_of typed_places class_of classes row_of exact_row decoded
returns-in-81 c = ap exact_row (sym c.in-81.is)

pub returns-in-88 : goal.returns-in-88
unfolding rows entry_of typed_places class_of classes row_of exact_row decoded
returns-in-88 c = ap exact_row (sym c.in-88.is)

pub returns-in-90 : goal.returns-in-90
unfolding rows entry_of typed_places class_of classes row_of exact_row decoded
returns-in-90 c = ap exact_row (sym c.in-90.is)

pub returns-in-91 : goal.returns-in-91
unfolding rows entry_of typed_places class_of classes row_of exact_row decoded
returns-in-91 c = ap exact_row (sym c.in-91.is)

pub returns-in-92 : goal.returns-in-92
unfolding rows entry_of typed_places class_of classes row_of exact_row decoded
returns-in-92 c = ap exact_row (sym c.in-92.is)

pub returns-in-95 : goal.returns-in-95
unfolding rows entry_of typed_places class_of classes row_of exact_row decoded
returns-in-95 c = ap exact_row (sym c.in-95.is)

pub returns-in-96 : goal.returns-in-96
unfolding rows entry_of typed_places class_of classes row_of exact_row decoded
returns-in-96 c = ap exact_row (sym c.in-96.is)

pub returns-in_default : goal.returns-in_default
unfolding rows entry_of typed_places class_of classes row_of exact_row decoded
returns-in_default c = sym (no_row_lem c.args.opcode c.in_default.in_default-own.rest)
