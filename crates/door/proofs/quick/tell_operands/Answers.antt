use Prim.Native.Nat.{◌%◌, ◌^◌}
use mathlib.Core.Path.{refl, sym, ap, ◌∙◌}
use native.Mathlib.Nat.{mod-eq_of_lt}
use native.Mathlib.Omega.{arith}
use Rattle.exact.specs.declared.Kind.TheVariants.{Empty, Ds, Dss, Dsss, Sampled, Source, Constant}
use Rattle.told.specs.Numbered.{yes_number}
use Rattle.door.specs.Quick.{TellsRow}
use Rattle.door.proofs.Quickly.{told_where, kind_is, tells_none, tells_ds, tells_dss, tells_dsss, tells_sampled, tells_source, tells_constant}
use Rattle.paper.proofs.Bools.{never}
use Rattle.door.proofs.quick.tell_operands.Goals as goal
use Rattle.door.proofs.quick.tell_operands.Goals.{then-fit, else-fit}

pub returns-in-Empty : goal.returns-in-Empty
returns-in-Empty c =
    let g = c.args in
    tells_none g.version g.row g.behind.now c.requires.0 c.requires.1 _
    (kind_is g.version g.row g.behind.now c.requires.0 c.requires.1 Empty c.in-Empty.ensures)
    (c.yes.ensures ∙ ap (λ class. yes_number 0 class % 2 ^ 64) c.class_in.ensures ∙ mod-eq_of_lt (omega arith))

pub returns-in-Ds : goal.returns-in-Ds
returns-in-Ds c =
    let g = c.args in
    told_where _ _ _ (TellsRow g.version g.row g.behind.now) c.then_some.ensures
    (λ good.
    tells_ds g.version g.row g.behind.now c.requires.0 c.requires.1 _
    (kind_is g.version g.row g.behind.now c.requires.0 c.requires.1 Ds c.in-Ds.ensures)
    c.yes-in-Ds.ensures
    (c.fit.ensures good))

pub returns-in-Dss : goal.returns-in-Dss
returns-in-Dss c =
    let g = c.args in
    told_where _ _ _ (TellsRow g.version g.row g.behind.now) c.then_some-in-Dss.ensures
    (λ good.
    tells_dss g.version g.row g.behind.now c.requires.0 c.requires.1 _
    (kind_is g.version g.row g.behind.now c.requires.0 c.requires.1 Dss c.in-Dss.ensures)
    c.yes-in-Dss.ensures
    (c.fit-in-Dss.ensures good))

pub returns-in-Dsss : goal.returns-in-Dsss
returns-in-Dsss c =
    let g = c.args in
    told_where _ _ _ (TellsRow g.version g.row g.behind.now) c.then_some-in-Dsss.ensures
    (λ good.
    tells_dsss g.version g.row g.behind.now c.requires.0 c.requires.1 _
    (kind_is g.version g.row g.behind.now c.requires.0 c.requires.1 Dsss c.in-Dsss.ensures)
    c.yes-in-Dsss.ensures
    (c.fit-in-Dsss.ensures good))

pub returns-after-fit : goal.returns-after-fit
returns-after-fit c =
    let g = c.args in
    let kind = kind_is g.version g.row g.behind.now c.requires.0 c.requires.1 Sampled c.in-Sampled.ensures in
    told_where _ _ _ (TellsRow g.version g.row g.behind.now) c.then_some-in-Sampled.ensures
    (λ good.
    elim c.if-fit.branch [
      | then-fit w ↦
          tells_sampled g.version g.row g.behind.now c.requires.0 c.requires.1 _ kind c.yes-in-Sampled.ensures
          (c.fit-in-Sampled.ensures w.if-fit.true, w.one_read-good.ensures (sym w.good-is ∙ good) g.version 10 refl)
      | else-fit w ↦ never (sym (w.good-is ∙ w.if-fit.false) ∙ good)
    ])

pub returns-in-Source : goal.returns-in-Source
returns-in-Source c =
    let g = c.args in
    told_where _ _ _ (TellsRow g.version g.row g.behind.now) c.then_some-in-Source.ensures
    (λ good.
    tells_source g.version g.row g.behind.now c.requires.0 c.requires.1 _
    (kind_is g.version g.row g.behind.now c.requires.0 c.requires.1 Source c.in-Source.ensures)
    (c.yes-in-Source.ensures ∙ ap (λ class. yes_number 1 class % 2 ^ 64) c.class_in-in-Source.ensures ∙ mod-eq_of_lt (omega arith))
    (λ type p. c.one_read.ensures good g.version type (c.first_in-place.ensures ∙ p)))

pub returns-in-Constant : goal.returns-in-Constant
returns-in-Constant c =
    let g = c.args in
    told_where _ _ _ (TellsRow g.version g.row g.behind.now) c.then_some-in-Constant.ensures
    (λ good.
    tells_constant g.version g.row g.behind.now c.requires.0 c.requires.1 _
    (kind_is g.version g.row g.behind.now c.requires.0 c.requires.1 Constant c.in-Constant.ensures)
    (c.yes-in-Constant.ensures ∙ ap (λ size. yes_number size 1 % 2 ^ 64) c.size_in.ensures ∙ mod-eq_of_lt (omega arith))
    (λ type p. c.one_written.ensures good type (c.first_in-place.ensures ∙ p)))
