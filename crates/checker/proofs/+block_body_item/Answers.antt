use Rattle.std.proofs.Common.{◌≡◌, false, refl, sym, arith}
use Rattle.paper.specs.Walk.{elses_opener}
use Rattle.checker.proofs.ItemEnds.{handed_on, good_inside, item_passed, item_barred, item_opened, block_refused, item_deep, item_closer, wrong_inside, item_wrong}
use Rattle.checker.proofs.BodyEnds.{reached_on, body_stopped, body_broken, leads_on, begins_at, stretch_passed}
use Rattle.checker.proofs.BlockEnds.{is_if, is_else, not_if, not_else, block_broken, block_closed, else_broken, else_closed}
use Rattle.checker.proofs.+block_body_item.Goals as goal
use Rattle.checker.proofs.+block_body_item.Goals.{block-else-eq-via-then-eq+else-eq-2, block-else-eq-via-else-eq}

pub block-returns-in_err-first : goal.block-returns-in_err-first
block-returns-in_err-first t c =
    rw (handed_on _ _ c.from_residual.ensures.1) (block_broken _ _ c.args.around c.inside.ensures c.in_err-first.ensures)

pub block-returns-in_err-second : goal.block-returns-in_err-second
block-returns-in_err-second t c =
    rw (handed_on _ _ c.from_residual-in_err-second.ensures.1)
    (else_broken _ _ c.args.around c.inside.ensures c.in_ok-first.ensures (is_if _ (sym c.if-eq.ensures)) (is_else _ (sym c.if-eq-2.ensures))
    c.behind.ensures c.inside-then-eq-2.ensures c.in_err-second.ensures)

pub block-returns-then-eq-2 : goal.block-returns-then-eq-2
block-returns-then-eq-2 t c =
    rw c.close.ensures
    (else_closed _ _ c.args.around c.inside.ensures c.in_ok-first.ensures (is_if _ (sym c.if-eq.ensures)) (is_else _ (sym c.if-eq-2.ensures))
    c.behind.ensures c.inside-then-eq-2.ensures c.in_ok-second.ensures)

pub block-returns : goal.block-returns
block-returns t c =
    let none : elses_opener c.in_ok-first.first.closer c.args.opener ≡ false =
    elim c.else-eq.branch [
      | block-else-eq-via-then-eq+else-eq-2 w ↦ not_else _ _ (sym w.if-eq-2.ensures)
      | block-else-eq-via-else-eq w ↦ not_if _ _ (sym w.if-eq.ensures)
    ]
    in
    rw c.close-2.ensures (block_closed _ _ c.args.around c.inside.ensures c.in_ok-first.ensures none)

pub body-overflow_add-here : goal.body-overflow_add-here
body-overflow_add-here t c =
    let there = stretch_passed c.requires c.loop-behind.invariant c.judge_stretch-stretch.ensures.leads in
    record { fits = omega (arith, there.inside, there.few) }

pub body-item-requires : goal.body-item-requires
body-item-requires t c =
    let there = stretch_passed c.requires c.loop-behind.invariant c.judge_stretch-stretch.ensures.leads in (
      omega (arith, c.requires),
      (begins_at c.requires there, c.judge_stretch-stretch.ensures.is),
    )

pub body-returns-in_err-behind : goal.body-returns-in_err-behind
body-returns-in_err-behind t c =
    let there = stretch_passed c.requires c.loop-behind.invariant c.judge_stretch-stretch.ensures.leads in
    rw (handed_on _ _ c.from_residual.ensures.1) (body_broken there c.in_err-behind.ensures)

pub body-loop-behind-smaller : goal.body-loop-behind-smaller
body-loop-behind-smaller t c =
    let there = stretch_passed c.requires c.loop-behind.invariant c.judge_stretch-stretch.ensures.leads in
    let moves = rw c.in-Item.is at c.in_ok-behind.ensures in
    omega (arith, leads_on c.judge_stretch-stretch.ensures.leads, moves.within.after, moves.within.inside)

pub body-loop-behind-preserved : goal.body-loop-behind-preserved
body-loop-behind-preserved t c =
    let there = stretch_passed c.requires c.loop-behind.invariant c.judge_stretch-stretch.ensures.leads in
    reached_on there (rw c.in-Item.is at c.in_ok-behind.ensures) c.judge_stretch-stretch.ensures.is c.is_phase-phased.ensures

pub body-returns-in-Closer : goal.body-returns-in-Closer
body-returns-in-Closer t c =
    let there = stretch_passed c.requires c.loop-behind.invariant c.judge_stretch-stretch.ensures.leads in
    body_stopped there (rw c.in-Closer.is at c.in_ok-behind.ensures)

pub item-overflow_add-result : goal.item-overflow_add-result
item-overflow_add-result t c =
    let inside = wrong_inside c.args.version c.args.around c.requires c.in-Err.ensures refl in
    record { fits = omega arith }

pub item-returns-in-Err : goal.item-returns-in-Err
item-returns-in-Err t c = item_wrong c.args.version c.args.around c.requires c.in-Err.ensures refl

pub item-overflow_add-next-2 : goal.item-overflow_add-next-2
item-overflow_add-next-2 t c =
    let inside = good_inside c.args.version c.args.around c.requires c.in-Ok.ensures refl in
    record { fits = omega arith }

pub item-returns-then-may_stand : goal.item-returns-then-may_stand
item-returns-then-may_stand t c =
    item_passed c.args.version c.args.around c.requires c.in-Ok.ensures refl
    c.in-One.is c.may_stand.ensures c.if-may_stand.true c.tally.ensures

pub item-block-requires : goal.item-block-requires
item-block-requires t c =
    let inside = good_inside c.args.version c.args.around c.requires c.in-Ok.ensures refl in (
      omega (arith, c.requires),
      record { depths = omega arith; starts = inside; few = omega (arith, c.requires) },
    )

pub item-returns-in_err-behind-in-Opens : goal.item-returns-in_err-behind-in-Opens
item-returns-in_err-behind-in-Opens t c =
    rw (handed_on _ _ c.from_residual.ensures.1)
    (block_refused c.args.version c.args.around c.requires c.in-Ok.ensures refl c.in-Opens.is
    _ c.if-around-lt-MOST_OPEN.true c.in_err-behind-in-Opens.ensures)

pub item-returns-then-around-lt-MOST_OPEN : goal.item-returns-then-around-lt-MOST_OPEN
item-returns-then-around-lt-MOST_OPEN t c =
    item_opened c.args.version c.args.around c.requires c.in-Ok.ensures refl c.in-Opens.is
    _ c.if-around-lt-MOST_OPEN.true c.in_ok-behind-in-Opens.ensures

pub item-returns-else-may_stand : goal.item-returns-else-may_stand
item-returns-else-may_stand t c =
    item_barred c.args.version c.args.around c.requires c.in-Ok.ensures refl
    c.in-One.is c.may_stand.ensures c.if-may_stand.false c.at.ensures

pub item-returns-else-around-lt-MOST_OPEN : goal.item-returns-else-around-lt-MOST_OPEN
item-returns-else-around-lt-MOST_OPEN t c =
    item_deep c.args.version c.args.around c.requires c.in-Ok.ensures refl
    c.in-Opens.is c.if-around-lt-MOST_OPEN.false c.at-in-Opens.ensures

pub item-returns-in-Closes : goal.item-returns-in-Closes
item-returns-in-Closes t c = item_closer c.args.version c.args.around c.requires c.in-Ok.ensures refl c.in-Closes.is
