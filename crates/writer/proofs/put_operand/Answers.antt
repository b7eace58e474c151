use mathlib.Core.Path.{refl, sym, ◌∙◌}
use native.Mathlib.Omega.{arith}
use lib.ListN.{length-set}
use Rattle.places.specs.Places.{place_by}
use Rattle.writer.specs.Laid.{fits}
use Rattle.writer.proofs.Paste.{lent_length, small, put_one, put_two, put_failed, put_passed}
use Rattle.writer.proofs.Row.{raw_operand_lem, two_operand, one_operand}
use Rattle.writer.proofs.put_operand.Goals as goal

pub returns-then-not-raw_fits : goal.returns-then-not-raw_fits
unfolding fits
returns-then-not-raw_fits c =
    put_failed (rw (sym c.is_raw.ensures ∙ c.if-is_raw.true, sym c.raw_fits.ensures ∙ c.if-not-raw_fits.true)) refl

pub returns-then-is_raw : goal.returns-then-is_raw
unfolding fits
returns-then-is_raw c =
    let g = c.args in
    let raw = sym c.is_raw.ensures ∙ c.if-is_raw.true in
    put_passed (rw (raw, sym c.raw_fits.ensures ∙ c.if-not-raw_fits.false))
    (put_one g.room.now _ _ _ (raw_operand_lem (place_by g.place) g.operand raw) (sym (small g.operand.raw (omega arith))))

-- any other operand, by the test of its own fields, and by whether it has a relative token
pub returns-then-not-own_fits : goal.returns-then-not-own_fits
unfolding fits
returns-then-not-own_fits c =
    put_failed (rw (sym c.is_raw.ensures ∙ c.if-is_raw.false, sym c.own_fits.ensures ∙ c.if-not-own_fits.true)) refl

pub returns-then-not-relative_fits : goal.returns-then-not-relative_fits
unfolding fits
returns-then-not-relative_fits c =
    put_failed
    (rw (
      sym c.is_raw.ensures ∙ c.if-is_raw.false,
      sym c.own_fits.ensures ∙ c.if-not-own_fits.false,
      rw c.is_free.ensures at c.if-is_free-operand.true,
      sym c.relative_fits.ensures ∙ c.if-not-relative_fits.true,
    ))
    refl

pub returns-then-is_free-operand : goal.returns-then-is_free-operand
unfolding fits
returns-then-is_free-operand c =
    let g = c.args in
    let read = sym c.is_raw.ensures ∙ c.if-is_raw.false in
    let brings = rw c.is_free.ensures at c.if-is_free-operand.true in
    put_passed
    (rw (read, sym c.own_fits.ensures ∙ c.if-not-own_fits.false, brings, sym c.relative_fits.ensures ∙ c.if-not-relative_fits.false))
    (put_two g.room.now _ _ _ _ _ _ (omega arith) (two_operand (place_by g.place) g.operand read brings)
    c.operand_token.ensures c.relative_token.ensures c.put_token.ensures)

pub returns-then-not-relative_none : goal.returns-then-not-relative_none
unfolding fits
returns-then-not-relative_none c =
    put_failed
    (rw (
      sym c.is_raw.ensures ∙ c.if-is_raw.false,
      sym c.own_fits.ensures ∙ c.if-not-own_fits.false,
      rw c.is_free.ensures at c.if-is_free-operand.false,
      sym c.relative_none.ensures ∙ c.if-not-relative_none.true,
    ))
    refl

pub returns : goal.returns
unfolding fits
returns c =
    let g = c.args in
    let read = sym c.is_raw.ensures ∙ c.if-is_raw.false in
    let alone = rw c.is_free.ensures at c.if-is_free-operand.false in
    put_passed
    (rw (read, sym c.own_fits.ensures ∙ c.if-not-own_fits.false, alone, sym c.relative_none.ensures ∙ c.if-not-relative_none.false))
    (put_one g.room.now _ _ _ (one_operand (place_by g.place) g.operand read alone) c.operand_token-2.ensures)

pub slice_bounds-put_token-count : goal.slice_bounds-put_token-count
slice_bounds-put_token-count c = simp length-set (omega arith)

pub slice_bounds-put_token-start : goal.slice_bounds-put_token-start
slice_bounds-put_token-start c = simp length-set (omega arith)

pub put_token-requires : goal.put_token-requires
put_token-requires c = rw (lent_length, length-set) (omega arith)

pub shape_of-room-then-is_free-operand : goal.shape_of-room-then-is_free-operand
shape_of-room-then-is_free-operand c = (returns-then-is_free-operand c).long
