use Prim.Native.Nat.{◌-◌}
use native.Mathlib.Omega.{arith}
use mathlib.Core.Path.{refl, sym, ◌∙◌}
use mathlib.Core.List.{◌++◌}
use lib.ListN.{length, drop, length-append, length-take, length-drop}
use borrow.Author.Tests.{leb-true}
use Rattle.lists.proofs.Stores.{lent_stored}
use Rattle.writer.proofs.Paste.{stored}
use Rattle.writer.proofs.place.Goals as goal

pub returns-then-not-fits : goal.returns-then-not-fits
returns-then-not-fits c =
    let g = c.args in
    (rw (length-append g.tokens.now g.behind.now, sym c.fits.ensures ∙ c.if-not-fits.true), refl)

pub put-requires : goal.put-requires
put-requires c =
    let g = c.args in
    omega (arith, sym c.fits.ensures ∙ c.if-not-fits.false, leb-true, length-take (length g.buffer.now - g.at) (drop g.at g.buffer.now), length-drop g.at g.buffer.now)

pub returns : goal.returns
returns c =
    let g = c.args in
    let fits = sym c.fits.ensures ∙ c.if-not-fits.false in
    let long = length-append g.tokens.now g.behind.now in (
      rw (long, fits),
      lent_stored g.buffer.now (g.tokens.now ++ g.behind.now) _ g.at (omega (arith, fits, leb-true)) c.put.ensures
          ∙ stored g.buffer.now (g.tokens.now ++ g.behind.now) g.at (omega (arith, long, leb-true)),
    )

pub offset_bounds-buffer-at : goal.offset_bounds-buffer-at
offset_bounds-buffer-at c = omega (arith, sym c.fits.ensures ∙ c.if-not-fits.false, leb-true)

pub slice_bounds-put-count : goal.slice_bounds-put-count
slice_bounds-put-count c = omega (arith, sym c.fits.ensures ∙ c.if-not-fits.false, leb-true)

pub slice_bounds-put-start : goal.slice_bounds-put-start
slice_bounds-put-start c = omega (arith, sym c.fits.ensures ∙ c.if-not-fits.false, leb-true)

pub overflow_add-result : goal.overflow_add-result
overflow_add-result c = omega (arith, sym c.fits.ensures ∙ c.if-not-fits.false, leb-true)
