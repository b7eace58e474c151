use Prim.Native.Nat.{◌<◌}
use mathlib.Core.Path.{sym, ap, ◌∙◌}
use mathlib.Core.Logic.{inl, inr}
use native.Mathlib.Omega.{arith}
use lib.ListN.{length}
use borrow.Author.Tests.{lt-leb, le-leb}
use Rattle.std.proofs.lemmas.Grind.{common_steps}
use Rattle.paper.specs.declared.Class.TheVariants.{One}
use Rattle.paper.specs.declared.Single.TheVariants.{Plain}
use Rattle.std.specs.Bool.{then_some}
use Rattle.told.proofs.Numbers.{yes_fits}
use Rattle.door.proofs.Passing.{passes_none, passes_short, passes_told, claim_few}
use Rattle.door.proofs.pass.Goals as goal

pub returns-in_err-wanted : goal.returns-in_err-wanted
returns-in_err-wanted c = c.from_residual.ensures ∙ sym (passes_none c.args.version c.args.first c.args.behind.now c.in_err-wanted.ensures)

pub returns-in_err-claimed : goal.returns-in_err-claimed
returns-in_err-claimed c =
    let g = c.args in
    let wants = c.in_ok-wanted.ensures in
    let short : length g.behind.now < c.in_ok-wanted.wanted.claim = elim c.in_err-claimed.ensures.lookup.0 [ inl none ↦ absurd (omega arith) | inr less ↦ less ] in
    c.from_residual-in_err-claimed.ensures
    ∙ sym (passes_short g.version g.first g.behind.now _ _ wants.many wants.some wants.claims (lt-leb _ _ short))

pub returns : goal.returns
returns c =
    let g = c.args in
    let wants = c.in_ok-wanted.ensures in
    let found = c.in_ok-claimed.ensures.lookup.0 in
    let few = claim_few g.version g.first g.behind.now _ _ wants.many wants.some wants.claims in
    c.then_some.ensures
    ∙ ap (then_some c.fits.result) (c.yes.ensures ∙ yes_fits c.in_ok-wanted.wanted.claim (One Plain) (omega arith))
    ∙ sym
    (passes_told g.version g.first g.behind.now _ _ wants.many wants.some wants.claims (le-leb _ _ found.1) c.in_ok-claimed.claimed.now
    (found.2 ∙ grind (arith, common_steps)) _ _ wants.writes wants.reads c.fits.result c.fits.ensures)
