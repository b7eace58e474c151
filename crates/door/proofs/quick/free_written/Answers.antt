use mathlib.Core.Path.{◌≡◌, sym, ◌∙◌}
use native.Mathlib.Omega.{arith}
use Rattle.std.proofs.lemmas.Grind.{common_steps}
use Rattle.door.specs.Quick.{free_written}
use Rattle.door.proofs.Quickly.{free_written_lem}
use Rattle.door.proofs.quick.free_written.Goals as goal

pub returns-then-written_laid-clause-stands : goal.returns-then-written_laid-clause-stands
unfolding free_written
returns-then-written_laid-clause-stands c h =
    let g = c.args in
    let is : c.held.result ≡ free_written g.version g.token = grind (arith, common_steps) in
    free_written_lem g.version g.token (omega arith) (sym is ∙ h)
