use mathlib.Core.Path.{◌≡◌, sym, ◌∙◌}
use native.Mathlib.Omega.{arith}
use Rattle.std.proofs.lemmas.Grind.{common_steps}
use Rattle.door.specs.Quick.{free_read}
use Rattle.door.proofs.Quickly.{free_read_lem}
use Rattle.door.proofs.quick.free_read.Goals as goal

pub returns-then-read_laid-clause-stands : goal.returns-then-read_laid-clause-stands
unfolding free_read
returns-then-read_laid-clause-stands c h =
    let g = c.args in
    let is : c.held.result ≡ free_read g.version g.token = grind (arith, common_steps) in
    free_read_lem g.version g.token (omega arith) (sym is ∙ h)
