use mathlib.Core.Path.{ap, ◌∙◌}
use native.Mathlib.Omega.{arith}
use Rattle.std.specs.Prelude.{Result, is_ok}
use Rattle.tokens.specs.declared.Wrong.{Wrong}
use Rattle.door.proofs.Taking.{relative_took}
use Rattle.door.proofs.take_relative.Goals as goal

pub returns-clause-took : goal.returns-clause-took
returns-clause-took c offset =
    let g = c.args in
    let found = c.in_ok-get.ensures.lookup in
    c.then_some.ensures
    ∙ relative_took g.version offset g.at _ _ g.behind.now found.3.0 (found.4 (omega arith) 0)
    (c.is_ok.ensures.value ∙ ap (λ (told : Result (Unit {0}) Wrong). is_ok told) c.judge_relative.ensures)
