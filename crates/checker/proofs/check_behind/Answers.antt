use Rattle.std.proofs.Common.{◌∙◌}
use Rattle.checker.proofs.ItemEnds.{handed_on}
use Rattle.checker.proofs.Whole.{stream_stopped, stream_broken}
use Rattle.checker.proofs.check_behind.Goals as goal

pub returns-in_err-stop : goal.returns-in_err-stop
returns-in_err-stop c =
    rw (handed_on _ _ c.from_residual.ensures.1) (stream_broken c.in_err-stop.ensures)

pub returns : goal.returns
returns c = c.finish.ensures ∙ stream_stopped c.in_ok-stop.ensures
