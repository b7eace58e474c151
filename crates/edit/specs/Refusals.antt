-- Answers by their refusals: a yes has none.
use Rattle.std.specs.Prelude.{Ok, Err}
use Rattle.std.proofs.Math.Option.{Option, none, some}
use Rattle.paper.specs.declared.Refusal.{Refusal}
use Rattle.paper.specs.Judgements.{Verdict}
use Rattle.edit.specs.Edit.{Outcome}

-- of an edit
abbrev pub edit_refusal : Outcome → Option Refusal
edit_refusal (Ok edited) = none
edit_refusal (Err r) = some r

-- of a check
abbrev pub check_refusal : Verdict → Option Refusal
check_refusal (Ok count) = none
check_refusal (Err r) = some r
