use mathlib.Core.Path.{◌≡◌, refl, sym, ap, ◌∙◌}
use mathlib.Core.Bool.{true, false}
use Prim.Native.Nat.{ℕ, ◌+◌}
use lib.Dec.{eqb}
use Rattle.paper.specs.Instruction.{judged}
use Rattle.paper.specs.Judgements.{Judged, good_instruction, bad_instruction}
use Rattle.paper.proofs.Bools.{apart}
use Rattle.told.specs.Numbered.{judged_number, is_refusal, size_in}
use Rattle.told.proofs.Numbers.{yes_even, yes_size, refusal_odd}
use Rattle.stretches.proofs.Stretches.{told_whole}
use Rattle.writer.specs.Laid.{is_whole}
use Rattle.writer.proofs.is_whole.Goals as goal

refused : (j : Judged) (told n : ℕ) → told ≡ judged_number j → is_refusal told ≡ true → false ≡ is_whole j n
refused (good_instruction size class) told n t f = let even = sym (yes_even size class) ∙ ap is_refusal (sym t) ∙ f in apart (cc)
refused (bad_instruction r) told n t f = refl

passed : (j : Judged) (told n : ℕ) → told ≡ judged_number j → is_refusal told ≡ false → eqb (size_in told + 1) n ≡ is_whole j n
passed (good_instruction size class) told n t f = rw (t, yes_size size class)
passed (bad_instruction r) told n t f = let odd = sym (refusal_odd r) ∙ ap is_refusal (sym t) ∙ f in apart (cc)

pub returns-then-is_refused : goal.returns-then-is_refused
returns-then-is_refused c =
    let g = c.args in
    refused (judged g.version g.tokens.now) c.judge_at-told.result _ (c.judge_at-told.ensures ∙ told_whole g.version g.tokens.now 0)
    (sym c.is_refused.ensures ∙ c.if-is_refused.true)

pub returns : goal.returns
returns c =
    let g = c.args in
    let told = c.judge_at-told in
    rw c.size_of.ensures
    (passed (judged g.version g.tokens.now) told.result _ (told.ensures ∙ told_whole g.version g.tokens.now 0)
    (sym c.is_refused.ensures ∙ c.if-is_refused.false))
