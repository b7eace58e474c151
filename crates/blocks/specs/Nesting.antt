-- Document 01, "Blocks": the verdict of the nesting alone, apart from the counting of instructions.
use Rattle.std.specs.Prelude.{ℕ, Err}
use Rattle.paper.specs.Numbers.{refusal}
use Rattle.paper.specs.Blocks.{Cut, out, wrong, then}
use Rattle.paper.specs.Walk.{WalkState, step, counts, on_next}
use Rattle.paper.specs.declared.Reason.TheVariants.{RunOut as RUN_OUT}
use Rattle.paper.specs.Judgements.{Verdict}

-- the walk with open blocks, where a yes gives this number
unfoldable pub nesting : ℕ → Cut → WalkState → Verdict
nesting number (out p) w = Err (refusal RUN_OUT p)
nesting number (wrong p r) w = Err r
nesting number (then c p rest) w = on_next (step w c) number p rest (λ next. nesting number rest next)

-- the instructions of a cut, "comments and END not counted"
unfoldable pub count_of : Cut → ℕ
count_of (out p) = 0
count_of (wrong p r) = 0
count_of (then c p rest) = counts c (count_of rest)
