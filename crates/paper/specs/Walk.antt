-- Document 01, "Blocks": the walk with open blocks; document 02, Q-4: PHASE "belongs to the walk's state".
use Rattle.std.specs.Prelude.{ℕ, suc, Bool, true, false, ◌||◌, List, [], ◌∷◌, ltb, length, Ok, Err}
use Rattle.paper.specs.Notation.{pick}
use Rattle.paper.specs.Numbers.{refusal}
use Rattle.paper.specs.Blocks.{Cut, out, wrong, then, may_stand, is_phase, loops_in, most_open}
use Rattle.paper.specs.declared.Opener.{Opener}
use Rattle.paper.specs.declared.Opener.TheVariants.{If, Loop, Rep}
use Rattle.paper.specs.declared.Closer.{Closer}
use Rattle.paper.specs.declared.Closer.TheVariants.{Else, EndIf, EndLoop, EndRep, End}
use Rattle.paper.specs.declared.Class.{Class}
use Rattle.paper.specs.declared.Class.TheVariants.{One, Opens, Closes}
use Rattle.paper.specs.declared.Single.TheVariants.{Comment, Plain, Break, Label, Return, Phase}
use Rattle.paper.specs.declared.Reason.{Reason}
use Rattle.paper.specs.declared.Reason.TheVariants.{RunOut as RUN_OUT, Block as BLOCK, Depth as DEPTH, Tail as TAIL}
use Rattle.paper.specs.Judgements.{Verdict}

-- an open block: its opener, or an IF past its ELSE
pub data Kind : Type 0 where
  opened : Opener → Kind
  past_else : Kind

-- whether a LOOP or a REP is open; the open blocks stand innermost first
abbrev pub loops : Kind → Bool → Bool
loops (opened o) in_loop = loops_in o in_loop
loops past_else in_loop = in_loop

abbrev pub in_loop : List Kind → Bool
in_loop [] = false
in_loop (k ∷ ks) = loops k (in_loop ks)

-- a closer, by its name
abbrev pub is_else : Closer → Bool
is_else Else = true
is_else EndIf = false
is_else EndLoop = false
is_else EndRep = false
is_else End = false

abbrev pub is_end_if : Closer → Bool
is_end_if Else = false
is_end_if EndIf = true
is_end_if EndLoop = false
is_end_if EndRep = false
is_end_if End = false

abbrev pub is_end_loop : Closer → Bool
is_end_loop Else = false
is_end_loop EndIf = false
is_end_loop EndLoop = true
is_end_loop EndRep = false
is_end_loop End = false

abbrev pub is_end_rep : Closer → Bool
is_end_rep Else = false
is_end_rep EndIf = false
is_end_rep EndLoop = false
is_end_rep EndRep = true
is_end_rep End = false

abbrev pub is_end : Closer → Bool
is_end Else = false
is_end EndIf = false
is_end EndLoop = false
is_end EndRep = false
is_end End = true

-- the closer that is a block's own
abbrev pub closes_opener : Closer → Opener → Bool
closes_opener c If = is_end_if c
closes_opener c Loop = is_end_loop c
closes_opener c Rep = is_end_rep c

abbrev pub closes : Closer → Kind → Bool
closes c (opened o) = closes_opener c o
closes c past_else = is_end_if c

-- an ELSE, at an IF that has none yet
abbrev pub elses_opener : Closer → Opener → Bool
elses_opener c If = is_else c
elses_opener c Loop = false
elses_opener c Rep = false

abbrev pub elses : Closer → Kind → Bool
elses c (opened o) = elses_opener c o
elses c past_else = false

-- what a walk carries: the open blocks, innermost first, and whether a PHASE has stood
pub record WalkState : Type 0 where
  pub kinds : List Kind
  pub phased : Bool

-- a stream begins with no block open and no PHASE before it
abbrev pub begin : WalkState
begin = record { kinds = []; phased = false }

-- behind an opener or a closer, with these blocks open
abbrev pub nested : List Kind → WalkState → WalkState
nested ks w = record { kinds = ks; phased = w.phased }

-- behind one instruction, which is a PHASE or not
abbrev pub marked : Bool → WalkState → WalkState
marked phase w = record { kinds = w.kinds; phased = w.phased || phase }

-- what an instruction does to the walk: it goes on, is refused, or is at its end
pub data Next : Type 0 where
  go : WalkState → Next
  bad : Reason → Next
  finish : Next

abbrev pub close_at : Closer → List Kind → WalkState → Next
close_at c [] w = pick (is_end c) finish (bad BLOCK)
close_at c (k ∷ ks) w = pick (elses c k) (go (nested (past_else ∷ ks) w)) (pick (closes c k) (go (nested ks w)) (bad BLOCK))

abbrev pub step : WalkState → Class → Next
step w (One s) = pick (may_stand (length w.kinds) (in_loop w.kinds) w.phased s) (go (marked (is_phase s) w)) (bad BLOCK)
step w (Opens o) = pick (ltb (length w.kinds) most_open) (go (nested (opened o ∷ w.kinds) w)) (bad DEPTH)
step w (Closes c) = close_at c w.kinds w

-- "the number of instructions, comments and END not counted"
abbrev pub counts : Class → ℕ → ℕ
counts (One Comment) n = n
counts (One Plain) n = suc n
counts (One Break) n = suc n
counts (One Label) n = suc n
counts (One Return) n = suc n
counts (One Phase) n = suc n
counts (Opens o) n = suc n
counts (Closes Else) n = suc n
counts (Closes EndIf) n = suc n
counts (Closes EndLoop) n = suc n
counts (Closes EndRep) n = suc n
counts (Closes End) n = n

-- "tokens after END" are TAIL, at the "first of them"
abbrev pub at_end : ℕ → Cut → Verdict
at_end count (out p) = Ok count
at_end count (wrong p r) = Err (refusal TAIL p)
at_end count (then c p rest) = Err (refusal TAIL p)

abbrev pub on_next : Next → ℕ → ℕ → Cut → (WalkState → Verdict) → Verdict
on_next (go w) count p rest walk = walk w
on_next (bad reason) count p rest walk = Err (refusal reason p)
on_next finish count p rest walk = at_end count rest

-- the verdict of the walk behind so many instructions, in this state
unfoldable pub walk : ℕ → Cut → WalkState → Verdict
walk count (out p) w = Err (refusal RUN_OUT p)
walk count (wrong p r) w = Err r
walk count (then c p rest) w = on_next (step w c) count p rest (λ next. walk (counts c count) rest next)
