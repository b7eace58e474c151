-- The open blocks as one number: a digit for each, the innermost lowest. No block has digit 0, so that 0 says that none is open.
use Rattle.paper.specs.declared.Reason.{Reason}
use Rattle.std.specs.Prelude.{ℕ, zero, suc, ◌+◌, ◌-◌, ◌*◌, ◌/◌, ◌%◌, ◌^◌, Bool, false, not, ◌&&◌, ◌||◌, List, [], ◌∷◌, ◌==◌, nat_lt, Option, Some, None, Result, Ok, Err}
use Rattle.paper.specs.Notation.{pick}
use Rattle.paper.specs.Walk.{Kind, opened, past_else, go, bad, finish}
use Rattle.paper.specs.Walk.{Next as Said}
use Rattle.paper.specs.declared.Class.{Class}
use Rattle.paper.specs.declared.Class.TheVariants.{One, Opens, Closes}
use Rattle.paper.specs.declared.Single.{Single}
use Rattle.paper.specs.declared.Single.TheVariants.{Comment, Plain, Break, Label, Return, Phase}
use Rattle.paper.specs.declared.Opener.{Opener}
use Rattle.paper.specs.declared.Opener.TheVariants.{If, Loop, Rep}
use Rattle.paper.specs.declared.Closer.{Closer}
use Rattle.paper.specs.declared.Closer.TheVariants.{Else, EndIf, EndLoop, EndRep, End}
use Rattle.paper.specs.declared.Reason.TheVariants.{Block as BLOCK, Depth as DEPTH}

abbrev pub base : ℕ
base = 5

abbrev pub opener_digit : Opener → ℕ
opener_digit If = 3
opener_digit Loop = 1
opener_digit Rep = 2

abbrev pub digit_of : Kind → ℕ
digit_of (opened o) = opener_digit o
digit_of past_else = 4

unfoldable pub kinds_number : List Kind → ℕ
kinds_number [] = 0
kinds_number (k ∷ ks) = kinds_number ks * base + digit_of k

-- what an instruction does to the open blocks: the walk goes on with these, or with none is at its end, or why the instruction may not stand
abbrev pub Next : Type 0
Next = Result (Option ℕ) Reason

-- what the walk with open blocks does next, said by their number
abbrev pub numbered : Said → Next
numbered (go w) = Ok (Some (kinds_number w.kinds))
numbered (bad reason) = Err reason
numbered finish = Ok None

-- the same step over any number, not only that of some open blocks

abbrev pub loop_digit : ℕ → Bool
loop_digit digit = digit == opener_digit Loop || digit == opener_digit Rep

-- among so many digits, the lowest first
abbrev pub loop_within : ℕ → ℕ → Bool
loop_within zero kinds = false
loop_within (suc most) kinds = loop_digit (kinds % base) || loop_within most (kinds / base)

-- a number has fewer digits than it counts
unfoldable pub in_loop_by : ℕ → Bool
in_loop_by kinds = loop_within kinds kinds

abbrev pub allowed_by : Bool → ℕ → Next
allowed_by allowed kinds = pick allowed (Ok (Some kinds)) (Err BLOCK)

abbrev pub stands_by : ℕ → Bool → Single → Next
stands_by kinds phased Comment = Ok (Some kinds)
stands_by kinds phased Plain = Ok (Some kinds)
stands_by kinds phased Break = allowed_by (in_loop_by kinds) kinds
stands_by kinds phased Label = allowed_by (kinds == 0) kinds
stands_by kinds phased Return = allowed_by (kinds == 0) kinds
stands_by kinds phased Phase = allowed_by (kinds == 0 && not phased) kinds

-- 24 digits, none of them 0, are at least base ^ 23, and 23 digits are below
abbrev pub opens_by : ℕ → Opener → Next
opens_by kinds o = pick (nat_lt kinds (base ^ 23)) (Ok (Some (kinds * base + opener_digit o))) (Err DEPTH)

abbrev pub closes_by : ℕ → Closer → Next
closes_by kinds Else = pick (kinds % base == opener_digit If) (Ok (Some (kinds + (digit_of past_else - opener_digit If)))) (Err BLOCK)
closes_by kinds EndIf = allowed_by (kinds % base == opener_digit If || kinds % base == digit_of past_else) (kinds / base)
closes_by kinds EndLoop = allowed_by (kinds % base == opener_digit Loop) (kinds / base)
closes_by kinds EndRep = allowed_by (kinds % base == opener_digit Rep) (kinds / base)
closes_by kinds End = pick (kinds == 0) (Ok None) (Err BLOCK)

abbrev pub next_by : ℕ → Bool → Class → Next
next_by kinds phased (One s) = stands_by kinds phased s
next_by kinds phased (Opens o) = opens_by kinds o
next_by kinds phased (Closes c) = closes_by kinds c
