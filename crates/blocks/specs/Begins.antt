-- Document 01, "Blocks": which rows of classes begin a lawful stream.
use Rattle.std.specs.Prelude.{ℕ, Bool, false, ◌||◌, List, [], ◌∷◌}
use Rattle.paper.specs.Notation.{pick}
use Rattle.paper.specs.Blocks.{Cut, out, then, Body}
use Rattle.paper.specs.Walk.{is_end}
use Rattle.paper.specs.declared.Class.{Class}
use Rattle.paper.specs.declared.Class.TheVariants.{One, Opens, Closes}
use Rattle.paper.specs.declared.Closer.TheVariants.{End}
use Rattle.paper.specs.declared.Reason.{Reason}
use Rattle.paper.specs.declared.Reason.TheVariants.{Block as BLOCK, Depth as DEPTH, Tail as TAIL}

-- "a stream is a body and END", and nothing stands behind
abbrev pub Lawful : Cut → Type 0
Lawful a = (p : ℕ) × (q : ℕ) × Body 0 false false a (then (Closes End) p (out q))

-- a has these classes first, at whatever positions, and b follows
pub data Leads : List Class → Cut → Cut → Type 0 where
  nothing : {a : Cut} → Leads [] a a
  first : {c : Class} {cs : List Class} {p : ℕ} {a b : Cut} → Leads cs a b → Leads (c ∷ cs) (then c p a) b

-- some lawful stream has these classes first
abbrev pub Begins : List Class → Type 0
Begins cs = (a : Cut) × (b : Cut) × Leads cs a b × Lawful a

abbrev pub ends_stream : Class → Bool
ends_stream (One s) = false
ends_stream (Opens o) = false
ends_stream (Closes c) = is_end c

-- END stands among these classes
abbrev pub ended : List Class → Bool
ended [] = false
ended (c ∷ cs) = ends_stream c || ended cs

-- why no instruction of this class may stand at a place: DEPTH, "a 25th block would open", of an opener, and BLOCK, "nesting rule broken,
-- or END with a block open", of any other
abbrev pub nesting_reason : Class → Reason
nesting_reason (One s) = BLOCK
nesting_reason (Opens o) = DEPTH
nesting_reason (Closes c) = BLOCK

-- behind END it is TAIL, "tokens after END"
abbrev pub reason_after : List Class → Class → Reason
reason_after cs c = pick (ended cs) TAIL (nesting_reason c)
