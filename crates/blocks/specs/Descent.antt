-- The grammar as a descent: what a body, an item and a block take, or the refusal.
use Rattle.std.specs.Prelude.{ℕ, zero, suc, Bool, false, ◌||◌, ltb, Err}
use Rattle.paper.specs.Notation.{pick}
use Rattle.paper.specs.Numbers.{refusal}
use Rattle.paper.specs.Blocks.{Cut, out, wrong, then, may_stand, class_phase, loops_in, most_open}
use Rattle.paper.specs.Walk.{Kind, opened, past_else, is_end, closes, elses, at_end}
use Rattle.paper.specs.declared.Class.{Class}
use Rattle.paper.specs.declared.Class.TheVariants.{One, Opens, Closes}
use Rattle.paper.specs.declared.Opener.{Opener}
use Rattle.paper.specs.declared.Closer.{Closer}
use Rattle.paper.specs.declared.Reason.TheVariants.{RunOut as RUN_OUT, Block as BLOCK, Depth as DEPTH}
use Rattle.paper.specs.declared.Refusal.{Refusal}
use Rattle.paper.specs.Judgements.{Verdict}

-- a body stops at a closer, with its position and what follows it, or is refused
pub data BodyEnd : Type 0 where
  stopped : Closer → ℕ → Cut → BodyEnd
  broken : Refusal → BodyEnd

-- an item or a block is passed; there is no item but a closer; or it is refused
pub data ItemEnd : Type 0 where
  passed : Cut → ItemEnd
  closer : Closer → ℕ → Cut → ItemEnd
  refused : Refusal → ItemEnd

-- after an item: the rest of the body
abbrev pub on_item : ItemEnd → (Cut → BodyEnd) → BodyEnd
on_item (passed a) body = body a
on_item (closer c p a) body = stopped c p a
on_item (refused r) body = broken r

-- a closer that must be the block's own
abbrev pub closing : Kind → Closer → ℕ → Cut → ItemEnd
closing k c p a = pick (closes c k) (passed a) (refused (refusal BLOCK p))

-- the last body of a block
abbrev pub on_last : Kind → BodyEnd → ItemEnd
on_last k (stopped c p a) = closing k c p a
on_last k (broken r) = refused r

-- the first body of a block; behind the ELSE of an IF a second one follows
abbrev pub on_first : Opener → BodyEnd → (Cut → BodyEnd) → ItemEnd
on_first o (stopped c p a) second = pick (elses c (opened o)) (on_last past_else (second a)) (closing (opened o) c p a)
on_first o (broken r) second = refused r

-- the first number bounds how deep the calls go; a body keeps the mark of a PHASE for its own items, and answers without it
unfoldable mutual
  pub body : ℕ → ℕ → Bool → Bool → Cut → BodyEnd
  body zero depth in_loop phased a = broken (refusal RUN_OUT 0)
  body (suc most) depth in_loop phased (out p) = broken (refusal RUN_OUT p)
  body (suc most) depth in_loop phased (wrong p r) = broken r
  body (suc most) depth in_loop phased (then c p a) = on_item (item most depth in_loop phased c p a) (λ b. body most depth in_loop (phased || class_phase c) b)

  pub item : ℕ → ℕ → Bool → Bool → Class → ℕ → Cut → ItemEnd
  item zero depth in_loop phased c p a = refused (refusal RUN_OUT 0)
  item (suc most) depth in_loop phased (One s) p a = pick (may_stand depth in_loop phased s) (passed a) (refused (refusal BLOCK p))
  item (suc most) depth in_loop phased (Opens o) p a = pick (ltb depth most_open) (block most depth in_loop phased o a) (refused (refusal DEPTH p))
  item (suc most) depth in_loop phased (Closes c) p a = closer c p a

  pub block : ℕ → ℕ → Bool → Bool → Opener → Cut → ItemEnd
  block zero depth in_loop phased o a = refused (refusal RUN_OUT 0)
  block (suc most) depth in_loop phased o a =
      on_first o (body most (suc depth) (loops_in o in_loop) phased a) (λ b. body most (suc depth) in_loop phased b)

-- a bound that is enough
unfoldable pub fuel : Cut → ℕ
fuel (out p) = 3
fuel (wrong p r) = 3
fuel (then c p a) = suc (suc (suc (fuel a)))

-- where this many blocks are open, a LOOP or REP among them or not, and a PHASE has stood or not: what a body takes of a cut
unfoldable pub body_of : ℕ → Bool → Bool → Cut → BodyEnd
body_of depth in_loop phased a = body (fuel a) depth in_loop phased a

-- what an item takes that begins with this class at this position
unfoldable pub item_of : ℕ → Bool → Bool → Class → ℕ → Cut → ItemEnd
item_of depth in_loop phased c p a = item (fuel a) depth in_loop phased c p a

-- what a block takes behind its opener
unfoldable pub block_of : ℕ → Bool → Bool → Opener → Cut → ItemEnd
block_of depth in_loop phased o a = block (fuel a) depth in_loop phased o a

-- "a stream is a body and END"
abbrev pub on_stream : ℕ → BodyEnd → Verdict
on_stream count (stopped c p a) = pick (is_end c) (at_end count a) (Err (refusal BLOCK p))
on_stream count (broken r) = Err r

-- the verdict of the descent, where a yes gives this count
unfoldable pub descended : ℕ → Cut → Verdict
descended count a = on_stream count (body_of 0 false false a)
