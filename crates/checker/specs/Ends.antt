-- What the functions of the descent give back, in terms of the grammar's parts.
use Rattle.std.specs.Prelude.{ℕ, ◌+◌, ◌<◌, ◌≤◌, ◌≡◌, Bool, List, ltb, length, Result, Ok, Err}
use Rattle.paper.specs.Notation.{pick}
use Rattle.paper.specs.Numbers.{refusal}
use Rattle.paper.specs.Blocks.{Cut, out, wrong, then, most_open}
use Rattle.paper.specs.Walk.{is_end, closes_opener, counts}
use Rattle.paper.specs.Stream.{cut_from}
use Rattle.paper.specs.declared.Version.{Version}
use Rattle.paper.specs.declared.Class.TheVariants.{Closes}
use Rattle.paper.specs.declared.Single.{Single}
use Rattle.paper.specs.declared.Single.TheVariants.{Comment, Plain, Break, Label, Return, Phase}
use Rattle.paper.specs.declared.Opener.{Opener}
use Rattle.paper.specs.declared.Closer.{Closer}
use Rattle.paper.specs.declared.Reason.TheVariants.{RunOut as RUN_OUT, Block as BLOCK, Tail as TAIL}
use Rattle.paper.specs.declared.Refusal.{Refusal}
use Rattle.paper.specs.Judgements.{Verdict}
use Rattle.blocks.specs.Descent
use Rattle.blocks.specs.Descent.{stopped, broken, passed, closer, refused, body_of, item_of, block_of}
use Rattle.blocks.specs.Nesting.{count_of}
use Rattle.checker.specs.declared.Place.{Place}
use Rattle.checker.specs.declared.Around.{Around}
use Rattle.checker.specs.declared.Stop.{Stop}
use Rattle.checker.specs.declared.Found.{Found}
use Rattle.checker.specs.declared.Found.TheVariants.{Item, Closer as Closed}

abbrev pub place : ℕ → ℕ → Place
place at count = record { at = at; count = count }

abbrev pub around : ℕ → Bool → Around
around depth in_loop = record { depth = depth; in_loop = in_loop }

abbrev pub stop : Closer → Place → ℕ → Stop
stop c p next = record { closer = c; place = p; next = next }

-- what a body, an item and a block give back
abbrev pub BodyEnd : Type 0
BodyEnd = Result Stop Refusal

abbrev pub ItemEnd : Type 0
ItemEnd = Result Found Refusal

abbrev pub BlockEnd : Type 0
BlockEnd = Result Place Refusal

-- the grammar's answer for an answer with positions in a stream
abbrev pub body_end : Version → List ℕ → BodyEnd → Descent.BodyEnd
body_end v s (Ok t) = stopped t.closer t.place.at (cut_from v s t.next)
body_end v s (Err r) = broken r

abbrev pub item_end : Version → List ℕ → ℕ → ItemEnd → Descent.ItemEnd
item_end v s at (Ok (Item p)) = passed (cut_from v s p.at)
item_end v s at (Ok (Closed c next)) = closer c at (cut_from v s next)
item_end v s at (Err r) = refused r

abbrev pub block_end : Version → List ℕ → BlockEnd → Descent.ItemEnd
block_end v s (Ok p) = passed (cut_from v s p.at)
block_end v s (Err r) = refused r

-- the item at the front of a cut: no token is left, or the instruction is refused by itself, or it begins an item
abbrev pub item_at : ℕ → Bool → Bool → Cut → Descent.ItemEnd
item_at depth in_loop phased (out p) = refused (refusal RUN_OUT p)
item_at depth in_loop phased (wrong p r) = refused r
item_at depth in_loop phased (then c p a) = item_of depth in_loop phased c p a

-- where a body or an item begins: how many blocks are open, the position, and the count, which the position bounds
pub record StartsAt (s : List ℕ) (depth : ℕ) (p : Place) : Type 0 where
  pub depths : depth ≤ most_open
  pub starts : p.at ≤ length s
  pub few : p.count ≤ p.at

-- from one place on to another: the counts are those of the cutting
pub record Onward (v : Version) (s : List ℕ) (p q : Place) : Type 0 where
  pub after : p.at < q.at
  pub inside : q.at ≤ length s
  pub few : q.count ≤ q.at
  pub counted : q.count + count_of (cut_from v s q.at) ≡ p.count + count_of (cut_from v s p.at)

-- from a place on to a closer, and behind it
pub record Stops (v : Version) (s : List ℕ) (p : Place) (t : Stop) : Type 0 where
  pub after : p.at ≤ t.place.at
  pub closer : t.place.at < t.next
  pub inside : t.next ≤ length s
  pub few : t.place.count ≤ t.place.at
  pub counted : t.place.count + counts (Closes t.closer) (count_of (cut_from v s t.next)) ≡ p.count + count_of (cut_from v s p.at)

abbrev pub BodyWithin : Version → List ℕ → Place → BodyEnd → Type 0
BodyWithin v s p (Ok t) = Stops v s p t
BodyWithin v s p (Err r) = Unit

abbrev pub ItemWithin : Version → List ℕ → Place → ItemEnd → Type 0
ItemWithin v s p (Ok (Item q)) = Onward v s p q
ItemWithin v s p (Ok (Closed c next)) = Stops v s p (stop c p next)
ItemWithin v s p (Err r) = Unit

abbrev pub BlockWithin : Version → List ℕ → Place → BlockEnd → Type 0
BlockWithin v s p (Ok q) = Onward v s p q
BlockWithin v s p (Err r) = Unit

-- a body, an item, and a block behind its opener, from a place on: each is the grammar's, and keeps within the stream
pub record BodyIs (v : Version) (s : List ℕ) (b : Around) (phased : Bool) (p : Place) (r : BodyEnd) : Type 0 where
  pub is : body_end v s r ≡ body_of b.depth b.in_loop phased (cut_from v s p.at)
  pub within : BodyWithin v s p r

pub record ItemIs (v : Version) (s : List ℕ) (b : Around) (phased : Bool) (p : Place) (r : ItemEnd) : Type 0 where
  pub is : item_end v s p.at r ≡ item_at b.depth b.in_loop phased (cut_from v s p.at)
  pub within : ItemWithin v s p r

pub record BlockIs (v : Version) (s : List ℕ) (b : Around) (phased : Bool) (p : Place) (o : Opener) (r : BlockEnd) : Type 0 where
  pub is : block_end v s r ≡ block_of b.depth b.in_loop phased o (cut_from v s p.at)
  pub within : BlockWithin v s p r

-- what one instruction adds to the count: "comments and END not counted"
abbrev pub tally_of : Single → ℕ
tally_of Comment = 0
tally_of Plain = 1
tally_of Break = 1
tally_of Label = 1
tally_of Return = 1
tally_of Phase = 1

-- behind a block whose last body stops here: it must be at the block's own closer
abbrev pub closed_at : Opener → Stop → BlockEnd
closed_at o t = pick (closes_opener t.closer o) (Ok (place t.next (t.place.count + 1))) (Err (refusal BLOCK t.place.at))

-- the verdict of a stream of this length whose body stops here
abbrev pub ending : ℕ → Stop → Verdict
ending most t = pick (is_end t.closer) (pick (ltb t.next most) (Err (refusal TAIL t.next)) (Ok t.place.count)) (Err (refusal BLOCK t.place.at))
