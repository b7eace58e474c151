-- Document 01, "The edit": "Boundaries are the instruction positions from 1 up to and including END that a walk of the old stream reaches,
-- a refused instruction's own included; the token count is none."
use Rattle.std.specs.Prelude.{ℕ, Bool, true, false, ◌&&◌, List, [], ◌∷◌, eqb}
use Rattle.std.specs.Bool.{beq}
use Rattle.paper.specs.Notation.{pick}
use Rattle.paper.specs.Blocks.{Cut, out, wrong, then}
use Rattle.paper.specs.Walk.{Kind, opened, past_else, WalkState, begin, Next, go, bad, finish, step}
use Rattle.paper.specs.Stream.{cut_from}
use Rattle.paper.specs.declared.Version.{Version}
use Rattle.paper.specs.declared.Opener.{Opener}
use Rattle.paper.specs.declared.Opener.TheVariants.{If, Loop, Rep}

-- what a walk carries at a position: it is no boundary, or these blocks are open, and a PHASE has stood or not
pub data Standing : Type 0 where
  nowhere : Standing
  stands_with : WalkState → Standing

abbrev pub onward : Next → (WalkState → Standing) → Standing
onward (go w) next = next w
onward (bad reason) next = nowhere
onward finish next = nowhere

unfoldable pub standing : ℕ → Cut → WalkState → Standing
standing q (out p) w = nowhere
standing q (wrong p r) w = pick (eqb p q) (stands_with w) nowhere
standing q (then c p rest) w = pick (eqb p q) (stands_with w) (onward (step w c) (λ next. standing q rest next))

unfoldable pub standing_at : Version → List ℕ → ℕ → Standing
standing_at v stream q = standing q (cut_from v stream 1) begin

abbrev pub is_boundary : Standing → Bool
is_boundary nowhere = false
is_boundary (stands_with w) = true

-- "the same open blocks, in order, with the same ELSE marks"
abbrev pub same_opener : Opener → Opener → Bool
same_opener If If = true
same_opener If Loop = false
same_opener If Rep = false
same_opener Loop If = false
same_opener Loop Loop = true
same_opener Loop Rep = false
same_opener Rep If = false
same_opener Rep Loop = false
same_opener Rep Rep = true

abbrev pub same_kind : Kind → Kind → Bool
same_kind (opened o) (opened p) = same_opener o p
same_kind (opened o) past_else = false
same_kind past_else (opened o) = false
same_kind past_else past_else = true

abbrev pub same_blocks : List Kind → List Kind → Bool
same_blocks [] [] = true
same_blocks [] (l ∷ ls) = false
same_blocks (k ∷ ks) [] = false
same_blocks (k ∷ ks) (l ∷ ls) = same_kind k l && same_blocks ks ls

-- document 02, Q-4: "JOINED now also wants the same PHASE state"
abbrev pub same_state : WalkState → WalkState → Bool
same_state w u = same_blocks w.kinds u.kinds && beq w.phased u.phased

abbrev pub meets : Standing → Standing → Bool
meets nowhere s = false
meets (stands_with w) nowhere = false
meets (stands_with w) (stands_with u) = same_state w u
