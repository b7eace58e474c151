-- Document 01, "Blocks": "After the version a stream is a body and END. A body is a row of items; an item is one instruction or a block,
-- and a block holds bodies: IF or IFC, body, at most one ELSE with a body, ENDIF; LOOP, body, ENDLOOP; REP, body, ENDREP."
use Rattle.std.specs.Prelude.{ℕ, zero, suc, ◌<◌, ◌≡◌, Bool, true, false, not, ◌&&◌, ◌||◌, List, [], ◌∷◌}
use Rattle.paper.specs.Notation.{pick, among}
use Rattle.paper.specs.OpcodeTable.{IF, IFC, LOOP, REP, ELSE, ENDIF, ENDLOOP, ENDREP, BREAK, BREAKC, BREAKP, LABEL, RET, PHASE}
use Rattle.paper.specs.declared.Single.{Single}
use Rattle.paper.specs.declared.Single.TheVariants.{Comment, Plain, Break, Label, Return, Phase}
use Rattle.paper.specs.declared.Opener.{Opener}
use Rattle.paper.specs.declared.Opener.TheVariants.{If, Loop, Rep}
use Rattle.paper.specs.declared.Closer.{Closer}
use Rattle.paper.specs.declared.Closer.TheVariants.{Else, EndIf, EndLoop, EndRep}
use Rattle.paper.specs.declared.Class.{Class}
use Rattle.paper.specs.declared.Class.TheVariants.{One, Opens, Closes}
use Rattle.paper.specs.declared.Refusal.{Refusal}

-- what opcodes are to the blocks
pub record Classed : Type 0 where
  pub opcodes : List ℕ
  pub class : Class

abbrev pub classed : List ℕ → Class → Classed
classed opcodes class = record { opcodes = opcodes; class = class }

unfoldable pub classes : List Classed
classes =
    classed (IF ∷ IFC ∷ []) (Opens If) ∷
    classed (LOOP ∷ []) (Opens Loop) ∷
    classed (REP ∷ []) (Opens Rep) ∷
    classed (ELSE ∷ []) (Closes Else) ∷
    classed (ENDIF ∷ []) (Closes EndIf) ∷
    classed (ENDLOOP ∷ []) (Closes EndLoop) ∷
    classed (ENDREP ∷ []) (Closes EndRep) ∷
    classed (BREAK ∷ BREAKC ∷ BREAKP ∷ []) (One Break) ∷
    classed (LABEL ∷ []) (One Label) ∷
    classed (RET ∷ []) (One Return) ∷
    -- document 02, Q-4: "PHASE (opcode FFFD, ps_1_4 only) stands at most once and belongs to the walk's state"
    classed (PHASE ∷ []) (One Phase) ∷
    []

-- any other opcode of the table is one instruction that may stand anywhere
abbrev pub class_among : List Classed → ℕ → Class
class_among [] opcode = One Plain
class_among (row ∷ rows) opcode = pick (among opcode row.opcodes) row.class (class_among rows opcode)

unfoldable pub class_of : ℕ → Class
unfolding classes
class_of opcode = class_among classes opcode

-- A stream from some position on, cut into instructions: no token is left; an instruction that is refused, with its position and the refusal;
-- an instruction's class, its position, and what follows.
pub data Cut : Type 0 where
  out : ℕ → Cut
  wrong : ℕ → Refusal → Cut
  then : Class → ℕ → Cut → Cut

abbrev pub is_zero : ℕ → Bool
is_zero zero = true
is_zero (suc n) = false

-- "BREAK, BREAKC, BREAKP stand inside some LOOP or REP, at any depth. LABEL and RET stand in no block." PHASE "stands at most once": where none has
-- stood before. That it stands in no block decides nothing, since no version with PHASE has an opcode that opens one; it keeps the mark
-- of a PHASE out of what a block hands back.
abbrev pub may_stand : ℕ → Bool → Bool → Single → Bool
may_stand depth in_loop phased Comment = true
may_stand depth in_loop phased Plain = true
may_stand depth in_loop phased Break = in_loop
may_stand depth in_loop phased Label = is_zero depth
may_stand depth in_loop phased Return = is_zero depth
may_stand depth in_loop phased Phase = is_zero depth && not phased

abbrev pub is_phase : Single → Bool
is_phase Comment = false
is_phase Plain = false
is_phase Break = false
is_phase Label = false
is_phase Return = false
is_phase Phase = true

abbrev pub class_phase : Class → Bool
class_phase (One s) = is_phase s
class_phase (Opens o) = false
class_phase (Closes c) = false

-- a stream begins with a PHASE
abbrev pub begins_phase : Cut → Bool
begins_phase (out p) = false
begins_phase (wrong p r) = false
begins_phase (then c p a) = class_phase c

abbrev pub loops_in : Opener → Bool → Bool
loops_in If in_loop = in_loop
loops_in Loop in_loop = true
loops_in Rep in_loop = true

abbrev pub closer_of : Opener → Closer
closer_of If = EndIf
closer_of Loop = EndLoop
closer_of Rep = EndRep

-- "At most 24 blocks are open."
abbrev pub most_open : ℕ
most_open = 24

-- `Body depth in_loop phased a b`: where this many blocks are open, a LOOP or REP among them or not, and a PHASE has stood before a or not,
-- a body takes the stream from a to b. No PHASE stands in a block, so that a block leaves the mark as it was.
mutual
  pub data Body : ℕ → Bool → Bool → Cut → Cut → Type 0 where
    no_item : {depth : ℕ} {in_loop phased : Bool} {a : Cut} → Body depth in_loop phased a a
    more : {depth : ℕ} {in_loop phased : Bool} {a b c : Cut} →
        Item depth in_loop phased a b → Body depth in_loop (phased || begins_phase a) b c → Body depth in_loop phased a c

  pub data Item : ℕ → Bool → Bool → Cut → Cut → Type 0 where
    one : {depth : ℕ} {in_loop phased : Bool} {s : Single} {p : ℕ} {a : Cut} →
        may_stand depth in_loop phased s ≡ true → Item depth in_loop phased (then (One s) p a) a
    block : {depth : ℕ} {in_loop phased : Bool} {a b : Cut} → depth < most_open → Block depth in_loop phased a b → Item depth in_loop phased a b

  pub data Block : ℕ → Bool → Bool → Cut → Cut → Type 0 where
    closed : {depth : ℕ} {in_loop phased : Bool} {o : Opener} {p q : ℕ} {a b : Cut} →
        Body (suc depth) (loops_in o in_loop) phased a (then (Closes (closer_of o)) q b) → Block depth in_loop phased (then (Opens o) p a) b
    with_else : {depth : ℕ} {in_loop phased : Bool} {p q r : ℕ} {a b c : Cut} →
        Body (suc depth) in_loop phased a (then (Closes Else) q b) →
        Body (suc depth) in_loop phased b (then (Closes EndIf) r c) → Block depth in_loop phased (then (Opens If) p a) c
