-- The places of an accepted stream at which the reader stands are the boundaries of the edit.
use Rattle.std.specs.Prelude.{Some, Ok}
use Prim.Native.Nat.{ℕ, suc, ◌+◌, ◌<◌}
use mathlib.Core.Path.{◌≡◌, refl, sym, ap, ◌∙◌}
use mathlib.Core.Bool.{Bool, true, false, ◌||◌}
use mathlib.Core.List.{List, [], ◌∷◌, ◌++◌}
use native.Mathlib.Omega.{arith}
use lib.Dec.{eqb}
use lib.ListN.{length, drop, get_or, length-append, length-drop}
use borrow.Author.Tests.{eqb-true, eq-eqb}
use Rattle.paper.specs.Notation.{among}
use Rattle.paper.specs.Versions.{named}
use Rattle.paper.specs.Instruction.{judged}
use Rattle.paper.specs.Blocks.{Cut, then}
use Rattle.paper.specs.Walk.{WalkState, begin, Next, go, bad, finish, step}
use Rattle.paper.specs.Stream.{cut_from, verdict}
use Rattle.paper.specs.declared.Version.{Version}
use Rattle.paper.specs.Judgements.{good_instruction}
use Rattle.paper.specs.declared.Class.{Class}
use Rattle.blocks.specs.Begins.{Lawful, Leads, nothing, first, ends_stream}
use Rattle.blocks.specs.Reach.{Reaches, here, past, open_after}
use Rattle.blocks.proofs.Cutting.{cut_at}
use Rattle.blocks.proofs.Reach.{reaches_on, reaches_leads}
use Rattle.blocks.proofs.Refused.{says, open_append, begins_none}
use Rattle.cutting.specs.Cuttings.{joined, Chunks, last, next, Cutting, LawfulStream}
use Rattle.paper.proofs.Bools.{apart}
use Rattle.cutting.proofs.AcceptedIsACutting.{accepted_is_a_cutting}
use Rattle.checker.proofs.AcceptedIsGrammar.{accepted_is_grammar}
use Rattle.edit.specs.Boundaries.{standing_at, is_boundary}
use Rattle.edit.proofs.Standing.{Comes, stays, passes, ahead, standing_comes, reached_standing}
use Rattle.edit.proofs.SameBlocks.{boundary}
use Rattle.demands.specs.Reading.{places_read, boundaries_of, ReadPlace}
use Rattle.demands.specs.Demand2.{ReadAsCut}
use Rattle.listing.proofs.ChunkRead.{judged_here, inside, behind}
use Rattle.demands.proofs.Demand2.{demand_2}

-- a place among others
among_first : (p : ℕ) (ps : List ℕ) → among p (p ∷ ps) ≡ true
among_first p ps = rw (eq-eqb p p refl)

among_later : (test : Bool) (p : ℕ) (ps : List ℕ) → among p ps ≡ true → (test || among p ps) ≡ true
among_later true p ps h = refl
among_later false p ps h = h

-- the sizes of one instruction, judged twice
same_size : {m n : ℕ} {c d : Class} → good_instruction m c ≡ good_instruction n d → m ≡ n
same_size e = cc

-- where the walk comes to, a chunk begins
comes_among : {v : Version} {chunks : List (List ℕ)} {classes : List Class} → Chunks v chunks classes → (s : List ℕ) (at : ℕ) →
    drop at s ≡ joined chunks → (p : ℕ) {w u : WalkState} → p < length s → Comes v s at w p u → among p (boundaries_of chunks at) ≡ true
comes_among (last {first} {rest} alone) s at h p l stays = among_first at []
comes_among {v} (last {first} {rest} alone) s at h p l (passes j e i c) =
    let size = same_size (sym j ∙ judged_here v first rest [] alone s at h) in
    absurd (omega (arith, ahead c, size, ap length h, length-drop at s, length-append rest []))
comes_among (next {rest = rest} {chunks = chunks} alone other later) s at h p l stays = among_first at (boundaries_of chunks (at + suc (length rest)))
comes_among {v} (next {first} {rest} {class} {chunks} alone other later) s at h p l (passes j e i c) =
    let size = same_size (sym j ∙ judged_here v first rest (joined chunks) alone s at h) in
    among_later (eqb p at) p (boundaries_of chunks (at + suc (length rest)))
    (comes_among later s (at + suc (length rest)) (behind v first rest (joined chunks) alone s at h) p l (rw size at c))

-- the walk finishes at END alone
finish_end : (class : Class) (w : WalkState) → step w class ≡ finish → ends_stream class ≡ true
finish_end class w e = rw e at (says class w)

-- one class more
leads_more : {cs : List Class} {a b : Cut} {c : Class} {p : ℕ} → Leads cs a (then c p b) → Leads (cs ++ c ∷ []) a b
leads_more nothing = first nothing
leads_more (first l) = first (leads_more l)

-- in a lawful stream, where a chunk begins the walk comes to
module _ (v : Version) (s : List ℕ) (lawful : Lawful (cut_from v s 1)) (p : ℕ) where
  abbrev Stands : Type 0
  Stands = is_boundary (standing_at v s p) ≡ true

  module _ (at : ℕ) (w : WalkState) (reached : Reaches (cut_from v s 1) begin (cut_from v s at) w) (l : at < length s) where
    stands_here : p ≡ at → Stands
    stands_here e = rw (e, reached_standing v s at w l reached)

    module _ (size : ℕ) (class : Class) (good : judged v (drop at s) ≡ good_instruction size class) (other : ends_stream class ≡ false) where
      cut_here : cut_from v s at ≡ then class at (cut_from v s (at + suc size))
      cut_here = rw (cut_at v s at l, good)

      stands_on : (x : Next) → step w class ≡ x →
          ((u : WalkState) → Reaches (cut_from v s 1) begin (cut_from v s (at + suc size)) u → Stands) → Stands
      unfolding open_after
      stands_on (go u) e later = later u (reaches_on reached (rw cut_here (past e here)))
      stands_on (bad reason) e later =
          let r = reaches_leads (rw cut_here at reached) in
          let cs = r.0 in
          let refused : open_after begin (cs ++ class ∷ []) ≡ bad reason = open_append cs (class ∷ []) begin w r.2 ∙ rw e in
          absurd (begins_none (cs ++ class ∷ []) reason refused (cut_from v s 1, cut_from v s (at + suc size), leads_more r.1, lawful))
      stands_on finish e later = let both : ◌≡◌ {A = Bool} true false = sym (finish_end class w e) ∙ other in apart (cc)

  among_stands : {chunks : List (List ℕ)} {classes : List Class} → Chunks v chunks classes → (at : ℕ) → drop at s ≡ joined chunks →
      (w : WalkState) → Reaches (cut_from v s 1) begin (cut_from v s at) w → (test : Bool) → eqb p at ≡ test → among p (boundaries_of chunks at) ≡ true →
      Stands
  among_stands (last {first} {rest} alone) at h w reached true t a =
      stands_here at w reached (inside v first rest [] alone s at h) (eqb-true p at t)
  among_stands (last alone) at h w reached false t a = let none : ◌≡◌ {A = Bool} false true = rw t at a in apart (cc)
  among_stands (next {first} {rest} {class} {chunks} alone other later) at h w reached true t a =
      stands_here at w reached (inside v first rest (joined chunks) alone s at h) (eqb-true p at t)
  among_stands (next {first} {rest} {class} {chunks} alone other later) at h w reached false t a =
      let on = at + suc (length rest) in
      stands_on at w reached (inside v first rest (joined chunks) alone s at h) (length rest) class
      (judged_here v first rest (joined chunks) alone s at h) other (step w class) refl
      (λ u r. among_stands later on (behind v first rest (joined chunks) alone s at h) u r (eqb p on) refl (rw t at a))

-- a token names one version
one_version : (token : ℕ) (v w : Version) → named token ≡ Some v → named token ≡ Some w → v ≡ w
one_version token v w e f = let same : Some v ≡ Some w = sym e ∙ f in cc

module _ (stream : List ℕ) (n : ℕ) (v : Version) (accept : verdict stream ≡ Ok n) (name : named (get_or stream 0 0) ≡ Some v) where
  lawful : LawfulStream stream n
  lawful = accepted_is_a_cutting stream n accept

  cut : Cutting v (drop 1 stream) lawful.chunks lawful.classes
  cut = rw (one_version (get_or stream 0 0) lawful.version v lawful.is_named name) at lawful.is_cutting

  derived : Lawful (cut_from v stream 1)
  derived =
      let g = accepted_is_grammar stream n accept in
      let is : Lawful (cut_from g.version stream 1) = (g.ends_at, g.up_to, g.body) in
      rw (one_version (get_or stream 0 0) g.version v g.names name) at is

  read : ReadAsCut stream n lawful.version lawful.chunks (demand_2.is_cut_read_written stream n lawful).given
  read = (demand_2.is_cut_read_written stream n lawful).is_read

  -- a place of the reading is a boundary of the edit, and the other way round
  pub boundary_is : (p : ℕ) →
      (ReadPlace stream p → is_boundary (standing_at v stream p) ≡ true) × (is_boundary (standing_at v stream p) ≡ true → ReadPlace stream p)
  boundary_is p = (stands_at, boundary_at)
    where
      stands_at : ReadPlace stream p → is_boundary (standing_at v stream p) ≡ true
      stands_at b =
          let places : places_read b.given ≡ boundaries_of lawful.chunks 1 = ap places_read (read.one_reading b.given b.is_read) ∙ read.are_boundaries in
          among_stands v stream derived p cut.0 1 (sym cut.1) begin here (eqb p 1) refl (rw places at b.is_place)

      boundary_at : is_boundary (standing_at v stream p) ≡ true → ReadPlace stream p
      boundary_at e =
          let s = boundary (standing_at v stream p) e in
          let c = standing_comes v stream p s.0 s.1 in
          record {
            given = (demand_2.is_cut_read_written stream n lawful).given;
            is_read = read.is_read;
            is_place = rw read.are_boundaries (comes_among cut.0 stream 1 (sym cut.1) p c.1 c.0);
          }
