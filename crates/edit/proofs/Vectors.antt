-- The states that two walks meet in, computed: document 02, Q-4, "JOINED now also wants the same PHASE state".
use Prim.Native.Nat.{ℕ}
use mathlib.Core.Path.{◌≡◌, refl}
use mathlib.Core.Bool.{true, false}
use Rattle.paper.specs.Blocks.{Cut, out, then}
use Rattle.paper.specs.Walk.{begin}
use Rattle.paper.specs.declared.Class.TheVariants.{One, Closes}
use Rattle.paper.specs.declared.Single.TheVariants.{Plain, Phase}
use Rattle.paper.specs.declared.Closer.TheVariants.{End}
use Rattle.edit.specs.Boundaries.{standing, is_boundary, meets}

-- NOP and END from a position on, and a PHASE before them
plain : ℕ → Cut
plain p = then (One Plain) p (then (Closes End) 3 (out 4))

phased : Cut
phased = then (One Phase) 1 (plain 2)

-- at the NOP both have a boundary, with no block open; only one has passed a PHASE
phase_stands : is_boundary (standing 2 phased begin) ≡ true
unfolding standing phased plain
phase_stands = refl

phase_apart : meets (standing 2 phased begin) (standing 2 (plain 2) begin) ≡ false
unfolding standing phased plain
phase_apart = refl

-- both have, or neither
phase_both : meets (standing 2 phased begin) (standing 3 phased begin) ≡ true
unfolding standing phased plain
phase_both = refl

phase_neither : meets (standing 1 phased begin) (standing 2 (plain 2) begin) ≡ true
unfolding standing phased plain
phase_neither = refl
