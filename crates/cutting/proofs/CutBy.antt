-- A rule that gives each lawful instruction its own tokens gives the chunks of a cutting.
use Prim.Native.Nat.{ℕ, zero, suc, ◌≤◌}
use mathlib.Core.Path.{◌≡◌}
use mathlib.Core.List.{List, [], ◌++◌}
use native.Mathlib.Omega.{arith}
use lib.ListN.{length, length-append}
use lib.Seq.{take-append_seam, drop-append_seam}
use Rattle.paper.specs.declared.Version.{Version}
use Rattle.paper.specs.declared.Class.{Class}
use Rattle.paper.specs.declared.Class.TheVariants.{Closes}
use Rattle.paper.specs.declared.Closer.TheVariants.{End}
use Rattle.cutting.specs.Cuttings.{joined, Alone, Chunks, last, next, Cutting}
use Rattle.cutting.specs.CutBy.{Rule, cut_by, cut_whole_by}
use Rattle.cutting.proofs.EndToken.{ends_by_token}

module _ (v : Version) (rule : Rule)
    (right : (first : ℕ) (rest other : List ℕ) (class : Class) → Alone v first rest class → rule first (rest ++ other) ≡ length rest) where
  chunks_by : (most : ℕ) {chunks : List (List ℕ)} {classes : List Class} → Chunks v chunks classes → length (joined chunks) ≤ most →
      cut_by rule most (joined chunks) ≡ chunks
  unfolding cut_by
  chunks_by zero (last alone) h = absurd (omega arith)
  chunks_by zero (next alone notEnd tail) h = absurd (omega arith)
  chunks_by (suc most) (last {first = first} {rest = rest} alone) h =
      rw (right first rest [] (Closes End) alone, take-append_seam rest [], ends_by_token v first rest (Closes End) alone)
  chunks_by (suc most) (next {first = first} {rest = rest} {class = class} {chunks = chunks} alone notEnd tail) h =
      rw (
        right first rest (joined chunks) class alone,
        take-append_seam rest (joined chunks),
        drop-append_seam rest (joined chunks),
        ends_by_token v first rest class alone,
        notEnd,
        chunks_by most tail (omega (arith, length-append rest (joined chunks))),
      )

  -- cutting by such a rule gives the chunks of any cutting
  pub cut_by_lem : (tokens : List ℕ) (chunks : List (List ℕ)) (classes : List Class) → Cutting v tokens chunks classes → cut_whole_by rule tokens ≡ chunks
  cut_by_lem tokens chunks classes c = rw (← c.1) (chunks_by (length (joined chunks)) c.0 (omega arith))
