-- An accepted stream is cut the same by stated sizes and by operands.
use Rattle.std.specs.Prelude.{Some, Ok}
use Prim.Native.Nat.{ℕ}
use mathlib.Core.Path.{◌≡◌, sym, ◌∙◌}
use mathlib.Core.List.{List}
use lib.ListN.{drop, get_or}
use Rattle.paper.specs.Versions.{named}
use Rattle.paper.specs.Stream.{verdict}
use Rattle.paper.specs.declared.Version.{Version}
use Rattle.paper.specs.declared.Class.{Class}
use Rattle.cutting.specs.Cuttings.{Cutting, LawfulStream}
use Rattle.cutting.specs.BySize.{by_sizes}
use Rattle.cutting.specs.ByOperands.{by_operands}
use Rattle.cutting.proofs.AcceptedIsACutting.{accepted_is_a_cutting}
use Rattle.cutting.proofs.SizesCut.{sizes_cut}
use Rattle.cutting.proofs.OperandsCut.{operands_cut}

module _ (s : List ℕ) (n : ℕ) (v : Version) (name : named (get_or s 0 0) ≡ Some v) where
  under : (c : LawfulStream s n) → Cutting v (drop 1 s) c.chunks c.classes
  under c =
      let both : Some c.version ≡ Some v = sym c.is_named ∙ name in
      let same : c.version ≡ v = cc in
      rw same at c.is_cutting

  module _ (accept : verdict s ≡ Ok n) where
    -- an accepted stream's chunks by stated sizes alone are its cutting, and so are its chunks by operands alone
    pub both_cut : (classes : List Class) × Cutting v (drop 1 s) (by_sizes v (drop 1 s)) classes × Cutting v (drop 1 s) (by_operands v (drop 1 s)) classes
    both_cut =
        let c = accepted_is_a_cutting s n accept in
        let k = under c in
        (c.classes, rw (sizes_cut v (drop 1 s) c.chunks c.classes k) k, rw (operands_cut v (drop 1 s) c.chunks c.classes k) k)

    -- an accepted stream is cut the same by stated sizes alone and by operands alone
    pub both_agree : by_sizes v (drop 1 s) ≡ by_operands v (drop 1 s)
    both_agree = let b = both_cut in sizes_cut v (drop 1 s) (by_operands v (drop 1 s)) b.0 b.2
