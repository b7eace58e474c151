-- When a buffer takes a run, and when it stays as it is.
use Prim.Native.Nat.{ℕ, ◌≤◌}
use mathlib.Core.Path.{◌≡◌}
use mathlib.Core.Bool.{false}
use mathlib.Core.List.{List}
use lib.ListN.{length}
use borrow.Author.Tests.{le-leb}
use Rattle.edit.specs.Edit.{new_length}
use Rattle.splicer.specs.Splicing.{with_run, spliceable, spliced_in}

module _ (buffer : List ℕ) (n i j : ℕ) (run : List ℕ) where
  pub run_taken : i ≤ j → j ≤ n → n ≤ length buffer → new_length n i j (length run) ≤ length buffer →
      spliced_in buffer n i j run ≡ with_run buffer n i j run
  unfolding spliced_in
  run_taken order inside held h =
      rw (le-leb i j order, le-leb j n inside, le-leb n (length buffer) held, le-leb (new_length n i j (length run)) (length buffer) h)

  pub run_left : spliceable (length buffer) n i j (length run) ≡ false → buffer ≡ spliced_in buffer n i j run
  unfolding spliced_in
  run_left e = rw e
