-- The reading at a place, by what is told of the instruction there.
use mathlib.Core.Path.{◌≡◌, refl, sym, ap, ◌∙◌}
use mathlib.Core.Bool.{true, false}
use mathlib.Core.List.{List, ◌∷◌}
use Prim.Native.Nat.{ℕ, ◌+◌, ◌-◌, ◌≤◌, ◌<◌}
use native.Mathlib.Numerals.{add-one}
use native.Mathlib.Omega.{arith}
use lib.ListN.{length, take, drop, get_or, length-drop}
use lib.Seq.{drop-cons}
use borrow.Author.Tests.{lt-ltb}
use Rattle.paper.specs.Numbers.{reason_by, refusal_at_bit}
use Rattle.paper.specs.Instruction.{judged}
use Rattle.paper.specs.declared.Version.{Version}
use Rattle.paper.specs.Judgements.{Judged, good_instruction, bad_instruction}
use Rattle.paper.proofs.Bools.{apart}
use Rattle.paper.proofs.OneInstruction.{judged_near, judged_bit}
use Rattle.paper.proofs.OwnTokens.{good_within}
use Rattle.shapes.specs.Classes.{class_number}
use Rattle.told.specs.Numbered.{judged_number, is_refusal, size_in, kind_in, number_in, bit_in, position_in}
use Rattle.told.proofs.Numbers.{yes_even, yes_size, yes_class, refusal_odd, refusal_position, refusal_bit, refusal_reason}
use Rattle.stretches.specs.Stretch.{told_at}
use Rattle.stretches.proofs.Stretches.{told_whole}
use Rattle.records.specs.Record.{record_of}
use Rattle.records.specs.ByClass.{row_by, record_by, Readable}
use Rattle.records.proofs.Readable.{good_read_lem}
use Rattle.reader.specs.Reading.{unread_by, got, reading_at}

module _ (v : Version) (s : List ℕ) (at told : ℕ) (some : at < length s) (is : told ≡ told_at v s 0 at) where
  -- the tokens that a good instruction takes behind its first, as the code lends them
  abbrev behind : List ℕ
  behind = take (at + 1 + size_in told - (at + 1)) (drop (at + 1) s)

  -- a good instruction, read, and a refused one
  pub record Got : Type 0 where
    pub reads : reading_at v s at ≡ got (at + 1 + size_in told) (record_by (kind_in told) v (get_or s at 0) behind)
    pub readable : Readable (row_by (kind_in told) v (get_or s at 0)) behind
    pub inside : at + 1 + size_in told ≤ length s

  pub record Unread : Type 0 where
    pub reads : reading_at v s at ≡ unread_by (refusal_at_bit (reason_by (number_in told)) (at + position_in told) (bit_in told))
    pub inside : at + position_in told < length s

  tokens : drop at s ≡ get_or s at 0 ∷ drop (at + 1) s
  tokens = rw (add-one at) (drop-cons s at 0 some)

  got_by : (j : Judged) → judged v (drop at s) ≡ j → told ≡ judged_number j → is_refusal told ≡ false → Got
  unfolding reading_at record_of
  got_by (good_instruction size class) e t f =
      let long : size_in told ≡ size = rw t (yes_size size class) in
      let kind : kind_in told ≡ class_number class = rw t (yes_class size class) in
      let width : at + 1 + size - (at + 1) ≡ size = omega arith in
      let place : at + size + 1 ≡ at + 1 + size = omega arith in
      let read = good_read_lem v (get_or s at 0) (drop (at + 1) s) size class (rw tokens at e) in
      record {
        reads = rw (lt-ltb at (length s) some, e, tokens, long, kind, width, place, read.is);
        readable = rw (long, kind, width) read.readable;
        inside = omega (arith, long, good_within size class v (drop at s) e, length-drop at s);
      }
  got_by (bad_instruction r) e t f = let odd = sym (refusal_odd r) ∙ ap is_refusal (sym t) ∙ f in apart (cc)

  unread_by_lem : (j : Judged) → judged v (drop at s) ≡ j → told ≡ judged_number j → is_refusal told ≡ true → Unread
  unfolding reading_at
  unread_by_lem (good_instruction size class) e t f = let even = sym (yes_even size class) ∙ ap is_refusal (sym t) ∙ f in apart (cc)
  unread_by_lem (bad_instruction r) e t f =
      let bit : r.detail < 32 = rw e at (judged_bit v (drop at s)) in
      let place : position_in told ≡ r.position = rw t (refusal_position r bit) in
      let why : reason_by (number_in told) ≡ r.reason = rw t (refusal_reason r bit) in
      let lowest : bit_in told ≡ r.detail = rw t (refusal_bit r bit) in
      let near : r.position ≤ length (drop at s) - 1 = rw e at (judged_near v (drop at s)) in
      record { reads = rw (lt-ltb at (length s) some, e, place, why, lowest); inside = omega (arith, place, near, length-drop at s) }

  pub reads_good : is_refusal told ≡ false → Got
  reads_good f = got_by (judged v (drop at s)) refl (is ∙ told_whole v s at) f

  pub reads_refused : is_refusal told ≡ true → Unread
  reads_refused f = unread_by_lem (judged v (drop at s)) refl (is ∙ told_whole v s at) f
