-- The code decides as document 01 says: what it decides meets the definition, and nothing else does.
use Rattle.std.specs.Prelude.{Option, Some, None, Ok}
use mathlib.Core.Path.{◌≡◌, refl, sym, ap, ◌∙◌}
use mathlib.Core.Bool.{Bool, true, false}
use mathlib.Core.List.{List}
use Prim.Native.Nat.{ℕ, ◌+◌, ◌≤◌}
use native.Mathlib.Omega.{arith}
use lib.Dec.{leb}
use lib.ListN.{length}
use borrow.Author.Tests.{leb-true, leb-false, le-leb, lt-leb}
use Rattle.paper.specs.Versions.{named}
use Rattle.paper.specs.declared.Version.{Version}
use Rattle.records.specs.declared.Record.{Record}
use Rattle.record_tokens.specs.Tokens.{tokens_of}
use Rattle.writer.specs.Buffer.{pasted}
use Rattle.writer.specs.Writing.{Writable, ToldWriting, told_writing, Writes, unnamed, unwritable, cramped, written}
use Rattle.writer.specs.Decided.{writable, writing_in, content_in, writing_on, content_on, writing, buffer_written}
use Rattle.writer.proofs.Yielding.{passed_writable, writable_passes, failed_unwritable, unwritable_fails}
use Rattle.writer.proofs.Answers.{refused_record, refused_room, yes_written}

module _ (version : ℕ) (r : Record) (body buffer : List ℕ) (at : ℕ) where
  -- what the code decides meets the definition
  module _ (v : Version) (n : named version ≡ Some v) where
    by_tests : (can fits : Bool) → writable v r (length body) ≡ can → leb (at + length (tokens_of v r body)) (length buffer) ≡ fits →
        Writes version r body buffer at (told_writing (writing_in v r body buffer at)) (content_in v r body buffer at)
    by_tests true true w f =
        let e = yes_written v r body buffer at w f in
        rw (e.0, e.1) (written n (passed_writable v r body w) (leb-true (at + length (tokens_of v r body)) (length buffer) f))
    by_tests true false w f =
        let e = refused_room v r body buffer at w f in
        rw (e.0, e.1) (cramped n (passed_writable v r body w) (leb-false (at + length (tokens_of v r body)) (length buffer) f))
    by_tests false fits w f =
        let e = refused_record v r body buffer at w in
        rw (e.0, e.1) (unwritable n (failed_unwritable v r body w))

    pub known_writes : Writes version r body buffer at (told_writing (writing_in v r body buffer at)) (content_in v r body buffer at)
    known_writes = by_tests (writable v r (length body)) (leb (at + length (tokens_of v r body)) (length buffer)) refl refl

  by_name : (n : Option Version) → named version ≡ n → Writes version r body buffer at (told_writing (writing_on n r body buffer at)) (content_on n r body buffer at)
  by_name (Some v) n = known_writes v n
  by_name None n = unnamed n

  pub decided_writes : Writes version r body buffer at (told_writing (writing version r body buffer at)) (buffer_written version r body buffer at)
  unfolding writing buffer_written
  decided_writes = by_name (named version) refl

  -- what meets the definition is what the code decides
  pub writes_decided : {told : ToldWriting} {after : List ℕ} → Writes version r body buffer at told after →
      (told ≡ told_writing (writing version r body buffer at)) × (after ≡ buffer_written version r body buffer at)
  unfolding writing buffer_written
  writes_decided (unnamed n) = (rw n, rw n)
  writes_decided (unwritable {v} n w) =
      let e = refused_record v r body buffer at (unwritable_fails v r body w) in
      (rw (n, e.0), rw (n, e.1))
  writes_decided (cramped {v} n w h) =
      let e = refused_room v r body buffer at (writable_passes v r body w) (lt-leb (at + length (tokens_of v r body)) (length buffer) h) in
      (rw (n, e.0), rw (n, e.1))
  writes_decided (written {v} n w h) =
      let e = yes_written v r body buffer at (writable_passes v r body w) (le-leb (at + length (tokens_of v r body)) (length buffer) h) in
      (rw (n, e.0), rw (n, e.1))

  -- so the definition leaves one answer and one content
  pub one_writing_lem : {a b : ToldWriting} {x y : List ℕ} → Writes version r body buffer at a x → Writes version r body buffer at b y → (a ≡ b) × (x ≡ y)
  one_writing_lem p q =
      let one = writes_decided p in
      let other = writes_decided q in
      (one.0 ∙ sym other.0, one.1 ∙ sym other.1)

-- what a yes says of the version, the record, the body, the buffer and the next place
pub record SaidYes (version : ℕ) (r : Record) (body buffer : List ℕ) (at next : ℕ) (after : List ℕ) : Type 0 where
  pub v : Version
  pub is_named_lem : named version ≡ Some v
  pub can : Writable v r body
  pub inside : at + length (tokens_of v r body) ≤ length buffer
  pub next_is : at + length (tokens_of v r body) ≡ next
  pub after_is : pasted buffer at (tokens_of v r body) ≡ after

module _ (version : ℕ) (r : Record) (body buffer : List ℕ) (at next : ℕ) where
  yes_by : {told : ToldWriting} {after : List ℕ} → Writes version r body buffer at told after → told ≡ told_writing (Ok next) →
      SaidYes version r body buffer at next after
  yes_by (unnamed n) e = let number = ap (λ (t : ToldWriting). t.number) e in absurd (omega arith)
  yes_by (unwritable n w) e = let number = ap (λ (t : ToldWriting). t.number) e in absurd (omega arith)
  yes_by (cramped n w h) e = let number = ap (λ (t : ToldWriting). t.number) e in absurd (omega arith)
  yes_by (written {v} n w h) e =
      record { v = v; is_named_lem = n; can = w; inside = h; next_is = ap (λ (t : ToldWriting). t.next) e; after_is = refl }

  pub said_yes : {after : List ℕ} → Writes version r body buffer at (told_writing (Ok next)) after → SaidYes version r body buffer at next after
  said_yes w = yes_by w refl
