-- Demand 2: each record that can be written reads back as itself, from the written tokens alone, at place 0.
use Rattle.std.specs.Prelude.{Ok}
use mathlib.Core.Path.{◌≡◌, refl}
use mathlib.Core.Bool.{Bool, true, false}
use mathlib.Core.List.{List, ◌++◌}
use Prim.Native.Nat.{ℕ, ◌+◌, ◌-◌, ◌≤◌}
use native.Mathlib.Omega.{arith}
use lib.Dec.{eqb}
use lib.ListN.{length, take, drop}
use lib.Seq.{take_at, drop_at, length-take-le}
use borrow.Author.Tests.{eqb-true}
use Rattle.paper.specs.Notation.{pick}
use Rattle.paper.specs.Versions.{version_token}
use Rattle.paper.specs.InstructionToken.{comment_opcode}
use Rattle.paper.specs.declared.Version.{Version}
use Rattle.records.specs.declared.Record.{Record}
use Rattle.reader.specs.Reading.{got, reading}
use Rattle.record_tokens.specs.Tokens.{tokens_of}
use Rattle.writer.specs.Buffer.{pasted}
use Rattle.writer.specs.Writing.{Writable, told_writing, Writes}
use Rattle.writer.proofs.Readings.{Own, alone_read}
use Rattle.writer.proofs.Yielding.{own_is, yields_comment, yielded_own, comment_reads}
use Rattle.writer.proofs.Answers.{version_named, comment_tokens, other_tokens}
use Rattle.writer.proofs.Exactly.{SaidYes, said_yes}

module _ (v : Version) (r : Record) where
  back_by : (body : List ℕ) (is_comment : Bool) → eqb r.opcode comment_opcode ≡ is_comment → Own v r → length body ≡ pick is_comment r.extent 0 →
      reading (version_token v) (tokens_of v r body) 0 ≡ got (length (tokens_of v r body)) r
  back_by body true c o agrees =
      rw (comment_tokens v r (eqb-true r.opcode comment_opcode c) body) (comment_reads v r (yields_comment v r o c) body agrees)
  back_by body false c o agrees =
      rw (other_tokens v r c body, own_is v r o c) (alone_read v r o.first o.rest o.few o.good o.record_is)

  -- the tokens of a record that can be written
  pub tokens_read_back : (body : List ℕ) → Writable v r body → reading (version_token v) (tokens_of v r body) 0 ≡ got (length (tokens_of v r body)) r
  tokens_read_back body w = back_by body (eqb r.opcode comment_opcode) refl (yielded_own v r w.yielded) w.agrees

-- the tokens between the place and the next place are the record's
pub between : (buffer tokens : List ℕ) (at : ℕ) → at + length tokens ≤ length buffer → take (at + length tokens - at) (drop at (pasted buffer at tokens)) ≡ tokens
unfolding pasted
between buffer tokens at h =
    let n : at + length tokens - at ≡ length tokens = omega arith in
    rw (drop_at (take at buffer) (tokens ++ drop (at + length tokens) buffer) at (length-take-le at buffer (omega arith)), n)
    (take_at tokens (drop (at + length tokens) buffer) (length tokens) refl)

module _ (version : ℕ) (r : Record) (body buffer : List ℕ) (at next : ℕ) {after : List ℕ} where
  yes_back : SaidYes version r body buffer at next after → reading version (take (next - at) (drop at after)) 0 ≡ got (next - at) r
  yes_back y =
      let count : at + length (tokens_of y.v r body) - at ≡ length (tokens_of y.v r body) = omega arith in
      rw (version_named version y.v y.is_named_lem, ← y.next_is, ← y.after_is, between buffer (tokens_of y.v r body) at y.inside, count)
      (tokens_read_back y.v r body y.can)

  -- what the writer wrote, read alone from place 0, is the record, and nothing is left over
  pub reads_back_lem : Writes version r body buffer at (told_writing (Ok next)) after → reading version (take (next - at) (drop at after)) 0 ≡ got (next - at) r
  reads_back_lem w = yes_back (said_yes version r body buffer at next w)
