-- The answers that the code decides, one by one: what shows RECORD, ROOM and a yes, and what the buffer then holds.
use Rattle.std.specs.Prelude.{Some, Ok, Err}
use mathlib.Core.Path.{◌≡◌, refl, ap, ◌∙◌}
use mathlib.Core.Bool.{Bool, true, false}
use mathlib.Core.List.{List, [], ◌∷◌}
use Prim.Native.Nat.{ℕ, ◌+◌}
use lib.Dec.{eqb, leb}
use lib.ListN.{length}
use borrow.Author.Tests.{eqb-true, eq-eqb, ne_eqb}
use Rattle.paper.proofs.Bools.{apart}
use Rattle.paper.specs.Notation.{pick}
use Rattle.paper.specs.Versions.{version_token, versions, named_among, named}
use Rattle.paper.specs.InstructionToken.{comment_opcode}
use Rattle.paper.specs.declared.Version.{Version}
use Rattle.paper.specs.declared.Reason.TheVariants.{Room as ROOM, Record as RECORD}
use Rattle.records.specs.declared.Record.{Record}
use Rattle.record_tokens.specs.Tokens.{comment_token, tokens_of}
use Rattle.writer.specs.Buffer.{pasted}
use Rattle.writer.specs.Decided.{yielded_comment, reads_back, writable, writing_in, content_in}

-- the version that a token names
named_among_lem : (vs : List Version) (token : ℕ) (v : Version) → named_among vs token ≡ Some v → token ≡ version_token v
named_among_lem [] token v e = apart (cc)
named_among_lem (w ∷ vs) token v e = by (named_among_lem vs token v) (eqb token (version_token w)) refl e
  where
    by : (named_among vs token ≡ Some v → token ≡ version_token v) → (b : Bool) → eqb token (version_token w) ≡ b →
        pick b (Some w) (named_among vs token) ≡ Some v → token ≡ version_token v
    by later true t h = let same : w ≡ v = cc in eqb-true token (version_token w) t ∙ ap version_token same
    by later false t h = later h

pub version_named : (token : ℕ) (v : Version) → named token ≡ Some v → token ≡ version_token v
version_named token v e = named_among_lem versions token v e

module _ (v : Version) (r : Record) (body buffer : List ℕ) (at : ℕ) where
  pub refused_record : writable v r (length body) ≡ false →
      (writing_in v r body buffer at ≡ Err RECORD) × (content_in v r body buffer at ≡ buffer)
  unfolding writing_in content_in
  refused_record w = (rw w, rw w)

  module _ (w : writable v r (length body) ≡ true) where
    pub refused_room : leb (at + length (tokens_of v r body)) (length buffer) ≡ false →
        (writing_in v r body buffer at ≡ Err ROOM) × (content_in v r body buffer at ≡ buffer)
    unfolding writing_in content_in
    refused_room f = (rw (w, f), rw (w, f))

    pub yes_written : leb (at + length (tokens_of v r body)) (length buffer) ≡ true →
        (writing_in v r body buffer at ≡ Ok (at + length (tokens_of v r body))) × (content_in v r body buffer at ≡ pasted buffer at (tokens_of v r body))
    unfolding writing_in content_in
    yes_written f = (rw (w, f), rw (w, f))

-- a comment
module _ (v : Version) (r : Record) (is : r.opcode ≡ comment_opcode) where
  pub comment_unsized : (n : ℕ) → (n ≡ r.extent → ⊥) → writable v r n ≡ false
  unfolding writable
  comment_unsized n h = rw (eq-eqb r.opcode comment_opcode is, ne_eqb n r.extent h)

  pub comment_writable : (n : ℕ) → n ≡ r.extent → writable v r n ≡ yielded_comment r
  unfolding writable
  comment_writable n agrees = rw (eq-eqb r.opcode comment_opcode is, eq-eqb n r.extent agrees)

  pub comment_tokens : (body : List ℕ) → tokens_of v r body ≡ comment_token r.extent ∷ body
  unfolding tokens_of
  comment_tokens body = rw (eq-eqb r.opcode comment_opcode is)

-- any other record
module _ (v : Version) (r : Record) (no_comment : eqb r.opcode comment_opcode ≡ false) where
  pub other_sized : (n : ℕ) → (n ≡ 0 → ⊥) → writable v r n ≡ false
  unfolding writable
  other_sized n h = rw (no_comment, ne_eqb n 0 h)

  pub other_writable : (n : ℕ) → n ≡ 0 → writable v r n ≡ reads_back v r
  unfolding writable
  other_writable n none = rw (no_comment, eq-eqb n 0 none)

  pub other_tokens : (body : List ℕ) → tokens_of v r body ≡ tokens_of v r []
  unfolding tokens_of
  other_tokens body = rw no_comment
