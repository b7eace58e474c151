-- The reader, from where a row of chunks begins in a stream, gives the chunks' records at their places, with their bodies, up to END.
use Prim.Native.Nat.{ℕ, suc, ◌+◌, ◌≤◌}
use mathlib.Core.Path.{◌≡◌, refl, sym, ap, subst, ◌∙◌}
use mathlib.Core.Bool.{false}
use mathlib.Core.List.{List, [], ◌∷◌, ◌++◌}
use native.Mathlib.Omega.{arith}
use lib.ListN.{length, take, drop, length-append}
use lib.Seq.{drop-drop, take-append-le}
use borrow.Author.Tests.{eqb-true, eqb-false}
use Rattle.paper.specs.Versions.{version_token}
use Rattle.paper.specs.InstructionToken.{opcode_of, comment_length, end_opcode, end_token}
use Rattle.paper.specs.Instruction.{Head, end, token_head, claim, on_claimed, judged}
use Rattle.paper.specs.Stream.{most_tokens}
use Rattle.paper.specs.declared.Version.{Version}
use Rattle.paper.specs.declared.Class.{Class}
use Rattle.paper.specs.declared.Class.TheVariants.{Closes}
use Rattle.paper.specs.declared.Closer.TheVariants.{End}
use Rattle.paper.specs.Judgements.{good_instruction}
use Rattle.blocks.specs.Begins.{ends_stream}
use Rattle.cutting.specs.CutBy.{is_end_token}
use Rattle.cutting.specs.Cuttings.{joined, Alone, Chunks, last, next}
use Rattle.paper.proofs.FirstToken.{Says, is_broken, is_comment_lem, is_end_lem, is_listed, says}
use Rattle.paper.proofs.OwnTokens.{good_claim}
use Rattle.paper.proofs.Bools.{apart}
use Rattle.cutting.proofs.EndToken.{ends_by_token}
use Rattle.records.specs.declared.Record.{Record}
use Rattle.records.specs.Record.{end_record, record_on, record_of}
use Rattle.listing.specs.Listing.{records_of}
use Rattle.listing.proofs.ChunkRead.{behind, read_here}
use Rattle.record_tokens.specs.Tokens.{body_on, comment_body}
use Rattle.writer.specs.Writing.{body_length}
use Rattle.writer.specs.InOrder.{Piece, pieces_of}
use Rattle.demands.specs.Reading.{Given, given_at, ReadUp, ends, goes, places_read, records_in, pieces_in, last_place, boundaries_of}

-- a lawful chunk's record is END's exactly if the chunk is END
module _ (v : Version) (first : ℕ) (rest : List ℕ) where
  end_chunk : Alone v first rest (Closes End) → first ≡ end_token
  end_chunk alone = eqb-true first end_token (ends_by_token v first rest (Closes End) alone)

  end_read : Alone v first rest (Closes End) → record_of v (first ∷ rest) ≡ end_record
  unfolding token_head record_of
  end_read alone = rw (end_chunk alone)

  other_by : (size : ℕ) (class : Class) → is_end_token first ≡ false → (h : Head) → Says v first h → (behind : List ℕ) →
      on_claimed v h (opcode_of first) behind ≡ good_instruction size class → record_on h first rest ≡ end_record → ⊥
  other_by size class no_end h (is_broken b) behind j same = apart (cc)
  other_by size class no_end h (is_comment_lem o l) behind j same = let z = ap (λ (r : Record). r.opcode) same in omega arith
  other_by size class no_end h (is_end_lem e) behind j same = eqb-false first end_token no_end e
  other_by size class no_end h (is_listed o l b) behind j same =
      eqb-false (opcode_of first) end_opcode o.no_end (ap (λ (r : Record). r.opcode) same)

  other_read : {class : Class} → Alone v first rest class → ends_stream class ≡ false → record_of v (first ∷ rest) ≡ end_record → ⊥
  unfolding record_of
  other_read {class} alone other same =
      other_by (length rest) class (ends_by_token v first rest class alone ∙ other) (token_head v first) (says v first) (take (length rest) rest)
      (good_claim (length rest) class v first rest alone).good same

-- the body of a lawful chunk is the tokens behind its first, as many as its record says
module _ (v : Version) (first : ℕ) (rest other : List ℕ) (size : ℕ) (class : Class) where
  body_by : (h : Head) → Says v first h → claim h ≤ length rest → take (body_length (record_on h first rest)) (rest ++ other) ≡ body_on h rest
  body_by h (is_broken b) there = refl
  body_by h (is_comment_lem o l) there = take-append-le (comment_length first) rest other there
  body_by h (is_end_lem e) there = refl
  body_by h (is_listed o l b) there = rw o.no_comment

  body_read : judged v (first ∷ rest) ≡ good_instruction size class → take (body_length (record_of v (first ∷ rest))) (rest ++ other) ≡ comment_body v (first ∷ rest)
  unfolding record_of comment_body
  body_read j =
      let g = good_claim size class v first rest j in
      body_by (token_head v first) (says v first) (rw g.claims g.there)

-- the instructions of a row of chunks, the first of which begins at a place
abbrev given : ℕ → Record → List ℕ → Given
given at r body = record { place = at; instruction = r; body = body }

abbrev given_from : Version → List ℕ → ℕ → Given
given_from v chunk at = given at (record_of v chunk) (comment_body v chunk)

abbrev pub given_of : Version → List (List ℕ) → ℕ → List Given
given_of v [] at = []
given_of v (chunk ∷ chunks) at = given_from v chunk at ∷ given_of v chunks (at + length chunk)

-- a chunk in a stream
module _ (v : Version) (first : ℕ) (rest other : List ℕ) {class : Class} (alone : Alone v first rest class)
    (s : List ℕ) (at : ℕ) (here : drop at s ≡ (first ∷ rest) ++ other) where
  given_here : given_at s at (record_of v (first ∷ rest)) ≡ given_from v (first ∷ rest) at
  given_here =
      let place : at + 1 ≡ suc at = omega arith in
      let rest_here : drop (suc at) s ≡ rest ++ other = rw (← place, ← drop-drop 1 at s, here) in
      ap (λ (body : List ℕ). given at (record_of v (first ∷ rest)) body) (rw rest_here (body_read v first rest other (length rest) class alone))

pub chunks_read : {v : Version} {chunks : List (List ℕ)} {classes : List Class} → Chunks v chunks classes →
    (s : List ℕ) (at : ℕ) → drop at s ≡ joined chunks → length s ≤ most_tokens → ReadUp (version_token v) s at (given_of v chunks at)
chunks_read {v} (last {first} {rest} alone) s at here few =
    let is = end_read v first rest alone in
    let g = ap (given_at s at) (sym is) ∙ given_here v first rest [] alone s at here in
    subst (λ x. ReadUp (version_token v) s at (x ∷ [])) g (ends (rw is at (read_here v first rest [] alone s at here few)))
chunks_read {v} (next {first} {rest} {class} {chunks} alone other later) s at here few =
    let g = given_here v first rest (joined chunks) alone s at here in
    subst (λ x. ReadUp (version_token v) s at (x ∷ given_of v chunks (at + suc (length rest)))) g
    (goes (read_here v first rest (joined chunks) alone s at here few) (other_read v first rest alone other)
    (chunks_read later s (at + suc (length rest)) (behind v first rest (joined chunks) alone s at here) few))

-- their places, their records, what is handed to the writer, and the place of END
pub places_read_lem : (v : Version) (chunks : List (List ℕ)) (at : ℕ) → places_read (given_of v chunks at) ≡ boundaries_of chunks at
places_read_lem v [] at = refl
places_read_lem v (chunk ∷ chunks) at = ap (λ (ps : List ℕ). at ∷ ps) (places_read_lem v chunks (at + length chunk))

pub records_read : (v : Version) (chunks : List (List ℕ)) (at : ℕ) → records_in (given_of v chunks at) ≡ records_of v chunks
records_read v [] at = refl
records_read v (chunk ∷ chunks) at = ap (λ (rs : List Record). record_of v chunk ∷ rs) (records_read v chunks (at + length chunk))

pub pieces_read : (v : Version) (chunks : List (List ℕ)) (at : ℕ) → pieces_in (given_of v chunks at) ≡ pieces_of v chunks
pieces_read v [] at = refl
pieces_read v (chunk ∷ chunks) at =
    ap (λ (ps : List Piece). record { instruction = record_of v chunk; body = comment_body v chunk } ∷ ps) (pieces_read v chunks (at + length chunk))

end_short : (v : Version) (first : ℕ) (rest : List ℕ) → Alone v first rest (Closes End) → length rest ≡ 0
unfolding token_head
end_short v first rest alone =
    let e : token_head v first ≡ end = rw (end_chunk v first rest alone) in
    sym (good_claim (length rest) (Closes End) v first rest alone).claims ∙ ap claim e

last_behind : {v : Version} {chunks : List (List ℕ)} {classes : List Class} → Chunks v chunks classes → (g : Given) (at : ℕ) →
    last_place (g ∷ given_of v chunks at) ≡ last_place (given_of v chunks at)
last_behind (last alone) g at = refl
last_behind (next alone other later) g at = refl

pub end_place : {v : Version} {chunks : List (List ℕ)} {classes : List Class} → Chunks v chunks classes → (at : ℕ) →
    suc (last_place (given_of v chunks at)) ≡ at + length (joined chunks)
end_place {v} (last {first} {rest} alone) at = omega (arith, end_short v first rest alone, length-append rest [])
end_place {v} (next {first} {rest} {class} {chunks} alone other later) at =
    ap suc (last_behind later (given_from v (first ∷ rest) at) (at + suc (length rest)))
    ∙ (end_place later (at + suc (length rest)) ∙ (omega (arith, length-append rest (joined chunks))))
