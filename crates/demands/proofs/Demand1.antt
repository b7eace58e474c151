-- Demand 1, entry by entry.
use Rattle.std.specs.Prelude.{Option, Some, None, Ok, Err}
use Prim.Native.Nat.{ℕ, ◌+◌, ◌/◌, ◌%◌, ◌≤◌}
use mathlib.Core.Path.{◌≡◌, refl, subst, sym, ◌∙◌}
use mathlib.Core.Bool.{Bool, true, false}
use mathlib.Core.List.{List, [], ◌∷◌}
use native.Mathlib.Omega.{arith}
use lib.Dec.{eqb, leb, ltb}
use lib.ListN.{length, take, drop, get_or}
use borrow.Author.Tests.{eqb-true, ltb-true}
use Rattle.paper.specs.Notation.{pick, among}
use Rattle.paper.specs.Numbers.{refusal}
use Rattle.paper.specs.Versions.{named}
use Rattle.paper.specs.Instruction.{judged}
use Rattle.paper.specs.Stream.{most_tokens, length_laid, walked, verdict}
use Rattle.paper.specs.declared.Version.{Version}
use Rattle.paper.specs.Judgements.{Judged, good_instruction, bad_instruction, Verdict}
use Rattle.paper.specs.declared.Reason.{Reason}
use Rattle.paper.specs.declared.Reason.TheVariants.{Length as LENGTH, Version as VERSION, RunOut as RUN_OUT, Place as PLACE, Room as ROOM}
use Rattle.paper.specs.declared.Refusal.{Refusal}
use Rattle.byte_checker.specs.Bytes.{tokens_in, bytes_verdict}
use Rattle.byte_checker.proofs.Tokens.{tokens_length}
use Rattle.byte_checker.proofs.Verdicts.{quarter}
use Rattle.records.specs.declared.Record.{Record}
use Rattle.records.specs.Record.{record_of}
use Rattle.reader.specs.Reading.{Answer as Answered, unread, read_judged, reading_at, on_version, reading}
use Rattle.writer.specs.Writing.{ToldWriting, Writes, unnamed, unwritable, cramped, written}
use Rattle.notes.specs.Noted.{Noted, noted}
use Rattle.notes.proofs.Ends.{search_ends, every_answer}
use Rattle.notes.proofs.Places.{Lies, lying}
use Rattle.edit.specs.declared.Edited.TheVariants.{Joined, Accepted}
use Rattle.edit.specs.Edit.{Outcome, splice, new_length, placed, fits, meets_at_end, on_verdict, spliced, edit_refused, edit_named, edited, edited_in, buffer_after as edited_buffer}
use Rattle.edit.proofs.Allowed.{Allowed, splice_verdict}
use Rattle.edit.proofs.BufferHoldsTheSplice.{refused_keeps}
use Rattle.paper.proofs.Bools.{apart}
use Rattle.paper.proofs.OneToOne.{no_reason_zero}
use Rattle.santubeli.specs.declared.Answer.{Answer}
use Rattle.santubeli.specs.Entries.{answer_of, read_answer_of, note_answer_of, edit_answer_of}
use Rattle.demands.specs.Demand1.{read_numbers, check_numbers, write_numbers, edit_numbers, detail_fits, Numbered, Tells, accepts, refuses, KeptUnlessYes, Ahead, Demand1}
use Rattle.demands.proofs.NumbersAndPositions.{Fits, at_start_lem, at_token, widened, instruction_fits, refused_inside, check_fits}

-- a check: its answer tells what its verdict is
checked : (tokens shown : ℕ) (x : Verdict) → ((r : Refusal) → x ≡ Err r → Fits check_numbers tokens r) →
    (answer : Answer) → answer ≡ answer_of shown x → Tells check_numbers tokens answer.number answer.position answer.detail
checked tokens shown x h answer e =
    subst (λ (a : Answer). Tells check_numbers tokens a.number a.position a.detail) (sym e) (this x h)
  where
    this : (y : Verdict) → ((r : Refusal) → y ≡ Err r → Fits check_numbers tokens r) →
        Tells check_numbers tokens (answer_of shown y).number (answer_of shown y).position (answer_of shown y).detail
    this (Ok n) j = accepts
    this (Err r) j = refuses (j r refl)

-- bytes
bytes_fit : (bytes : List ℕ) (r : Refusal) → bytes_verdict bytes ≡ Err r → Fits check_numbers (length bytes / 4) r
unfolding bytes_verdict
bytes_fit bytes r e = this (eqb (length bytes % 4) 0) refl e
  where
    this : (whole : Bool) → eqb (length bytes % 4) 0 ≡ whole →
        pick whole (verdict (tokens_in bytes)) (Err (refusal LENGTH 0)) ≡ Err r → Fits check_numbers (length bytes / 4) r
    this true w f =
        let count = tokens_length bytes (length bytes / 4) (quarter bytes (eqb-true (length bytes % 4) 0 w)) in
        rw count at (check_fits (tokens_in bytes) r f)
    this false w f = let g : refusal LENGTH 0 ≡ r = cc in subst (Fits check_numbers (length bytes / 4)) g (at_start_lem check_numbers (length bytes / 4) 1 refl refl)

-- the reader
module _ (tokens : List ℕ) (at : ℕ) where
  abbrev AnswerFits : Answered → Type 0
  AnswerFits (Ok r) = Unit {0}
  AnswerFits (Err r) = Fits read_numbers (length tokens) r

  by_judged : (v : Version) (instruction : Record) → at ≤ length tokens → (judgement : Judged) → judged v (drop at tokens) ≡ judgement →
      AnswerFits (read_judged judgement at instruction)
  by_judged v instruction h (good_instruction size class) j = tt
  by_judged v instruction h (bad_instruction r) j =
      instruction_fits v (drop at tokens) r j (length tokens) (at + r.position) (refused_inside v tokens at r h j)

  by_place : (v : Version) (inside : Bool) → ltb at (length tokens) ≡ inside →
      AnswerFits (pick inside (read_judged (judged v (drop at tokens)) at (record_of v (drop at tokens))) (unread RUN_OUT (length tokens)))
  by_place v true l = by_judged v (record_of v (drop at tokens)) (omega (arith, ltb-true at (length tokens) l)) (judged v (drop at tokens)) refl
  by_place v false l = at_token read_numbers (length tokens) 5 (length tokens) (omega arith) refl refl refl

  by_version : (name : Option Version) → AnswerFits (on_version name tokens at)
  unfolding reading_at
  by_version (Some v) = by_place v (ltb at (length tokens)) refl
  by_version None = at_start_lem read_numbers (length tokens) 2 refl refl

  by_length : (name : Option Version) (few : Bool) → AnswerFits (pick few (on_version name tokens at) (unread LENGTH 0))
  by_length name true = by_version name
  by_length name false = at_start_lem read_numbers (length tokens) 1 refl refl

  told_answer_lem : (x : Answered) → AnswerFits x →
      Tells read_numbers (length tokens) (read_answer_of x).number (read_answer_of x).position (read_answer_of x).detail
  told_answer_lem (Ok r) h = accepts
  told_answer_lem (Err r) h = refuses h

  read_fits : (version : ℕ) → AnswerFits (reading version tokens at)
  unfolding reading
  read_fits version = by_length (named version) (leb (length tokens) most_tokens)

-- the notes
module _ (tokens : List ℕ) (from : ℕ) where
  abbrev NotedFits : Noted → Type 0
  NotedFits (Ok n) = Lies tokens from n
  NotedFits (Err r) = Fits read_numbers (length tokens) r

  note_fits : (version : ℕ) → NotedFits (noted version tokens from)
  note_fits =
      every_answer tokens from NotedFits (at_start_lem read_numbers (length tokens) 1 refl refl) (at_start_lem read_numbers (length tokens) 2 refl refl)
      (λ v.
      search_ends v tokens from NotedFits (at_token read_numbers (length tokens) 5 (length tokens) (omega arith) refl refl refl)
      (λ p r some j. instruction_fits v (drop p tokens) r j (length tokens) (p + r.position) (refused_inside v tokens p r (omega arith) j))
      (λ p size notes comments class ahead behind some j. lying tokens from v p size notes comments class ahead behind some j _ refl))

  told_note : (x : Noted) → NotedFits x →
      Tells read_numbers (length tokens) (note_answer_of x).number (note_answer_of x).position (note_answer_of x).detail × ((note_answer_of x).number ≡ 0 → Ahead tokens from (note_answer_of x))
  told_note (Ok n) h = (accepts, λ yes. record { comes = h.comes; begins = h.begins; ends = h.ends; inside = h.inside })
  told_note (Err r) h = (refuses h, λ yes. absurd (no_reason_zero r.reason (sym yes)))

-- the writer
told_writing_lem : {version : ℕ} {instruction : Record} {body buffer : List ℕ} {at : ℕ} {told : ToldWriting} {after : List ℕ} →
    Writes version instruction body buffer at told after → Tells write_numbers 0 told.number told.position 0 × KeptUnlessYes told.number buffer after
told_writing_lem (unnamed n) = (refuses (at_start_lem write_numbers 0 2 refl refl), λ no. refl)
told_writing_lem (unwritable n u) = (refuses (at_start_lem write_numbers 0 14 refl refl), λ no. refl)
told_writing_lem (cramped n w few) = (refuses (at_start_lem write_numbers 0 13 refl refl), λ no. refl)
told_writing_lem (written n w fits) = (accepts, λ no. absurd (no refl))

-- the edit
module _ (r : Refusal) where
  -- an answer that stands behind a test, or the refusal of that test
  tested : (tokens : ℕ) (test : Bool) (next : Outcome) (reason : Reason) → Fits edit_numbers tokens (refusal reason 0) →
      (test ≡ true → next ≡ Err r → Fits edit_numbers tokens r) → pick test next (edit_refused reason) ≡ Err r → Fits edit_numbers tokens r
  tested tokens true next reason start later e = later refl e
  tested tokens false next reason start later e = let f : refusal reason 0 ≡ r = cc in subst (Fits edit_numbers tokens) f start

  refused_splice : (meets : Bool) (x : Verdict) (n : ℕ) → pick meets (Ok (Joined n)) (on_verdict x n) ≡ Err r → x ≡ Err r
  refused_splice true x n e = apart (cc)
  refused_splice false (Ok c) n e = apart (cc)
  refused_splice false (Err y) n e = cc

  module _ (room_of : ℕ) (old : List ℕ) (i j : ℕ) (run : List ℕ) where
    abbrev new : List ℕ
    new = splice old i j run

    start_at : (number : ℕ) → among number edit_numbers ≡ true → detail_fits number 0 ≡ true → Numbered edit_numbers (length new) number 0 0
    start_at number t d = at_start_lem edit_numbers (length new) number t d

    by_walk : (v : Version) → Allowed room_of old i j run v → spliced v old i j run ≡ Err r → Fits edit_numbers (length new) r
    by_walk v a e =
        let f = refused_splice (meets_at_end v old i j run) (walked v (splice old i j run)) (new_length (length old) i j (length run)) e in
        widened check_numbers (12 ∷ 13 ∷ []) (check_fits (splice old i j run) r (splice_verdict a ∙ f))

    in_version : (name : Option Version) → named (get_or old 0 0) ≡ name → length_laid (length old) ≡ true →
        edit_named name
        (λ v. pick (placed v old i j) (pick (fits room_of (new_length (length old) i j (length run))) (spliced v old i j run) (edit_refused ROOM)) (edit_refused PLACE))
        ≡ Err r → Fits edit_numbers (length new) r
    in_version (Some v) known laid e =
        tested (length new) (placed v old i j) (pick (fits room_of (new_length (length old) i j (length run))) (spliced v old i j run) (edit_refused ROOM)) PLACE
        (start_at 12 refl refl)
        (λ place.
        tested (length new) (fits room_of (new_length (length old) i j (length run))) (spliced v old i j run) ROOM (start_at 13 refl refl)
        (λ fit. by_walk v (record { laid = laid; known = known; place = place; fit = fit }))) e
    in_version None known laid e = let f : refusal VERSION 0 ≡ r = cc in subst (Fits edit_numbers (length new)) f (start_at 2 refl refl)

    edit_fits : edited room_of old i j run ≡ Err r → Fits edit_numbers (length new) r
    unfolding edited
    edit_fits e =
        tested (length new) (length_laid (length old)) _ LENGTH (start_at 1 refl refl) (λ laid. in_version (named (get_or old 0 0)) refl laid) e

module _ (buffer : List ℕ) (n i j : ℕ) (run : List ℕ) where
  refused_fits : (r : Refusal) → edited_in buffer n i j run ≡ Err r → Fits edit_numbers (length (splice (take n buffer) i j run)) r
  unfolding edited_in
  refused_fits r e =
      let tokens = length (splice (take n buffer) i j run) in
      tested r tokens (leb n (length buffer)) (edited (length buffer) (take n buffer) i j run) LENGTH (at_start_lem edit_numbers tokens 1 refl refl)
      (λ held. edit_fits r (length buffer) (take n buffer) i j run) e

  told_edit_lem : (x : Outcome) → edited_in buffer n i j run ≡ x →
      Tells edit_numbers (length (splice (take n buffer) i j run)) (edit_answer_of x).number (edit_answer_of x).position (edit_answer_of x).detail
      × KeptUnlessYes (edit_answer_of x).number buffer (edited_buffer buffer n i j run)
  told_edit_lem (Ok (Joined k)) e = (accepts, λ no. absurd (no refl))
  told_edit_lem (Ok (Accepted k)) e = (accepts, λ no. absurd (no refl))
  told_edit_lem (Err r) e = (refuses (refused_fits r e), λ no. refused_keeps buffer n i j run r e)

pub demand_1 : Demand1
demand_1 = record {
  check_of_bytes = λ bytes answer e. checked (length bytes / 4) (length bytes / 4) (bytes_verdict bytes) (bytes_fit bytes) answer e;
  check_of_tokens = λ tokens answer e. checked (length tokens) (length tokens) (verdict tokens) (check_fits tokens) answer e;
  read = λ version tokens at answer e.
      rw e (told_answer_lem tokens at (reading version tokens at) (read_fits tokens at version));
  note = λ version tokens from answer e. rw e (told_note tokens from (noted version tokens from) (note_fits tokens from version));
  write = λ version instruction body buffer at answer after w. told_writing_lem w;
  edit = λ buffer n i j run answer after w. rw (w.0, w.1) (told_edit_lem buffer n i j run (edited_in buffer n i j run) refl);
}
