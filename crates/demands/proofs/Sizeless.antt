-- What holds of the versions without sizes, joined.
use Rattle.std.specs.Prelude.{Some, Ok, Err}
use Prim.Native.Nat.{ℕ}
use mathlib.Core.Path.{◌≡◌, sym, ◌∙◌}
use mathlib.Core.Bool.{Bool, true, false}
use mathlib.Core.List.{List}
use lib.Dec.{leb, ltb}
use lib.ListN.{length, drop, get_or}
use Rattle.paper.specs.Notation.{pick}
use Rattle.paper.specs.Versions.{named, version_token, has_sizes}
use Rattle.paper.specs.Instruction.{judged}
use Rattle.paper.specs.Walk.{WalkState}
use Rattle.paper.specs.Stream.{most_tokens, verdict}
use Rattle.paper.specs.declared.Version.{Version}
use Rattle.paper.specs.Judgements.{Judged, good_instruction, bad_instruction}
use Rattle.paper.specs.declared.Reason.TheVariants.{RunOut as RUN_OUT, Size as SIZE, Length as LENGTH}
use Rattle.paper.specs.declared.Refusal.{Refusal}
use Rattle.paper.specs.declared.Class.{Class}
use Rattle.paper.specs.declared.Class.TheVariants.{One, Opens, Closes}
use Rattle.paper.proofs.Bools.{apart}
use Rattle.paper.proofs.VersionTokens.{named_back}
use Rattle.paper.proofs.Sizeless.{NotSize, no_size, passes_end}
use Rattle.blocks.specs.Begins.{nesting_reason}
use Rattle.blocks.proofs.Refused.{step_reason}
use Rattle.cutting.proofs.OpcodeAlone.{opcode_alone}
use Rattle.records.specs.declared.Record.{Record}
use Rattle.records.specs.Record.{record_of}
use Rattle.reader.specs.Reading.{Answer, unread, read_judged, reading_at, reading}
use Rattle.demands.specs.Sizeless.{Sizeless}
use Rattle.demands.proofs.WhereRefused.{Refusing, runs_out, unlawful, breaks, trails, StreamRefused, for_length, for_version, in_walk, stream_refused}

nesting_not : (class : Class) → nesting_reason class ≡ SIZE → ⊥
nesting_not (One s) e = apart (cc)
nesting_not (Opens o) e = apart (cc)
nesting_not (Closes c) e = apart (cc)

module _ (v : Version) (states_none : has_sizes v ≡ false) where
  instruction_not : (tokens : List ℕ) (r : Refusal) → judged v tokens ≡ bad_instruction r → r.reason ≡ SIZE → ⊥
  instruction_not tokens r j = rw j at (no_size v tokens states_none)

  -- a check
  walk_not : {s : List ℕ} {p : ℕ} {w : WalkState} {r : Refusal} → Refusing v s p w r → r.reason ≡ SIZE → ⊥
  walk_not (runs_out c) e = apart (cc)
  walk_not {s} (unlawful {q = q} {r = r} c l j) e = instruction_not (drop q s) r j e
  walk_not (breaks {class = class} {u = u} {reason = reason} c j st) e = nesting_not class (sym (step_reason class u reason st) ∙ e)
  walk_not (trails l) e = apart (cc)

  check_not : (s : List ℕ) (r : Refusal) → named (get_or s 0 0) ≡ Some v → verdict s ≡ Err r → r.reason ≡ SIZE → ⊥
  check_not s r known e = this (stream_refused s r e)
    where
      this : StreamRefused s r → r.reason ≡ SIZE → ⊥
      this (for_length f) h = apart (cc)
      this (for_version f) h = apart (cc)
      this (in_walk x laid name w) h =
          let both : Some x ≡ Some v = sym name ∙ known in
          let same : x ≡ v = cc in
          walk_not (rw same at w) h

  -- the reader
  abbrev AnswerNot : Answer → Type 0
  AnswerNot (Ok reading) = Unit {0}
  AnswerNot (Err r) = r.reason ≡ SIZE → ⊥

  judged_not : (at : ℕ) (instruction : Record) (judgement : Judged) → NotSize judgement → AnswerNot (read_judged judgement at instruction)
  judged_not at instruction (good_instruction size class) h = tt
  judged_not at instruction (bad_instruction r) h = h

  module _ (tokens : List ℕ) (at : ℕ) where
    place_not : (inside : Bool) →
        AnswerNot (pick inside (read_judged (judged v (drop at tokens)) at (record_of v (drop at tokens))) (unread RUN_OUT (length tokens)))
    place_not true = judged_not at (record_of v (drop at tokens)) (judged v (drop at tokens)) (no_size v (drop at tokens) states_none)
    place_not false = λ e. apart (cc)

    length_not : (few : Bool) → AnswerNot (pick few (reading_at v tokens at) (unread LENGTH 0))
    unfolding reading_at
    length_not true = place_not (ltb at (length tokens))
    length_not false = λ e. apart (cc)

    reads_not : AnswerNot (reading (version_token v) tokens at)
    unfolding reading
    reads_not = rw (named_back v) (length_not (leb (length tokens) most_tokens))

  pub sizeless : Sizeless v states_none
  sizeless =
      record {
        check = check_not;
        read = λ tokens at r e. rw e at (reads_not tokens at);
        opcode = opcode_alone v states_none;
        run_out = λ first rest places c n e l few. passes_end v first rest places states_none (record { no_comment = c; no_end = n }) e l few;
      }
