-- Demand 3, with document 02's Q-3, "demand 3 includes the bit": "Take any accepted stream and replace the tokens between two instruction boundaries by any run that fits the room. The edit's
-- yes or no, refusal number and position are those of a check of the whole edited stream from its first token, although the edit stops
-- reading early where it may."
--
-- All is stated of a buffer and a used length n, as the entry takes them: the old stream is the first n tokens of the buffer.
use Rattle.std.specs.Prelude.{ℕ, ◌+◌, ◌-◌, ◌≤◌, ◌≡◌, true, List, ◌⊎◌, length, take, drop, get_or, Some, Ok, Err}
use Rattle.paper.specs.Notation.{pick}
use Rattle.paper.specs.Numbers.{moved_by}
use Rattle.paper.specs.Versions.{named}
use Rattle.paper.specs.Stream.{most_tokens, verdict}
use Rattle.paper.specs.declared.Version.{Version}
use Rattle.paper.specs.declared.Refusal.{Refusal}
use Rattle.edit.specs.declared.Edited.TheVariants.{Joined, Accepted}
use Rattle.edit.specs.Boundaries.{standing_at, is_boundary}
use Rattle.edit.specs.Edit.{Outcome, splice, new_length, meets_at_end, on_verdict, edited_in, buffer_after}
use Rattle.edit.specs.Refusals.{edit_refusal, check_refusal}
use Rattle.demands.specs.Reading.{ReadPlace}

-- an instruction boundary of a stream, in the version that its first token names: "Boundaries are the instruction positions from 1 up to
-- and including END that a walk of the old stream reaches, a refused instruction's own included; the token count is none."
pub record Boundary (stream : List ℕ) (p : ℕ) : Type 0 where
  pub version : Version
  pub is_named : named (get_or stream 0 0) ≡ Some version
  pub is_reached : is_boundary (standing_at version stream p) ≡ true

-- "replace the tokens between two instruction boundaries by any run that fits the room"
pub record Replaces (buffer : List ℕ) (n i j : ℕ) (run : List ℕ) : Type 0 where
  pub is_held : n ≤ length buffer
  pub first : Boundary (take n buffer) i
  pub last : Boundary (take n buffer) j
  pub in_order : i ≤ j
  pub has_room : new_length n i j (length run) ≤ length buffer
  pub is_short : new_length n i j (length run) ≤ most_tokens

-- the edited stream: the old one with the tokens from i to j replaced by the run
abbrev pub edited_stream : List ℕ → ℕ → ℕ → ℕ → List ℕ → List ℕ
edited_stream buffer n i j run = splice (take n buffer) i j run

-- a yes of either kind, with the length that it gives
abbrev pub SaysYes : Outcome → ℕ → Type 0
SaysYes answer given = (answer ≡ Ok (Joined given)) ⊎ (answer ≡ Ok (Accepted given))

-- a buffer that was `before` is `after`: it is as long, it holds this stream of so many tokens, and what lies past that is as before
pub record Holds (before after stream : List ℕ) (tokens : ℕ) : Type 0 where
  pub is_length : tokens ≡ length stream
  pub is_long : length after ≡ length before
  pub is_held : take tokens after ≡ stream
  pub is_kept : drop tokens after ≡ drop tokens before

-- a stream is refused as the old one was: "the same number, the position moved by m - (j - i)", and with the same detail
pub record Moved (stream : List ℕ) (i j m : ℕ) (r : Refusal) : Type 0 where
  pub position : ℕ
  pub is_refused : verdict stream ≡ Err (moved_by (λ old. position) r)
  pub is_moved : position + (j - i) ≡ r.position + m

pub record Demand3 : Type 0 where
  -- "two instruction boundaries": of an accepted stream they are the places at which the reader of demand 2 gives its records, END's among them.
  -- This rules out an edit that takes places only before instructions that are counted, and one that takes the place behind END.
  pub boundary_is_read : (stream : List ℕ) (count p : ℕ) → verdict stream ≡ Ok count → Boundary stream p → ReadPlace stream p
  pub read_is_boundary : (stream : List ℕ) (count p : ℕ) → verdict stream ≡ Ok count → ReadPlace stream p → Boundary stream p
  -- The demand. Of an accepted stream the edit and a check of the edited stream have the same refusal, in number, position and detail, or both say
  -- yes and have none. This rules out an edit that judges the run alone, which lets a lonely ENDIF in, and one that says JOINED on equal depth, which
  -- takes an IF for a REP.
  pub edit_is_a_check : (buffer : List ℕ) (n i j : ℕ) (run : List ℕ) (count : ℕ) → verdict (take n buffer) ≡ Ok count →
      Replaces buffer n i j run → edit_refusal (edited_in buffer n i j run) ≡ check_refusal (verdict (edited_stream buffer n i j run))
  -- A yes, JOINED or ACCEPTED, gives the length of the edited stream; the buffer then holds that stream, and what lies past it is as
  -- before. This rules out an edit that answers and writes nothing, and one that gives the old length where the run is shorter than what it
  -- replaces.
  pub yes_holds : (buffer : List ℕ) (n i j : ℕ) (run : List ℕ) (given : ℕ) → SaysYes (edited_in buffer n i j run) given →
      Holds buffer (buffer_after buffer n i j run) (edited_stream buffer n i j run) given
  -- A refusal leaves the buffer as it was. This rules out an edit that leaves the run behind where the splice is refused, and one that
  -- splices wherever there is room.
  pub no_keeps : (buffer : List ℕ) (n i j : ℕ) (run : List ℕ) (r : Refusal) → edited_in buffer n i j run ≡ Err r →
      buffer_after buffer n i j run ≡ buffer
  -- Which yes it is, of any old stream of at most 16,384 tokens, accepted or refused: JOINED exactly if the two walks have the same blocks open at the run's end,
  -- and else what a check of the edited stream says. This rules out an edit that never says JOINED, and one that says JOINED of a refused
  -- stream because the edited one is accepted.
  pub which_yes : (buffer : List ℕ) (n i j : ℕ) (run : List ℕ) → n ≤ most_tokens → (h : Replaces buffer n i j run) →
      edited_in buffer n i j run ≡
      pick (meets_at_end h.first.version (take n buffer) i j run) (Ok (Joined (length (edited_stream buffer n i j run))))
      (on_verdict (verdict (edited_stream buffer n i j run)) (length (edited_stream buffer n i j run)))
  -- "although the edit stops reading early where it may": two buffers of one length with the same first j tokens are both JOINED or neither
  -- is. This rules out an edit that says JOINED only of an accepted stream, and one that looks for END behind j before it says JOINED.
  pub joined_reads_no_more : (one other : List ℕ) (n i j : ℕ) (run : List ℕ) (given : ℕ) → length one ≡ length other → take j one ≡ take j other →
      edited_in one n i j run ≡ Ok (Joined given) → edited_in other n i j run ≡ Ok (Joined given)
  -- JOINED of a refused stream: a check of the edited stream, which is what the buffer then holds, refuses with the same number at the
  -- moved position. This rules out an edit that says JOINED where the run made the stream lawful, and one that says it where the run broke
  -- the stream before the old refusal.
  pub joined_of_refused : (buffer : List ℕ) (n i j : ℕ) (run : List ℕ) (given : ℕ) (r : Refusal) → verdict (take n buffer) ≡ Err r →
      edited_in buffer n i j run ≡ Ok (Joined given) →
      Moved (edited_stream buffer n i j run) i j (length run) r × Moved (take given (buffer_after buffer n i j run)) i j (length run) r
