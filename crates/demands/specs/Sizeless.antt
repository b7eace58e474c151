-- Document 02, Q-4, of vs_1_1 and ps_1_1 to ps_1_4: "They have no size .., so the opcode alone gives the cutting"; "SIZE is never given for 1_x;
-- RUN-OUT when the opcode's operands pass the end".
use Rattle.std.specs.Prelude.{ℕ, ◌<◌, ◌≡◌, true, false, List, ◌∷◌, eqb, length, get_or, Some, Err}
use Rattle.paper.specs.Numbers.{refusal}
use Rattle.paper.specs.Versions.{named, version_token, has_sizes}
use Rattle.paper.specs.InstructionToken.{opcode_of, end_opcode, bits_laid}
use Rattle.paper.specs.Instruction.{judged}
use Rattle.paper.specs.Places.{Place, listed, entry_of}
use Rattle.paper.specs.Stream.{verdict}
use Rattle.paper.specs.declared.Version.{Version}
use Rattle.paper.specs.Judgements.{bad_instruction}
use Rattle.paper.specs.declared.Reason.TheVariants.{RunOut as RUN_OUT, Size as SIZE}
use Rattle.paper.specs.declared.Refusal.{Refusal}
use Rattle.paper.specs.declared.Class.{Class}
use Rattle.cutting.specs.Cuttings.{Alone}
use Rattle.cutting.specs.CutBy.{is_comment}
use Rattle.reader.specs.Reading.{reading}

-- a version whose instructions state no size
pub record Sizeless (v : Version) (states_none : has_sizes v ≡ false) : Type 0 where
  -- A check that holds a claimed size against the operands is ruled out: there is none to be wrong.
  pub check : (stream : List ℕ) (r : Refusal) → named (get_or stream 0 0) ≡ Some v → verdict stream ≡ Err r → r.reason ≡ SIZE → ⊥
  -- So is a reader that does.
  pub read : (tokens : List ℕ) (at : ℕ) (r : Refusal) → reading (version_token v) tokens at ≡ Err r → r.reason ≡ SIZE → ⊥
  -- Two lawful instructions with one opcode, which is no comment's, have as many tokens, whatever else they hold.
  pub opcode : (first other : ℕ) (rest more : List ℕ) (c d : Class) → is_comment first ≡ false → opcode_of first ≡ opcode_of other →
      Alone v first rest c → Alone v other more d → length rest ≡ length more
  -- An instruction of the table whose bits are laid out, and which has fewer tokens behind it than its opcode has operands, is RUN-OUT.
  pub run_out : (first : ℕ) (rest : List ℕ) (places : List Place) → is_comment first ≡ false → eqb (opcode_of first) end_opcode ≡ false →
      entry_of v (opcode_of first) ≡ listed places → bits_laid v first places ≡ true → length rest < length places →
      judged v (first ∷ rest) ≡ bad_instruction (refusal RUN_OUT 0)
