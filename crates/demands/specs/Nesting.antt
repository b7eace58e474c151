-- BLOCK, "nesting rule broken, or END with a block open", and DEPTH, "a 25th block would open", read off the verdict of a stream.
--
-- The grammar of document 01 is the definition: a row of classes begins a lawful stream if some body and END has these classes first.
-- That is said of classes alone and not of tokens, so no limit of length enters: a row that 16,384 tokens leave no room to close begins
-- a lawful stream all the same.
use Rattle.std.specs.Prelude.{ℕ, suc, ◌+◌, ◌≡◌, Bool, true, false, List, [], ◌∷◌, ◌++◌, length, drop, get_or, Some, Err}
use Rattle.paper.specs.Numbers.{refusal}
use Rattle.paper.specs.Versions.{named}
use Rattle.paper.specs.Instruction.{judged}
use Rattle.paper.specs.Blocks.{most_open}
use Rattle.paper.specs.Stream.{length_laid, verdict}
use Rattle.paper.specs.declared.Version.{Version}
use Rattle.paper.specs.Judgements.{good_instruction}
use Rattle.paper.specs.declared.Reason.TheVariants.{Block as BLOCK, Depth as DEPTH}
use Rattle.paper.specs.declared.Class.{Class}
use Rattle.paper.specs.declared.Class.TheVariants.{One, Opens, Closes}
use Rattle.paper.specs.declared.Closer.{Closer}
use Rattle.paper.specs.declared.Closer.TheVariants.{Else, EndIf, EndLoop, EndRep, End}
use Rattle.blocks.specs.Begins.{Begins, ended}

-- instructions one behind the other, from position p up to position q: each is good by itself, nothing from OPCODE to SIZE refuses it, and
-- these are their classes
pub data GoodRow (v : Version) (s : List ℕ) : ℕ → List Class → ℕ → Type 0 where
  standing : {p : ℕ} → GoodRow v s p [] p
  next : {p q size : ℕ} {class : Class} {classes : List Class} →
      judged v (drop p s) ≡ good_instruction size class → GoodRow v s (p + suc size) classes q → GoodRow v s p (class ∷ classes) q

-- an instruction that opens a block
abbrev pub opens : Class → Bool
opens (One s) = false
opens (Opens o) = true
opens (Closes c) = false

-- The nesting breaks at p, at an instruction that opens a block or does not: the stream has a lawful length and a version; all before p are
-- good instructions, none of them END, and begin a lawful stream; the one at p is good too, and with it they begin none.
-- Behind END there is no nesting to break: what stands there is TAIL.
pub record BreaksAt (s : List ℕ) (p : ℕ) (opener : Bool) : Type 0 where
  pub is_long : length_laid (length s) ≡ true
  pub version : Version
  pub is_named : named (get_or s 0 0) ≡ Some version
  pub before : List Class
  pub are_good : GoodRow version s 1 before p
  pub have_no_end : ended before ≡ false
  pub begin : Begins before
  pub size : ℕ
  pub class : Class
  pub is_good : judged version (drop p s) ≡ good_instruction size class
  pub is_opener : opens class ≡ opener
  pub begin_none : Begins (before ++ class ∷ []) → ⊥

-- how many blocks a row opens, and how many it closes
abbrev pub blocks_opened : List Class → ℕ
blocks_opened [] = 0
blocks_opened (One s ∷ classes) = blocks_opened classes
blocks_opened (Opens o ∷ classes) = suc (blocks_opened classes)
blocks_opened (Closes c ∷ classes) = blocks_opened classes

abbrev pub closes_one : Closer → ℕ → ℕ
closes_one Else n = n
closes_one EndIf n = suc n
closes_one EndLoop n = suc n
closes_one EndRep n = suc n
closes_one End n = n

abbrev pub blocks_closed : List Class → ℕ
blocks_closed [] = 0
blocks_closed (One s ∷ classes) = blocks_closed classes
blocks_closed (Opens o ∷ classes) = blocks_closed classes
blocks_closed (Closes c ∷ classes) = closes_one c (blocks_closed classes)

pub record Nesting : Type 0 where
  -- BLOCK at p, both ways: exactly if the nesting breaks at an instruction that opens no block. This rules out a check that counts openers
  -- and closers, which lets ENDREP close an IF, and one that finds a second ELSE only at the ENDIF.
  pub block_breaks : (s : List ℕ) (p : ℕ) → verdict s ≡ Err (refusal BLOCK p) → BreaksAt s p false
  pub breaks_block : (s : List ℕ) (p : ℕ) → BreaksAt s p false → verdict s ≡ Err (refusal BLOCK p)
  -- DEPTH at p, both ways: exactly if it breaks at one that opens a block; 24 of the blocks opened before are then not closed. This rules
  -- out a check that lets 25 blocks stand open, and one that counts all blocks opened so far and not those open.
  pub depth_breaks : (s : List ℕ) (p : ℕ) → verdict s ≡ Err (refusal DEPTH p) →
      (b : BreaksAt s p true) × (blocks_opened b.before ≡ most_open + blocks_closed b.before)
  pub breaks_depth : (s : List ℕ) (p : ℕ) → BreaksAt s p true → verdict s ≡ Err (refusal DEPTH p)
