-- The numbers and positions of refusals: of one instruction, and of a stream.
use Rattle.std.specs.Prelude.{Err}
use Prim.Native.Nat.{ℕ, ◌+◌, ◌-◌, ◌≤◌}
use mathlib.Core.Path.{◌≡◌, refl, subst, sym, ◌∙◌}
use mathlib.Core.Bool.{Bool, true, false, ◌||◌}
use mathlib.Core.List.{List, [], ◌∷◌, ◌++◌}
use native.Mathlib.Omega.{arith}
use lib.Dec.{eqb}
use lib.ListN.{length, drop, length-drop}
use borrow.Author.Tests.{lt-ltb}
use Rattle.paper.specs.Notation.{among}
use Rattle.paper.specs.Numbers.{number_of}
use Rattle.paper.specs.Instruction.{judged}
use Rattle.paper.specs.Walk.{WalkState}
use Rattle.paper.specs.Stream.{verdict}
use Rattle.paper.specs.declared.Version.{Version}
use Rattle.paper.specs.declared.Reason.{Reason}
use Rattle.paper.specs.declared.Refusal.{Refusal}
use Rattle.paper.specs.declared.Class.{Class}
use Rattle.paper.specs.declared.Class.TheVariants.{One, Opens, Closes}
use Rattle.paper.specs.Judgements.{bad_instruction}
use Rattle.blocks.specs.Begins.{nesting_reason}
use Rattle.blocks.proofs.Refused.{step_reason}
use Rattle.paper.proofs.Bools.{apart}
use Rattle.paper.proofs.OwnTokens.{good_inside}
use Rattle.paper.proofs.OneInstruction.{judged_near}
use Rattle.demands.specs.Demand1.{read_numbers, check_numbers, at_start, detail_fits, Numbered}
use Rattle.paper.proofs.OneInstruction.{judged_reason}
use Rattle.demands.proofs.WhereRefused.{Refusing, runs_out, unlawful, breaks, trails, StreamRefused, for_length, for_version, in_walk, stream_refused}

-- a refusal with one of these numbers, in a stream of so many tokens
abbrev pub Fits : List ℕ → ℕ → Refusal → Type 0
Fits numbers tokens r = Numbered numbers tokens (number_of r.reason) r.position r.detail

-- a number whose position is 0
pub at_start_lem : (numbers : List ℕ) (tokens number : ℕ) → among number numbers ≡ true → detail_fits number 0 ≡ true → Numbered numbers tokens number 0 0
at_start_lem numbers tokens number t d = record { is_of_table = t; is_within = omega arith; is_at_start = λ e. refl; is_detailed = d }

-- any other number, at a position of the stream or at its token count
at_bit_lem : (numbers : List ℕ) (tokens number position detail : ℕ) → position ≤ tokens → among number numbers ≡ true → among number at_start ≡ false →
    detail_fits number detail ≡ true → Numbered numbers tokens number position detail
at_bit_lem numbers tokens number position detail h t f d =
    record { is_of_table = t; is_within = h; is_at_start = λ e. let z : false ≡ true = sym f ∙ e in apart (cc); is_detailed = d }

pub at_token : (numbers : List ℕ) (tokens number position : ℕ) → position ≤ tokens → among number numbers ≡ true → among number at_start ≡ false →
    detail_fits number 0 ≡ true → Numbered numbers tokens number position 0
at_token numbers tokens number position h t f d = at_bit_lem numbers tokens number position 0 h t f d

-- a number of a list is one of a longer list
among_more : (more : List ℕ) (number : ℕ) (numbers : List ℕ) → among number numbers ≡ true → among number (numbers ++ more) ≡ true
among_more more number [] e = apart (cc)
among_more more number (x ∷ xs) e = this (eqb number x) e (among_more more number xs)
  where
    this : (test : Bool) → test || among number xs ≡ true → (among number xs ≡ true → among number (xs ++ more) ≡ true) →
        test || among number (xs ++ more) ≡ true
    this true f later = refl
    this false f later = later f

pub widened : (numbers more : List ℕ) {tokens number position detail : ℕ} → Numbered numbers tokens number position detail →
    Numbered (numbers ++ more) tokens number position detail
widened numbers more {number = number} n = record {
  is_of_table = among_more more number numbers n.is_of_table;
  is_within = n.is_within;
  is_at_start = n.is_at_start;
  is_detailed = n.is_detailed;
}

-- one instruction
pub instruction_fits : (v : Version) (own : List ℕ) (r : Refusal) → judged v own ≡ bad_instruction r → (tokens position : ℕ) → position ≤ tokens →
    Numbered read_numbers tokens (number_of r.reason) position r.detail
instruction_fits v own r e tokens position h =
    judged_reason (λ (reason : Reason) (bit : ℕ). Numbered read_numbers tokens (number_of reason) position bit) (told 3 0 refl refl refl) (told 4 0 refl refl refl)
    (told 5 0 refl refl refl) (told 6 0 refl refl refl)
    (record {
      reserved = λ bit b. told 16 bit refl refl (lt-ltb bit 32 b);
      modifier = told 17 24 refl refl refl;
      relative = told 18 13 refl refl refl;
      register = told 8 0 refl refl refl;
    })
    v own r e
  where
    told : (number bit : ℕ) → among number read_numbers ≡ true → among number at_start ≡ false → detail_fits number bit ≡ true →
        Numbered read_numbers tokens number position bit
    told number bit t f d = at_bit_lem read_numbers tokens number position bit h t f d

-- a refused instruction's position is at most the token count
pub refused_inside : (v : Version) (s : List ℕ) (p : ℕ) (r : Refusal) → p ≤ length s → judged v (drop p s) ≡ bad_instruction r → p + r.position ≤ length s
refused_inside v s p r h j =
    let near : r.position ≤ length (drop p s) - 1 = rw j at (judged_near v (drop p s)) in
    omega (arith, length-drop p s)

-- a nesting
nesting_fits : (class : Class) (tokens position : ℕ) → position ≤ tokens → Numbered check_numbers tokens (number_of (nesting_reason class)) position 0
nesting_fits (One s) tokens position h = at_token check_numbers tokens 9 position h refl refl refl
nesting_fits (Opens o) tokens position h = at_token check_numbers tokens 10 position h refl refl refl
nesting_fits (Closes c) tokens position h = at_token check_numbers tokens 9 position h refl refl refl

-- a walk
walk_fits : {v : Version} {s : List ℕ} {p : ℕ} {w : WalkState} {r : Refusal} → Refusing v s p w r → Fits check_numbers (length s) r
walk_fits {s = s} (runs_out c) = at_token check_numbers (length s) 5 (length s) (omega arith) refl refl refl
walk_fits {v} {s} (unlawful {q = q} {r = r} c l j) =
    widened read_numbers (9 ∷ 10 ∷ 11 ∷ [])
    (instruction_fits v (drop q s) r j (length s) (q + r.position) (refused_inside v s q r (omega arith) j))
walk_fits {v} {s} (breaks {q = q} {size = size} {class = class} {u = u} {reason = reason} c j st) =
    rw (step_reason class u reason st) (nesting_fits class (length s) q (omega (arith, good_inside size class v s q j)))
walk_fits {s = s} (trails {q = q} l) = at_token check_numbers (length s) 11 q (omega arith) refl refl refl

-- a stream
pub check_fits : (s : List ℕ) (r : Refusal) → verdict s ≡ Err r → Fits check_numbers (length s) r
check_fits s r e = this (stream_refused s r e)
  where
    this : StreamRefused s r → Fits check_numbers (length s) r
    this (for_length f) = subst (Fits check_numbers (length s)) f (at_start_lem check_numbers (length s) 1 refl refl)
    this (for_version f) = subst (Fits check_numbers (length s)) f (at_start_lem check_numbers (length s) 2 refl refl)
    this (in_walk v laid known w) = walk_fits w
