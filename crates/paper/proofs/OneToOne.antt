-- What is told of an answer leaves one answer: each definition of "The numbers given back" is one-to-one.
use Rattle.std.specs.Prelude.{Option, Some, None, Result, Ok, Err}
use mathlib.Core.Path.{◌≡◌, refl, ap, sym, ◌∙◌}
use Prim.Native.Nat.{ℕ, suc, ◌<◌}
use native.Mathlib.Omega.{arith}
use lib.Dec.{lit<}
use Rattle.paper.specs.Versions.{named}
use Rattle.paper.specs.Numbers.{number_of, reason_by, refusal_at_bit, fault_of, ToldVerdict, told, ToldNamed, told_named, ToldInstruction, told_instruction}
use Rattle.paper.proofs.Bools.{apart}
use Rattle.paper.proofs.VersionTokens.{named_back}
use Rattle.paper.specs.Judgements.{Judged, good_instruction, bad_instruction, as_token, as_judged, Verdict}
use Rattle.paper.specs.declared.Version.{Version}
use Rattle.paper.specs.declared.Reason.{Reason}
use Rattle.paper.specs.declared.Reason.TheVariants.{Length as LENGTH, Version as VERSION, Opcode as OPCODE, Bits as BITS, RunOut as RUN_OUT, Size as SIZE, Register as REGISTER, Block as BLOCK, Depth as DEPTH, Tail as TAIL, Place as PLACE, Room as ROOM, Record as RECORD, Reserved as RESERVED, Modifier as MODIFIER, Relative as RELATIVE}
use Rattle.paper.specs.declared.Refusal.{Refusal}
use Rattle.paper.specs.declared.Fault.{Fault}
use Rattle.paper.specs.declared.Class.{Class}
use Rattle.paper.specs.declared.Instruction.{Instruction}

-- what can be told back is one-to-one
pub told_back : {A B : Type 0} (tell : A → B) (back : B → A) → ((a : A) → back (tell a) ≡ a) → (a b : A) → tell a ≡ tell b → a ≡ b
told_back tell back is a b e = sym (is a) ∙ ap back e ∙ is b

-- a reason by its number
pub reason_back : (r : Reason) → reason_by (number_of r) ≡ r
reason_back LENGTH = refl
reason_back VERSION = refl
reason_back OPCODE = refl
reason_back BITS = refl
reason_back RUN_OUT = refl
reason_back SIZE = refl
reason_back REGISTER = refl
reason_back BLOCK = refl
reason_back DEPTH = refl
reason_back TAIL = refl
reason_back PLACE = refl
reason_back ROOM = refl
reason_back RECORD = refl
reason_back RESERVED = refl
reason_back MODIFIER = refl
reason_back RELATIVE = refl

pub same_reason : (a b : Reason) → number_of a ≡ number_of b → a ≡ b
same_reason = told_back number_of reason_by reason_back

-- no refusal has the number of a yes, and 32 numbers are enough
bounds : (r : Reason) → (0 < number_of r) × (number_of r < 32)
bounds LENGTH = (lit< tt, lit< tt)
bounds VERSION = (lit< tt, lit< tt)
bounds OPCODE = (lit< tt, lit< tt)
bounds BITS = (lit< tt, lit< tt)
bounds RUN_OUT = (lit< tt, lit< tt)
bounds SIZE = (lit< tt, lit< tt)
bounds REGISTER = (lit< tt, lit< tt)
bounds BLOCK = (lit< tt, lit< tt)
bounds DEPTH = (lit< tt, lit< tt)
bounds TAIL = (lit< tt, lit< tt)
bounds PLACE = (lit< tt, lit< tt)
bounds ROOM = (lit< tt, lit< tt)
bounds RECORD = (lit< tt, lit< tt)
bounds RESERVED = (lit< tt, lit< tt)
bounds MODIFIER = (lit< tt, lit< tt)
bounds RELATIVE = (lit< tt, lit< tt)

pub no_reason_zero : (r : Reason) → 0 ≡ number_of r → ⊥
no_reason_zero r e = omega (arith, (bounds r).0)

pub number_few : (r : Reason) → number_of r < 32
number_few r = (bounds r).1

pub same_refusal : (a b : Refusal) → number_of a.reason ≡ number_of b.reason → a.position ≡ b.position → a.detail ≡ b.detail → a ≡ b
same_refusal a b number position detail =
    ap (λ (x : Reason). refusal_at_bit x a.position a.detail) (same_reason a.reason b.reason number)
    ∙ ap (λ n. refusal_at_bit b.reason n a.detail) position
    ∙ ap (refusal_at_bit b.reason b.position) detail

-- what is told of a fault is no yes
pub no_fault_zero : (r : Reason) (bit : ℕ) → 0 ≡ fault_of r bit → ⊥
no_fault_zero r bit e = omega (arith, (bounds r).0)

pub same_named : (a b : Option Version) → told_named a ≡ told_named b → a ≡ b
unfolding told_named
same_named (Some v) (Some w) e = sym (named_back v) ∙ ap named (ap (λ (t : ToldNamed). t.token) e) ∙ named_back w
same_named (Some v) None e = absurd (no_reason_zero VERSION (ap (λ (t : ToldNamed). t.number) e))
same_named None (Some w) e = absurd (no_reason_zero VERSION (sym (ap (λ (t : ToldNamed). t.number) e)))
same_named None None e = refl

pub same_instruction : (a b : Judged) → told_instruction a ≡ told_instruction b → a ≡ b
unfolding told_instruction
same_instruction (good_instruction n c) (good_instruction m d) e =
    let takes : suc n ≡ suc m = ap (λ (t : ToldInstruction). t.takes) e in
    let size : n ≡ m = omega arith in
    let class : c ≡ d = ap (λ (t : ToldInstruction). t.class) e in
    cc
same_instruction (good_instruction n c) (bad_instruction b) e = absurd (no_reason_zero b.reason (ap (λ (t : ToldInstruction). t.number) e))
same_instruction (bad_instruction a) (good_instruction m d) e = absurd (no_reason_zero a.reason (sym (ap (λ (t : ToldInstruction). t.number) e)))
same_instruction (bad_instruction a) (bad_instruction b) e =
    ap bad_instruction (same_refusal a b (ap (λ (t : ToldInstruction). t.number) e) (ap (λ (t : ToldInstruction). t.position) e) (ap (λ (t : ToldInstruction). t.detail) e))

-- what code gives back of a token and of an instruction, by the judgement that it stands for
abbrev fault_with : Reason → ℕ → Fault
fault_with reason bit = record { reason = reason; bit = bit }

abbrev instruction_with : ℕ → Class → Instruction
instruction_with size class = record { size = size; class = class }

pub same_token : (a b : Option Fault) → as_token a ≡ as_token b → a ≡ b
same_token (Some a) (Some b) e =
    let reason : a.reason ≡ b.reason = cc in
    let bit : a.bit ≡ b.bit = cc in
    ap (λ (r : Reason). Some (fault_with r a.bit)) reason ∙ ap (λ n. Some (fault_with b.reason n)) bit
same_token (Some a) None e = apart (cc)
same_token None (Some b) e = apart (cc)
same_token None None e = refl

pub same_judged : (a b : Result Instruction Refusal) → as_judged a ≡ as_judged b → a ≡ b
same_judged (Ok a) (Ok b) e =
    let size : a.size ≡ b.size = cc in
    let class : a.class ≡ b.class = cc in
    ap (λ n. Ok (instruction_with n a.class)) size ∙ ap (λ (c : Class). Ok (instruction_with b.size c)) class
same_judged (Ok a) (Err b) e = apart (cc)
same_judged (Err a) (Ok b) e = apart (cc)
same_judged (Err a) (Err b) e = cc

pub same_told : (a b : Result Instruction Refusal) → told_instruction (as_judged a) ≡ told_instruction (as_judged b) → a ≡ b
same_told a b e = same_judged a b (same_instruction (as_judged a) (as_judged b) e)

pub same_verdict : (a b : Verdict) → told a ≡ told b → a ≡ b
same_verdict (Ok n) (Ok m) e = ap Ok (ap (λ (t : ToldVerdict). t.instructions) e)
same_verdict (Ok n) (Err b) e = absurd (no_reason_zero b.reason (ap (λ (t : ToldVerdict). t.number) e))
same_verdict (Err a) (Ok m) e = absurd (no_reason_zero a.reason (sym (ap (λ (t : ToldVerdict). t.number) e)))
same_verdict (Err a) (Err b) e =
    ap Err (same_refusal a b (ap (λ (t : ToldVerdict). t.number) e) (ap (λ (t : ToldVerdict). t.position) e) (ap (λ (t : ToldVerdict). t.detail) e))
