-- What a number of specs/Numbered.antt tells, told back.
use Rattle.std.proofs.Common.{◌≡◌, ℕ, ◌+◌, ◌*◌, ◌/◌, ◌%◌, ◌^◌, ◌<◌, true, false, eqb, refl, ap, mod-eq_of_lt, arith, ne_eqb, eqb-true}
use borrow.Author.Tests.{eqb-false}
use Rattle.paper.specs.Numbers.{number_of, reason_by, fault_of}
use Rattle.paper.specs.Blocks.{Cut, class_phase, begins_phase}
use Rattle.paper.specs.Stream.{cut_one}
use Rattle.paper.proofs.OneToOne.{reason_back, number_few}
use Rattle.paper.proofs.OneInstruction.{Within, ToldBit}
use Rattle.paper.specs.declared.Single.TheVariants.{Comment, Plain, Break, Label, Return, Phase}
use Rattle.paper.specs.declared.Opener.TheVariants.{If, Loop, Rep}
use Rattle.paper.specs.declared.Closer.TheVariants.{Else, EndIf, EndLoop, EndRep, End}
use Rattle.paper.specs.declared.Refusal.{Refusal}
use Rattle.paper.specs.declared.Class.{Class}
use Rattle.paper.specs.declared.Class.TheVariants.{One, Opens, Closes}
use Rattle.paper.specs.Judgements.{Taken, operand_taken, operand_refused, Judged, good_instruction, bad_instruction}
use Rattle.shapes.specs.Classes.{class_number}
use Rattle.shapes.proofs.Shapes.{class_few}
use Rattle.told.specs.Numbered.{yes_number, refusal_number, judged_number, taken_number, is_refusal, taken_in, size_in, kind_in, tells_phase, number_in, bit_in, position_in, class_by, judged_from}

class_back : (c : Class) → class_by (class_number c) ≡ c
class_back (One Comment) = refl
class_back (One Plain) = refl
class_back (One Break) = refl
class_back (One Label) = refl
class_back (One Return) = refl
class_back (One Phase) = refl
class_back (Opens If) = refl
class_back (Opens Loop) = refl
class_back (Opens Rep) = refl
class_back (Closes Else) = refl
class_back (Closes EndIf) = refl
class_back (Closes EndLoop) = refl
class_back (Closes EndRep) = refl
class_back (Closes End) = refl

-- the fields of a yes, and of a refusal
module _ (size : ℕ) (class : Class) where
  pub yes_even : is_refusal (judged_number (good_instruction size class)) ≡ false
  yes_even = let even : (32 * size + 2 * class_number class) % 2 ≡ 0 = omega arith in rw even

  pub yes_fits : size < 2 ^ 32 → yes_number size (class_number class) % 2 ^ 64 ≡ yes_number size (class_number class)
  yes_fits h = mod-eq_of_lt (omega (arith, class_few class))

  pub yes_size : size_in (judged_number (good_instruction size class)) ≡ size
  yes_size = let few = class_few class in omega arith

  pub yes_class : kind_in (judged_number (good_instruction size class)) ≡ class_number class
  yes_class =
      let few = class_few class in
      let halved : (32 * size + 2 * class_number class) / 2 ≡ 16 * size + class_number class = omega arith in
      rw halved (omega arith)

module _ (r : Refusal) where
  pub refusal_odd : is_refusal (refusal_number r) ≡ true
  refusal_odd = let odd : refusal_number r % 2 ≡ 1 = omega arith in rw odd

-- of a refusal whose detail is a bit
module _ (r : Refusal) (bit : ToldBit r) where
  abbrev told : ℕ
  told = refusal_number r

  halved : told / 2 ≡ 1024 * r.position + fault_of r.reason r.detail
  halved = omega arith

  pub refusal_position : position_in told ≡ r.position
  refusal_position = omega (arith, number_few r.reason, bit)

  pub refusal_bit : bit_in told ≡ r.detail
  refusal_bit =
      let few = number_few r.reason in
      let above : told / 64 ≡ 32 * r.position + r.detail = omega (arith, few, bit) in
      rw above (omega (arith, bit))

  pub refusal_reason : reason_by (number_in told) ≡ r.reason
  refusal_reason =
      let number : number_in told ≡ number_of r.reason = rw halved (omega (arith, number_few r.reason)) in
      rw number (reason_back r.reason)

pub good_back : (size : ℕ) (class : Class) → judged_from (judged_number (good_instruction size class)) ≡ good_instruction size class
unfolding judged_from
good_back size class = rw (yes_even size class, yes_size size class, yes_class size class, class_back class)

pub judged_back : (n : ℕ) (j : Judged) → Within ToldBit n j → judged_from (judged_number j) ≡ j
unfolding judged_from
judged_back n (good_instruction size class) h = good_back size class
judged_back n (bad_instruction r) bit = rw (refusal_odd r, refusal_position r bit, refusal_bit r bit, refusal_reason r bit)

-- a PHASE is seen from what is told of it
class_phase_lem : (c : Class) → eqb (2 * class_number c) 26 ≡ class_phase c
class_phase_lem (One Comment) = refl
class_phase_lem (One Plain) = refl
class_phase_lem (One Break) = refl
class_phase_lem (One Label) = refl
class_phase_lem (One Return) = refl
class_phase_lem (One Phase) = refl
class_phase_lem (Opens If) = refl
class_phase_lem (Opens Loop) = refl
class_phase_lem (Opens Rep) = refl
class_phase_lem (Closes Else) = refl
class_phase_lem (Closes EndIf) = refl
class_phase_lem (Closes EndLoop) = refl
class_phase_lem (Closes EndRep) = refl
class_phase_lem (Closes End) = refl

pub phase_told : (j : Judged) (p : ℕ) (rest : ℕ → Cut) → tells_phase (judged_number j) ≡ begins_phase (cut_one j p rest)
phase_told (good_instruction size class) p rest =
    let low : (32 * size + 2 * class_number class) % 32 ≡ 2 * class_number class = omega (arith, class_few class) in
    rw low (class_phase_lem class)
phase_told (bad_instruction r) p rest = ne_eqb (refusal_number r % 32) 26 (λ e. omega arith)

-- an even number tells how many tokens an operand takes, an odd one its refusal
pub taken_even : (t : Taken) (n : ℕ) → n ≡ taken_number t → is_refusal n ≡ false → t ≡ operand_taken (taken_in n)
taken_even (operand_taken m) n e even = ap operand_taken (omega arith)
taken_even (operand_refused r) n e even = absurd (omega (arith, eqb-false (n % 2) 1 even))

pub taken_odd : (t : Taken) (n : ℕ) → n ≡ taken_number t → is_refusal n ≡ true → (r : Refusal) × (t ≡ operand_refused r) × (n ≡ refusal_number r)
taken_odd (operand_taken m) n e odd = absurd (omega (arith, eqb-true (n % 2) 1 odd))
taken_odd (operand_refused r) n e odd = (r, refl, e)
