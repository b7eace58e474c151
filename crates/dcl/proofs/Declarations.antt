-- The operands of DCL by the places of their tokens, and by the numbers of their forms.
use mathlib.Core.Path.{◌≡◌, refl, sym, ap, ◌∙◌}
use mathlib.Core.Bool.{true, false, ◌&&◌}
use mathlib.Core.List.{List, [], ◌∷◌}
use Prim.Native.Nat.{ℕ, ◌<◌, ◌≤◌}
use native.Mathlib.Omega.{arith}
use lib.Dec.{eqb}
use lib.ListN.{length, drop, get_or, length-drop}
use Rattle.paper.specs.Notation.{pick}
use Rattle.paper.specs.Numbers.{number_of, told_token}
use Rattle.paper.specs.OperandTokens.{type_of, laid, refused_operands, left_over}
use Rattle.paper.specs.Places.{declared}
use Rattle.paper.specs.Dcl.{sampler_form, plain_form, usage_form, form_laid, is_declared, face_laid, declared_fault, on_declared, usage_laid, usage_fault, usage_at, declaration}
use Rattle.paper.specs.declared.Version.{Version}
use Rattle.paper.specs.declared.Reason.TheVariants.{Size as SIZE, Register as REGISTER}
use Rattle.paper.specs.Judgements.{Token, good_token, bad_token, Operands, good_operands}
use Rattle.paper.proofs.Bools.{never}
use Rattle.paper.proofs.Faults.{is_good, declared_faultless, usage_faultless}
use Rattle.versions.specs.Rows.{form_of}
use Rattle.versions.proofs.Forms.{by_number}
use Rattle.told.specs.Numbered.{fault_number, operands_number}

-- with fewer than two tokens there is no destination
pub no_destination : (v : Version) (behind : List ℕ) → length behind < 2 → declaration v behind ≡ refused_operands SIZE 0
unfolding declaration
no_destination v [] h = refl
no_destination v (u ∷ []) h = refl
no_destination v (u ∷ (d ∷ rest)) h = absurd (omega arith)

-- what is told of a token that is not good
bad_number : (t : Token) (position : ℕ) (next : Operands) → is_good t ≡ false → operands_number (on_declared t position next) ≡ fault_number (told_token t) position
bad_number good_token position next b = never (sym b)
bad_number (bad_token reason bit) position next b = refl

-- with two tokens and more: by the destination, by U, and by what is left over
module _ (v : Version) where
  fault_first : (u d : ℕ) (rest : List ℕ) → laid v declared d && face_laid v d ≡ false →
      operands_number (declaration v (u ∷ (d ∷ rest))) ≡ fault_number (told_token (declared_fault v d)) 2
  unfolding declaration
  fault_first u d rest l = rw l (bad_number (declared_fault v d) 2 (on_declared (usage_at v (type_of d) u) 1 (left_over rest)) (declared_faultless v d ∙ l))

  type_next : (u d : ℕ) (rest : List ℕ) → laid v declared d && face_laid v d ≡ true → is_declared v (type_of d) ≡ false →
      operands_number (declaration v (u ∷ (d ∷ rest))) ≡ fault_number (number_of REGISTER) 2
  unfolding declaration
  type_next u d rest l t = rw (l, t)

  usage_next : (u d : ℕ) (rest : List ℕ) → laid v declared d && face_laid v d ≡ true → is_declared v (type_of d) ≡ true → usage_laid v (type_of d) u ≡ false →
      operands_number (declaration v (u ∷ (d ∷ rest))) ≡ fault_number (told_token (usage_fault v (type_of d) u)) 1
  unfolding declaration
  usage_next u d rest l t f = rw (l, t, f) (bad_number (usage_fault v (type_of d) u) 1 (left_over rest) (usage_faultless v u (type_of d) ∙ f))

  rest_last : (u d : ℕ) (rest : List ℕ) → laid v declared d && face_laid v d ≡ true → is_declared v (type_of d) ≡ true → usage_laid v (type_of d) u ≡ true →
      declaration v (u ∷ (d ∷ rest)) ≡ left_over rest
  unfolding declaration
  rest_last u d rest l t f = rw (l, t, f)

  left_none : (rest : List ℕ) → length rest ≡ 0 → left_over rest ≡ good_operands
  left_none [] e = refl
  left_none (token ∷ rest) e = absurd (omega arith)

  left_some : (rest : List ℕ) → (length rest ≡ 0 → ⊥) → left_over rest ≡ refused_operands SIZE 0
  left_some [] e = absurd (e refl)
  left_some (token ∷ rest) e = refl

  module _ (behind : List ℕ) (two : 2 ≤ length behind) where
    abbrev u : ℕ
    u = get_or behind 0 0

    abbrev d : ℕ
    d = get_or behind 1 0

    there : (ts : List ℕ) → 2 ≤ length ts → ts ≡ get_or ts 0 0 ∷ (get_or ts 1 0 ∷ drop 2 ts)
    there [] h = absurd (omega arith)
    there (x ∷ []) h = absurd (omega arith)
    there (x ∷ (y ∷ rest)) h = refl

    pub destination_fault : laid v declared d && face_laid v d ≡ false → operands_number (declaration v behind) ≡ fault_number (told_token (declared_fault v d)) 2
    destination_fault l = ap (λ (ts : List ℕ). operands_number (declaration v ts)) (there behind two) ∙ fault_first u d (drop 2 behind) l

    pub destination_type : laid v declared d && face_laid v d ≡ true → is_declared v (type_of d) ≡ false →
        operands_number (declaration v behind) ≡ fault_number (number_of REGISTER) 2
    destination_type l t = ap (λ (ts : List ℕ). operands_number (declaration v ts)) (there behind two) ∙ type_next u d (drop 2 behind) l t

    pub usage_refused : laid v declared d && face_laid v d ≡ true → is_declared v (type_of d) ≡ true → usage_laid v (type_of d) u ≡ false →
        operands_number (declaration v behind) ≡ fault_number (told_token (usage_fault v (type_of d) u)) 1
    usage_refused l t f = ap (λ (ts : List ℕ). operands_number (declaration v ts)) (there behind two) ∙ usage_next u d (drop 2 behind) l t f

    pub then_rest : laid v declared d && face_laid v d ≡ true → is_declared v (type_of d) ≡ true → usage_laid v (type_of d) u ≡ true →
        ((length behind ≡ 2 → declaration v behind ≡ good_operands) × ((length behind ≡ 2 → ⊥) → declaration v behind ≡ refused_operands SIZE 0))
    then_rest l t f =
        let all = ap (declaration v) (there behind two) ∙ rest_last u d (drop 2 behind) l t f in
        let long = length-drop 2 behind in (
          λ e. all ∙ left_none (drop 2 behind) (omega (arith, long)),
          λ e. all ∙ left_some (drop 2 behind) (λ z. e (omega (arith, long))),
        )

-- the forms by their numbers
pub form_laid_lem : (v : Version) (type token : ℕ) → form_laid v type token ≡
    pick (eqb (form_of v type) 1) (sampler_form token) (pick (eqb (form_of v type) 2) (plain_form token) (usage_form token))
form_laid_lem v type token = by_number v type (sampler_form token) (plain_form token) (usage_form token)
