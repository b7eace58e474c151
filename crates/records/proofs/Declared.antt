-- A good declaration: its tokens are U and a destination that has no relative token.
use mathlib.Core.Path.{◌≡◌, refl, sym, ap, ◌∙◌}
use mathlib.Core.Bool.{true, ◌&&◌}
use mathlib.Core.List.{List, [], ◌∷◌}
use Prim.Native.Nat.{ℕ}
use native.Mathlib.Omega.{arith}
use Rattle.paper.specs.OperandTokens.{type_of, laid, left_over}
use Rattle.paper.specs.Dcl.{declaration, is_declared, declared_at, face_laid, usage_laid, usage_at, on_declared}
use Rattle.paper.specs.declared.Version.{Version}
use Rattle.paper.specs.Judgements.{Token, good_token, bad_token, good_operands}
use Rattle.paper.proofs.DclRow.{declared_row}
use Rattle.paper.proofs.Bools.{apart, never, both_left}
use Rattle.paper.proofs.Faults.{is_good, declared_good, usage_good}
use Rattle.paper.specs.Places.{usage as U, declared}
use Rattle.records.specs.Record.{width_at}
use Rattle.records.proofs.Passed.{Passed, AllPassed, none, step}

-- a declared destination is laid out as one, and has no relative token
pub declared_laid : (v : Version) (d : ℕ) → declared_at v d ≡ good_token → laid v declared d ≡ true
declared_laid v d g =
    both_left (laid v declared d) (face_laid v d)
    (both_left (laid v declared d && face_laid v d) (is_declared v (type_of d)) (sym (declared_good v d) ∙ ap is_good g))

-- what a good declaration is
pub record Declared (v : Version) (u d : ℕ) (rest : List ℕ) : Type 0 where
  pub destination : declared_at v d ≡ good_token
  pub usage : usage_laid v (type_of d) u ≡ true
  pub no_more : rest ≡ []

module _ (v : Version) (u d : ℕ) (rest : List ℕ) where
  left_good : (tokens : List ℕ) → left_over tokens ≡ good_operands → tokens ≡ []
  left_good [] e = refl
  left_good (t ∷ ts) e = apart (cc)

  tokens_good : (t used : Token) → declared_at v d ≡ t → usage_at v (type_of d) u ≡ used →
      on_declared t 2 (on_declared used 1 (left_over rest)) ≡ good_operands → Declared v u d rest
  tokens_good good_token good_token g l e =
      record { destination = g; usage = sym (usage_good v (type_of d) u) ∙ ap is_good l; no_more = left_good rest e }
  tokens_good good_token (bad_token reason bit) g l e = apart (cc)
  tokens_good (bad_token reason bit) used g l e = apart (cc)

  pub declaration_good : declaration v (u ∷ (d ∷ rest)) ≡ good_operands → Declared v u d rest
  unfolding declaration
  declaration_good e = tokens_good (declared_at v d) (usage_at v (type_of d) u) refl refl e

-- U and the destination of a good declaration
module _ (v : Version) (u d : ℕ) (l : laid v declared d ≡ true) where
  usage_passed : Passed v U (u ∷ (d ∷ [])) 1
  unfolding width_at
  usage_passed =
      record { width = refl; there = omega arith; first_laid = refl; second_laid = λ t. never t }

  destination_passed : Passed v declared (d ∷ []) 1
  unfolding width_at
  destination_passed =
      record { width = refl; there = omega arith; first_laid = l; second_laid = λ t. never t }

  both_passed : AllPassed v declared_row (u ∷ (d ∷ []))
  both_passed = step usage_passed (step destination_passed none)

pub declared_passed : (v : Version) (behind : List ℕ) → declaration v behind ≡ good_operands → AllPassed v declared_row behind
unfolding declaration
declared_passed v [] e = apart (cc)
declared_passed v (u ∷ []) e = apart (cc)
declared_passed v (u ∷ (d ∷ rest)) e =
    let g = declaration_good v u d rest e in
    rw g.no_more (both_passed v u d (declared_laid v d g.destination))
