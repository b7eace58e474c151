-- Document 01, "DCL", with document 02's Q-3 and Q-6.
use Rattle.std.specs.Prelude.{ℕ, Bool, true, not, ◌&&◌, ◌||◌, List, [], ◌∷◌, ◌++◌, eqb, leb}
use Rattle.paper.specs.Notation.{bits, bit, pick, among}
use Rattle.paper.specs.Versions.{has}
use Rattle.paper.specs.Places.{declared}
use Rattle.paper.specs.Numbers.{refusal_at_bit}
use Rattle.paper.specs.Faults.{span, unless, offends, fault_by}
use Rattle.paper.specs.OperandTokens.{number_field, type_of, relative_laid, laid, written_zeros, layout_then_type, refused_operands, left_over}
use Rattle.paper.specs.declared.Version.{Version}
use Rattle.paper.specs.declared.Reason.TheVariants.{Size as SIZE}
use Rattle.paper.specs.Judgements.{Token, good_token, bad_token, Operands, bad_operands}

-- "Sampler: 26:0 zero, 30:27 is 2, 3 or 4."
abbrev pub sampler_form : ℕ → Bool
sampler_form token = eqb (bits 26 0 token) 0 && (leb 2 (bits 30 27 token) && leb (bits 30 27 token) 4)

-- "Plain: 30:0 zero."
abbrev pub plain_form : ℕ → Bool
plain_form token = eqb (bits 30 0 token) 0

-- "Usage: 4:0 usage, 19:16 index, rest zero. V2 and V3 type 1, V3 type 6: usage 0 to 13."
-- Document 02, Q-6: "In P3, types 1 and 3, the usage token takes usage 0 to 13 with index 0 to 15, as in the vertex form."
-- An index has four bits, so it is 0 to 15 of itself.
abbrev pub usage_form : ℕ → Bool
usage_form token = eqb (bits 15 5 token) 0 && (eqb (bits 30 20 token) 0 && leb (bits 4 0 token) 13)

-- the types of each form
abbrev pub sampler_types : Version → List ℕ
sampler_types v = (has v).samplers

abbrev pub plain_types : Version → List ℕ
plain_types v = (has v).plains

abbrev pub usage_types : Version → List ℕ
usage_types v = (has v).usages

-- "Any other type is REGISTER."
abbrev pub is_declared : Version → ℕ → Bool
is_declared v type = among type (sampler_types v) || (among type (plain_types v) || among type (usage_types v))

-- the version whose plain types are 17, the register of position and face
abbrev pub declares_face : Version → Bool
declares_face v = among 17 (plain_types v)

-- "P3 type 17, number 0 position or 1 face (face: mask F, bits 23:20 zero); another number or face is OPERAND at the destination"
abbrev pub is_miscellaneous : Version → ℕ → Bool
is_miscellaneous v token = declares_face v && eqb (type_of token) 17

abbrev pub position_or_face : ℕ → Bool
position_or_face token =
    eqb (number_field token) 0
    || (eqb (number_field token) 1 && (eqb (bits 19 16 token) 0xF && eqb (bits 23 20 token) 0))

abbrev pub face_laid : Version → ℕ → Bool
face_laid v token = not (is_miscellaneous v token) || position_or_face token

-- Q-3: "the type 17 rules count as reserved". The number has lawful values besides 0, and so has a face's mask; a face's bits 22:20 must be zero,
-- bit 23 in any destination.
abbrev pub is_face : Version → ℕ → Bool
is_face v token = is_miscellaneous v token && eqb (number_field token) 1

abbrev pub declared_zeros : Version → ℕ → List ℕ
declared_zeros v token = written_zeros v ++ pick (is_face v token) (span 22 20) []

abbrev pub declared_fields : Version → ℕ → List ℕ
declared_fields v token =
    unless (not (is_miscellaneous v token) || leb (number_field token) 1) 0
    ++ unless (not (is_face v token) || eqb (bits 19 16 token) 0xF) 16

unfoldable pub declared_fault : Version → ℕ → Token
declared_fault v token =
    fault_by token (offends (declared_zeros v token) (declared_fields v token) token) (relative_laid v declared token) true

abbrev pub declared_at : Version → ℕ → Token
declared_at v token =
    layout_then_type (laid v declared token && face_laid v token) (is_declared v (type_of token)) (declared_fault v token)

-- "U has bit 31 set and one form"
abbrev pub form_by : {A : Type 0} → Version → ℕ → A → A → A → A
form_by v type sampler plain used = pick (among type (sampler_types v)) sampler (pick (among type (plain_types v)) plain used)

abbrev pub form_laid : Version → ℕ → ℕ → Bool
form_laid v type token = form_by v type (sampler_form token) (plain_form token) (usage_form token)

abbrev pub usage_laid : Version → ℕ → ℕ → Bool
usage_laid v type token = eqb (bit 31 token) 1 && form_laid v type token

-- Q-3: "the usage token .. count[s] as reserved". A texture type and a usage have lawful values besides 0.
abbrev pub form_zeros : Version → ℕ → List ℕ
form_zeros v type = form_by v type (span 26 0) (span 30 0) (span 15 5 ++ span 30 20)

abbrev pub form_fields : Version → ℕ → ℕ → List ℕ
form_fields v type token =
    form_by v type (unless (leb 2 (bits 30 27 token) && leb (bits 30 27 token) 4) 27) [] (unless (leb (bits 4 0 token) 13) 0)

unfoldable pub usage_fault : Version → ℕ → ℕ → Token
usage_fault v type token = fault_by token (offends (form_zeros v type) (form_fields v type token) token) true true

abbrev pub usage_at : Version → ℕ → ℕ → Token
usage_at v type token = pick (usage_laid v type token) good_token (usage_fault v type token)

-- an operand of DCL, at its position
abbrev pub on_declared : Token → ℕ → Operands → Operands
on_declared good_token position next = next
on_declared (bad_token reason bit) position next = bad_operands (refusal_at_bit reason position bit)

-- "The destination is judged first, then U": the tokens behind the instruction token are U, the destination, and no more
unfoldable pub declaration : Version → List ℕ → Operands
declaration v [] = refused_operands SIZE 0
declaration v (u ∷ []) = refused_operands SIZE 0
declaration v (u ∷ (d ∷ rest)) =
    on_declared (declared_at v d) 2 (on_declared (usage_at v (type_of d) u) 1 (left_over rest))
