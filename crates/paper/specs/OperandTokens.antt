-- Document 01, "Operand tokens", with document 02's Q-3 and Q-4.
use Rattle.std.specs.Prelude.{ℕ, ◌+◌, ◌*◌, Bool, true, false, ◌&&◌, ◌||◌, List, [], ◌∷◌, ◌++◌, eqb}
use Rattle.paper.specs.Notation.{bits, bit, pick, among}
use Rattle.paper.specs.Versions.{has, is_pixel, has_predicates}
use Rattle.paper.specs.Numbers.{refusal}
use Rattle.paper.specs.Faults.{span, offends, fault_by}
use Rattle.paper.specs.Places.{Types, free, only, Place, raw, usage, declared, destination, source, condition, predicate, relative, is_raw, is_destination, is_source}
use Rattle.paper.specs.declared.Version.{Version}
use Rattle.paper.specs.declared.Reason.{Reason}
use Rattle.paper.specs.declared.Reason.TheVariants.{Size as SIZE, Register as REGISTER}
use Rattle.paper.specs.Judgements.{Token, good_token, bad_token, Operands, good_operands, bad_operands}

-- "number 10:0; type = bits 30:28 plus 8 times bits 12:11"
abbrev pub number_field : ℕ → ℕ
number_field token = bits 10 0 token

abbrev pub type_of : ℕ → ℕ
type_of token = bits 30 28 token + 8 * bits 12 11 token

abbrev pub modifier_of : ℕ → ℕ
modifier_of token = bits 27 24 token

-- "15:14 zero; bit 31 one"
abbrev pub both_laid : ℕ → Bool
both_laid token = eqb (bits 15 14 token) 0 && eqb (bit 31 token) 1

-- "Bit 13 may be one only at places called free below: sources in V2, V3, P3, destinations in V3."
abbrev pub relative_sources : Version → Bool
relative_sources v = (has v).sources_relative

abbrev pub relative_destinations : Version → Bool
relative_destinations v = (has v).destinations_relative

-- the "places called free"
abbrev pub is_free : Place → Bool
is_free raw = false
is_free usage = false
is_free declared = false
is_free (destination free) = true
is_free (destination (only types)) = false
is_free (source free) = true
is_free (source (only types)) = false
is_free condition = false
is_free predicate = false
is_free relative = false

-- Document 02, Q-4: "A source's relative bit in vs_1_1 brings no extra token." Its sources have types of their own, and none is called free.
abbrev pub marked_sources : Version → Bool
marked_sources v = (has v).sources_marked

abbrev pub may_be_relative : Version → Place → Bool
may_be_relative v place =
    pick (is_free place) (pick (is_destination place) (relative_destinations v) (relative_sources v)) (is_source place && marked_sources v)

abbrev pub relative_laid : Version → Place → ℕ → Bool
relative_laid v place token = eqb (bit 13 token) 0 || may_be_relative v place

-- "Destination: mask 19:16 free; bit 20 saturate free in all versions ..; bits 21 and 22 pixel only; 23 and 27:24 zero." Document 02, Q-4:
-- "Destination bits 27:24, the shift scale, are free in these pixel versions, 1_1 to 1_4 only."
abbrev pub has_shift_scale : Version → Bool
has_shift_scale v = (has v).shift_scales

abbrev pub destination_laid : Version → Place → ℕ → Bool
destination_laid v place token =
    both_laid token
    && ((eqb (bits 22 21 token) 0 || is_pixel v)
    && (eqb (bit 23 token) 0
    && ((eqb (bits 27 24 token) 0 || has_shift_scale v) && relative_laid v place token)))

-- "modifier 27:24 is 0 to 6, B, C, or D only with type 19"
abbrev pub plain_modifiers : List ℕ
plain_modifiers = 0 ∷ 1 ∷ 2 ∷ 3 ∷ 4 ∷ 5 ∷ 6 ∷ 0xB ∷ 0xC ∷ []

-- Document 02, Q-4: "ps_1_4 adds modifiers 7 to A."
abbrev pub further_modifiers : List ℕ
further_modifiers = 7 ∷ 8 ∷ 9 ∷ 0xA ∷ []

abbrev pub has_further : Version → Bool
has_further v = (has v).further_modifiers

abbrev pub negated : ℕ → ℕ → Bool
negated modifier type = eqb modifier 0xD && eqb type 19

abbrev pub source_modifier : Version → ℕ → ℕ → Bool
source_modifier v modifier type =
    among modifier plain_modifiers || ((has_further v && among modifier further_modifiers) || negated modifier type)

-- the relative token's modifier is zero; the predicate's "modifier 0 or D"; a destination has none
abbrev pub modifier_laid : Version → Place → ℕ → ℕ → Bool
modifier_laid v raw modifier type = true
modifier_laid v usage modifier type = true
modifier_laid v declared modifier type = true
modifier_laid v (destination types) modifier type = true
modifier_laid v (source types) modifier type = source_modifier v modifier type
modifier_laid v condition modifier type = source_modifier v modifier type
modifier_laid v predicate modifier type = eqb modifier 0 || negated modifier type
modifier_laid v relative modifier type = eqb modifier 0

-- "Source: swizzle 23:16 free"
abbrev pub source_laid : Version → Place → ℕ → Bool
source_laid v place token =
    both_laid token && (modifier_laid v place (modifier_of token) (type_of token) && relative_laid v place token)

-- "R any 32 bits"; U is judged beside its destination, in the section "DCL"
abbrev pub laid : Version → Place → ℕ → Bool
laid v raw token = true
laid v usage token = true
laid v declared token = destination_laid v declared token
laid v (destination types) token = destination_laid v (destination types) token
laid v (source types) token = source_laid v (source types) token
laid v condition token = source_laid v condition token
laid v predicate token = source_laid v predicate token
laid v relative token = source_laid v relative token

-- "D in vertex 0, 3, 4, 5, 6, in pixel 0, 8, 9; S in vertex 0, 1, 2, 11, 12, 13, in pixel those and 3, 17."
abbrev pub free_destination_types : Version → List ℕ
free_destination_types v = pick (is_pixel v) (0 ∷ 8 ∷ 9 ∷ []) (0 ∷ 3 ∷ 4 ∷ 5 ∷ 6 ∷ [])

abbrev pub free_source_types : Version → List ℕ
free_source_types v = pick (is_pixel v) (0 ∷ 1 ∷ 2 ∷ 11 ∷ 12 ∷ 13 ∷ 3 ∷ 17 ∷ []) (0 ∷ 1 ∷ 2 ∷ 11 ∷ 12 ∷ 13 ∷ [])

-- "CALLNZ's second and IF 14, in V3 and P3 also 19"
abbrev pub condition_types : Version → List ℕ
condition_types v = pick (has_predicates v) (14 ∷ 19 ∷ []) (14 ∷ [])

-- "type 3 or 15 (P3: 15 only)"
abbrev pub relative_types : Version → List ℕ
relative_types v = pick (has v).addresses (3 ∷ 15 ∷ []) (15 ∷ [])

-- the predicate is "type 19"
abbrev pub predicate_types : List ℕ
predicate_types = 19 ∷ []

abbrev pub types_or : Types → List ℕ → List ℕ
types_or free others = others
types_or (only types) others = types

-- DCL's types are said in its section
abbrev pub typed : Version → Place → ℕ → Bool
typed v raw type = true
typed v usage type = true
typed v declared type = true
typed v (destination types) type = among type (types_or types (free_destination_types v))
typed v (source types) type = among type (types_or types (free_source_types v))
typed v condition type = among type (condition_types v)
typed v predicate type = among type predicate_types
typed v relative type = among type (relative_types v)

-- Document 02, Q-3, each "must-be-zero bit": of a destination 15:14, 23, in vertex versions 22:21, and 27:24 where there is no shift scale;
-- of any other token 15:14. Bit 13 is told as RELATIVE, and bits 27:24 of a source as MODIFIER.
abbrev pub written_zeros : Version → List ℕ
written_zeros v = span 15 14 ++ (pick (is_pixel v) [] (span 22 21) ++ (span 23 23 ++ pick (has_shift_scale v) [] (span 27 24)))

abbrev pub zeros_at : Version → Place → List ℕ
zeros_at v place = pick (is_destination place) (written_zeros v) (span 15 14)

-- what is wrong with the layout of a token at its place: nothing of R and of U, which is told of beside its destination
unfoldable pub fault_at : Version → Place → ℕ → Token
fault_at v place token =
    pick (is_raw place) good_token
    (fault_by token (offends (zeros_at v place) [] token) (relative_laid v place token) (modifier_laid v place (modifier_of token) (type_of token)))

-- "each token: layout, then type"; where the layout is not right its fault is told
abbrev pub by_type : Bool → Token
by_type is_typed = pick is_typed good_token (bad_token REGISTER 0)

abbrev pub layout_then_type : Bool → Bool → Token → Token
layout_then_type is_laid is_typed fault = pick is_laid (by_type is_typed) fault

unfoldable pub token_at : Version → Place → ℕ → Token
token_at v place token = layout_then_type (laid v place token) (typed v place (type_of token)) (fault_at v place token)

-- "One relative token then follows": at a free place alone; elsewhere bit 13 is zero, or "brings no extra token"
abbrev pub brings_relative : Place → ℕ → Bool
brings_relative place token = is_free place && eqb (bit 13 token) 1

abbrev pub refused_operands : Reason → ℕ → Operands
refused_operands reason position = bad_operands (refusal reason position)

-- "SIZE for tokens left over"
abbrev pub left_over : List ℕ → Operands
left_over [] = good_operands
left_over (token ∷ rest) = refused_operands SIZE 0
