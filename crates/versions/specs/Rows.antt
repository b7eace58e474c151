-- What a version has, as one number, which the code keeps for each.
use Rattle.std.specs.Prelude.{ℕ, suc, ◌+◌, ◌*◌, ◌^◌, Bool, List, [], ◌∷◌, eqb}
use Rattle.paper.specs.Notation.{pick, among}
use Rattle.paper.specs.Versions.{has, versions, version_token, is_pixel, has_sizes, has_predicates}
use Rattle.paper.specs.OperandTokens.{relative_sources, relative_destinations, marked_sources, has_shift_scale, has_further}
use Rattle.paper.specs.Dcl.{sampler_types, plain_types, usage_types, declares_face}
use Rattle.paper.specs.declared.Version.{Version}
use Rattle.paper.specs.declared.Version.TheVariants.{V2, V3, P2, P3, V1, P11, P12, P13, P14}

-- the form of U that DCL takes with a register type: 1 a sampler's, 2 the plain one, 3 a usage, 0 where the type is not declared
abbrev pub form_of : Version → ℕ → ℕ
form_of v type =
    pick (among type (sampler_types v)) 1 (pick (among type (plain_types v)) 2 (pick (among type (usage_types v)) 3 0))

-- a digit of base 4 for each type, the form of those in a list
abbrev formed : ℕ → List ℕ → ℕ
formed form [] = 0
formed form (type ∷ types) = form * 2 ^ (2 * type) + formed form types

-- which of the versions it is, counted from 0: its bit in a row of the opcode table
abbrev rank_among : List Version → Version → ℕ
rank_among [] v = 0
rank_among (w ∷ ws) v = pick (eqb (version_token v) (version_token w)) 0 (suc (rank_among ws v))

abbrev pub rank : Version → ℕ
rank v = rank_among versions v

abbrev flag : Bool → ℕ → ℕ
flag b place = pick b (2 ^ place) 0

-- bits 39:0 DCL's forms by type; bit 40 pixel, 41 predicates, 42 relative sources, 43 relative destinations, 44 a relative token of type 3,
-- 45 a face to declare, 46 shift scales, 47 modifiers 7 to A, 48 sources whose bit 13 brings no token, 49 sizes; from bit 50 on the rank
abbrev traits_of : Version → ℕ
traits_of v =
    formed 1 (sampler_types v) + (formed 2 (plain_types v) + (formed 3 (usage_types v)
    + (flag (is_pixel v) 40 + (flag (has_predicates v) 41 + (flag (relative_sources v) 42 + (flag (relative_destinations v) 43
    + (flag (has v).addresses 44 + (flag (declares_face v) 45 + (flag (has_shift_scale v) 46 + (flag (has_further v) 47 + (flag (marked_sources v) 48
    + (flag (has_sizes v) 49 + 2 ^ 50 * rank v))))))))))))

-- the same by its cases, as the code has it
abbrev pub row_number : Version → ℕ
row_number V2 = traits_of V2
row_number V3 = traits_of V3
row_number P2 = traits_of P2
row_number P3 = traits_of P3
row_number V1 = traits_of V1
row_number P11 = traits_of P11
row_number P12 = traits_of P12
row_number P13 = traits_of P13
row_number P14 = traits_of P14
