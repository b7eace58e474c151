-- Document 01, "What the build does": "The base knows four versions, by first token"; document 02, Q-4: five more; and what the papers say of
-- each, one row to a version.
use Rattle.std.specs.Prelude.{ℕ, Bool, true, false, ◌||◌, List, [], ◌∷◌, eqb, Option, Some, None}
use Rattle.paper.specs.Notation.{pick}
use Rattle.paper.specs.declared.Version.{Version}
use Rattle.paper.specs.declared.Version.TheVariants.{V2, V3, P2, P3, V1, P11, P12, P13, P14}

-- What a version has. Its first token, and "vertex" or "pixel"; whether its instructions state a size, whether they have "co-issue bit 30",
-- and whether it has predicates: "only V3 and P3"; whether "destination bits 27:24, the shift scale, are free", and whether it "adds modifiers
-- 7 to A"; "Bit 13 may be one only at places called free below: sources in V2, V3, P3, destinations in V3", whether "a source's relative bit
-- .. brings no extra token", and whether the token that it brings may have "type 3 or 15 (P3: 15 only)"; and, of DCL, the types that are
-- declared as samplers, those declared plain, and those declared with a usage.
pub record Having : Type 0 where
  pub first_token : ℕ
  pub pixel : Bool
  pub sizes : Bool
  pub coissues : Bool
  pub predicates : Bool
  pub shift_scales : Bool
  pub further_modifiers : Bool
  pub sources_relative : Bool
  pub destinations_relative : Bool
  pub sources_marked : Bool
  pub addresses : Bool
  pub samplers : List ℕ
  pub plains : List ℕ
  pub usages : List ℕ

abbrev first_pixel : ℕ → Bool → Having
first_pixel token further =
    record { first_token = token; pixel = true; sizes = false; coissues = true; predicates = false; shift_scales = true; further_modifiers = further; sources_relative = false; destinations_relative = false; sources_marked = false; addresses = false; samplers = []; plains = []; usages = [] }

-- "vs_2_0 FFFE0200 (V2), vs_3_0 FFFE0300 (V3), ps_2_0 FFFF0200 (P2), ps_3_0 FFFF0300 (P3)"; document 02, Q-4: "vs_1_1 (FFFE0101) and ps_1_1
-- to ps_1_4 (FFFF0101 to FFFF0104). They have no size and no predicate"; "vs_1_1 declares as V2 does"
abbrev pub has : Version → Having
has V2 = record { first_token = 0xFFFE0200; pixel = false; sizes = true; coissues = false; predicates = false; shift_scales = false; further_modifiers = false; sources_relative = true; destinations_relative = false; sources_marked = false; addresses = true; samplers = []; plains = []; usages = 1 ∷ [] }
has V3 = record { first_token = 0xFFFE0300; pixel = false; sizes = true; coissues = false; predicates = true; shift_scales = false; further_modifiers = false; sources_relative = true; destinations_relative = true; sources_marked = false; addresses = true; samplers = 10 ∷ []; plains = []; usages = 1 ∷ 6 ∷ [] }
has P2 = record { first_token = 0xFFFF0200; pixel = true; sizes = true; coissues = false; predicates = false; shift_scales = false; further_modifiers = false; sources_relative = false; destinations_relative = false; sources_marked = false; addresses = true; samplers = 10 ∷ []; plains = 1 ∷ 3 ∷ []; usages = [] }
has P3 = record { first_token = 0xFFFF0300; pixel = true; sizes = true; coissues = false; predicates = true; shift_scales = false; further_modifiers = false; sources_relative = true; destinations_relative = false; sources_marked = false; addresses = false; samplers = 10 ∷ []; plains = 17 ∷ []; usages = 1 ∷ 3 ∷ [] }
has V1 = record { first_token = 0xFFFE0101; pixel = false; sizes = false; coissues = false; predicates = false; shift_scales = false; further_modifiers = false; sources_relative = false; destinations_relative = false; sources_marked = true; addresses = false; samplers = []; plains = []; usages = 1 ∷ [] }
has P11 = first_pixel 0xFFFF0101 false
has P12 = first_pixel 0xFFFF0102 false
has P13 = first_pixel 0xFFFF0103 false
has P14 = first_pixel 0xFFFF0104 true

-- the four of document 01, and all nine
abbrev pub base_versions : List Version
base_versions = V2 ∷ V3 ∷ P2 ∷ P3 ∷ []

abbrev pub versions : List Version
versions = V2 ∷ V3 ∷ P2 ∷ P3 ∷ P11 ∷ P12 ∷ P13 ∷ P14 ∷ V1 ∷ []

abbrev pub version_token : Version → ℕ
version_token v = (has v).first_token

-- the version that a token names
abbrev pub named_among : List Version → ℕ → Option Version
named_among [] token = None
named_among (v ∷ vs) token = pick (eqb token (version_token v)) (Some v) (named_among vs token)

abbrev pub named : ℕ → Option Version
named token = named_among versions token

-- two versions are one if their first tokens are
abbrev pub is_one : Version → List Version → Bool
is_one v [] = false
is_one v (w ∷ ws) = eqb (version_token v) (version_token w) || is_one v ws

-- "vertex" and "pixel"
abbrev pub is_pixel : Version → Bool
is_pixel v = (has v).pixel

-- "V3 and P3"
abbrev pub has_predicates : Version → Bool
has_predicates v = (has v).predicates

-- whether instructions state their size; the versions of document 02, Q-4, "have no size"
abbrev pub has_sizes : Version → Bool
has_sizes v = (has v).sizes

-- "pixel versions have co-issue bit 30"
abbrev pub has_coissue : Version → Bool
has_coissue v = (has v).coissues
