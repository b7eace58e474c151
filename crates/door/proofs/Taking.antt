-- How many tokens an operand takes, by the tests of its tokens.
use Prim.Native.Nat.{ℕ, suc, ◌+◌, ◌-◌, ◌/◌, ◌^◌, ◌<◌, ◌≤◌}
use mathlib.Core.Path.{◌≡◌, refl, sym, ap, ◌∙◌}
use mathlib.Core.Bool.{Bool, true, false, not, ◌&&◌, ◌||◌}
use mathlib.Core.List.{List, [], ◌∷◌}
use native.Mathlib.Nat.{mod-lt}
use native.Mathlib.Omega.{arith}
use lib.Dec.{eqb, lit<}
use lib.ListN.{length, drop, get_or, drop_of_length-le}
use lib.Seq.{drop-cons}
use borrow.Author.Tests.{ne_eqb, eqb-true, eqb-false}
use Rattle.paper.specs.Notation.{bits, bit, pick}
use Rattle.paper.specs.Versions.{is_pixel, has_sizes}
use Rattle.paper.specs.OperandTokens.{relative_sources, relative_destinations, marked_sources, has_shift_scale, is_free, both_laid, source_modifier, modifier_of, laid, type_of, token_at, brings_relative, left_over}
use Rattle.paper.specs.Places.{Types, free, only, Place, free_destination, destination, source, relative}
use Rattle.paper.specs.Instruction.{on_token, relative_token, operand, on_taken, operands}
use Rattle.paper.specs.declared.Version.{Version}
use Rattle.paper.specs.Judgements.{Token, good_token, bad_token, Taken, operand_taken, operand_refused}
use Rattle.paper.proofs.Bools.{both_left, both_right, and_false, never, apart}
use Rattle.paper.proofs.Faults.{is_good, token_good}
use Rattle.paper.proofs.VersionTokens.{each}
use Rattle.versions.specs.Sets.{holds}
use Rattle.tokens.specs.Plain.{plain_source}
use Rattle.tokens.specs.Good.{good_written, source_laid_in, good_read}
use Rattle.layout.proofs.Layouts.{destination_order}
use Rattle.tokens.specs.Brief.{brief}
use Rattle.tokens.proofs.TokenAt.{plain_source_laid, brief_good}
use Rattle.operands.proofs.OperandAt.{relative_at, operand_at}
use Rattle.uniform.specs.Uniform.{sources}
use Rattle.uniform.specs.declared.Row.{Row}
use Rattle.std.specs.Prelude.{Some, None, is_ok}
use Rattle.std.specs.Bool.{then_some}
use Rattle.door.specs.Door.{took_in, is_fit, Meant}

-- what an operand takes, by whether its token is good
took_by : (t : Token) (offset : ℕ) (next : Taken) → took_in (on_token t offset next) ≡ pick (is_good t) (took_in next) None
took_by good_token offset next = refl
took_by (bad_token reason bit) offset next = refl

picked : (b : Bool) (n : ℕ) → then_some b n ≡ pick b (Some n) None
picked true n = refl
picked false n = refl

took_pick : (b : Bool) (next other : Taken) → took_in (pick b next other) ≡ pick b (took_in next) (took_in other)
took_pick true next other = refl
took_pick false next other = refl

-- the relative token
module _ (v : Version) (offset at token : ℕ) (good : Bool) (behind : List ℕ) (h : at < length behind) (is : token ≡ get_or behind at 0)
    (e : good ≡ is_ok (brief v relative token))
  where
    pub relative_took : then_some good 2 ≡ took_in (relative_token v offset (drop at behind))
    relative_took =
        rw (relative_at v offset at behind h, ← is, e, brief_good v relative token, took_by (token_at v relative token) offset (operand_taken 2))
        (picked (is_good (token_at v relative token)) 2)

-- what sizes have to do with bit 13
implied : (a b : Bool) → not a || b ≡ true → a ≡ true → b ≡ true
implied true b t h = t
implied false b t h = never h

excluded : (a b : Bool) → not a || not b ≡ true → a ≡ true → b ≡ false
excluded true true t h = never t
excluded true false t h = refl
excluded false b t h = never h

written_sized : (v : Version) → relative_destinations v ≡ true → has_sizes v ≡ true
written_sized v = implied (relative_destinations v) (has_sizes v) (each (λ v. not (relative_destinations v) || has_sizes v) refl v)

read_sized : (v : Version) → relative_sources v ≡ true → has_sizes v ≡ true
read_sized v = implied (relative_sources v) (has_sizes v) (each (λ v. not (relative_sources v) || has_sizes v) refl v)

marked_unsized : (v : Version) → marked_sources v ≡ true → has_sizes v ≡ false
marked_unsized v = excluded (marked_sources v) (has_sizes v) (each (λ v. not (marked_sources v) || not (has_sizes v)) refl v)

sized_unmarked : (v : Version) → has_sizes v ≡ true → marked_sources v ≡ false
sized_unmarked v = excluded (has_sizes v) (marked_sources v) (each (λ v. not (has_sizes v) || not (marked_sources v)) refl v)

unsized_by_lem : (v : Version) (property : Version → Bool) → ((w : Version) → property w ≡ true → has_sizes w ≡ true) → has_sizes v ≡ false →
    property v ≡ false
unsized_by_lem v property sized none = by (property v) refl
  where
    by : (b : Bool) → property v ≡ b → b ≡ false
    by true p = never (sym none ∙ sized v p)
    by false p = refl

-- a token is good at its place exactly by the code's test of its layout and its set of types
module _ (v : Version) (set token : ℕ) where
  written_laid_lem : (types : Types) → is_free (destination types) ≡ has_sizes v → laid v (destination types) token ≡ laid v free_destination token
  written_laid_lem free f = refl
  written_laid_lem (only types) f = rw (unsized_by_lem v relative_destinations written_sized (sym f)) refl

  pub written_good : (types : Types) → Meant v (destination types) set → is_good (token_at v (destination types) token) ≡ good_written v set token
  written_good types m =
      token_good v (destination types) token
      ∙ rw (written_laid_lem types m.free, m.types token) refl

  bool_three : (a b c : Bool) → a && (b && c) ≡ (a && b) && c
  bool_three true b c = refl
  bool_three false b c = refl

  or_none : (b : Bool) → b || false ≡ b
  or_none true = refl
  or_none false = refl

  read_laid_lem : (types : Types) → is_free (source types) ≡ has_sizes v → laid v (source types) token ≡ source_laid_in v token
  read_laid_lem free f =
      rw (sized_unmarked v (sym f), or_none (relative_sources v))
      (bool_three (both_laid token) (source_modifier v (modifier_of token) (type_of token)) (eqb (bit 13 token) 0 || relative_sources v))
  read_laid_lem (only types) f =
      rw (unsized_by_lem v relative_sources read_sized (sym f))
      (bool_three (both_laid token) (source_modifier v (modifier_of token) (type_of token)) (eqb (bit 13 token) 0 || marked_sources v))

  pub read_good : (types : Types) → Meant v (source types) set → is_good (token_at v (source types) token) ≡ good_read v set token
  read_good types m =
      token_good v (source types) token ∙ rw (read_laid_lem types m.free, m.types token) refl

  pub plain_good : (types : Types) → Meant v (source types) set → plain_source token ≡ true →
      is_good (token_at v (source types) token) ≡ holds set (type_of token)
  plain_good types m p =
      token_good v (source types) token
      ∙ rw (plain_source_laid v types token p, m.types token) refl

-- an operand at a place, by whether its token is good and brings a relative one
module _ (v : Version) (place : Place) (offset at token : ℕ) (behind : List ℕ) (h : at < length behind) (is : token ≡ get_or behind at 0) where
  abbrev brought : Taken
  brought = relative_token v (offset + 1) (drop (at + 1) behind)

  operand_took : took_in (operand v place offset (drop at behind)) ≡
      pick (is_good (token_at v place token)) (pick (brings_relative place token) (took_in brought) (Some 1)) None
  operand_took =
      rw (operand_at v place offset at behind h, ← is)
      (took_by (token_at v place token) offset (pick (brings_relative place token) brought (operand_taken 1))
      ∙ ap (λ n. pick (is_good (token_at v place token)) n None) (took_pick (brings_relative place token) brought (operand_taken 1)))

  -- it brings none
  pub operand_plain : brings_relative place token ≡ false → then_some (is_good (token_at v place token)) 1 ≡ took_in (operand v place offset (drop at behind))
  operand_plain b = picked (is_good (token_at v place token)) 1 ∙ sym (operand_took ∙ rw b refl)

  pub operand_bad : is_good (token_at v place token) ≡ false → took_in (operand v place offset (drop at behind)) ≡ None
  operand_bad b = operand_took ∙ rw b refl

  pub operand_one : is_good (token_at v place token) ≡ true → brings_relative place token ≡ false →
      took_in (operand v place offset (drop at behind)) ≡ Some 1
  operand_one g b = operand_took ∙ rw (g, b) refl

  pub operand_more : is_good (token_at v place token) ≡ true → brings_relative place token ≡ true →
      took_in (operand v place offset (drop at behind)) ≡ took_in (relative_token v (offset + 1) (drop (at + 1) behind))
  operand_more g b = operand_took ∙ rw (g, b) refl

-- whether a good token brings a relative one, by its bit 13
module _ (v : Version) (token : ℕ) where
  pub unmarked_brings : (place : Place) → bit 13 token ≡ 0 → brings_relative place token ≡ false
  unmarked_brings place z = rw z (and_false (is_free place))

  marked : (bit 13 token ≡ 0 → ⊥) → bit 13 token ≡ 1
  marked some = let less = mod-lt (token / 2 ^ 13) {m = 2} (lit< tt) in omega arith

  free_brings : (place : Place) → is_free place ≡ has_sizes v → has_sizes v ≡ true → (bit 13 token ≡ 0 → ⊥) → brings_relative place token ≡ true
  free_brings place f s some = rw (f, s, marked some) refl

  -- a rule that bit 13 breaks unless the version allows it
  allowed : (a b : Bool) → (bit 13 token ≡ 0 → ⊥) → a && (eqb (bit 13 token) 0 || b) ≡ true → b ≡ true
  allowed a b some h = rw (ne_eqb (bit 13 token) 0 some) at (both_right a _ h)

  pub written_brings : (set : ℕ) (types : Types) → Meant v (destination types) set → good_written v set token ≡ true → (bit 13 token ≡ 0 → ⊥) →
      brings_relative (destination types) token ≡ true
  written_brings set types m g some =
      let rest = sym (destination_order v free_destination token) ∙ both_left (laid v free_destination token) _ g in
      let others = both_laid token && ((eqb (bits 22 21 token) 0 || is_pixel v) && (eqb (bit 23 token) 0 && (eqb (bits 27 24 token) 0 || has_shift_scale v))) in
      free_brings (destination types) m.free (written_sized v (allowed others (relative_destinations v) some rest)) some

  pub read_brings : (set : ℕ) (types : Types) → Meant v (source types) set → good_read v set token ≡ true → (bit 13 token ≡ 0 → ⊥) →
      marked_sources v ≡ false → brings_relative (source types) token ≡ true
  read_brings set types m g some none =
      let Laid_in = both_left (source_laid_in v token) _ g in
      let others = both_laid token && source_modifier v (modifier_of token) (type_of token) in
      let either = allowed others (relative_sources v || marked_sources v) some Laid_in in
      free_brings (source types) m.free (read_sized v (sym (or_none_at (relative_sources v)) ∙ rw none at either)) some
    where
      or_none_at : (b : Bool) → b || false ≡ b
      or_none_at true = refl
      or_none_at false = refl

  pub marked_brings : (set : ℕ) (types : Types) → Meant v (source types) set → marked_sources v ≡ true → brings_relative (source types) token ≡ false
  marked_brings set types m is-marked = rw (m.free, marked_unsized v is-marked) refl

  pub plain_brings : (place : Place) → plain_source token ≡ true → brings_relative place token ≡ false
  plain_brings place p = unmarked_brings place (eqb-true (bit 13 token) 0 (both_left (eqb (bit 13 token) 0) _ (both_right (eqb (bits 15 14 token) 0) _ p)))

-- operands one after the other, by what the first takes
module _ (v : Version) (place : Place) (offset : ℕ) (rest : List Place) (tokens : List ℕ) where
  none_by : (t : Taken) → took_in t ≡ None → is_fit (on_taken t (λ n. operands v rest (offset + n) (drop n tokens))) ≡ false
  none_by (operand_taken n) z = apart (cc)
  none_by (operand_refused r) z = refl

  pub fit_refused : took_in (operand v place offset tokens) ≡ None → is_fit (operands v (place ∷ rest) offset tokens) ≡ false
  unfolding operands
  fit_refused z = none_by (operand v place offset tokens) z

  took_is : (t : Taken) (n : ℕ) → took_in t ≡ Some n → t ≡ operand_taken n
  took_is (operand_taken k) n e = cc
  took_is (operand_refused r) n e = apart (cc)

  module _ (n : ℕ) (e : took_in (operand v place offset tokens) ≡ Some n) where
    pub taken_is : operand v place offset tokens ≡ operand_taken n
    taken_is = took_is (operand v place offset tokens) n e

    pub fit_taken : is_fit (operands v (place ∷ rest) offset tokens) ≡ is_fit (operands v rest (offset + n) (drop n tokens))
    unfolding operands
    fit_taken = rw taken_is refl

pub sources_step : (m k : ℕ) (types : Types) → m ≡ suc k → sources m types ≡ source types ∷ sources k types
sources_step m k types e = rw e refl

-- no place is left: the tokens fit exactly if none is left either
pub fit_end : (v : Version) (offset at : ℕ) (behind : List ℕ) → at ≤ length behind → is_fit (operands v [] offset (drop at behind)) ≡ eqb at (length behind)
unfolding operands
fit_end v offset at behind h = by (eqb at (length behind)) refl
  where
    by : (b : Bool) → eqb at (length behind) ≡ b → is_fit (left_over (drop at behind)) ≡ b
    by true e = let same = eqb-true at (length behind) e in rw (drop_of_length-le behind {i = at} (omega arith)) refl
    by false e = let other = eqb-false at (length behind) e in rw (drop-cons behind at 0 (omega arith)) refl

-- the operands that are left, behind so many of a row, fit exactly if all do
abbrev pub Left : Version → Row → List ℕ → ℕ → ℕ → Type 0
Left v row behind at passed =
    (d s : Types) → Meant v (destination d) row.written → Meant v (source s) row.read →
    (at ≤ length behind) ×
    (is_fit (operands v (sources (row.count - passed) s) (1 + at) (drop at behind)) ≡ is_fit (operands v (destination d ∷ sources (row.count - 1) s) 1 behind))
