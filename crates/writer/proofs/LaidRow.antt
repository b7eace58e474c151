-- An array of operands fits its row of places exactly where reading the tokens of the row gives it back.
use mathlib.Core.Path.{◌≡◌, refl, sym, ap, ◌∙◌}
use mathlib.Core.Bool.{Bool, true, false, ◌&&◌}
use mathlib.Core.List.{List, [], ◌∷◌, ◌++◌, append_assoc, map-append}
use Prim.Native.Nat.{ℕ, zero, suc, ◌+◌, ◌-◌, ◌≤◌}
use native.Mathlib.Omega.{arith}
use lib.ListN.{length, take, drop, get_or}
use lib.Seq.{take_at, drop_at, drop-drop, get_or_at, take-suc, take-length}
use Rattle.paper.specs.Notation.{pick}
use Rattle.paper.specs.InstructionToken.{with_predicate}
use Rattle.paper.specs.Places.{Place, predicate, is_predicate}
use Rattle.paper.proofs.Bools.{both_left, both_right}
use Rattle.records.specs.declared.Operand.{Operand}
use Rattle.records.specs.Record.{operand_count, predicate_slot, no_operand, width_at, operand_at, in_order, predicate_or, padded, array_of}
use Rattle.records.specs.ByClass.{ordered}
use Rattle.records.proofs.Filled.{in_order_first, behind_first, row_array}
use Rattle.record_tokens.specs.Tokens.{Words, operand_tokens, row_tokens}
use Rattle.record_tokens.proofs.Operands.{words_drop}
use Rattle.writer.specs.Buffer.{word, words_of}
use Rattle.writer.specs.Same.{same_operand}
use Rattle.writer.specs.Laid.{fits, row_fits, all_unused, unused_from, predicate_unused, array_fits}
use Rattle.writer.proofs.Paste.{words_length}
use Rattle.writer.proofs.Same.{operand_equal, operand_own}
use Rattle.writer.proofs.Fields.{given_fits, fits_read}

-- an operand's tokens at the front of others, and what is behind them
words_append : (a b : List ℕ) → words_of (a ++ b) ≡ words_of a ++ words_of b
unfolding words_of
words_append a b = map-append word a b

module _ (place : Place) (o : Operand) (behind : List ℕ) (f : fits place o ≡ true) where
  front_read : operand_at place (words_of (operand_tokens place o ++ behind)) ≡ o
  front_read = rw (words_append (operand_tokens place o) behind) (fits_read place o (words_of behind) f).same

  front_width : width_at place (words_of (operand_tokens place o ++ behind)) ≡ length (operand_tokens place o)
  front_width = rw (words_append (operand_tokens place o) behind) (fits_read place o (words_of behind) f).width

  front_left : drop (length (operand_tokens place o)) (words_of (operand_tokens place o ++ behind)) ≡ words_of behind
  front_left =
      rw (words_append (operand_tokens place o) behind)
      (drop_at (words_of (operand_tokens place o)) (words_of behind) (length (operand_tokens place o)) (words_length (operand_tokens place o)))

-- the operand that a place of some tokens gives
operand_given : (place : Place) (tokens : List ℕ) → Words tokens → fits place (operand_at place tokens) ≡ true
unfolding operand_at Words
operand_given place tokens words = given_fits place (get_or tokens 0 0) (get_or tokens 1 0) (words 0)

-- a place that is not the predicate's, and the predicate's
module _ (place : Place) (row : List Place) (operands : List Operand) (p : Operand) where
  tokens_on : is_predicate place ≡ false → row_tokens (place ∷ row) operands p ≡ operand_tokens place (get_or operands 0 no_operand) ++ row_tokens row (drop 1 operands) p
  unfolding row_tokens
  tokens_on h = rw h

  fits_on : is_predicate place ≡ false → row_fits (place ∷ row) operands p ≡ (fits place (get_or operands 0 no_operand) && row_fits row (drop 1 operands) p)
  unfolding row_fits
  fits_on h = rw h

module _ (row : List Place) (operands : List Operand) (p : Operand) where
  predicate_tokens : row_tokens (predicate ∷ row) operands p ≡ operand_tokens predicate p ++ row_tokens row operands p
  unfolding row_tokens
  predicate_tokens = refl

  predicate_fits : row_fits (predicate ∷ row) operands p ≡ (fits predicate p && row_fits row operands p)
  unfolding row_fits
  predicate_fits = refl

one_token : (p : Operand) → length (operand_tokens predicate p) ≡ 1
unfolding operand_tokens
one_token p = refl

-- a row with no predicate in it
plain_read : (row : List Place) → ordered row ≡ length row → (operands : List Operand) (p : Operand) → length row ≤ length operands →
    row_fits row operands p ≡ true → in_order row (words_of (row_tokens row operands p)) ≡ take (length row) operands
unfolding in_order
plain_read [] plain operands p long f = refl
plain_read (place ∷ row) plain [] p long f = absurd (omega arith)
plain_read (place ∷ row) plain (o ∷ operands) p long f =
    let first = in_order_first place row plain in
    let g = rw (fits_on place row (o ∷ operands) p first.0) at f in
    let own = both_left (fits place o) _ g in
    rw (
      first.0,
      tokens_on place row (o ∷ operands) p first.0,
      front_read place o (row_tokens row operands p) own,
      front_width place o (row_tokens row operands p) own,
      front_left place o (row_tokens row operands p) own,
    )
    (ap (λ (rest : List Operand). o ∷ rest) (plain_read row first.1 operands p (omega arith) (both_right (fits place o) _ g)))

plain_given : (row : List Place) → ordered row ≡ length row → (m : ℕ) (tail : List Operand) (p : Operand) (tokens : List ℕ) → Words tokens → length row ≤ m →
    row_fits row (padded m (in_order row tokens) ++ tail) p ≡ true
unfolding in_order row_fits
plain_given [] plain m tail p tokens words long = refl
plain_given (place ∷ row) plain zero tail p tokens words long = absurd (omega arith)
plain_given (place ∷ row) plain (suc m) tail p tokens words long =
    let first = in_order_first place row plain in
    rw (first.0, operand_given place tokens words)
    (plain_given row first.1 m tail p (drop (width_at place tokens) tokens) (words_drop (width_at place tokens) tokens words) (omega arith))

-- a row with the predicate behind its first place, or without it
module _ (place : Place) (rest : List Place) (plain : ordered (place ∷ rest) ≡ length (place ∷ rest)) (o : Operand) (operands : List Operand) (p : Operand)
    (long : length rest ≤ length operands) where
  abbrev start : (is_predicate place ≡ false) × (ordered rest ≡ length rest)
  start = in_order_first place rest plain

  abbrev written : Bool → List ℕ
  written marked = words_of (row_tokens (with_predicate marked (place ∷ rest)) (o ∷ operands) p)

  first_fits : (marked : Bool) → row_fits (with_predicate marked (place ∷ rest)) (o ∷ operands) p ≡ true → fits place o ≡ true
  first_fits true f = both_left (fits place o) _ (rw (fits_on place (predicate ∷ rest) (o ∷ operands) p start.0) at f)
  first_fits false f = both_left (fits place o) _ (rw (fits_on place rest (o ∷ operands) p start.0) at f)

  marked_read : row_fits (with_predicate true (place ∷ rest)) (o ∷ operands) p ≡ true →
      array_of (with_predicate true (place ∷ rest)) (written true) ≡ padded predicate_slot (take (suc (length rest)) (o ∷ operands)) ++ (p ∷ [])
  marked_read f =
      let own = first_fits true f in
      let later = both_right (fits place o) _ (rw (fits_on place (predicate ∷ rest) (o ∷ operands) p start.0) at f) in
      let both = rw (predicate_fits rest operands p) at later in
      let behind = operand_tokens predicate p ++ row_tokens rest operands p in
      let is : row_tokens (place ∷ (predicate ∷ rest)) (o ∷ operands) p ≡ operand_tokens place o ++ behind =
      tokens_on place (predicate ∷ rest) (o ∷ operands) p start.0 ∙ rw (predicate_tokens rest operands p) in
      let here = front_left place o behind own in
      let left = rw (one_token p) at (front_left predicate p (row_tokens rest operands p) (both_left (fits predicate p) _ both)) in
      rw (
        row_array place rest (written true) start.0 start.1 true,
        is,
        front_read place o behind own,
        front_width place o behind own,
        ← drop-drop 1 (length (operand_tokens place o)) (words_of (operand_tokens place o ++ behind)),
        here,
        left,
        front_read predicate p (row_tokens rest operands p) (both_left (fits predicate p) _ both),
        plain_read rest start.1 operands p long (both_right (fits predicate p) _ both),
      )

  plain_array : row_fits (with_predicate false (place ∷ rest)) (o ∷ operands) p ≡ true →
      array_of (with_predicate false (place ∷ rest)) (written false) ≡ padded predicate_slot (take (suc (length rest)) (o ∷ operands)) ++ (no_operand ∷ [])
  plain_array f =
      let own = first_fits false f in
      let later = both_right (fits place o) _ (rw (fits_on place rest (o ∷ operands) p start.0) at f) in
      let behind = row_tokens rest operands p in
      let same : length (operand_tokens place o) + 0 ≡ length (operand_tokens place o) = omega arith in
      rw (
        row_array place rest (written false) start.0 start.1 false,
        tokens_on place rest (o ∷ operands) p start.0,
        front_read place o behind own,
        front_width place o behind own,
        same,
        front_left place o behind own,
        plain_read rest start.1 operands p long later,
      )

-- unused places
pub padded_none : (m : ℕ) (operands : List Operand) → m ≤ length operands → all_unused (take m operands) ≡ true → padded m [] ≡ take m operands
unfolding all_unused
padded_none zero operands long u = refl
padded_none (suc m) [] long u = absurd (omega arith)
padded_none (suc m) (o ∷ operands) long u =
    let one = operand_equal no_operand o (both_left (same_operand no_operand o) _ u) in
    let rest = padded_none m operands (omega arith) (both_right (same_operand no_operand o) _ u) in
    cc

padded_read : (n k m : ℕ) (operands : List Operand) → m ≡ n + k → m ≤ length operands → all_unused (take k (drop n operands)) ≡ true → padded m (take n operands) ≡ take m operands
padded_read zero k m operands e long u =
    let same : k ≡ m = omega arith in
    padded_none m operands long (rw same at u)
padded_read (suc n) k zero operands e long u = absurd (omega arith)
padded_read (suc n) k (suc m) [] e long u = absurd (omega arith)
padded_read (suc n) k (suc m) (o ∷ operands) e long u = ap (λ (rest : List Operand). o ∷ rest) (padded_read n k m operands (omega arith) (omega arith) u)

padded_unused : (k : ℕ) → all_unused (padded k []) ≡ true
unfolding all_unused
padded_unused zero = refl
padded_unused (suc k) = rw (operand_own no_operand) (padded_unused k)

padded_long : (k : ℕ) → length (padded k []) ≡ k
padded_long zero = refl
padded_long (suc k) = ap suc (padded_long k)

padded_split : (operands : List Operand) (k m : ℕ) → m ≡ length operands + k → padded m operands ≡ operands ++ padded k []
padded_split [] k m e = let same : m ≡ k = omega arith in rw same
padded_split (o ∷ operands) k zero e = absurd (omega arith)
padded_split (o ∷ operands) k (suc m) e = ap (λ (rest : List Operand). o ∷ rest) (padded_split operands k m (omega arith))

pub padded_given : (operands : List Operand) (n k m : ℕ) (tail : List Operand) → length operands ≡ n → m ≡ n + k → all_unused (take k (drop n (padded m operands ++ tail))) ≡ true
padded_given operands n k m tail e s =
    rw (
      padded_split operands k m (omega arith),
      append_assoc operands (padded k []) tail,
      drop_at operands (padded k [] ++ tail) n e,
      take_at (padded k []) tail k (padded_long k),
    )
    (padded_unused k)

-- an array of six, and its last operand
whole : (operands : List Operand) → length operands ≡ operand_count → take predicate_slot operands ++ (get_or operands predicate_slot no_operand ∷ []) ≡ operands
whole operands six =
    let all : take operand_count operands ≡ operands = rw six at (take-length operands) in
    sym (take-suc operands predicate_slot no_operand (omega arith)) ∙ all

padded_length : (n : ℕ) (operands : List Operand) → length (padded n operands) ≡ n
padded_length zero operands = refl
padded_length (suc n) [] = ap suc (padded_length n [])
padded_length (suc n) (o ∷ operands) = ap suc (padded_length n operands)

last_is : (operands : List Operand) (q : Operand) → get_or (padded predicate_slot operands ++ (q ∷ [])) predicate_slot no_operand ≡ q
last_is operands q = get_or_at (padded predicate_slot operands) q [] no_operand predicate_slot (padded_length predicate_slot operands)

order_length : (row : List Place) → ordered row ≡ length row → (tokens : List ℕ) → length (in_order row tokens) ≡ length row
unfolding in_order
order_length [] plain tokens = refl
order_length (place ∷ row) plain tokens =
    let first = in_order_first place row plain in
    rw first.0 (ap suc (order_length row first.1 (drop (width_at place tokens) tokens)))

ordered_with : (place : Place) (rest : List Place) → ordered (place ∷ rest) ≡ length (place ∷ rest) → (marked : Bool) → ordered (with_predicate marked (place ∷ rest)) ≡ suc (length rest)
unfolding ordered
ordered_with place rest plain true = let first = in_order_first place rest plain in rw (first.0, first.1)
ordered_with place rest plain false = plain

module _ (row : List Place) (marked : Bool) (operands : List Operand) (f : array_fits row marked operands ≡ true) where
  array_row : row_fits row operands (get_or operands predicate_slot no_operand) ≡ true
  unfolding array_fits
  array_row = both_left (row_fits row operands (get_or operands predicate_slot no_operand)) _ f

  array_predicate : predicate_unused marked operands ≡ true
  unfolding array_fits
  array_predicate = both_left (predicate_unused marked operands) _ (both_right (row_fits row operands (get_or operands predicate_slot no_operand)) _ f)

  array_unused : unused_from (ordered row) operands ≡ true
  unfolding array_fits
  array_unused = both_right (predicate_unused marked operands) _ (both_right (row_fits row operands (get_or operands predicate_slot no_operand)) _ f)

-- an array that fits is read back
abbrev ReadsBack : List Place → List Operand → Type 0
ReadsBack row operands = array_of row (words_of (row_tokens row operands (get_or operands predicate_slot no_operand))) ≡ operands

read_none : (operands : List Operand) → length operands ≡ operand_count → array_fits [] false operands ≡ true → ReadsBack [] operands
unfolding array_of in_order predicate_or ordered
read_none operands six f =
    let p = operand_equal no_operand (get_or operands predicate_slot no_operand) (array_predicate [] false operands f) in
    let front = padded_none predicate_slot operands (omega arith) (array_unused [] false operands f) in
    (ap (λ (xs : List Operand). xs ++ (no_operand ∷ [])) front ∙ ap (λ (q : Operand). take predicate_slot operands ++ (q ∷ [])) p) ∙ whole operands six

module _ (place : Place) (rest : List Place) (plain : ordered (place ∷ rest) ≡ length (place ∷ rest)) (few : suc (length rest) ≤ predicate_slot) where
  front_back : (marked : Bool) (operands : List Operand) → length operands ≡ operand_count → array_fits (with_predicate marked (place ∷ rest)) marked operands ≡ true →
      padded predicate_slot (take (suc (length rest)) operands) ≡ take predicate_slot operands
  front_back marked operands six f =
      let u = rw (ordered_with place rest plain marked) at (array_unused (with_predicate marked (place ∷ rest)) marked operands f) in
      padded_read (suc (length rest)) (predicate_slot - suc (length rest)) predicate_slot operands (omega arith) (omega arith) u

  read_some : (marked : Bool) (operands : List Operand) → length operands ≡ operand_count → array_fits (with_predicate marked (place ∷ rest)) marked operands ≡ true →
      ReadsBack (with_predicate marked (place ∷ rest)) operands
  read_some marked [] six f = absurd (omega arith)
  read_some true (o ∷ operands) six f =
      let p = get_or (o ∷ operands) predicate_slot no_operand in
      marked_read place rest plain o operands p (omega arith) (array_row (with_predicate true (place ∷ rest)) true (o ∷ operands) f)
      ∙ ap (λ (xs : List Operand). xs ++ (p ∷ [])) (front_back true (o ∷ operands) six f)
      ∙ whole (o ∷ operands) six
  read_some false (o ∷ operands) six f =
      let p = get_or (o ∷ operands) predicate_slot no_operand in
      plain_array place rest plain o operands p (omega arith) (array_row (with_predicate false (place ∷ rest)) false (o ∷ operands) f)
      ∙ ap (λ (xs : List Operand). xs ++ (no_operand ∷ [])) (front_back false (o ∷ operands) six f)
      ∙ ap (λ (q : Operand). take predicate_slot (o ∷ operands) ++ (q ∷ [])) (operand_equal no_operand p (array_predicate (with_predicate false (place ∷ rest)) false (o ∷ operands) f))
      ∙ whole (o ∷ operands) six

pub none_padded : (operands : List Operand) → length operands ≡ operand_count → array_fits [] false operands ≡ true → padded operand_count [] ≡ operands
unfolding array_of in_order predicate_or
none_padded operands six f = read_none operands six f

-- an array that is read fits
pub given_none : array_fits [] false (padded operand_count []) ≡ true
unfolding array_fits row_fits ordered all_unused
given_none = refl

no_row_lem : (tokens : List ℕ) → array_fits [] false (array_of [] tokens) ≡ true
unfolding array_of in_order predicate_or
no_row_lem tokens = given_none

module _ (place : Place) (rest : List Place) (plain : ordered (place ∷ rest) ≡ length (place ∷ rest)) (few : suc (length rest) ≤ predicate_slot) (tokens : List ℕ) (words : Words tokens) where
  abbrev opens : (is_predicate place ≡ false) × (ordered rest ≡ length rest)
  opens = in_order_first place rest plain

  abbrev later : Bool → List Operand
  later marked = in_order rest (drop (behind_first place rest tokens marked) tokens)

  abbrev last : Bool → Operand
  last marked = pick marked (operand_at predicate (drop (width_at place tokens) tokens)) no_operand

  abbrev given : Bool → List Operand
  given marked = operand_at place tokens ∷ (padded 4 (later marked) ++ (last marked ∷ []))

  rest_given : (marked : Bool) → row_fits rest (padded 4 (later marked) ++ (last marked ∷ [])) (last marked) ≡ true
  rest_given marked =
      plain_given rest opens.1 4 (last marked ∷ []) (last marked) (drop (behind_first place rest tokens marked) tokens)
      (words_drop (behind_first place rest tokens marked) tokens words) (omega arith)

  row_given : (marked : Bool) → row_fits (with_predicate marked (place ∷ rest)) (given marked) (last marked) ≡ true
  row_given true =
      rw (
        fits_on place (predicate ∷ rest) (given true) (last true) opens.0,
        operand_given place tokens words,
        predicate_fits rest (padded 4 (later true) ++ (last true ∷ [])) (last true),
        operand_given predicate (drop (width_at place tokens) tokens) (words_drop (width_at place tokens) tokens words),
      )
      (rest_given true)
  row_given false = rw (fits_on place rest (given false) (last false) opens.0, operand_given place tokens words) (rest_given false)

  slot_given : (marked : Bool) → pick marked true (same_operand no_operand (last marked)) ≡ true
  slot_given true = refl
  slot_given false = operand_own no_operand

  unused_given : (marked : Bool) → unused_from (suc (length rest)) (given marked) ≡ true
  unused_given marked =
      padded_given (operand_at place tokens ∷ later marked) (suc (length rest)) (predicate_slot - suc (length rest)) predicate_slot (last marked ∷ [])
      (ap suc (order_length rest opens.1 (drop (behind_first place rest tokens marked) tokens))) (omega arith)

  given_some : (marked : Bool) → array_fits (with_predicate marked (place ∷ rest)) marked (array_of (with_predicate marked (place ∷ rest)) tokens) ≡ true
  unfolding array_fits
  given_some marked =
      rw (
        row_array place rest tokens opens.0 opens.1 marked,
        last_is (operand_at place tokens ∷ later marked) (last marked),
        row_given marked,
        slot_given marked,
        ordered_with place rest plain marked,
      )
      (unused_given marked)

-- both, for any row with no predicate in it
module _ (row : List Place) (plain : ordered row ≡ length row) (few : length row ≤ predicate_slot) (marked : Bool) (some : row ≡ [] → marked ≡ false) where
  pub read_array : (operands : List Operand) → length operands ≡ operand_count → array_fits (with_predicate marked row) marked operands ≡ true →
      array_of (with_predicate marked row) (words_of (row_tokens (with_predicate marked row) operands (get_or operands predicate_slot no_operand))) ≡ operands
  read_array operands six f = by row refl
    where
      by : (r : List Place) → row ≡ r → array_of (with_predicate marked row) (words_of (row_tokens (with_predicate marked row) operands (get_or operands predicate_slot no_operand))) ≡ operands
      by [] e = rw e (read_none operands six (rw (e, some e) at f))
      by (place ∷ rest) e = rw e (read_some place rest (rw e at plain) (rw e at few) marked operands six (rw e at f))

  pub given_array : (tokens : List ℕ) → Words tokens → array_fits (with_predicate marked row) marked (array_of (with_predicate marked row) tokens) ≡ true
  given_array tokens words = by row refl
    where
      by : (r : List Place) → row ≡ r → array_fits (with_predicate marked row) marked (array_of (with_predicate marked row) tokens) ≡ true
      by [] e = rw (e, some e) (no_row_lem tokens)
      by (place ∷ rest) e = rw e (given_some place rest (rw e at plain) (rw e at few) tokens words marked)
