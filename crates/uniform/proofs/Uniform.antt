-- The laws of uniform rows: what the paper says of an opcode that has one.
use Prim.Native.Nat.{ℕ, zero, suc, ◌≤◌}
use mathlib.Core.Path.{◌≡◌, refl, sym, ap, ◌∙◌}
use mathlib.Core.Bool.{Bool, true, false, not, ◌&&◌, ◌||◌}
use mathlib.Core.List.{List, [], ◌∷◌}
use native.Mathlib.Omega.{arith}
use lib.Dec.{eqb, leb}
use lib.ListN.{length}
use borrow.Author.Tests.{eqb-true, eqb-false, ne_eqb, leb-true, not-true}
use Rattle.paper.specs.Notation.{pick}
use Rattle.paper.specs.Versions.{has_sizes}
use Rattle.paper.specs.OpcodeTable.{rows, DCL}
use Rattle.paper.specs.FirstVersions.{first_rows}
use Rattle.paper.specs.InstructionToken.{controls_laid}
use Rattle.paper.specs.Blocks.{classes, class_of}
use Rattle.paper.specs.Places.{Types, free, only, Place, destination, source, Entry, absent, listed, entry_of, typed_places}
use Rattle.paper.specs.OperandTokens.{type_of, is_free, free_destination_types, free_source_types, types_or, typed}
use Rattle.paper.specs.declared.Single.TheVariants.{Comment, Plain, Break, Label, Return, Phase}
use Rattle.paper.specs.declared.Class.{Class}
use Rattle.paper.specs.declared.Class.TheVariants.{One, Opens, Closes}
use Rattle.paper.specs.declared.Version.{Version}
use Rattle.paper.proofs.Below.{below}
use Rattle.paper.proofs.Bools.{both_left, both_right, never}
use Rattle.versions.specs.Sets.{set_of, holds}
use Rattle.versions.proofs.Sets.{same, same_true, agrees, set_among}
use Rattle.versions.proofs.Types.{type_small}
use Rattle.places.specs.Places.{types_by, digits, decoded}
use Rattle.places.proofs.Decoding.{are_places, decoded_places}
use Rattle.shapes.proofs.Computed.{computed}
use Rattle.shapes.proofs.Shapes.{decoded_digits}
use Rattle.uniform.specs.Uniform.{Kind, places_of, kinds_in, number_in, next, kind_number, kind_at, sincos, kind_of, uniform_of, row_of}
use Rattle.uniform.specs.Cells.{count_in}
use Rattle.uniform.proofs.KindRules.{at_zero, in_kinds}
use Rattle.uniform.proofs.Tables.{no_count}

-- the kind that is found has the places that it was looked up by
module _ (number : ℕ) where
  abbrev Numbered : List Kind → ℕ → Type 0
  Numbered ks n = ((kind_at ks n).count ≡ 0 → ⊥) → number ≡ digits (places_of (kind_at ks n))

  none_numbered : (ks : List Kind) → Numbered ks 0
  none_numbered ks some = absurd (some (ap (λ k. k.count) (at_zero ks)))

  later : (k : Kind) (ks : List Kind) (n : ℕ) → Numbered ks n → Numbered (k ∷ ks) (next n)
  later k ks zero back some = absurd (some refl)
  later k ks (suc n) back some = back some

  first : (k : Kind) (ks : List Kind) (b : Bool) → eqb number (digits (places_of k)) ≡ b → Numbered (k ∷ ks) (next (kind_number ks number)) →
      Numbered (k ∷ ks) (pick b 1 (next (kind_number ks number)))
  first k ks true e back some = eqb-true number _ e
  first k ks false e back some = back some

  numbered : (ks : List Kind) → Numbered ks (kind_number ks number)
  numbered [] some = absurd (some refl)
  numbered (k ∷ ks) some = first k ks (eqb number (digits (places_of k))) refl (later k ks (kind_number ks number) (numbered ks)) some

  numbered_but : (ks : List Kind) (b : Bool) → Numbered ks (pick b 0 (kind_number ks number))
  numbered_but ks true = none_numbered ks
  numbered_but ks false = numbered ks

-- what is one instruction that may stand anywhere
abbrev is_plain : Class → Bool
is_plain (One Comment) = false
is_plain (One Plain) = true
is_plain (One Break) = false
is_plain (One Label) = false
is_plain (One Return) = false
is_plain (One Phase) = false
is_plain (Opens o) = false
is_plain (Closes c) = false

is_plain_lem : (c : Class) → is_plain c ≡ true → c ≡ One Plain
is_plain_lem (One Comment) t = never t
is_plain_lem (One Plain) t = refl
is_plain_lem (One Break) t = never t
is_plain_lem (One Label) t = never t
is_plain_lem (One Return) t = never t
is_plain_lem (One Phase) t = never t
is_plain_lem (Opens o) t = never t
is_plain_lem (Closes c) t = never t

abbrev simple : ℕ → Bool
simple opcode = is_plain (class_of opcode) && (controls_laid opcode 0 && not (eqb opcode DCL))

are_simple : (v : Version) (opcode : ℕ) → eqb (count_in v opcode) 0 || simple opcode ≡ true
unfolding rows first_rows entry_of typed_places class_of classes kind_of uniform_of
are_simple = computed (λ v opcode. eqb (count_in v opcode) 0 || simple opcode) refl refl (λ v opcode b e. rw (no_count v opcode b) refl)

module _ (v : Version) (opcode : ℕ) (some : (uniform_of v opcode).count ≡ 0 → ⊥) where
  number_back : number_in (entry_of v opcode) ≡ digits (places_of (uniform_of v opcode))
  unfolding kind_of uniform_of
  number_back = numbered_but (number_in (entry_of v opcode)) (kinds_in v) (eqb opcode sincos) some

  abbrev places : List Place
  places = places_of (uniform_of v opcode)

  places_back : decoded (digits places) ≡ places
  unfolding types_by
  places_back =
      decoded_places places (in_kinds (λ v k. are_places (places_of k)) refl v opcode some)
      (leb-true _ 10 (in_kinds (λ v k. leb (length (places_of k)) 10) refl v opcode some))

  entry_back : (entry : Entry) → entry_of v opcode ≡ entry → number_in entry ≡ digits places → entry ≡ listed places
  entry_back absent e h = never (rw (← h) at (in_kinds (λ v k. not (eqb (digits (places_of k)) 0)) refl v opcode some))
  entry_back (listed found) e h = ap listed (sym (decoded_digits v opcode found e) ∙ (ap decoded h ∙ places_back))

  -- the paper's table lists the opcode with these operands
  pub uniform_entry : entry_of v opcode ≡ listed (places_of (uniform_of v opcode))
  uniform_entry = entry_back (entry_of v opcode) refl number_back

  plain : simple opcode ≡ true
  plain = rw (ne_eqb (count_in v opcode) 0 some) at (are_simple v opcode)

  -- it is plain, zero controls are lawful, and it is not DCL
  pub uniform_plain : class_of opcode ≡ One Plain
  uniform_plain = is_plain_lem (class_of opcode) (both_left (is_plain (class_of opcode)) _ plain)

  pub uniform_controls : controls_laid opcode 0 ≡ true
  uniform_controls = both_left (controls_laid opcode 0) _ (both_right (is_plain (class_of opcode)) _ plain)

  pub uniform_declares : eqb opcode DCL ≡ false
  uniform_declares = not-true _ (both_right (controls_laid opcode 0) _ (both_right (is_plain (class_of opcode)) _ plain))

  -- its places are free exactly where sizes are stated
  pub uniform_written_free : is_free (destination (uniform_of v opcode).written) ≡ has_sizes v
  uniform_written_free = same_true _ _ (in_kinds (λ v k. same (is_free (destination k.written)) (has_sizes v)) refl v opcode some)

  pub uniform_read_free : is_free (source (uniform_of v opcode).read) ≡ has_sizes v
  uniform_read_free = same_true _ _ (in_kinds (λ v k. same (is_free (source k.read)) (has_sizes v)) refl v opcode some)

  -- the sets are those types
  pub uniform_writes : (token : ℕ) →
      holds (row_of v opcode).written (type_of token) ≡ typed v (destination (uniform_of v opcode).written) (type_of token)
  unfolding row_of holds
  uniform_writes token =
      set_among (types_or (uniform_of v opcode).written (free_destination_types v))
      (in_kinds (λ v k. below (agrees (types_or k.written (free_destination_types v))) 32) refl v opcode some) (type_of token) (type_small token)

  pub uniform_reads : (token : ℕ) → holds (row_of v opcode).read (type_of token) ≡ typed v (source (uniform_of v opcode).read) (type_of token)
  unfolding row_of holds
  uniform_reads token =
      set_among (types_or (uniform_of v opcode).read (free_source_types v))
      (in_kinds (λ v k. below (agrees (types_or k.read (free_source_types v))) 32) refl v opcode some) (type_of token) (type_small token)

pub uniform_few : (v : Version) (opcode : ℕ) → (uniform_of v opcode).count ≤ 4
uniform_few v opcode = by (eqb (count_in v opcode) 0) refl
  where
    by : (b : Bool) → eqb (count_in v opcode) 0 ≡ b → count_in v opcode ≤ 4
    by true e = omega (arith, eqb-true (count_in v opcode) 0 e)
    by false e = leb-true _ 4 (in_kinds (λ v k. leb k.count 4) refl v opcode (eqb-false (count_in v opcode) 0 e))

-- in a version with sizes the sets are those of free places
free_types : (t : Types) (types : List ℕ) → is_free (destination t) ≡ true → types_or t types ≡ types
free_types free types h = refl
free_types (only others) types h = never h

source_free : (t : Types) → is_free (source t) ≡ is_free (destination t)
source_free free = refl
source_free (only types) = refl

module _ (v : Version) (opcode : ℕ) (sized : has_sizes v ≡ true) (some : (uniform_of v opcode).count ≡ 0 → ⊥) where
  pub free_written_lem : (row_of v opcode).written ≡ set_of (free_destination_types v)
  unfolding row_of
  free_written_lem = ap set_of (free_types (uniform_of v opcode).written (free_destination_types v) (uniform_written_free v opcode some ∙ sized))

  pub free_read_lem : (row_of v opcode).read ≡ set_of (free_source_types v)
  unfolding row_of
  free_read_lem =
      ap set_of
      (free_types (uniform_of v opcode).read (free_source_types v)
      (sym (source_free (uniform_of v opcode).read) ∙ (uniform_read_free v opcode some ∙ sized)))
