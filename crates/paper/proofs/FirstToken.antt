-- What a first token says, and of which tokens it says so: the one way to go by what a head is.
use Prim.Native.Nat.{ℕ, ◌/◌, ◌<◌}
use mathlib.Core.Path.{◌≡◌, refl, ap}
use mathlib.Core.Bool.{Bool, true, false}
use mathlib.Core.List.{List}
use native.Mathlib.Nat.{mod-lt}
use native.Mathlib.Omega.{arith}
use lib.Dec.{eqb, lit<}
use lib.ListN.{length}
use borrow.Author.Tests.{eqb-true, eqb-false, ne_eqb}
use Rattle.paper.specs.Notation.{pick}
use Rattle.paper.specs.Versions.{has_sizes}
use Rattle.paper.specs.InstructionToken.{opcode_of, stated_size, bits_laid, comment_opcode, comment_laid, comment_length, end_opcode, end_token, is_predicated, with_predicate}
use Rattle.paper.specs.Instruction.{claimed, Head, broken, end, comment, operation, head_of, token_head, claim}
use Rattle.paper.specs.Places.{Entry, absent, listed, entry_of, Place}
use Rattle.paper.specs.declared.Version.{Version}
use Rattle.paper.specs.declared.Reason.{Reason}
use Rattle.paper.specs.declared.Reason.TheVariants.{Opcode as OPCODE, Bits as BITS}
use Rattle.paper.proofs.FirstRows.{first_few}

-- neither a comment's opcode nor END's
pub record Other (token : ℕ) : Type 0 where
  pub no_comment : eqb (opcode_of token) comment_opcode ≡ false
  pub no_end : eqb (opcode_of token) end_opcode ≡ false

-- such a token is not END, and a comment's is not
pub not_end : (token : ℕ) → (opcode_of token ≡ end_opcode → ⊥) → eqb token end_token ≡ false
not_end token other = ne_eqb token end_token (λ e. other (ap opcode_of e))

pub other_not_end : {token : ℕ} → Other token → eqb token end_token ≡ false
other_not_end {token} o = not_end token (eqb-false (opcode_of token) end_opcode o.no_end)

pub comment_not_end : (token : ℕ) → opcode_of token ≡ comment_opcode → eqb token end_token ≡ false
comment_not_end token c = not_end token (λ e. omega arith)

-- a first token that is refused: a comment with bit 31; END's opcode and other bits; an opcode in no row; bits that are not laid out
pub data Broken (v : Version) (token : ℕ) : Reason → Type 0 where
  stray_comment : opcode_of token ≡ comment_opcode → comment_laid token ≡ false → Broken v token BITS
  stray_end : opcode_of token ≡ end_opcode → eqb token end_token ≡ false → Broken v token BITS
  no_row_lem : Other token → entry_of v (opcode_of token) ≡ absent → Broken v token OPCODE
  stray_bits : {places : List Place} → Other token → entry_of v (opcode_of token) ≡ listed places → bits_laid v token places ≡ false →
      Broken v token BITS

-- what a token is that says this
pub data Says (v : Version) (token : ℕ) : Head → Type 0 where
  is_broken : {reason : Reason} → Broken v token reason → Says v token (broken reason)
  is_comment_lem : opcode_of token ≡ comment_opcode → comment_laid token ≡ true → Says v token (comment (comment_length token))
  is_end_lem : token ≡ end_token → Says v token end
  is_listed : {places : List Place} → Other token → entry_of v (opcode_of token) ≡ listed places → bits_laid v token places ≡ true →
      Says v token (operation (with_predicate (is_predicated token) places) (claimed v token places))

module _ (v : Version) (token : ℕ) where
  says_entry : Other token → (entry : Entry) → entry_of v (opcode_of token) ≡ entry → Says v token (head_of v token entry)
  says_entry o absent e = is_broken (no_row_lem o e)
  says_entry o (listed places) e = by (bits_laid v token places) refl
    where
      by : (laid : Bool) → bits_laid v token places ≡ laid →
          Says v token (pick laid (operation (with_predicate (is_predicated token) places) (claimed v token places)) (broken BITS))
      by true l = is_listed o e l
      by false l = is_broken (stray_bits o e l)

  says_by : (commented laid ending ended : Bool) → eqb (opcode_of token) comment_opcode ≡ commented → comment_laid token ≡ laid →
      eqb (opcode_of token) end_opcode ≡ ending → eqb token end_token ≡ ended →
      Says v token
      (pick commented (pick laid (comment (comment_length token)) (broken BITS))
      (pick ending (pick ended end (broken BITS)) (head_of v token (entry_of v (opcode_of token)))))
  says_by true true ending ended c l n e = is_comment_lem (eqb-true _ _ c) l
  says_by true false ending ended c l n e = is_broken (stray_comment (eqb-true _ _ c) l)
  says_by false laid true true c l n e = is_end_lem (eqb-true _ _ e)
  says_by false laid true false c l n e = is_broken (stray_end (eqb-true _ _ n) e)
  says_by false laid false ended c l n e = says_entry (record { no_comment = c; no_end = n }) (entry_of v (opcode_of token)) refl

  pub says : Says v token (token_head v token)
  unfolding token_head
  says =
      says_by (eqb (opcode_of token) comment_opcode) (comment_laid token) (eqb (opcode_of token) end_opcode) (eqb token end_token) refl refl refl refl

  -- nothing but a comment claims more than fifteen tokens behind its first
  pub fifteen : (h : Head) → Says v token h → ((n : ℕ) → h ≡ comment n → ⊥) → claim h < 16
  fifteen h (is_broken b) none = omega arith
  fifteen h (is_comment_lem o l) none = absurd (none (comment_length token) refl)
  fifteen h (is_end_lem e) none = omega arith
  fifteen h (is_listed {places} o e l) none = by (has_sizes v) refl
    where
      by : (sized : Bool) → has_sizes v ≡ sized → pick sized (stated_size token) (length places) < 16
      by true s = mod-lt (token / 16777216) (lit< tt)
      by false s = omega (arith, first_few v (opcode_of token) places s e)
