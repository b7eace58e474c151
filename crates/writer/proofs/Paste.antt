-- Tokens stored in a room one after the other, and at a place of a buffer.
use Rattle.std.specs.Prelude.{Some, None}
use mathlib.Core.Path.{◌≡◌, refl, sym, ap, ◌∙◌}
use mathlib.Core.Bool.{Bool, true, false}
use mathlib.Core.List.{List, [], ◌∷◌, ◌++◌, append_assoc, map-append}
use Prim.Native.Nat.{ℕ, ◌+◌, ◌-◌, ◌^◌, ◌≤◌, ◌<◌}
use native.Mathlib.Omega.{arith}
use lib.ListN.{length, take, drop, set, length-set, length-append, length-map}
use lib.Seq.{sets, sets-eq, length-sets}
use borrow.Rule.Slice.PartMut.{mid_of, put_mid, mid_len}
use Rattle.lists.proofs.Stores.{sets_append, sets_before, lent_stored}
use Rattle.paper.proofs.Bools.{apart}
use Rattle.writer.specs.Buffer.{word, words_of, pasted, Put}
use Rattle.writer.specs.Laid.{PutIf}

-- the words of tokens
pub small : (t : ℕ) → t < 2 ^ 32 → word t ≡ t
small t h = omega arith

pub words_length : (tokens : List ℕ) → length (words_of tokens) ≡ length tokens
unfolding words_of
words_length tokens = length-map tokens word

-- what is put leaves a room as long as it was
pub put_length : {tokens room after : List ℕ} {at next : ℕ} → Put tokens room at next after → length after ≡ length room
put_length {tokens} {room} {after} {at} {next} put = ap length put.after_is ∙ length-sets room at (words_of tokens)

-- the part of a room from a place on, lent and given back: what is stored at its front is stored at the place
pub lent_length : (room : List ℕ) (at : ℕ) → length (mid_of at (length room - at) room) ≡ length room - at
lent_length room at = mid_len at (length room) room (omega arith)

pub put_on : (room : List ℕ) (at : ℕ) → at ≤ length room → (tokens last : List ℕ) (taken : ℕ) → Put tokens (mid_of at (length room - at) room) 0 taken last →
    Put tokens room at (at + taken) (put_mid at (length room - at) room last)
put_on room at h tokens last taken put =
    record { next_is = omega (arith, put.next_is); after_is = lent_stored room (words_of tokens) last at h put.after_is }

-- one token, a second one in the remainder, and a first one before those in the remainder
module _ (room : List ℕ) where
  pub put_one : (tokens : List ℕ) (t w : ℕ) → tokens ≡ t ∷ [] → w ≡ word t → Put tokens room 0 1 (set room 0 w)
  unfolding words_of
  put_one tokens t w e k = rw (e, k) (record { next_is = refl; after_is = refl })

  pub put_two : (tokens last : List ℕ) (t u w x : ℕ) → 1 ≤ length room → tokens ≡ t ∷ (u ∷ []) → w ≡ word t → x ≡ word u →
      last ≡ sets (mid_of 1 (length (set room 0 w) - 1) (set room 0 w)) 0 (x ∷ []) → Put tokens room 0 2 (put_mid 1 (length (set room 0 w) - 1) (set room 0 w) last)
  unfolding words_of
  put_two tokens last t u w x h e k l put =
      record { next_is = rw e; after_is = rw (lent_stored (set room 0 w) (x ∷ []) last 1 (simp length-set h) put, e, k, l) }

  pub put_first : (tokens behind last : List ℕ) (t w size : ℕ) → 1 ≤ length room → tokens ≡ t ∷ behind → w ≡ word t →
      Put behind (mid_of 1 (length room - 1) room) 0 size last → Put tokens room 0 (1 + size) (set (put_mid 1 (length room - 1) room last) 0 w)
  unfolding words_of
  put_first tokens behind last t w size h e k put =
      rw (e, k)
      (record {
        next_is = omega (arith, put.next_is);
        after_is = rw (lent_stored room (words_of behind) last 1 h put.after_is) (sets_before (word t ∷ []) (words_of behind) room 1 0 (omega arith));
      })

-- put if a test holds
module _ {test : Bool} {tokens room after : List ℕ} where
  pub put_failed : test ≡ false → length after ≡ length room → PutIf test tokens room None after
  put_failed h long = record { fails = λ is. h; passes = λ some. apart (cc); put = λ some. apart (cc); long = long }

  pub put_passed : {next : ℕ} → test ≡ true → Put tokens room 0 next after → PutIf test tokens room (Some next) after
  put_passed {next} h p = record { fails = λ none. apart (cc); passes = λ some. h; put = λ {n} some. same n some; long = put_length p }
    where
      same : (n : ℕ) → Some next ≡ Some n → Put tokens room 0 n after
      same n some = let is : next ≡ n = cc in rw (← is) p

-- what is left to be put, and the place for it
pub record Rest (tokens room left : List ℕ) (next : ℕ) (after : List ℕ) : Type 0 where
  pub ends : next + length left ≡ length tokens
  pub leaves : sets after next (words_of left) ≡ sets room 0 (words_of tokens)

module _ (tokens room : List ℕ) (next : ℕ) (after : List ℕ) where
  pub rest_on : (a b : List ℕ) (next' : ℕ) (after' : List ℕ) → Rest tokens room (a ++ b) next after → Put a after next next' after' → Rest tokens room b next' after'
  unfolding words_of
  rest_on a b next' after' rest put =
      let long : next' ≡ next + length (words_of a) = omega (arith, put.next_is, words_length a) in
      record {
        ends = omega (arith, put.next_is, rest.ends, length-append a b);
        leaves = rw (put.after_is, long, ← sets_append (words_of a) (words_of b) after next, ← map-append word a b) rest.leaves;
      }

  pub rest_none : (left : List ℕ) → left ≡ [] → Rest tokens room left next after → Put tokens room 0 next after
  unfolding words_of
  rest_none left e rest =
      let r : Rest tokens room [] next after = rw e at rest in
      record { next_is = omega (arith, r.ends); after_is = r.leaves }

-- at a place of a buffer
pub stored : (buffer tokens : List ℕ) (at : ℕ) → at + length tokens ≤ length buffer → sets buffer at tokens ≡ pasted buffer at tokens
unfolding pasted
stored buffer tokens at h = sets-eq tokens buffer at h ∙ append_assoc (take at buffer) tokens (drop (at + length tokens) buffer)

pub length_pasted : (xs tokens : List ℕ) (at : ℕ) → at + length tokens ≤ length xs → length (pasted xs at tokens) ≡ length xs
length_pasted xs tokens at h = rw (← stored xs tokens at h) (length-sets xs at tokens)

pub pasted_on : (xs a b : List ℕ) (at : ℕ) → at + length a + length b ≤ length xs → pasted (pasted xs at a) (at + length a) b ≡ pasted xs at (a ++ b)
pasted_on xs a b at h =
    rw (
      ← stored xs a at (omega arith),
      ← stored (sets xs at a) b (at + length a) (omega (arith, length-sets xs at a)),
      ← stored xs (a ++ b) at (omega (arith, length-append a b)),
    )
    (sym (sets_append a b xs at))
