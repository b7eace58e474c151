-- Elements stored one after the other from a place on, `sets` of the library: a loop stores the next one behind those that are stored, or
-- from the last one back the next one before them. What no store reaches is as before.
use Prim.Native.Nat.{ℕ, zero, suc, ◌+◌, ◌-◌, ◌≤◌, ◌<◌}
use mathlib.Core.Path.{◌≡◌, refl, sym, ap, ◌∙◌}
use mathlib.Core.List.{List, [], ◌∷◌, ◌++◌, append-nil}
use native.Mathlib.Nat.{add-zero}
use native.Mathlib.Numerals.{add-one}
use native.Mathlib.Omega.{arith}
use lib.ListN.{length, take, drop, get_or, set, length-drop, drop_of_length-le}
use lib.Seq.{sets, sets-eq, take-suc, drop-cons, take_all, take_at, length-take-le, set_comm, get_or-set_other, get_or-take, get_or-drop}
use borrow.Rule.Slice.PartMut.{put_mid}

-- a run, and a run behind it
pub sets_append : (a b l : List ℕ) (i : ℕ) → sets l i (a ++ b) ≡ sets (sets l i a) (i + length a) b
sets_append [] b l i = rw add-zero
sets_append (x ∷ a) b l i =
    let same : i + length (x ∷ a) ≡ suc i + length a = omega arith in
    rw same (sets_append a b (set l i x) (suc i))

-- a run, and a run before it
set_before : (b l : List ℕ) (i j v : ℕ) → j < i → set (sets l i b) j v ≡ sets (set l j v) i b
set_before [] l i j v h = refl
set_before (x ∷ b) l i j v h = rw (set_comm l i j x v (λ e. omega arith)) at (set_before b (set l i x) (suc i) j v (omega arith))

pub sets_before : (a b l : List ℕ) (i j : ℕ) → j + length a ≤ i → sets (sets l i b) j a ≡ sets (sets l j a) i b
sets_before [] b l i j h = refl
sets_before (x ∷ a) b l i j h = rw (set_before b l i j x (omega arith)) (sets_before a b (set l j x) i (suc j) (omega arith))

-- what no store reaches
pub get_d_sets : (a l : List ℕ) (i j : ℕ) → (i ≤ j → i + length a ≤ j) → get_or (sets l i a) j 0 ≡ get_or l j 0
get_d_sets [] l i j h = refl
get_d_sets (x ∷ a) l i j h =
    get_d_sets a (set l i x) (suc i) j (λ g. omega (arith, h (omega arith)))
    ∙ get_or-set_other l i j x 0 (λ e. omega (arith, h (omega arith)))

-- a source, stored from a place on
module _ (old source : List ℕ) (at : ℕ) where
  -- its next element, behind those that are stored
  pub one_behind : (held : List ℕ) (k p v : ℕ) → k < length source → p ≡ at + k → v ≡ get_or source k 0 → held ≡ sets old at (take k source) →
      set held p v ≡ sets old at (take (k + 1) source)
  one_behind held k p v h place value e =
      rw (e, place, value, add-one, take-suc source k 0 h, sets_append, length-take-le k source (omega arith))

  -- and none is left
  pub all_behind : (held : List ℕ) (k : ℕ) → length source ≤ k → held ≡ sets old at (take k source) → held ≡ sets old at source
  all_behind held k h e = rw take_all at e

  -- its next element from the last one back, before them
  pub one_before : (held : List ℕ) (k p v : ℕ) → k < length source → p ≡ at + k → v ≡ get_or source k 0 → held ≡ sets old (at + suc k) (drop (suc k) source) →
      set held p v ≡ sets old (at + k) (drop k source)
  one_before held k p v h place value e =
      let next : at + suc k ≡ suc (at + k) = omega arith in
      rw (e, place, value, drop-cons source k 0 h, next) (set_before (drop (suc k) source) old (suc (at + k)) (at + k) (get_or source k 0) (omega arith))

-- a part of a list
module _ (xs : List ℕ) (from n : ℕ) (inside : from + n ≤ length xs) where
  pub part_length : length (take n (drop from xs)) ≡ n
  part_length = length-take-le n (drop from xs) (omega (arith, length-drop from xs))

  pub part_at : (k : ℕ) → k < n → get_or xs (from + k) 0 ≡ get_or (take n (drop from xs)) k 0
  part_at k h = rw (get_or-take n (drop from xs) k 0 h, get_or-drop)

-- at the front
pub front_stored : (old source held : List ℕ) (n : ℕ) → n ≤ length old → n ≡ length source → held ≡ sets old 0 source → take n held ≡ source
front_stored old source held n h sized e =
    rw (e, sets-eq source old 0 (omega arith)) (take_at source (drop (0 + length source) old) n (sym sized))

-- a part from a place on, lent, stored at its front and given back
cons_sets : (x : ℕ) (xs vs : List ℕ) (i : ℕ) → sets (x ∷ xs) (suc i) vs ≡ x ∷ sets xs i vs
cons_sets x xs [] i = refl
cons_sets x xs (v ∷ vs) i = cons_sets x (set xs i v) vs (suc i)

part_stored : (xs vs : List ℕ) (at : ℕ) → at ≤ length xs → take at xs ++ sets (drop at xs) 0 vs ≡ sets xs at vs
part_stored xs vs zero h = refl
part_stored [] vs (suc at) h = absurd (omega arith)
part_stored (x ∷ xs) vs (suc at) h = ap (λ l. x ∷ l) (part_stored xs vs at (omega arith)) ∙ sym (cons_sets x xs vs at)

pub lent_stored : (xs vs last : List ℕ) (at : ℕ) → at ≤ length xs → last ≡ sets (take (length xs - at) (drop at xs)) 0 vs →
    put_mid at (length xs - at) xs last ≡ sets xs at vs
lent_stored xs vs last at h e =
    let long : length (drop at xs) ≤ length xs - at = omega (arith, length-drop at xs) in
    rw (e, take_all (length xs - at) (drop at xs) long, drop_of_length-le (drop at xs) long, append-nil) (part_stored xs vs at h)
