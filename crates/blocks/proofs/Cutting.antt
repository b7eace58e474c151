-- The cut of a stream, instruction by instruction.
use Prim.Native.Nat.{ℕ, zero, suc, ◌+◌, ◌-◌, ◌≤◌, ◌<◌}
use mathlib.Core.Path.{◌≡◌, refl, ap, sym, ◌∙◌}
use mathlib.Core.List.{List, [], ◌∷◌}
use native.Mathlib.Nat.{add-zero, add_assoc}
use native.Mathlib.Omega.{arith}
use lib.ListN.{length, drop, length-drop, drop_of_length-le}
use lib.Seq.{drop-drop}
use Rattle.paper.specs.Instruction.{judged}
use Rattle.paper.specs.Blocks.{Cut, out, then}
use Rattle.paper.specs.Stream.{cut_one, cutting, cut_from}
use Rattle.paper.specs.declared.Version.{Version}
use Rattle.paper.specs.Judgements.{Judged, good_instruction, bad_instruction}
use Rattle.blocks.specs.Reach.{moved_cut, start_of}

-- only what follows an instruction's first token is ever asked for
cut_one_lem : (judgement : Judged) (p : ℕ) (f g : ℕ → Cut) → ((n : ℕ) → f (suc n) ≡ g (suc n)) → cut_one judgement p f ≡ cut_one judgement p g
cut_one_lem (good_instruction size class) p f g e = ap (then class p) (e size)
cut_one_lem (bad_instruction r) p f g e = refl

-- the bound does not matter where it is enough
pub enough : (f g : ℕ) (v : Version) (tokens : List ℕ) (p : ℕ) → length tokens ≤ f → length tokens ≤ g → cutting f v tokens p ≡ cutting g v tokens p
unfolding cutting
enough zero zero v tokens p h j = refl
enough zero (suc g) v [] p h j = refl
enough zero (suc g) v (token ∷ rest) p h j = absurd (omega arith)
enough (suc f) zero v [] p h j = refl
enough (suc f) zero v (token ∷ rest) p h j = absurd (omega arith)
enough (suc f) (suc g) v [] p h j = refl
enough (suc f) (suc g) v (token ∷ rest) p h j =
    cut_one_lem (judged v (token ∷ rest)) p (λ n. cutting f v (drop n (token ∷ rest)) (p + n)) (λ n. cutting g v (drop n (token ∷ rest)) (p + n))
    (λ n. enough f g v (drop n rest) (p + suc n) (omega (arith, length-drop n rest)) (omega (arith, length-drop n rest)))

-- no token is left
pub cut_none : (v : Version) (s : List ℕ) (p : ℕ) → length s ≤ p → cut_from v s p ≡ out p
unfolding cut_from cutting
cut_none v s p h = rw (drop_of_length-le s h)

module _ (v : Version) (s : List ℕ) (p : ℕ) where
  -- what follows the tokens that an instruction takes
  cut_on : (token : ℕ) (rest : List ℕ) → drop p s ≡ token ∷ rest → (n : ℕ) →
      cutting (length rest) v (drop n rest) (p + suc n) ≡ cut_from v s (p + suc n)
  unfolding cut_from
  cut_on token rest e n =
      let left : drop n rest ≡ drop (p + suc n) s = ap (drop (suc n)) (sym e) ∙ drop-drop (suc n) p s in
      enough (length rest) (length (drop n rest)) v (drop n rest) (p + suc n) (omega (arith, length-drop n rest)) (omega arith)
      ∙ ap (λ (tokens : List ℕ). cutting (length tokens) v tokens (p + suc n)) left

  cut_list : (tokens : List ℕ) → drop p s ≡ tokens → p < length s →
      cutting (length tokens) v tokens p ≡ cut_one (judged v tokens) p (λ n. cut_from v s (p + n))
  unfolding cutting
  cut_list [] e h = let none : 0 ≡ length s - p = ap length (sym e) ∙ length-drop p s in absurd (omega arith)
  cut_list (token ∷ rest) e h =
      cut_one_lem (judged v (token ∷ rest)) p (λ n. cutting (length rest) v (drop n (token ∷ rest)) (p + n)) (λ n. cut_from v s (p + n))
      (cut_on token rest e)

  -- the instruction at a position, and what follows it
  pub cut_at : p < length s → cut_from v s p ≡ cut_one (judged v (drop p s)) p (λ n. cut_from v s (p + n))
  unfolding cut_from
  cut_at h = cut_list (drop p s) refl h

-- a cut begins at its position
start_one : (judgement : Judged) (p : ℕ) (rest : ℕ → Cut) → start_of (cut_one judgement p rest) ≡ p
unfolding start_of
start_one (good_instruction size class) p rest = refl
start_one (bad_instruction r) p rest = refl

pub start_of_lem : (most : ℕ) (v : Version) (tokens : List ℕ) (p : ℕ) → start_of (cutting most v tokens p) ≡ p
unfolding start_of cutting
start_of_lem zero v tokens p = refl
start_of_lem (suc most) v [] p = refl
start_of_lem (suc most) v (token ∷ rest) p =
    start_one (judged v (token ∷ rest)) p (λ n. cutting most v (drop n (token ∷ rest)) (p + n))

pub start_at : (v : Version) (s : List ℕ) (p : ℕ) → start_of (cut_from v s p) ≡ p
unfolding cut_from
start_at v s p = start_of_lem (length (drop p s)) v (drop p s) p

-- the cut where every position is moved: what was at p is at q
module _ (p q : ℕ) where
  moved_one : (k : ℕ) (judgement : Judged) (f g : ℕ → Cut) → ((n : ℕ) → f n ≡ moved_cut (λ x. q + (x - p)) (g n)) →
      cut_one judgement (q + k) f ≡ moved_cut (λ x. q + (x - p)) (cut_one judgement (p + k) g)
  unfolding moved_cut
  moved_one k (good_instruction size class) f g e =
      let at : q + (p + k - p) ≡ q + k = omega arith in
      rw at (ap (then class (q + k)) (e (suc size)))
  moved_one k (bad_instruction r) f g e =
      let at : q + (p + k - p) ≡ q + k = omega arith in
      let told : q + (p + k + r.position - p) ≡ q + k + r.position = omega arith in
      rw (at, told)

  moved_list : (most : ℕ) (v : Version) (tokens : List ℕ) (k : ℕ) →
      cutting most v tokens (q + k) ≡ moved_cut (λ x. q + (x - p)) (cutting most v tokens (p + k))
  unfolding cutting moved_cut
  moved_list zero v tokens k = ap out (omega arith)
  moved_list (suc most) v [] k = ap out (omega arith)
  moved_list (suc most) v (token ∷ rest) k =
      moved_one k (judged v (token ∷ rest)) (λ n. cutting most v (drop n (token ∷ rest)) (q + k + n))
      (λ n. cutting most v (drop n (token ∷ rest)) (p + k + n))
      (λ n. rw (add_assoc q k n, add_assoc p k n) (moved_list most v (drop n (token ∷ rest)) (k + n)))

-- two streams with the same tokens, from p on and from q on, are cut alike
pub cut_moved : (v : Version) (s t : List ℕ) (p q : ℕ) → drop p s ≡ drop q t → cut_from v t q ≡ moved_cut (λ x. q + (x - p)) (cut_from v s p)
unfolding cut_from
cut_moved v s t p q e = rw (← e) (simp add-zero at (moved_list p q (length (drop p s)) v (drop p s) 0))
