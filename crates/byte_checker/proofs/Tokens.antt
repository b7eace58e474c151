-- The tokens of a byte range, as the bytes in fours give them.
use Rattle.std.proofs.Common.{◌≡◌, ℕ, zero, suc, ◌+◌, ◌*◌, ◌≤◌, ◌<◌, List, [], ◌∷◌, ◌++◌, length, get_or, set, take, drop, refl, ap, arith}
use Rattle.std.specs.Simd.{first_chunks}
use Rattle.byte_checker.specs.Bytes.{tokens_in, tokens_of}

pub fours : (n : ℕ) (bytes : List ℕ) → 4 * n ≤ length bytes → length bytes < 4 * n + 4 → tokens_of (first_chunks 4 n bytes) ≡ tokens_in bytes
unfolding tokens_in
fours zero [] h g = refl
fours zero (b0 ∷ []) h g = refl
fours zero (b0 ∷ b1 ∷ []) h g = refl
fours zero (b0 ∷ b1 ∷ b2 ∷ []) h g = refl
fours zero (b0 ∷ b1 ∷ b2 ∷ b3 ∷ rest) h g = absurd (omega arith)
fours (suc n) [] h g = absurd (omega arith)
fours (suc n) (b0 ∷ []) h g = absurd (omega arith)
fours (suc n) (b0 ∷ b1 ∷ []) h g = absurd (omega arith)
fours (suc n) (b0 ∷ b1 ∷ b2 ∷ []) h g = absurd (omega arith)
fours (suc n) (b0 ∷ b1 ∷ b2 ∷ b3 ∷ rest) h g = rw (fours n rest (omega arith) (omega arith)) (ap (λ (t : ℕ). t ∷ tokens_in rest) (omega arith))

tokens_count : (bytes : List ℕ) → (4 * length (tokens_in bytes) ≤ length bytes) × (length bytes < 4 * length (tokens_in bytes) + 4)
unfolding tokens_in
tokens_count [] = (omega arith, omega arith)
tokens_count (b0 ∷ []) = (omega arith, omega arith)
tokens_count (b0 ∷ b1 ∷ []) = (omega arith, omega arith)
tokens_count (b0 ∷ b1 ∷ b2 ∷ []) = (omega arith, omega arith)
tokens_count (b0 ∷ b1 ∷ b2 ∷ b3 ∷ rest) = let later = tokens_count rest in (omega arith, omega arith)

pub tokens_length : (bytes : List ℕ) (n : ℕ) → length bytes ≡ 4 * n → length (tokens_in bytes) ≡ n
tokens_length bytes n h = omega (arith, tokens_count bytes)

pub tokens_there : (bytes : List ℕ) (n : ℕ) → 4 * n ≤ length bytes → n ≤ length (tokens_in bytes)
tokens_there bytes n h = omega (arith, tokens_count bytes)

-- the tokens of a range at the front of a list, one more
pub one_more : (xs ys : List ℕ) (k v : ℕ) → k < length xs → k < length ys → v ≡ get_or xs k 0 →
    set (take k xs ++ drop k ys) k v ≡ take (suc k) xs ++ drop (suc k) ys
one_more [] ys k v h g e = absurd (omega arith)
one_more (x ∷ xs) [] k v h g e = absurd (omega arith)
one_more (x ∷ xs) (y ∷ ys) zero v h g e = ap (λ (t : ℕ). t ∷ ys) e
one_more (x ∷ xs) (y ∷ ys) (suc k) v h g e = ap (λ l. x ∷ l) (one_more xs ys k v (omega arith) (omega arith) e)
