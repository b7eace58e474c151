-- The verdict of a byte range, in the order of document 01: LENGTH, VERSION, then the walk.
use Rattle.std.specs.Prelude.{Err}
use Rattle.std.specs.Int.{w32, from_le_bytes}
use Rattle.std.specs.Simd.{first_chunks}
use Rattle.std.proofs.Common.{◌≡◌, ℕ, ◌*◌, ◌/◌, ◌%◌, ◌≤◌, true, false, List, [], eqb, leb, length, get_or, sym, eqb-true, leb-true, div-add-mod', arith}
use Rattle.std.proofs.lemmas.List.{get_or-map}
use Rattle.paper.specs.Numbers.{refusal}
use Rattle.paper.specs.Versions.{named}
use Rattle.paper.specs.Stream.{verdict, walked, on_named, length_laid, most_tokens}
use Rattle.paper.specs.declared.Reason.TheVariants.{Length as LENGTH}
use Rattle.paper.proofs.Bools.{both_left}
use Rattle.byte_checker.specs.Bytes.{tokens_in, tokens_of, bytes_verdict}
use Rattle.byte_checker.proofs.Tokens.{fours, tokens_length}

pub quarter : (bytes : List ℕ) → length bytes % 4 ≡ 0 → length bytes ≡ 4 * (length bytes / 4)
quarter bytes h = omega (arith, div-add-mod' (length bytes) 4)

-- a range cut into tokens, and so many bytes that are left
module _
    (bytes : List ℕ)
    (tokens : List (List ℕ))
    (left : ℕ)
    (cut : tokens ≡ first_chunks 4 (length bytes / 4) bytes)
    (count : length tokens ≡ length bytes / 4)
    (rest : left ≡ length bytes % 4)
  where
    pub verdict_odd : eqb left 0 ≡ false → bytes_verdict bytes ≡ Err (refusal LENGTH 0)
    unfolding bytes_verdict
    verdict_odd odd = rw (← rest, odd)

    module _ (even : eqb left 0 ≡ true) where
      long : length (tokens_in bytes) ≡ length tokens
      long = omega (arith, count, tokens_length bytes (length bytes / 4) (quarter bytes (omega (arith, rest, eqb-true left 0 even))))

      pub verdict_unlaid : length_laid (length tokens) ≡ false → bytes_verdict bytes ≡ Err (refusal LENGTH 0)
      unfolding bytes_verdict verdict
      verdict_unlaid unlaid = rw (← rest, even, long, unlaid)

      pub verdict_named : length_laid (length tokens) ≡ true →
          bytes_verdict bytes ≡ on_named (named (from_le_bytes w32 (get_or tokens 0 []))) (λ v. walked v (tokens_of tokens))
      unfolding bytes_verdict verdict
      verdict_named laid =
          let some : 2 ≤ length tokens = leb-true 2 (length tokens) (both_left (leb 2 (length tokens)) (leb (length tokens) most_tokens) laid) in
          let is : tokens_in bytes ≡ tokens_of tokens = rw cut (sym (fours (length bytes / 4) bytes (omega arith) (omega arith))) in
          let first = get_or-map (from_le_bytes w32) tokens 0 [] 0 (omega arith) in
          rw (← rest, even, long, laid, is, first)
