-- A token, put together from its fields: one law for each digit, and a sum of them for each layout.
use mathlib.Core.Path.{◌≡◌, sym, ap, ◌∙◌}
use Prim.Native.Nat.{ℕ, ◌+◌, ◌*◌, ◌/◌, ◌%◌, ◌^◌, ◌<◌}
use native.Mathlib.Nat.{mod-add-div, div-div-eq-div-mul, mod-lt, div-one}
use native.Mathlib.Omega.{arith}
use lib.Dec.{lit<}
use Rattle.paper.specs.Notation.{bits, bit}
use Rattle.paper.specs.InstructionToken.{opcode_of, controls_of, stated_size, is_coissued, comment_length}
use Rattle.paper.specs.OperandTokens.{number_field, type_of, modifier_of}
use Rattle.records.specs.Record.{mask_of, result_of, shift_of, swizzle_of}
use Rattle.record_tokens.specs.Tokens.{token_of, head_token}

-- what stands above a, by the digit below b
split : (t a b : ℕ) → t / a ≡ t / a % b + b * (t / (a * b))
split t a b = sym (mod-add-div (t / a) b) ∙ ap (λ q. t / a % b + b * q) (div-div-eq-div-mul t a b)

top : (t : ℕ) → t < 2 ^ 32 → t / 2 ^ 31 ≡ t / 2 ^ 31 % 2
top t h = omega arith

-- the register type's two parts
low : (l h : ℕ) → l < 8 → (l + 8 * h) % 8 ≡ l
low l h p = omega arith

high : (l h : ℕ) → l < 8 → (l + 8 * h) / 8 ≡ h
high l h p = omega arith

glue : (n h r z m l : ℕ) {t q0 q1 q2 q3 q4 q5 : ℕ} →
    t ≡ n + 2048 * q0 → q0 ≡ h + 4 * q1 → q1 ≡ r + 2 * q2 → q2 ≡ z + 4 * q3 → q3 ≡ m + 4096 * q4 → q4 ≡ l + 8 * q5 → z ≡ 0 → q5 ≡ 1 →
    n + (2048 * h + (8192 * r + (65536 * m + (268435456 * l + 2147483648)))) ≡ t
glue n h r z m l a b c d e f i j = omega arith

module _ (t : ℕ) (word : t < 2 ^ 32) (zeros : bits 15 14 t ≡ 0) (mark : bit 31 t ≡ 1) where
  pub token_back : token_of (number_field t) (type_of t) (bit 13 t) (bits 27 16 t) ≡ t
  token_back =
      rw (div-one t, high (bits 30 28 t) (bits 12 11 t) (mod-lt (t / 2 ^ 28) (lit< tt)), low (bits 30 28 t) (bits 12 11 t) (mod-lt (t / 2 ^ 28) (lit< tt)))
      (glue (t % 2 ^ 11) (t / 2 ^ 11 % 4) (t / 2 ^ 13 % 2) (t / 2 ^ 14 % 4) (t / 2 ^ 16 % 2 ^ 12) (t / 2 ^ 28 % 8)
      (sym (mod-add-div t 2048)) (split t 2048 4) (split t 8192 2) (split t 16384 4) (split t 65536 4096) (split t 268435456 8) zeros (top t word ∙ mark))

-- bits 27:16 of a source and of a destination
source_digits : (x : ℕ) → x % 4096 ≡ x % 256 + 256 * (x / 256 % 16)
source_digits x = omega arith

above : (t a b : ℕ) → t / (a * b) ≡ t / a / b
above t a b = sym (div-div-eq-div-mul t a b)

four : (x : ℕ) → x % 4096 ≡ x % 16 + 16 * (x / 16 % 256)
four x = omega arith

three : (x : ℕ) → x % 256 ≡ x % 8 + 8 * (x / 8 % 32)
three x = omega arith

one : (x : ℕ) → x % 32 ≡ x % 2 + 2 * (x / 2 % 16)
one x = omega arith

-- a digit of a destination's is zero
destination_digits : (x : ℕ) → x / 128 % 2 ≡ 0 → x % 4096 ≡ x % 16 + (16 * (x / 16 % 8) + 256 * (x / 256 % 16))
destination_digits x a =
    rw (four x, three (x / 16), ← above x 16 8, one (x / 128), ← above x 128 2) (omega arith)

pub source_middle : (t : ℕ) → bits 27 16 t ≡ swizzle_of t + 2 ^ 8 * modifier_of t
source_middle t = rw (above t 65536 256) (source_digits (t / 65536))

pub destination_middle : (t : ℕ) → bit 23 t ≡ 0 → bits 27 16 t ≡ mask_of t + (2 ^ 4 * result_of t + 2 ^ 8 * shift_of t)
destination_middle t a =
    rw (above t 65536 16, above t 65536 256) (destination_digits (t / 65536) (rw (above t 65536 128) at a))

-- an instruction token; where bits 29:16 are zero, bit 29 is
last_digit : (x : ℕ) → x % 16384 ≡ 0 → x / 8192 % 2 ≡ 0
last_digit x z = omega arith

pub reserved_zero : (t : ℕ) → bits 29 16 t ≡ 0 → bit 29 t ≡ 0
reserved_zero t zeros = rw (above t 65536 8192) (last_digit (t / 65536) zeros)

glue_instruction : (o c s p z i : ℕ) {t q0 q1 q2 q3 q4 q5 : ℕ} → t ≡ o + 65536 * q0 → q0 ≡ c + 256 * q1 → q1 ≡ s + 16 * q2 → q2 ≡ p + 2 * q3 →
    q3 ≡ z + 2 * q4 → q4 ≡ i + 2 * q5 → z ≡ 0 → q5 ≡ 0 → o + (65536 * c + (16777216 * s + (268435456 * p + 1073741824 * i))) ≡ t
glue_instruction o c s p z i a b d e f g j k = omega arith

pub instruction_back : (t : ℕ) → t < 2 ^ 32 → bit 29 t ≡ 0 → bit 31 t ≡ 0 →
    head_token (opcode_of t) (controls_of t) (stated_size t) (bit 28 t) (is_coissued t) ≡ t
instruction_back t word zero last =
    rw (div-one t)
    (glue_instruction (t % 65536) (t / 65536 % 256) (t / 16777216 % 16) (t / 268435456 % 2) (t / 536870912 % 2) (t / 1073741824 % 2)
    (sym (mod-add-div t 65536)) (split t 65536 256) (split t 16777216 16) (split t 268435456 2) (split t 536870912 2) (split t 1073741824 2) zero
    (top t word ∙ last))

glue_comment : (o n : ℕ) {t q0 q1 : ℕ} → t ≡ o + 65536 * q0 → q0 ≡ n + 32768 * q1 → q1 ≡ 0 → o + 65536 * n ≡ t
glue_comment o n a b c = omega arith

pub comment_back : (t : ℕ) → t < 2 ^ 32 → bit 31 t ≡ 0 → opcode_of t + 2 ^ 16 * comment_length t ≡ t
comment_back t word zero =
    rw (div-one t) (glue_comment (t % 65536) (t / 65536 % 32768) (sym (mod-add-div t 65536)) (split t 65536 32768) (top t word ∙ zero))

-- a token of fields that fit, taken apart again: what stands above bit 15, and below it
upper : (n h r m l : ℕ) → n < 2048 → h < 4 → r < 2 → (n + (2048 * h + (8192 * r + (65536 * m + (268435456 * l + 2147483648))))) / 65536 ≡ m + 4096 * (l + 8)
upper n h r m l a b c = omega arith

module _ (n h r m l : ℕ) (a : n < 2048) (b : h < 4) (c : r < 2) (d : m < 4096) (e : l < 8) where
  abbrev whole : ℕ
  whole = n + (2048 * h + (8192 * r + (65536 * m + (268435456 * l + 2147483648))))

  whole_word : whole < 2 ^ 32
  whole_word = omega arith

  number_digit : whole % 2048 ≡ n
  number_digit = omega arith

  high_digit : whole / 2048 % 4 ≡ h
  high_digit = omega arith

  relative_digit : whole / 8192 % 2 ≡ r
  relative_digit = omega arith

  low_digit : whole / 268435456 % 8 ≡ l
  low_digit = rw (above whole 65536 4096, upper n h r m l a b c) (omega arith)

  mask_digit : whole / 65536 % 16 ≡ m % 16
  mask_digit = rw (upper n h r m l a b c) (omega arith)

  swizzle_digit : whole / 65536 % 256 ≡ m % 256
  swizzle_digit = rw (upper n h r m l a b c) (omega arith)

  result_digit : whole / 1048576 % 8 ≡ m / 16 % 8
  result_digit = rw (above whole 65536 16, upper n h r m l a b c) (omega arith)

  modifier_digit : whole / 16777216 % 16 ≡ m / 256
  modifier_digit = rw (above whole 65536 256, upper n h r m l a b c) (omega arith)

-- the same for a register type in its two parts
module _ (number kind relative middle : ℕ) (a : number < 2 ^ 11) (b : kind < 32) (c : relative < 2) (d : middle < 2 ^ 12) where
  abbrev token : ℕ
  token = token_of number kind relative middle

  high_small : kind / 8 < 4
  high_small = omega arith

  low_small : kind % 8 < 8
  low_small = omega arith

  pub token_word : token < 2 ^ 32
  token_word = whole_word number (kind / 8) relative middle (kind % 8) a high_small c d low_small

  pub number_taken : number_field token ≡ number
  number_taken = rw (div-one token) (number_digit number (kind / 8) relative middle (kind % 8) a high_small c d low_small)

  pub kind_taken : type_of token ≡ kind
  kind_taken =
      rw (
        low_digit number (kind / 8) relative middle (kind % 8) a high_small c d low_small,
        high_digit number (kind / 8) relative middle (kind % 8) a high_small c d low_small,
      )
      (omega arith)

  pub relative_taken : bit 13 token ≡ relative
  relative_taken = relative_digit number (kind / 8) relative middle (kind % 8) a high_small c d low_small

  pub mask_taken : mask_of token ≡ middle % 16
  mask_taken = mask_digit number (kind / 8) relative middle (kind % 8) a high_small c d low_small

  pub swizzle_taken : swizzle_of token ≡ middle % 256
  swizzle_taken = swizzle_digit number (kind / 8) relative middle (kind % 8) a high_small c d low_small

  pub result_taken : result_of token ≡ middle / 16 % 8
  result_taken = result_digit number (kind / 8) relative middle (kind % 8) a high_small c d low_small

  pub modifier_taken : modifier_of token ≡ middle / 256
  modifier_taken = modifier_digit number (kind / 8) relative middle (kind % 8) a high_small c d low_small
