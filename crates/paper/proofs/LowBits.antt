-- The lowest bits of a token are a remainder.
use Prim.Native.Nat.{ℕ, ◌%◌}
use mathlib.Core.Path.{◌≡◌, sym, ap}
use native.Mathlib.Nat.{div-one}
use Rattle.paper.specs.InstructionToken.{opcode_of}
use Rattle.paper.specs.OperandTokens.{number_field}

pub opcode_low : (token : ℕ) → token % 0x10000 ≡ opcode_of token
opcode_low token = ap (λ t. t % 0x10000) (sym (div-one token))

pub number_low : (token : ℕ) → token % 0x800 ≡ number_field token
number_low token = ap (λ t. t % 0x800) (sym (div-one token))
