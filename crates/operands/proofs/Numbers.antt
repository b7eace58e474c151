-- What is told of an operand, by what is told of its token.
use mathlib.Core.Path.{◌≡◌, refl}
use mathlib.Core.Bool.{Bool, true, false}
use Prim.Native.Nat.{ℕ}
use Rattle.paper.specs.Notation.{pick}
use Rattle.paper.specs.Numbers.{told_token}
use Rattle.paper.specs.Instruction.{on_token}
use Rattle.paper.specs.Judgements.{Token, good_token, bad_token, Taken}
use Rattle.paper.proofs.Faults.{is_good}
use Rattle.told.specs.Numbered.{fault_number, taken_number}

pub on_token_number : (t : Token) (is : Bool) (offset : ℕ) (next : Taken) → is ≡ is_good t →
    taken_number (on_token t offset next) ≡ pick is (taken_number next) (fault_number (told_token t) offset)
on_token_number good_token is offset next e = rw e refl
on_token_number (bad_token reason bit) is offset next e = rw e refl

pub taken_pick : (b : Bool) (x y : Taken) → taken_number (pick b x y) ≡ pick b (taken_number x) (taken_number y)
taken_pick true x y = refl
taken_pick false x y = refl
