-- The record of an instruction: of its own tokens alone, of a comment and of END.
use mathlib.Core.Path.{◌≡◌, refl}
use mathlib.Core.List.{List, [], ◌∷◌}
use Prim.Native.Nat.{ℕ, suc}
use native.Mathlib.Omega.{arith}
use lib.ListN.{take}
use lib.Seq.{take-take}
use Rattle.paper.specs.Instruction.{Head, broken, end, comment, operation, token_head, claim, judged}
use Rattle.paper.specs.declared.Version.{Version}
use Rattle.paper.specs.declared.Class.{Class}
use Rattle.paper.specs.Judgements.{good_instruction}
use Rattle.paper.proofs.OwnTokens.{good_claim}
use Rattle.records.specs.Record.{record_on, record_of}

-- "one instruction has one record": it is that of the instruction's own tokens
own_by : (first : ℕ) (rest : List ℕ) (size : ℕ) (h : Head) → claim h ≡ size → record_on h first (take size rest) ≡ record_on h first rest
own_by first rest size (broken reason) k = refl
own_by first rest size end k = refl
own_by first rest size (comment n) k = refl
own_by first rest size (operation row n) k = rw (take-take n size rest (omega arith))

pub record_own : (v : Version) (tokens : List ℕ) {size : ℕ} {class : Class} → judged v tokens ≡ good_instruction size class → record_of v (take (suc size) tokens) ≡ record_of v tokens
unfolding judged record_of
record_own v [] j = refl
record_own v (first ∷ rest) {size} {class} j = own_by first rest size (token_head v first) (good_claim size class v first rest j).claims
