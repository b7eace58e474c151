-- Tokens have at most one cutting.
use Prim.Native.Nat.{ℕ}
use mathlib.Core.Path.{◌≡◌, refl, sym, ◌∙◌, ap₂}
use mathlib.Core.List.{List, [], ◌∷◌}
use lib.ListN.{length}
use Rattle.paper.specs.Instruction.{token_head, claim}
use Rattle.paper.specs.declared.Version.{Version}
use Rattle.paper.specs.declared.Class.{Class}
use Rattle.paper.specs.Judgements.{good_instruction}
use Rattle.cutting.specs.Cuttings.{Alone, Chunks, last, next, Cutting}
use Rattle.paper.proofs.OwnTokens.{good_claim}
use Rattle.cutting.proofs.CutBy.{cut_by_lem}

-- a chunk has one class
same_class : (v : Version) (first : ℕ) (rest : List ℕ) (c d : Class) → Alone v first rest c → Alone v first rest d → c ≡ d
same_class v first rest c d e f = let same : good_instruction (length rest) c ≡ good_instruction (length rest) d = sym e ∙ f in cc

some : {A : Type 0} {v : Version} {classes : List Class} → Chunks v [] classes → A
some = elim [ ]

same_classes : {v : Version} {chunks : List (List ℕ)} {classes others : List Class} → Chunks v chunks classes → Chunks v chunks others →
    classes ≡ others
same_classes (last e) (last f) = refl
same_classes (last e) (next f notEnd tail) = some tail
same_classes (next e notEnd tail) (last f) = some tail
same_classes {v} (next {first = first} {rest = rest} {class = c} e notEnd tail) (next {class = d} f alsoNot others) =
    ap₂ ◌∷◌ (same_class v first rest c d e f) (same_classes tail others)

-- two cuttings of the same tokens have the same chunks and the same classes
pub one_cutting_lem : (v : Version) (tokens : List ℕ) (chunks others : List (List ℕ)) (classes kinds : List Class) →
    Cutting v tokens chunks classes → Cutting v tokens others kinds → (chunks ≡ others) × (classes ≡ kinds)
one_cutting_lem v tokens chunks others classes kinds c d =
    let by = cut_by_lem v (λ first rest. claim (token_head v first)) (λ first rest other class alone. (good_claim (length rest) class v first rest alone).claims) tokens in
    let same : chunks ≡ others = sym (by chunks classes c) ∙ by others kinds d in
    (same, same_classes (rw same at c.0) d.0)
