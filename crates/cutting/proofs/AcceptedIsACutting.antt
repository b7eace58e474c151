-- A stream is accepted exactly if it has a cutting that the grammar of the blocks derives, and the count is the cutting's.
use Rattle.std.specs.Prelude.{Option, Some, None, Ok, Err}
use Prim.Native.Nat.{ℕ, zero, suc, ◌+◌, ◌≤◌}
use mathlib.Core.Path.{◌≡◌, refl, ap, sym, ◌∙◌}
use mathlib.Core.Bool.{Bool, true, false}
use mathlib.Core.List.{List, [], ◌∷◌, ◌++◌, append-nil}
use native.Mathlib.Omega.{arith}
use lib.ListN.{length, take, drop, get_or, length-append, length-drop, take-append-drop}
use lib.Seq.{take-length, drop-append_seam, length-take-le}
use Rattle.paper.specs.Notation.{pick}
use Rattle.paper.specs.Numbers.{refusal}
use Rattle.paper.specs.Versions.{named}
use Rattle.paper.specs.Instruction.{judged}
use Rattle.paper.specs.Blocks.{Cut, out, wrong, then, closer_of, Body, no_item, more, Item, one, block, Block, closed, with_else}
use Rattle.paper.specs.Stream.{cut_one, cutting, cut_from, walked, length_laid, on_named, verdict}
use Rattle.paper.specs.declared.Version.{Version}
use Rattle.paper.specs.Judgements.{Judged, good_instruction, bad_instruction}
use Rattle.paper.specs.declared.Reason.TheVariants.{Length as LENGTH}
use Rattle.paper.specs.declared.Opener.{Opener}
use Rattle.paper.specs.declared.Opener.TheVariants.{If, Loop, Rep}
use Rattle.paper.specs.declared.Closer.TheVariants.{Else, EndIf, EndLoop, EndRep, End}
use Rattle.paper.specs.declared.Class.{Class}
use Rattle.paper.specs.declared.Class.TheVariants.{One, Opens, Closes}
use Rattle.paper.specs.Walk.{counts}
use Rattle.blocks.specs.Begins.{ends_stream}
use Rattle.blocks.proofs.WalkIsGrammar.{accepts, accepted}
use Rattle.blocks.specs.Nesting.{count_of}
use Rattle.blocks.proofs.Counting.{walked_nesting}
use Rattle.cutting.specs.Cuttings.{joined, Alone, Chunks, last, next, Cutting, cut_of, instructions, LawfulStream}
use Rattle.paper.proofs.Bools.{apart}
use Rattle.paper.proofs.OwnTokens.{good_within, good_alone}

-- the cut of the chunks of a cutting is the cutting's

cut_nothing : (most : ℕ) (v : Version) (p : ℕ) → cutting most v [] p ≡ out p
unfolding cutting
cut_nothing zero v p = refl
cut_nothing (suc most) v p = refl

alone_with : (v : Version) (first : ℕ) (rest : List ℕ) (class : Class) → Alone v first rest class → (other : List ℕ) →
    judged v (first ∷ (rest ++ other)) ≡ good_instruction (length rest) class
alone_with v first rest class alone other = rw (take-length rest) at (good_alone (length rest) class v (first ∷ rest) other alone)

cut_chunks : (most : ℕ) {v : Version} {chunks : List (List ℕ)} {classes : List Class} → Chunks v chunks classes → (p : ℕ) →
    length (joined chunks) ≤ most → cutting most v (joined chunks) p ≡ cut_of chunks classes p
unfolding cutting
cut_chunks zero (last alone) p h = absurd (omega arith)
cut_chunks zero (next alone notEnd tail) p h = absurd (omega arith)
cut_chunks (suc most) {v} (last {first = first} {rest = rest} alone) p h =
    rw (alone_with v first rest (Closes End) alone [], drop-append_seam rest [], cut_nothing most v (p + suc (length rest)))
cut_chunks (suc most) {v} (next {first = first} {rest = rest} {class = class} {chunks = chunks} alone notEnd tail) p h =
    rw (
      alone_with v first rest class alone (joined chunks),
      drop-append_seam rest (joined chunks),
      cut_chunks most tail (p + suc (length rest)) (omega (arith, length-append rest (joined chunks))),
    )

cut_stream : (v : Version) (s : List ℕ) (chunks : List (List ℕ)) (classes : List Class) → Cutting v (drop 1 s) chunks classes →
    cut_from v s 1 ≡ cut_of chunks classes 1
unfolding cut_from
cut_stream v s chunks classes c = rw (← c.1) (cut_chunks (length (joined chunks)) c.0 1 (omega arith))

count_chunks : {v : Version} {chunks : List (List ℕ)} {classes : List Class} → Chunks v chunks classes → (p : ℕ) →
    count_of (cut_of chunks classes p) ≡ instructions classes
unfolding count_of
count_chunks (last alone) p = refl
count_chunks (next {rest = rest} {class = class} alone notEnd tail) p = ap (counts class) (count_chunks tail (p + suc (length rest)))

-- a cut that the grammar derives has an END, no second one, and no token behind it

abbrev IsOut : Cut → Type 0
IsOut (out p) = Unit {0}
IsOut (wrong p r) = ⊥
IsOut (then c p a) = ⊥

abbrev Either : Bool → Type 0 → Type 0 → Type 0
Either true A B = A
Either false A B = B

abbrev Ends : Cut → Type 0
Ends (out p) = ⊥
Ends (wrong p r) = ⊥
Ends (then c p a) = Either (ends_stream c) (IsOut a) (Ends a)

ends_closer : (o : Opener) (p : ℕ) (a : Cut) → Ends a → Ends (then (Closes (closer_of o)) p a)
ends_closer If p a e = e
ends_closer Loop p a e = e
ends_closer Rep p a e = e

mutual
  ends_body : {depth : ℕ} {in_loop phased : Bool} {a b : Cut} → Body depth in_loop phased a b → Ends b → Ends a
  ends_body no_item e = e
  ends_body (more x y) e = ends_item x (ends_body y e)

  ends_item : {depth : ℕ} {in_loop phased : Bool} {a b : Cut} → Item depth in_loop phased a b → Ends b → Ends a
  ends_item (one h) e = e
  ends_item (block lt x) e = ends_block x e

  ends_block : {depth : ℕ} {in_loop phased : Bool} {a b : Cut} → Block depth in_loop phased a b → Ends b → Ends a
  ends_block (closed {o = o} {q = q} {b = b} x) e = ends_body x (ends_closer o q b e)
  ends_block (with_else x y) e = ends_body x (ends_body y e)

-- tokens whose cut ends so have a cutting

abbrev HasCutting : Version → List ℕ → Type 0
HasCutting v tokens = (chunks : List (List ℕ)) × (classes : List Class) × Cutting v tokens chunks classes

not_out : {A : Type 0} (judgement : Judged) (p : ℕ) (f : ℕ → Cut) → IsOut (cut_one judgement p f) → A
not_out (good_instruction size class) p f e = absurd e
not_out (bad_instruction r) p f e = absurd e

out_nothing : (most : ℕ) (v : Version) (tokens : List ℕ) (p : ℕ) → length tokens ≤ most → IsOut (cutting most v tokens p) → tokens ≡ []
unfolding cutting
out_nothing zero v [] p h e = refl
out_nothing zero v (token ∷ rest) p h e = absurd (omega arith)
out_nothing (suc most) v [] p h e = refl
out_nothing (suc most) v (token ∷ rest) p h e =
    not_out (judged v (token ∷ rest)) p (λ n. cutting most v (drop n (token ∷ rest)) (p + n)) e

end_class : (class : Class) → ends_stream class ≡ true → class ≡ Closes End
end_class (One s) e = apart (cc)
end_class (Opens o) e = apart (cc)
end_class (Closes Else) e = apart (cc)
end_class (Closes EndIf) e = apart (cc)
end_class (Closes EndLoop) e = apart (cc)
end_class (Closes EndRep) e = apart (cc)
end_class (Closes End) e = refl

module _ (v : Version) (first : ℕ) (rest : List ℕ) where
  module _ (size : ℕ) (class : Class) (good : judged v (first ∷ rest) ≡ good_instruction size class) where
    own : Alone v first (take size rest) class
    own =
        let within = good_within size class v (first ∷ rest) good in
        let there : length (take size rest) ≡ size = length-take-le size rest (omega arith) in
        rw there (rw (append-nil (take size rest)) at (good_alone size class v (first ∷ rest) [] good))

    on_class : (is_last : Bool) → ends_stream class ≡ is_last → (a : Cut) → (IsOut a → drop size rest ≡ []) →
        (Ends a → HasCutting v (drop size rest)) →
        Either is_last (IsOut a) (Ends a) → HasCutting v (first ∷ rest)
    on_class true t a stop go e = (
      ((first ∷ take size rest) ∷ []),
      (Closes End ∷ []),
      (last (rw (end_class class t) at own), ap (λ (l : List ℕ). first ∷ l) (rw (stop e) at (take-append-drop size rest))),
    )
    on_class false t a stop go e =
        let g = go e in (
          ((first ∷ take size rest) ∷ g.0),
          (class ∷ g.1),
          (next own t g.2.0, ap (λ (l : List ℕ). first ∷ l) (rw g.2.1 (take-append-drop size rest))),
        )

  on_judged_lem : (judgement : Judged) → judged v (first ∷ rest) ≡ judgement → (p : ℕ) (f : ℕ → Cut) →
      ((n : ℕ) → IsOut (f (suc n)) → drop n rest ≡ []) → ((n : ℕ) → Ends (f (suc n)) → HasCutting v (drop n rest)) →
      Ends (cut_one judgement p f) → HasCutting v (first ∷ rest)
  on_judged_lem (good_instruction size class) good p f stop go e = on_class size class good (ends_stream class) refl (f (suc size)) (stop size) (go size) e
  on_judged_lem (bad_instruction r) good p f stop go e = absurd e

chunks_of : (most : ℕ) (v : Version) (tokens : List ℕ) (p : ℕ) → length tokens ≤ most → Ends (cutting most v tokens p) → HasCutting v tokens
unfolding cutting
chunks_of zero v tokens p h e = absurd e
chunks_of (suc most) v [] p h e = absurd e
chunks_of (suc most) v (first ∷ rest) p h e =
    on_judged_lem v first rest (judged v (first ∷ rest)) refl p (λ n. cutting most v (drop n (first ∷ rest)) (p + n))
    (λ n. out_nothing most v (drop n rest) (p + suc n) (omega (arith, length-drop n rest)))
    (λ n. chunks_of most v (drop n rest) (p + suc n) (omega (arith, length-drop n rest))) e

-- an accepted stream is a cutting

module _ (s : List ℕ) (n : ℕ) where
  by_walk : (v : Version) → length_laid (length s) ≡ true → named (get_or s 0 0) ≡ Some v → walked v s ≡ Ok n → LawfulStream s n
  unfolding cut_from
  by_walk v long name e =
      let w = accepted (count_of (cut_from v s 1)) n (cut_from v s 1) (sym (walked_nesting v s) ∙ e) in
      let c = chunks_of (length (drop 1 s)) v (drop 1 s) 1 (omega arith) (ends_body w.1.2 tt) in
      let same = cut_stream v s c.0 c.1 c.2 in
      record {
        is_long = long;
        version = v;
        is_named = name;
        chunks = c.0;
        classes = c.1;
        is_cutting = c.2;
        is_derived = rw same at w.1;
        is_count = sym (w.0 ∙ ap count_of same ∙ count_chunks c.2.0 1);
      }

  by_tests : (long : Bool) → length_laid (length s) ≡ long → (name : Option Version) → named (get_or s 0 0) ≡ name →
      pick long (on_named name (λ v. walked v s)) (Err (refusal LENGTH 0)) ≡ Ok n → LawfulStream s n
  by_tests true l (Some v) m e = by_walk v l m e
  by_tests true l None m e = apart (cc)
  by_tests false l name m e = apart (cc)

  -- an accepted stream has a cutting that the grammar derives, with as many instructions as the verdict says
  pub accepted_is_a_cutting : verdict s ≡ Ok n → LawfulStream s n
  unfolding verdict
  accepted_is_a_cutting e = by_tests (length_laid (length s)) refl (named (get_or s 0 0)) refl e

  -- a stream that has such a cutting is accepted, and the verdict gives the number of its instructions
  pub a_cutting_is_accepted : LawfulStream s n → verdict s ≡ Ok n
  unfolding verdict
  a_cutting_is_accepted c =
      rw (c.is_long, c.is_named, walked_nesting c.version s, cut_stream c.version s c.chunks c.classes c.is_cutting, count_chunks c.is_cutting.0 1, c.is_count)
      (accepts c.is_derived.2 n)
