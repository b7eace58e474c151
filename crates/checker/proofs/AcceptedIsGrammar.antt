-- A stream is accepted, with a count, exactly if the grammar of document 01 derives it and the count is that of its cutting.
use Rattle.std.specs.Prelude.{Option, Some, None, Ok}
use Prim.Native.Nat.{ℕ}
use mathlib.Core.Path.{◌≡◌, refl, ap, sym, ◌∙◌}
use mathlib.Core.Bool.{Bool, true, false}
use mathlib.Core.List.{List}
use lib.ListN.{length, get_or}
use Rattle.paper.specs.Numbers.{told}
use Rattle.paper.specs.Versions.{named}
use Rattle.paper.specs.Stream.{cut_from, walked, length_laid, verdict, checked}
use Rattle.paper.specs.declared.Version.{Version}
use Rattle.blocks.proofs.WalkIsGrammar.{accepts, accepted}
use Rattle.blocks.specs.Nesting.{count_of}
use Rattle.blocks.proofs.Counting.{walked_nesting}
use Rattle.checker.specs.Accepted.{Grammatical}
use Rattle.paper.proofs.StreamVerdict.{verdict_length, verdict_version, verdict_walked, unlike}
use Rattle.paper.proofs.OneToOne.{same_verdict}

module _ (stream : List ℕ) (n : ℕ) where
  walked_accepted : (v : Version) → length_laid (length stream) ≡ true → named (get_or stream 0 0) ≡ Some v → walked v stream ≡ Ok n →
      Grammatical stream n
  walked_accepted v laid names e =
      let given = accepted (count_of (cut_from v stream 1)) n (cut_from v stream 1) (sym (walked_nesting v stream) ∙ e) in
      record {
        laid = laid;
        version = v;
        names = names;
        ends_at = given.1.0;
        up_to = given.1.1;
        body = given.1.2;
        counted = given.0;
      }

  named_accepted : (name : Option Version) → named (get_or stream 0 0) ≡ name → length_laid (length stream) ≡ true → verdict stream ≡ Ok n →
      Grammatical stream n
  named_accepted (Some v) names laid e = walked_accepted v laid names (sym (verdict_walked stream v laid names) ∙ e)
  named_accepted None names laid e = unlike (sym (verdict_version stream laid names) ∙ e)

  laid_accepted : (test : Bool) → length_laid (length stream) ≡ test → verdict stream ≡ Ok n → Grammatical stream n
  laid_accepted true laid e = named_accepted (named (get_or stream 0 0)) refl laid e
  laid_accepted false laid e = unlike (sym (verdict_length stream laid) ∙ e)

  pub accepted_is_grammar : verdict stream ≡ Ok n → Grammatical stream n
  accepted_is_grammar e = laid_accepted (length_laid (length stream)) refl e

  pub grammar_is_accepted : Grammatical stream n → verdict stream ≡ Ok n
  grammar_is_accepted g =
      verdict_walked stream g.version g.laid g.names
      ∙ walked_nesting g.version stream
      ∙ accepts g.body (count_of (cut_from g.version stream 1)) ∙ ap Ok (sym g.counted)

  -- the same of what a check tells
  pub told_is_grammar : checked stream ≡ told (Ok n) → Grammatical stream n
  told_is_grammar e = accepted_is_grammar (same_verdict (verdict stream) (Ok n) e)

  pub grammar_is_told : Grammatical stream n → checked stream ≡ told (Ok n)
  grammar_is_told g = ap told (grammar_is_accepted g)
