-- The form of U that DCL takes with a register type, by the form that code gives back.
use mathlib.Core.Path.{◌≡◌, refl, ◌∙◌}
use mathlib.Core.Bool.{Bool, true, false}
use Prim.Native.Nat.{ℕ}
use lib.Dec.{eqb}
use Rattle.std.specs.Prelude.{Option, Some, None}
use Rattle.std.specs.Option.{unwrap_or}
use Rattle.paper.specs.Notation.{pick, among}
use Rattle.paper.specs.Dcl.{sampler_types, plain_types, usage_types, form_by}
use Rattle.paper.specs.declared.Version.{Version}
use Rattle.paper.proofs.OneToOne.{told_back}
use Rattle.versions.specs.Forms.{form_number}
use Rattle.versions.specs.Rows.{form_of}
use Rattle.versions.specs.declared.Form.{Form}
use Rattle.versions.specs.declared.Form.TheVariants.{Sampler, Plain, Usage}

pub by_number : {A : Type 0} (v : Version) (type : ℕ) (a b c : A) →
    form_by v type a b c ≡ pick (eqb (form_of v type) 1) a (pick (eqb (form_of v type) 2) b c)
by_number {A} v type a b c = this (among type (sampler_types v)) (among type (plain_types v)) (among type (usage_types v))
  where
    this : (sampler plain used : Bool) → pick sampler a (pick plain b c) ≡
        pick (eqb (pick sampler 1 (pick plain 2 (pick used 3 0))) 1) a (pick (eqb (pick sampler 1 (pick plain 2 (pick used 3 0))) 2) b c)
    this true plain used = refl
    this false true used = refl
    this false false true = refl
    this false false false = refl

-- a type that is not declared has no form; its U is told of as a usage
abbrev pub by_form : {A : Type 0} → Form → A → A → A → A
by_form Sampler a b c = a
by_form Plain a b c = b
by_form Usage a b c = c

pub form_by_lem : {A : Type 0} (v : Version) (type : ℕ) (a b c : A) (form : Option Form) → form_number form ≡ form_of v type →
    form_by v type a b c ≡ by_form (unwrap_or form Usage) a b c
form_by_lem {A} v type a b c form e = by_number v type a b c ∙ rw (← e) (this form)
  where
    this : (f : Option Form) → pick (eqb (form_number f) 1) a (pick (eqb (form_number f) 2) b c) ≡ by_form (unwrap_or f Usage) a b c
    this (Some Sampler) = refl
    this (Some Plain) = refl
    this (Some Usage) = refl
    this None = refl

-- the number leaves one form
abbrev numbered_form : ℕ → Option Form
numbered_form n = pick (eqb n 1) (Some Sampler) (pick (eqb n 2) (Some Plain) (pick (eqb n 3) (Some Usage) None))

form_back : (f : Option Form) → numbered_form (form_number f) ≡ f
form_back None = refl
form_back (Some Sampler) = refl
form_back (Some Plain) = refl
form_back (Some Usage) = refl

pub same_form : (a b : Option Form) → form_number a ≡ form_number b → a ≡ b
same_form = told_back form_number numbered_form form_back
