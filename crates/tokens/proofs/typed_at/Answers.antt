use Prim.Native.Nat.{◌<◌}
use mathlib.Core.Path.{sym, ◌∙◌}
use native.Mathlib.Nat.{mod-lt}
use native.Mathlib.Omega.{arith}
use lib.Dec.{lit<}
use Rattle.paper.specs.OperandTokens.{type_of}
use Rattle.places.specs.Places.{only_type}
use Rattle.places.proofs.Places.{condition_place, predicate_place, relative_place, declared_place}
use Rattle.versions.proofs.Sets.{one_among}
use Rattle.versions.proofs.Types.{type_small}
use Rattle.tokens.proofs.TokenAt.{typed_at, untabled, predicate_types_lem, one_bit}
use Rattle.tokens.proofs.typed_at.Goals as goal

pub returns-in-92 : goal.returns-in-92
returns-in-92 c = rw (c.in-92.is, condition_place) c.condition_typed.ensures

pub returns-in-93 : goal.returns-in-93
returns-in-93 c = rw (c.in-93.is, predicate_place) (c.type_in.ensures ∙ predicate_types_lem _)

pub returns-in-94 : goal.returns-in-94
returns-in-94 c = rw (c.in-94.is, relative_place) c.relative_typed.ensures

pub returns-in-61 : goal.returns-in-61
returns-in-61 c = rw (c.in-61.is, declared_place)

pub returns-in_default : goal.returns-in_default
returns-in_default c =
    let g = c.args in
    let small : only_type g.place < 32 = mod-lt g.place (lit< tt) in
    let types = typed_at g.version g.token g.place c.requires.0 c.requires.1 (λ e. omega arith) (λ e. omega arith) (λ e. omega arith) (λ e. omega arith) in
    c.type_in-in_default.ensures
    ∙ rw (c.only_type.ensures, one_bit (only_type g.place) small)
    (one_among (only_type g.place) (type_of g.token) small (type_small g.token) ∙ sym (rw (untabled g.place c.requires.2) at types))
