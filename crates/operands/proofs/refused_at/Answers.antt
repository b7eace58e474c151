use mathlib.Core.Path.{sym, ap, ◌∙◌}
use Prim.Native.Nat.{◌+◌}
use Rattle.paper.specs.Numbers.{told_token}
use Rattle.places.specs.Places.{place_by}
use Rattle.told.specs.Numbered.{fault_number}
use Rattle.tokens.proofs.TokenAt.{brief_mislaid, brief_type}
use Rattle.operands.proofs.refused_at.Goals as goal

pub returns-in-Layout : goal.returns-in-Layout
returns-in-Layout c =
    let g = c.args in
    c.refused_by.ensures
    ∙ ap (λ t. fault_number (told_token t) (g.at + 1))
    (c.fault_at.ensures ∙ sym (brief_mislaid g.version (place_by g.place) g.token (rw c.in-Layout.is at c.requires.0)))

pub returns-in-Register : goal.returns-in-Register
returns-in-Register c =
    let g = c.args in
    (rw c.of.ensures at c.refused_by-in-Register.ensures)
    ∙ ap (λ t. fault_number (told_token t) (g.at + 1))
    (sym (brief_type g.version (place_by g.place) g.token (rw c.in-Register.is at c.requires.0)))
