-- What is told of a token on the way of a stream: that it is good, or whether its layout is wrong or its type alone. What is wrong with a layout is
-- asked for only where it is told, of crate `faults`.
use Rattle.std.specs.Prelude.{ℕ, Bool, Result, Ok, Err}
use Rattle.paper.specs.Notation.{pick}
use Rattle.paper.specs.OperandTokens.{type_of, laid, typed}
use Rattle.paper.specs.Places.{Place}
use Rattle.paper.specs.declared.Version.{Version}
use Rattle.tokens.specs.declared.Wrong.{Wrong}
use Rattle.tokens.specs.declared.Wrong.TheVariants.{Layout, Register}

abbrev pub briefly : Bool → Bool → Result (Unit {0}) Wrong
briefly is_laid is_typed = pick is_laid (pick is_typed (Ok tt) (Err Register)) (Err Layout)

abbrev pub brief : Version → Place → ℕ → Result (Unit {0}) Wrong
brief v place token = briefly (laid v place token) (typed v place (type_of token))
