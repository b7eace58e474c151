-- What an opcode is to the blocks, as a number.
use Rattle.std.specs.Prelude.{ℕ}
use Rattle.paper.specs.declared.Single.TheVariants.{Comment, Plain, Break, Label, Return, Phase}
use Rattle.paper.specs.declared.Opener.TheVariants.{If, Loop, Rep}
use Rattle.paper.specs.declared.Closer.TheVariants.{Else, EndIf, EndLoop, EndRep, End}
use Rattle.paper.specs.declared.Class.{Class}
use Rattle.paper.specs.declared.Class.TheVariants.{One, Opens, Closes}

abbrev pub class_number : Class → ℕ
class_number (One Comment) = 0
class_number (One Plain) = 1
class_number (One Break) = 2
class_number (One Label) = 3
class_number (One Return) = 4
class_number (Opens If) = 5
class_number (Opens Loop) = 6
class_number (Opens Rep) = 7
class_number (Closes Else) = 8
class_number (Closes EndIf) = 9
class_number (Closes EndLoop) = 10
class_number (Closes EndRep) = 11
class_number (Closes End) = 12
class_number (One Phase) = 13
