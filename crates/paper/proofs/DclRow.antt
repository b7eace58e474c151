-- DCL's row in the tables: U, then its destination.
use mathlib.Core.Path.{◌≡◌}
use mathlib.Core.List.{List, [], ◌∷◌}
use Rattle.paper.specs.OpcodeTable.{DCL, rows}
use Rattle.paper.specs.FirstVersions.{first_rows}
use Rattle.paper.specs.Places.{Place, usage, declared, listed, entry_of, typed_places}
use Rattle.paper.specs.declared.Version.{Version}
use Rattle.paper.specs.declared.Version.TheVariants.{V2, V3, P2, P3, V1, P11, P12, P13, P14}
use Rattle.paper.proofs.Bools.{apart}

abbrev pub declared_row : List Place
declared_row = usage ∷ declared ∷ []

-- ps_1_1 to ps_1_4 have none
pub declared_entry : (v : Version) (places : List Place) → entry_of v DCL ≡ listed places → places ≡ declared_row
unfolding entry_of rows typed_places first_rows
declared_entry V2 places e = cc
declared_entry V3 places e = cc
declared_entry P2 places e = cc
declared_entry P3 places e = cc
declared_entry V1 places e = cc
declared_entry P11 places e = apart (cc)
declared_entry P12 places e = apart (cc)
declared_entry P13 places e = apart (cc)
declared_entry P14 places e = apart (cc)
