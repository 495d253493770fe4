-- The first of a list.
use Rattle.std.specs.Prelude.{List, [], ◌∷◌, Option, Some, None}
use Rattle.ss_machine_rules.specs.declared.Location.{Location}

abbrev pub first : List Location → Option Location
first [] = None
first (l ∷ ls) = Some l
