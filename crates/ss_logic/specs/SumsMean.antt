-- The whole number that a sum of terms is in a structure.
use Rattle.std.specs.Prelude.{ℤ, pos, ◌+ℤ◌, ◌*ℤ◌, List, [], ◌∷◌}
use Rattle.ss_core.specs.Tree.{ClassTree}
use Rattle.ss_logic.specs.Values.{as_whole, Structure}
use Rattle.ss_logic.specs.Terms.{Term, value_of}
use Rattle.ss_logic.specs.Sums.{LinearSum}

-- the number that a term is
abbrev pub number_of : List ClassTree → Structure → Term → ℤ
number_of cs m t = as_whole (value_of cs m [] t)

abbrev pub parts_value : List ClassTree → Structure → List (Term × ℤ) → ℤ
parts_value cs m [] = pos 0
parts_value cs m (p ∷ ps) = (p.1 *ℤ number_of cs m p.0) +ℤ parts_value cs m ps

abbrev pub sum_value : List ClassTree → Structure → LinearSum → ℤ
sum_value cs m a = parts_value cs m a.parts +ℤ a.constant
