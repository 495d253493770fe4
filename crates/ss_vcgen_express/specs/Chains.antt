-- What a chain joins.
use Rattle.std.specs.Prelude.{List, [], ◌∷◌}
use Rattle.ss_logic.specs.Formulas.{Formula, And, Or, formula_list}

-- the parts of an `and`; any other formula is its own part
abbrev pub conjuncts : Formula → List Formula
conjuncts (And fs) = formula_list fs
conjuncts f = f ∷ []

-- the same of an `or`
abbrev pub disjuncts : Formula → List Formula
disjuncts (Or fs) = formula_list fs
disjuncts f = f ∷ []
