-- What is looked for in formulas.
use Rattle.std.specs.Prelude.{List, [], ◌∷◌, true}
use Rattle.ss_logic.specs.Formulas.{Formula, Literal}
use Rattle.ss_logic.specs.Occurring.{with_formula, atoms_in, quantified_in, literals_in}
use Rattle.ss_rules_occurring.specs.declared.seeking.Sought.{Sought}
use Rattle.ss_rules_occurring.specs.declared.seeking.Sought.TheVariants as sought

abbrev pub found_in : Sought → Formula → List Formula
found_in sought.Atoms f = atoms_in f
found_in sought.Quantified f = quantified_in f
found_in sought.Everywhere f = literals_in f

-- the literal without its sign
abbrev pub atom_of : Formula → Formula
atom_of (Literal sign p ts) = Literal true p ts
atom_of f = f

abbrev pub with_atom : List Formula → Formula → List Formula
with_atom found f = with_formula found (atom_of f)

abbrev pub with_literal : Sought → List Formula → Formula → List Formula
with_literal sought.Quantified found f = found
with_literal s found f = with_atom found f

-- in a quantified formula with this body
abbrev pub found_in_quantified : Sought → Formula → Formula → List Formula
found_in_quantified sought.Atoms f body = []
found_in_quantified sought.Quantified f body = f ∷ []
found_in_quantified sought.Everywhere f body = literals_in body
