-- What a model makes true of formulas, with the equalities of whole numbers of one class.
use Rattle.std.specs.Prelude.{List, ◌++◌, map, filter}
use Rattle.ss_core.specs.Tree.{ClassTree}
use Rattle.ss_logic.specs.Terms.{Term}
use Rattle.ss_logic.specs.Formulas.{Formula}
use Rattle.ss_logic_countermodels.specs.Refuting.{Model, as_told, is_whole, equalities}

abbrev pub facts_in : List ClassTree → Model → List Formula → List Term → List Formula
facts_in cs m fs ts = map (as_told m) fs ++ equalities m (filter (is_whole cs) ts)
