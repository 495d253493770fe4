-- Lines with which a case goes on.
use Rattle.std.specs.Prelude.{List, ◌++◌}
use Rattle.ss_core.specs.Tree.{ClassTree}
use Rattle.ss_logic.specs.Formulas.{Formula}
use Rattle.ss_logic_means.specs.Steps.{Line}
use Rattle.ss_search_clashes.specs.Closing.{Closes}

-- Let some lines close the case in which `known` are known. Then those before, they and those after close the case in which `start` are.
pub record Leads (cs : List ClassTree) (premises : List Formula) (goal : Formula) (start : List Formula) (before : List Line) (known : List Formula) (behind : List Line) : Type 0 where
  pub closes : (lines : List Line) → Closes cs premises goal known lines → Closes cs premises goal start (before ++ (lines ++ behind))
