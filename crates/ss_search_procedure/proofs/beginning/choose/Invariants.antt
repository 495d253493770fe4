use Rattle.std.proofs.Common.{◌≡◌, List, map, take}
use Rattle.ss_core.specs.Tree.{ClassTree}
use Rattle.ss_logic.specs.Formulas.{Formula}
use Rattle.ss_logic_means.specs.Origins.{chosen_by, AreAccepted}
use Rattle.ss_search_path.specs.Paths.{known_on, GoesOn}
use Rattle.ss_search_path.specs.Standing.{choices_in}
use Rattle.ss_search_procedure.proofs.beginning.choose.Given as goal

abbrev pub invariant-loop-i : goal.invariant-loop-i
invariant-loop-i l = record {
  known : known_on l.given.bank.now l.path ≡ map chosen_by (take l.i (choices_in l.given));
  goes_on : (cs : List ClassTree) (premises : List Formula) (goal : Formula) → AreAccepted cs premises goal (choices_in l.given) → GoesOn cs premises goal l.given.bank.now l.initial.path l.path;
}
