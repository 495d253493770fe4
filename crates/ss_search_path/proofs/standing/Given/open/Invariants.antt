use Rattle.std.proofs.Common.{◌≡◌, ◌-◌, List, length, take}
use Rattle.ss_core.specs.Tree.{ClassTree}
use Rattle.ss_logic.specs.Formulas.{Formula}
use Rattle.ss_search_path.specs.Paths.{known_on, GoesOn}
use Rattle.ss_search_path.specs.Standing.{AreChosen, IsFact}
use Rattle.ss_search_path.proofs.standing.Given.open.Given as goal

abbrev pub invariant-loop-choice : goal.invariant-loop-choice
invariant-loop-choice l = record {
  kept : take (length l.initial.path.known.items) l.path.known.items ≡ l.initial.path.known.items;
  goes_on : (cs : List ClassTree) (premises : List Formula) (goal : Formula) → AreChosen cs l.self (known_on l.self.bank.now l.initial.path) → GoesOn cs premises goal l.self.bank.now l.initial.path l.path;
  fact : (cs : List ClassTree) (f : Formula) → AreChosen cs l.self (known_on l.self.bank.now l.initial.path) → IsFact cs l.self (known_on l.self.bank.now l.initial.path) l.initial.place l.initial.from f → IsFact cs l.self (known_on l.self.bank.now l.path) l.place l.from f;
}

abbrev pub decreases-loop-choice : goal.decreases-loop-choice
decreases-loop-choice l = length l.self.choices.now - l.from
