use Rattle.std.proofs.Common.{◌≡◌, List, length, take}
use Rattle.ss_core.specs.Tree.{ClassTree}
use Rattle.ss_terms.specs.Forms.{formula_at, formulas_at}
use Rattle.ss_search_path.specs.Paths.{known_on, GoesOn}
use Rattle.ss_search_path.specs.Standing.{AreChosen, AreStanding}
use Rattle.ss_search_procedure.specs.Starting.{IsGround}
use Rattle.ss_search_procedure.proofs.beginning.stand_all.Given as goal

abbrev pub invariant-loop-k : goal.invariant-loop-k
invariant-loop-k l = record {
  long : length l.standings.items ≡ l.k;
  kept : take (length l.initial.path.known.items) l.path.known.items ≡ l.initial.path.known.items;
  goes_on : (cs : List ClassTree) → IsGround cs (formulas_at l.given.bank.now l.shown.premises.now) (formula_at l.given.bank.now l.shown.goal) l.given (formulas_at l.given.bank.now l.formulas) → AreChosen cs l.given (known_on l.given.bank.now l.initial.path) →
      GoesOn cs (formulas_at l.given.bank.now l.shown.premises.now) (formula_at l.given.bank.now l.shown.goal) l.given.bank.now l.initial.path l.path;
  standing : (cs : List ClassTree) → IsGround cs (formulas_at l.given.bank.now l.shown.premises.now) (formula_at l.given.bank.now l.shown.goal) l.given (formulas_at l.given.bank.now l.formulas) → AreChosen cs l.given (known_on l.given.bank.now l.initial.path) →
      AreStanding cs l.given (known_on l.given.bank.now l.path) (take l.k (formulas_at l.given.bank.now l.formulas)) l.standings.items;
}
