use Rattle.std.proofs.Common.{◌≡◌, List, length, take}
use Rattle.ss_core.specs.Tree.{ClassTree}
use Rattle.ss_terms.specs.Forms.{formulas_at}
use Rattle.ss_search_path.specs.Paths.{IsSame}
use Rattle.ss_logic.specs.Includes.{Includes}
use Rattle.ss_search_reaching.specs.Reaching.{facts_of, reached_of, Shows, Grows}
use Rattle.ss_search_reaching.specs.Units.{formulas_in, AllStand}
use Rattle.ss_search_reaching.proofs.reaching.Reaching.learn_units.Given as goal

abbrev pub invariant-loop-unit : goal.invariant-loop-unit
invariant-loop-unit l = record {
  grows : Grows l.given l.initial.self l.self;
  known : Includes (reached_of l.given l.self) (formulas_at l.given.bank.now (take l.unit-index (formulas_in l.units)));
  classes : l.self.reached.classes.items ≡ l.initial.self.reached.classes.items;
  still : length l.self.reached.known.items ≡ length l.initial.self.reached.known.items → l.self.reached.congruence ≡ l.initial.self.reached.congruence;
  path : IsSame l.initial.self.path l.self.path;
  shows : (cs : List ClassTree) → Shows cs l.given l.initial.self → AllStand cs l.given (facts_of l.given l.initial.self) l.units → Shows cs l.given l.self;
}
