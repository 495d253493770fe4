use Rattle.std.proofs.Common.{◌≡◌, List, take}
use Rattle.ss_core.specs.Tree.{ClassTree}
use Rattle.ss_logic.specs.Formulas.{Formula}
use Rattle.ss_terms.specs.Forms.{formulas_at}
use Rattle.ss_logic.specs.Includes.{Includes}
use Rattle.ss_search_path.specs.Standing.{IsOpenedFact}
use Rattle.ss_search_reaching.specs.Refuting.{and_of}
use Rattle.ss_search_reaching.specs.Reaching.{facts_of, reached_of, Shows, Grows, ReachesOn}
use Rattle.ss_search_reaching.proofs.reaching.Reaching.spread_and.Given as goal

abbrev pub invariant-loop-part : goal.invariant-loop-part
invariant-loop-part l = record {
  grows : Grows l.given l.initial.self l.self;
  known : Includes (reached_of l.given l.self) (formulas_at l.given.bank.now (take l.part l.parts));
  classes : l.self.reached.classes.items ≡ l.initial.self.reached.classes.items;
  reaches : (cs : List ClassTree) (premises : List Formula) (goal : Formula) → Shows cs l.given l.initial.self → IsOpenedFact cs l.given (facts_of l.given l.initial.self) l.place l.from (and_of l.given.bank.now l.parts) →
      ReachesOn cs premises goal l.given l.initial.self l.self;
}
