use Rattle.std.proofs.Common.{◌≡◌, ◌+◌, ◌*◌, ◌-◌, List, length}
use Rattle.std.specs.List.{Contains}
use Rattle.ss_core.specs.Tree.{ClassTree}
use Rattle.ss_logic.specs.Formulas.{Formula}
use Rattle.ss_terms.specs.Forms.{IsBankOf}
use Rattle.ss_search_procedure_rules.specs.Closed.{IsSaturated}
use Rattle.ss_search_procedure.specs.Decisions.{bank_of, reached_in, first_decisions, AreTried, GoesOn, ReachesBy}
use Rattle.ss_search_procedure.proofs.setting.Settling.+nested.Given as goal

abbrev pub decreases-lower : goal.decreases-lower
decreases-lower l = 4 * l.depth

abbrev pub decreases-settle_decisions : goal.decreases-settle_decisions
decreases-settle_decisions l = 4 * l.depth + 3

abbrev pub decreases-closed_decision : goal.decreases-closed_decision
decreases-closed_decision l = 4 * l.depth + 2

abbrev pub decreases-is_closed : goal.decreases-is_closed
decreases-is_closed l = 4 * l.depth + 1

abbrev pub invariant-settle_decisions-loop-p : goal.invariant-settle_decisions-loop-p
invariant-settle_decisions-loop-p l = record {
  on : GoesOn l.self l.initial.reaching l.reaching;
  saturated : (cs : List ClassTree) → IsBankOf cs (bank_of l.self) → IsSaturated cs (reached_in l.self l.reaching);
  reaches : ReachesBy l.self l.initial.reaching l.reaching;
}

abbrev pub decreases-settle_decisions-loop-p : goal.decreases-settle_decisions-loop-p
decreases-settle_decisions-loop-p l = length (bank_of l.self).formulas * 2 - length l.reaching.reached.known.items

abbrev pub invariant-closed_decision-loop-p : goal.invariant-closed_decision-loop-p
invariant-closed_decision-loop-p l = record {
  on : GoesOn l.self l.initial.reaching l.reaching;
  same : reached_in l.self l.reaching ≡ reached_in l.self l.initial.reaching;
  tried : (cs : List ClassTree) → IsBankOf cs (bank_of l.self) → (p : Formula) → Contains (first_decisions l.self l.p-index) p → AreTried cs l.depth (reached_in l.self l.initial.reaching) p;
  reaches : ReachesBy l.self l.initial.reaching l.reaching;
}
