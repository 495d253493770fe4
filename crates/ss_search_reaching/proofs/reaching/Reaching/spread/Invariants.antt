use Rattle.std.proofs.Common.{◌*◌, ◌-◌, length, take}
use Rattle.std.specs.List.{Contains}
use Rattle.ss_logic.specs.Formulas.{Formula}
use Rattle.ss_search_reached.specs.Following.{IsSpread}
use Rattle.ss_search_reaching.specs.Reaching.{reached_of, Grows, ReachesFrom}
use Rattle.ss_search_reaching.proofs.reaching.Reaching.spread.Given as goal

abbrev pub invariant-loop-at : goal.invariant-loop-at
invariant-loop-at l = record {
  grows : Grows l.given l.initial.self l.self;
  before : (f : Formula) → Contains (take l.at (reached_of l.given l.self)) f → IsSpread (reached_of l.given l.self) f;
  reaches : ReachesFrom l.given l.initial.self l.self;
}

abbrev pub decreases-loop-at : goal.decreases-loop-at
decreases-loop-at l = length l.given.bank.now.formulas * 2 - l.at
