use Rattle.std.proofs.Common.{◌*◌, ◌-◌, length}
use Rattle.ss_search_reaching.specs.Reaching.{Grows, ReachesFrom}
use Rattle.ss_search_reaching.proofs.reaching.Reaching.reach.Given as goal

abbrev pub invariant-loop-self : goal.invariant-loop-self
invariant-loop-self l = record { grows : Grows l.given l.initial.self l.self; reaches : ReachesFrom l.given l.initial.self l.self }

abbrev pub decreases-loop-self : goal.decreases-loop-self
decreases-loop-self l = length l.given.bank.now.formulas * 2 - length l.self.reached.known.items
