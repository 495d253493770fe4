use Rattle.std.proofs.Common.{[], take}
use Rattle.ss_search_clashes.specs.Placed.{chains, AddsChains}
use Rattle.ss_search_clashes.proofs.placing.chain_arguments.Given as goal

abbrev pub invariant-loop-i : goal.invariant-loop-i
invariant-loop-i l = AddsChains l.context.bank.now (chains l.context.bank.now l.context.joins.now l.places (take l.i l.xs) (take l.i l.ys)) l.context.known l.initial.lines.items l.lines.items [] l.equalities.items
