use Rattle.std.proofs.Common.{◌≡◌, ◌++◌, drop}
use Rattle.ss_search_reached.specs.Groups.{lists_in, neighbours_in}
use Rattle.ss_search_reached.proofs.linking.chain.Given as goal

abbrev pub invariant-loop-group : goal.invariant-loop-group
invariant-loop-group l = l.pairs.items ++ neighbours_in (drop l.group-index (lists_in l.group-items)) ≡ neighbours_in (lists_in l.group-items)
