use Rattle.std.proofs.Common.{◌≡◌, take}
use Rattle.ss_search_clashes.specs.Placed.{places_of}
use Rattle.ss_search_clashes.proofs.placing.path.Given as goal

abbrev pub invariant-loop-number : goal.invariant-loop-number
invariant-loop-number l = l.path.items ≡ places_of l.places (take l.number-index l.number-items)
