use Rattle.std.proofs.Common.{◌≡◌, length}
use Rattle.ss_search_clashes.specs.Placed.{ArePlaced}
use Rattle.ss_search_clashes.proofs.placing.place_all.Given as goal

abbrev pub invariant-loop-number : goal.invariant-loop-number
invariant-loop-number l = (length l.places.items ≡ l._number) × ArePlaced l.context.bank.now l.context.congruence.now.merges l.context.joins.now l.context.known l.marks l.places.items l.lines.items
