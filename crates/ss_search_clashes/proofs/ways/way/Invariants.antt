use Rattle.std.proofs.Common.{◌≡◌, ◌++◌}
use Rattle.ss_search_clashes.specs.Ways.{way}
use Rattle.ss_search_clashes.specs.Legs.{legs_way, weight, AreLegs}
use Rattle.ss_search_clashes.proofs.ways.way.Given as goal

abbrev pub invariant-loop-leg : goal.invariant-loop-leg
invariant-loop-leg l = AreLegs l.joins l.rest.items × (l.gone.items ++ legs_way l.joins l.rest.items ≡ way l.joins l.fn.x l.fn.y)

abbrev pub decreases-loop-leg : goal.decreases-loop-leg
decreases-loop-leg l = weight l.joins l.rest.items
