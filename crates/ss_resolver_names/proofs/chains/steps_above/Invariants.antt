use Rattle.std.proofs.Common.{◌≡◌, Some}
use Rattle.ss_tables.specs.Classes.{steps_above}
use Rattle.ss_tables_lookup.specs.Classes.{trees}
use Rattle.ss_resolver_names.proofs.chains.steps_above.Given as goal

abbrev pub invariant-loop-left : goal.invariant-loop-left
invariant-loop-left l = steps_above (trees l.tables) l.left l.at ≡ steps_above (trees l.tables) l.fn.steps (Some l.fn.class)

abbrev pub decreases-loop-left : goal.decreases-loop-left
decreases-loop-left l = l.left
