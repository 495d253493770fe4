use Rattle.std.proofs.Common.{◌≡◌, map, take}
use Rattle.ss_equality_rules.specs.Equal.{class_number}
use Rattle.ss_search_reached.specs.Models.{renumbered}
use Rattle.ss_search_reached.proofs.reached.Reached.listed_classes.Given as goal

abbrev pub invariant-loop-t : goal.invariant-loop-t
invariant-loop-t l = l.classes.items ≡ map (λ t. renumbered l.names (class_number l.self.classes.items t)) (take l.t-index l.ts)
