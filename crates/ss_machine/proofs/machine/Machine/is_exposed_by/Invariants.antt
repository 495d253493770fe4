use Rattle.std.proofs.Common.{◌≡◌, map, drop}
use Rattle.std.specs.List.{list_any}
use Rattle.ss_core.specs.View.{exposed_tree}
use Rattle.ss_store_rules.specs.Reads.{same_value}
use Rattle.ss_machine_rules.specs.Steps.{held_by}
use Rattle.ss_machine.specs.Frames.{running}
use Rattle.ss_machine.proofs.machine.Machine.is_exposed_by.Given as goal

abbrev pub invariant-loop-x : goal.invariant-loop-x
invariant-loop-x l = list_any (λ y. same_value (held_by (running l.self) y) l.object) (map exposed_tree (drop l.x-index l.exposes)) ≡ list_any (λ y. same_value (held_by (running l.self) y) l.object) (map exposed_tree l.exposes)
