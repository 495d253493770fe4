use Rattle.std.proofs.Common.{◌≡◌, ◌++◌, map, drop}
use Rattle.ss_core.specs.View.{exposed_tree}
use Rattle.ss_machine_rules.specs.Steps.{held_by}
use Rattle.ss_machine.specs.Frames.{running}
use Rattle.ss_machine.proofs.machine.Machine.exposed.Given as goal

abbrev pub invariant-loop-x : goal.invariant-loop-x
invariant-loop-x l = l.objects.items ++ map (held_by (running l.self)) (map exposed_tree (drop l.x-index l.exposes)) ≡ map (held_by (running l.self)) (map exposed_tree l.exposes)
