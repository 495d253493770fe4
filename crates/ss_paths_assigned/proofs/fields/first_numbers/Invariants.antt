use Rattle.std.proofs.Common.{◌≡◌, ◌++◌, map, drop}
use Rattle.ss_core.specs.View.{class_of}
use Rattle.ss_paths_assigned.specs.Numbered.{firsts_from}
use Rattle.ss_paths_assigned.proofs.fields.first_numbers.Given as goal

abbrev pub invariant-loop-class : goal.invariant-loop-class
invariant-loop-class l = l.firsts.items ++ firsts_from l.next (map class_of (drop l.class-index l.classes)) ≡ firsts_from 0 (map class_of l.classes)
