use Rattle.std.proofs.Common.{◌≡◌, ◌++◌, map, drop}
use Rattle.ss_typed.specs.View.{members, typed}
use Rattle.ss_owners_rules.specs.Program.{classes_faults}
use Rattle.ss_owners.proofs.program.check_classes.Given as goal

abbrev pub invariant-loop-place : goal.invariant-loop-place
invariant-loop-place l = l.found.items ++ classes_faults (typed l.program) l.place (map members (drop l.place l.list)) ≡ l.initial.found.items ++ classes_faults (typed l.program) 0 (map members l.list)
