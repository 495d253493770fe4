use Rattle.std.proofs.Common.{◌≡◌, ◌++◌, map, drop}
use Rattle.ss_typed.specs.View.{body}
use Rattle.ss_owners_rules.specs.Program.{bodies_faults}
use Rattle.ss_owners.proofs.program.check_bodies.Given as goal

abbrev pub invariant-loop-written : goal.invariant-loop-written
invariant-loop-written l = l.found.items ++ bodies_faults (map body (drop l.written-index l.list)) ≡ l.initial.found.items ++ bodies_faults (map body l.list)
