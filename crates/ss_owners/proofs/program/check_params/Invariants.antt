use Rattle.std.proofs.Common.{◌≡◌, ◌++◌, map, drop}
use Rattle.ss_typed.specs.View.{param}
use Rattle.ss_owners_rules.specs.Program.{params_faults}
use Rattle.ss_owners.proofs.program.check_params.Given as goal

abbrev pub invariant-loop-declared : goal.invariant-loop-declared
invariant-loop-declared l = l.found.items ++ params_faults (map param (drop l.declared-index l.list)) ≡ l.initial.found.items ++ params_faults (map param l.list)
