use Rattle.std.proofs.Common.{◌≡◌, ◌++◌, map, drop}
use Rattle.ss_typed.specs.View.{field}
use Rattle.ss_delayed_rules.specs.Program.{initializers_faults}
use Rattle.ss_delayed.proofs.program.check_initializers.Given as goal

abbrev pub invariant-loop-declared : goal.invariant-loop-declared
invariant-loop-declared l = l.found.items ++ initializers_faults (map field (drop l.declared-index l.fields)) ≡ l.initial.found.items ++ initializers_faults (map field l.fields)
