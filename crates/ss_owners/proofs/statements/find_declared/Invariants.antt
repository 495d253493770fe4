use Rattle.std.proofs.Common.{◌≡◌, ◌++◌, map, drop}
use Rattle.ss_typed.specs.View.{declarator}
use Rattle.ss_owners_rules.specs.Words.{misplaced_declared}
use Rattle.ss_owners.proofs.statements.find_declared.Given as goal

abbrev pub invariant-loop-declared : goal.invariant-loop-declared
invariant-loop-declared l = l.found.items ++ misplaced_declared (map declarator (drop l.declared-index l.list)) ≡ l.initial.found.items ++ misplaced_declared (map declarator l.list)
