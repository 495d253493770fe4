use Rattle.std.proofs.Common.{◌≡◌, ◌++◌, map, drop}
use Rattle.ss_typed.specs.View.{declarator}
use Rattle.ss_delayed_rules.specs.Escapes.{uses_declared}
use Rattle.ss_delayed.specs.Parts.{use_of}
use Rattle.ss_delayed.proofs.statements.find_declared.Given as goal

abbrev pub invariant-loop-declared : goal.invariant-loop-declared
invariant-loop-declared l = l.found.items ++ uses_declared (use_of l.allowed) (map declarator (drop l.declared-index l.list)) ≡ l.initial.found.items ++ uses_declared (use_of l.allowed) (map declarator l.list)
