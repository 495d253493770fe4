use Rattle.std.proofs.Common.{◌≡◌, ◌++◌, drop}
use Rattle.ss_typed.specs.View.{exprs}
use Rattle.ss_delayed_rules.specs.Escapes.{uses_in_all}
use Rattle.ss_delayed.specs.Parts.{use_of}
use Rattle.ss_delayed.proofs.statements.find_in_all.Given as goal

abbrev pub invariant-loop-e : goal.invariant-loop-e
invariant-loop-e l = l.found.items ++ uses_in_all (use_of l.allowed) (exprs (drop l.e-index l.list)) ≡ l.initial.found.items ++ uses_in_all (use_of l.allowed) (exprs l.list)
