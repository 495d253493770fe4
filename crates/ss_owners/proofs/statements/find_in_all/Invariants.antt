use Rattle.std.proofs.Common.{◌≡◌, ◌++◌, drop}
use Rattle.ss_typed.specs.View.{exprs}
use Rattle.ss_owners_rules.specs.Words.{misplaced_in_all}
use Rattle.ss_owners.specs.Parts.{allowed_of}
use Rattle.ss_owners.proofs.statements.find_in_all.Given as goal

abbrev pub invariant-loop-e : goal.invariant-loop-e
invariant-loop-e l = l.found.items ++ misplaced_in_all (allowed_of l.allowed) (exprs (drop l.e-index l.list)) ≡ l.initial.found.items ++ misplaced_in_all (allowed_of l.allowed) (exprs l.list)
