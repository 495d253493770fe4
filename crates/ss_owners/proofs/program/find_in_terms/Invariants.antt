use Rattle.std.proofs.Common.{◌≡◌, ◌++◌, map, drop}
use Rattle.ss_typed.specs.View.{modified}
use Rattle.ss_owners_rules.specs.Program.{misplaced_terms}
use Rattle.ss_owners.proofs.program.find_in_terms.Given as goal

abbrev pub invariant-loop-term : goal.invariant-loop-term
invariant-loop-term l = l.found.items ++ misplaced_terms (map modified (drop l.term-index l.list)) ≡ l.initial.found.items ++ misplaced_terms (map modified l.list)
