use Rattle.std.proofs.Common.{◌≡◌, ◌++◌, map, drop}
use Rattle.ss_typed.specs.View.{invariant_of}
use Rattle.ss_owners_rules.specs.Program.{invariants_faults}
use Rattle.ss_owners.proofs.program.check_invariants.Given as goal

abbrev pub invariant-loop-invariant : goal.invariant-loop-invariant
invariant-loop-invariant l = l.found.items ++ invariants_faults l.marks (map invariant_of (drop l.invariant-index l.list)) ≡ l.initial.found.items ++ invariants_faults l.marks (map invariant_of l.list)
