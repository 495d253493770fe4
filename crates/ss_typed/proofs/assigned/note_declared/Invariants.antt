use Rattle.std.proofs.Common.{◌≡◌, ◌++◌, map, drop}
use Rattle.ss_typed.specs.View.{declarator}
use Rattle.ss_typed.specs.Assigned.{declared_locals}
use Rattle.ss_typed.proofs.assigned.note_declared.Given as goal

abbrev pub invariant-loop-declarator : goal.invariant-loop-declarator
invariant-loop-declarator l = l.found.items ++ declared_locals (map declarator (drop l.declarator-index l.declarators)) ≡ l.fn.found.items ++ declared_locals (map declarator l.declarators)
