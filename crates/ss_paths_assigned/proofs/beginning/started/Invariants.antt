use Rattle.std.proofs.Common.{◌≡◌, map, take}
use Rattle.std.specs.Prelude.{is_some}
use Rattle.ss_typed.specs.Tree.{FieldTree}
use Rattle.ss_typed.specs.View.{field}
use Rattle.ss_paths_assigned.proofs.beginning.started.Given as goal

abbrev pub invariant-loop-declared : goal.invariant-loop-declared
invariant-loop-declared l = l.list.items ≡ map (λ (f : FieldTree). is_some f.initial) (map field (take l.declared-index l.fields))
