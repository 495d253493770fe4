use Rattle.std.proofs.Common.{◌≡◌, ◌++◌, map, drop, take}
use Rattle.std.specs.Prelude.{sum_by}
use Rattle.ss_paths.specs.Fields.{field_count}
use Rattle.ss_typed.specs.View.{typed, members}
use Rattle.ss_nonnull_rules.specs.Program.{classes_faults}
use Rattle.ss_nonnull.proofs.initializers.check_classes.Given as goal

abbrev pub invariant-loop-place : goal.invariant-loop-place
invariant-loop-place l = record {
  first : l.first ≡ sum_by field_count (take l.place (typed l.program).classes);
  noted : l.found.items ++ classes_faults (typed l.program) l.place (map members (drop l.place l.list)) ≡ l.fn.found.items ++ classes_faults (typed l.program) 0 (map members l.list);
}
