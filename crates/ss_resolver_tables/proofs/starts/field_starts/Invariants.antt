use Rattle.std.proofs.Common.{◌≡◌, ◌+◌, ◌++◌, map, drop}
use Rattle.std.specs.Prelude.{sum_by}
use Rattle.ss_ast.specs.Programs.{class_tree}
use Rattle.ss_resolver_rules.specs.Numbers.{field_count}
use Rattle.ss_resolver_tables.specs.Starts.{starts_from}
use Rattle.ss_resolver_tables.proofs.starts.field_starts.Given as goal

abbrev pub invariant-loop-class : goal.invariant-loop-class
invariant-loop-class l = record {
  starts : l.starts.items ++ starts_from field_count l.all (map class_tree (drop l.class-index l.classes)) ≡ starts_from field_count 0 (map class_tree l.classes);
  all : l.all + sum_by field_count (map class_tree (drop l.class-index l.classes)) ≡ sum_by field_count (map class_tree l.classes);
}
