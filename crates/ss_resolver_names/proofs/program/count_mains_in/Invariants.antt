use Rattle.std.proofs.Common.{◌≡◌, ◌+◌, map, drop, cond}
use Rattle.std.specs.List.{fold, count_by}
use Rattle.ss_tables.specs.Members.{MethodTree}
use Rattle.ss_tables_lookup.specs.Views.{method_tree}
use Rattle.ss_resolver_names_rules.specs.Programs.{is_main}
use Rattle.ss_resolver_names.proofs.program.count_mains_in.Given as goal

abbrev pub invariant-loop-method : goal.invariant-loop-method
invariant-loop-method l =
    fold (λ a (m : MethodTree). a + cond (is_main m) 1 0) l.count (map method_tree (drop l.method-index l.methods)) ≡ count_by is_main (map method_tree l.methods)
