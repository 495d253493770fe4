use Rattle.std.proofs.Common.{◌≡◌, map, drop}
use Rattle.std.specs.Prelude.{find}
use Rattle.ss_tables_lookup.specs.Views.{method_tree}
use Rattle.ss_resolver_names_rules.specs.Programs.{is_main}
use Rattle.ss_resolver_programs.proofs.mains.main_in.Given as goal

abbrev pub invariant-loop-method : goal.invariant-loop-method
invariant-loop-method l = find is_main (map method_tree (drop l.method-index l.methods)) ≡ find is_main (map method_tree l.methods)
