use Rattle.std.proofs.Common.{◌≡◌, ◌++◌, map, drop}
use Rattle.ss_tables_lookup.specs.Views.{field_tree}
use Rattle.ss_resolver_names_rules.specs.Programs.{field_limit_faults}
use Rattle.ss_resolver_names.proofs.classes.check_field_limit.Given as goal

abbrev pub invariant-loop-field : goal.invariant-loop-field
invariant-loop-field l =
    l.faults.items ++ field_limit_faults l.count (map field_tree (drop l.field-index l.fields)) ≡ l.fn.faults.items ++ field_limit_faults l.fn.before (map field_tree l.fields)
