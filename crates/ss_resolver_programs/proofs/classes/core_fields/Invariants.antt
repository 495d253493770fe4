use Rattle.std.proofs.Common.{◌≡◌, ◌++◌, map, drop}
use Rattle.ss_core.specs.View as class_view
use Rattle.ss_tables_lookup.specs.Classes.{trees}
use Rattle.ss_tables_lookup.specs.Views.{field_tree}
use Rattle.ss_resolver_rules.specs.Programs as resolved
use Rattle.ss_resolver_programs.proofs.classes.core_fields.Given as goal

abbrev pub invariant-loop-field : goal.invariant-loop-field
invariant-loop-field l = map class_view.field_of l.list.items ++ map (resolved.field (trees l.tables)) (map field_tree (drop l.field-index l.fields)) ≡ map (resolved.field (trees l.tables)) (map field_tree l.fields)
