use Rattle.std.proofs.Common.{◌≡◌, ◌++◌, map, drop}
use Rattle.ss_tables_lookup.specs.Views.{field_tree}
use Rattle.ss_typed.specs.View as view
use Rattle.ss_resolver_rules.specs.Programs.{field_member}
use Rattle.ss_resolver_expressions.specs.Environments.{env_of}
use Rattle.ss_resolver_programs.proofs.classes.resolve_fields.Given as goal

abbrev pub invariant-loop-field : goal.invariant-loop-field
invariant-loop-field l = record {
  trees : map view.field l.list.items ++ map (field_member (env_of l.context l.fn.names)) (map field_tree (drop l.field-index l.fields)) ≡ map (field_member (env_of l.context l.fn.names)) (map field_tree l.fields);
  kept : l.names ≡ l.fn.names;
}
