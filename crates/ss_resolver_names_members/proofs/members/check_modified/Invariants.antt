use Rattle.std.proofs.Common.{◌≡◌, ◌++◌, map, drop}
use Rattle.ss_ast.specs.Programs.{modified_tree}
use Rattle.ss_tables_scopes.specs.Views.{scope_of}
use Rattle.ss_resolver_names_rules.specs.Members.{modified_faults}
use Rattle.ss_resolver_names_members.proofs.members.check_modified.Given as goal

abbrev pub invariant-loop-modified : goal.invariant-loop-modified
invariant-loop-modified l = record {
  noted : l.faults.items ++ modified_faults (scope_of l.context l.fn.locals) (map modified_tree (drop l.modified-index l.list)) ≡ l.fn.faults.items ++ modified_faults (scope_of l.context l.fn.locals) (map modified_tree l.list);
  kept : l.locals ≡ l.fn.locals;
}
