use Rattle.std.proofs.Common.{◌≡◌, ◌++◌, map, drop}
use Rattle.ss_ast.specs.Statements.{declarator_tree}
use Rattle.ss_tables_scopes.specs.Views.{scope_of}
use Rattle.ss_resolver_names_rules.specs.Members.{initials_faults}
use Rattle.ss_resolver_names_members.proofs.members.check_initials.Given as goal

abbrev pub invariant-loop-declarator : goal.invariant-loop-declarator
invariant-loop-declarator l = record {
  noted : l.faults.items ++ initials_faults (scope_of l.context l.fn.locals) (map declarator_tree (drop l.declarator-index l.declarators)) ≡ l.fn.faults.items ++ initials_faults (scope_of l.context l.fn.locals) (map declarator_tree l.declarators);
  kept : l.locals ≡ l.fn.locals;
}
