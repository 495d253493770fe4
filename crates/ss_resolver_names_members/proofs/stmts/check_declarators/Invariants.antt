use Rattle.std.proofs.Common.{◌≡◌, ◌++◌, map, drop}
use Rattle.ss_ast.specs.Expressions.{type_tree}
use Rattle.ss_ast.specs.Statements.{declarator_tree}
use Rattle.ss_tables.specs.Scopes.{declare_all}
use Rattle.ss_tables_scopes.specs.Views.{scope_of}
use Rattle.ss_resolver_names_rules.specs.Statements.{declarators_faults}
use Rattle.ss_resolver_names_members.proofs.stmts.check_declarators.Given as goal

abbrev pub invariant-loop-declarator : goal.invariant-loop-declarator
invariant-loop-declarator l = record {
  noted : l.faults.items ++ declarators_faults (scope_of l.context l.locals) (type_tree l.ty) (map declarator_tree (drop l.declarator-index l.declarators)) ≡ l.fn.faults.items ++ declarators_faults (scope_of l.context l.fn.locals) (type_tree l.ty) (map declarator_tree l.declarators);
  declared : declare_all (scope_of l.context l.locals) (type_tree l.ty) (map declarator_tree (drop l.declarator-index l.declarators)) ≡ declare_all (scope_of l.context l.fn.locals) (type_tree l.ty) (map declarator_tree l.declarators);
  around : l.locals.outer ≡ l.fn.locals.outer;
}
