use Rattle.std.proofs.Common.{◌≡◌, ◌++◌, map, drop}
use Rattle.ss_ast.specs.Expressions.{type_tree}
use Rattle.ss_ast.specs.Statements.{declarator_tree}
use Rattle.ss_tables.specs.Scopes.{declare_all}
use Rattle.ss_tables_scopes.specs.Views.{scope_of}
use Rattle.ss_resolver_types_expressions.specs.Statements.{declarator_faults}
use Rattle.ss_resolver_types.specs.Bodies.{body_of}
use Rattle.ss_resolver_types.proofs.stmts.check_declarators.Given as goal

abbrev pub invariant-loop-declarator : goal.invariant-loop-declarator
invariant-loop-declarator l = record {
  outer : l.locals.outer ≡ l.fn.locals.outer;
  scope : declare_all (scope_of l.body.within l.locals) (type_tree l.ty) (map declarator_tree (drop l.declarator-index l.declarators))
      ≡ declare_all (scope_of l.body.within l.fn.locals) (type_tree l.ty) (map declarator_tree l.declarators);
  noted : l.found.items ++ declarator_faults (body_of l.body) (scope_of l.body.within l.locals) (type_tree l.ty) (map declarator_tree (drop l.declarator-index l.declarators))
      ≡ l.fn.found.items ++ declarator_faults (body_of l.body) (scope_of l.body.within l.fn.locals) (type_tree l.ty) (map declarator_tree l.declarators);
}
