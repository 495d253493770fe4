use Rattle.std.proofs.Common.{◌≡◌, ◌++◌, map, drop}
use Rattle.ss_ast.specs.Expressions.{expr_tree}
use Rattle.ss_tables_scopes.specs.Views.{scope_of}
use Rattle.ss_resolver_types_expressions.specs.Statements.{conditions}
use Rattle.ss_resolver_types.specs.Bodies.{body_of}
use Rattle.ss_resolver_types.proofs.simple.check_conditions.Given as goal

abbrev pub invariant-loop-e : goal.invariant-loop-e
invariant-loop-e l = record {
  same : l.locals ≡ l.fn.locals;
  noted : l.found.items ++ conditions (body_of l.body) (scope_of l.body.within l.fn.locals) (map expr_tree (drop l.e-index l.list))
      ≡ l.fn.found.items ++ conditions (body_of l.body) (scope_of l.body.within l.fn.locals) (map expr_tree l.list);
}
