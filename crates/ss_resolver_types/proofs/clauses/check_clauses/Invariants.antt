use Rattle.std.proofs.Common.{◌≡◌, ◌++◌, map, drop}
use Rattle.ss_ast.specs.Programs.{clause_tree}
use Rattle.ss_tables_scopes.specs.Views.{scope_of}
use Rattle.ss_resolver_types_expressions.specs.Members.{clauses_faults}
use Rattle.ss_resolver_types.specs.Bodies.{body_of}
use Rattle.ss_resolver_types.proofs.clauses.check_clauses.Given as goal

abbrev pub invariant-loop-clause : goal.invariant-loop-clause
invariant-loop-clause l = record {
  same : l.locals ≡ l.fn.locals;
  noted : l.found.items ++ clauses_faults (body_of l.body) (scope_of l.body.within l.fn.locals) (map clause_tree (drop l.clause-index l.clauses))
      ≡ l.fn.found.items ++ clauses_faults (body_of l.body) (scope_of l.body.within l.fn.locals) (map clause_tree l.clauses);
}
