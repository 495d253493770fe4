use Rattle.std.proofs.Common.{◌≡◌, ◌++◌, map, drop}
use Rattle.ss_ast.specs.Expressions.{expr_tree}
use Rattle.ss_tables_scopes.specs.Views.{scope_of}
use Rattle.ss_resolver_names_rules.specs.Statements.{faults_of_all}
use Rattle.ss_resolver_names_members.proofs.stmts.check_all.Given as goal

abbrev pub invariant-loop-e : goal.invariant-loop-e
invariant-loop-e l = record {
  noted : l.faults.items ++ faults_of_all (scope_of l.context l.fn.locals) (map expr_tree (drop l.e-index l.exprs)) ≡ l.fn.faults.items ++ faults_of_all (scope_of l.context l.fn.locals) (map expr_tree l.exprs);
  kept : l.locals ≡ l.fn.locals;
}
