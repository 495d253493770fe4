use Rattle.std.proofs.Common.{◌≡◌, ◌++◌, map, drop}
use Rattle.ss_ast.specs.Programs.{clause_tree}
use Rattle.ss_tables_scopes.specs.Views.{scope_of}
use Rattle.ss_resolver_names_rules.specs.Members.{clauses_faults}
use Rattle.ss_resolver_names_members.proofs.members.check_clauses.Given as goal

abbrev pub invariant-loop-clause : goal.invariant-loop-clause
invariant-loop-clause l = record {
  noted : l.faults.items ++ clauses_faults (scope_of l.context l.fn.locals) (map clause_tree (drop l.clause-index l.clauses)) ≡ l.fn.faults.items ++ clauses_faults (scope_of l.context l.fn.locals) (map clause_tree l.clauses);
  kept : l.locals ≡ l.fn.locals;
}
