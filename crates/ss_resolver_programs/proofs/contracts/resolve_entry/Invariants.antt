use Rattle.std.proofs.Common.{◌≡◌, ◌++◌, map, drop}
use Rattle.ss_ast.specs.Programs.{clause_tree}
use Rattle.ss_typed.specs.View.{exprs}
use Rattle.ss_resolver_rules.specs.Programs.{entry_in}
use Rattle.ss_resolver_expressions.specs.Environments.{env_of}
use Rattle.ss_resolver_programs.proofs.contracts.resolve_entry.Given as goal

abbrev pub invariant-loop-clause : goal.invariant-loop-clause
invariant-loop-clause l = record {
  trees : exprs l.list.items ++ entry_in (env_of l.context l.fn.names) (map clause_tree (drop l.clause-index l.clauses)) ≡ entry_in (env_of l.context l.fn.names) (map clause_tree l.clauses);
  kept : l.names ≡ l.fn.names;
}
