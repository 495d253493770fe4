use Rattle.std.proofs.Common.{◌≡◌, ◌++◌, map, drop}
use Rattle.ss_ast.specs.Programs.{modified_tree}
use Rattle.ss_typed.specs.View as view
use Rattle.ss_resolver_rules.specs.Programs.{modified}
use Rattle.ss_resolver_expressions.specs.Environments.{env_of}
use Rattle.ss_resolver_programs.proofs.contracts.resolve_terms.Given as goal

abbrev pub invariant-loop-term : goal.invariant-loop-term
invariant-loop-term l = record {
  trees : map view.modified l.list.items ++ map (modified (env_of l.context l.fn.names)) (map modified_tree (drop l.term-index l.terms)) ≡ map view.modified l.fn.before.items ++ map (modified (env_of l.context l.fn.names)) (map modified_tree l.terms);
  kept : l.names ≡ l.fn.names;
}
