use Rattle.std.proofs.Common.{◌≡◌, ◌++◌, map, drop}
use Rattle.ss_ast.specs.Programs.{member_tree}
use Rattle.ss_typed.specs.View as view
use Rattle.ss_resolver_rules.specs.Programs.{invariants_in}
use Rattle.ss_resolver_expressions.specs.Environments.{env_of}
use Rattle.ss_resolver_programs.proofs.classes.resolve_invariants.Given as goal

abbrev pub invariant-loop-member : goal.invariant-loop-member
invariant-loop-member l = record {
  trees : map view.invariant_of l.list.items ++ invariants_in (env_of l.context l.fn.names) (map member_tree (drop l.member-index l.members)) ≡ invariants_in (env_of l.context l.fn.names) (map member_tree l.members);
  kept : l.names ≡ l.fn.names;
}
