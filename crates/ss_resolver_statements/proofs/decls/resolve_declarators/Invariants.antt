use Rattle.std.proofs.Common.{◌≡◌, ◌++◌, map, drop}
use Rattle.ss_ast.specs.Expressions.{type_tree}
use Rattle.ss_ast.specs.Statements.{declarator_tree}
use Rattle.ss_typed.specs.View as view
use Rattle.ss_resolver_rules.specs.Names.{declare_all}
use Rattle.ss_resolver_rules.specs.Statements as resolved
use Rattle.ss_resolver_expressions.specs.Environments.{env_of}
use Rattle.ss_resolver_statements.proofs.decls.resolve_declarators.Given as goal

abbrev pub invariant-loop-declarator : goal.invariant-loop-declarator
invariant-loop-declarator l = record {
  trees : map view.declarator l.list.items ++ resolved.declarators (env_of l.context l.names) (type_tree l.ty) (map declarator_tree (drop l.declarator-index l.declarators))
      ≡ resolved.declarators (env_of l.context l.fn.names) (type_tree l.ty) (map declarator_tree l.declarators);
  behind : declare_all (env_of l.context l.names) (type_tree l.ty) (map declarator_tree (drop l.declarator-index l.declarators))
      ≡ declare_all (env_of l.context l.fn.names) (type_tree l.ty) (map declarator_tree l.declarators);
}
