use Rattle.std.proofs.Common.{◌≡◌, map, drop}
use Rattle.ss_ast.specs.Programs.{param_tree}
use Rattle.ss_resolver_rules.specs.Names.{declare_params}
use Rattle.ss_resolver_expressions.specs.Environments.{env_of}
use Rattle.ss_resolver_statements.proofs.decls.declare_params.Given as goal

abbrev pub invariant-loop-param : goal.invariant-loop-param
invariant-loop-param l = declare_params (env_of l.context l.names) (map param_tree (drop l.param-index l.params)) ≡ declare_params (env_of l.context l.fn.names) (map param_tree l.params)
