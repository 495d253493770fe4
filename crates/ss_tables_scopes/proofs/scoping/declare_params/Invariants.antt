use Rattle.std.proofs.Common.{◌≡◌, map, drop}
use Rattle.ss_ast.specs.Programs.{param_tree}
use Rattle.ss_tables.specs.Scopes.{declare_params}
use Rattle.ss_tables_scopes.specs.Views.{scope_of}
use Rattle.ss_tables_scopes.proofs.scoping.declare_params.Given as goal

abbrev pub invariant-loop-param : goal.invariant-loop-param
invariant-loop-param l =
    declare_params (scope_of l.context l.locals) (map param_tree (drop l.param-index l.params)) ≡ declare_params (scope_of l.context l.fn.locals) (map param_tree l.params)
