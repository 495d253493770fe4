use Rattle.std.proofs.Common.{◌≡◌, ◌++◌, map, drop}
use Rattle.ss_ast.specs.Programs.{param_tree}
use Rattle.ss_resolver_types_expressions.specs.Members.{params_faults}
use Rattle.ss_resolver_types.proofs.clauses.note_params.Given as goal

abbrev pub invariant-loop-param : goal.invariant-loop-param
invariant-loop-param l = l.found.items ++ params_faults (map param_tree (drop l.param-index l.params)) ≡ l.fn.found.items ++ params_faults (map param_tree l.params)
