use Rattle.std.proofs.Common.{◌≡◌, ◌++◌, map, drop}
use Rattle.ss_ast.specs.Programs.{param_tree}
use Rattle.ss_tables_lookup.specs.Classes.{trees}
use Rattle.ss_typed.specs.View as view
use Rattle.ss_resolver_programs.specs.Parts.{param_in}
use Rattle.ss_resolver_programs.proofs.bodies.resolve_params.Given as goal

abbrev pub invariant-loop-param : goal.invariant-loop-param
invariant-loop-param l = map view.param l.list.items ++ map (param_in (trees l.tables)) (map param_tree (drop l.param-index l.params)) ≡ map (param_in (trees l.tables)) (map param_tree l.params)
