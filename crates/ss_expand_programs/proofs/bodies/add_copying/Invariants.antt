use Rattle.std.proofs.Common.{◌≡◌, ◌++◌, map, drop}
use Rattle.ss_typed.specs.View as typed
use Rattle.ss_expand_rules.specs.Bodies as bodies
use Rattle.ss_expand_expressions.specs.Sources.{stmts_of}
use Rattle.ss_expand_programs.proofs.bodies.add_copying.Given as goal

abbrev pub invariant-loop-param : goal.invariant-loop-param
invariant-loop-param l =
    let block = typed.block l.block in
    stmts_of l.code.statements ++ bodies.copying_from block l.copy l.x (map typed.param (drop l.param-index l.params)) ≡ stmts_of l.fn.code.statements ++ bodies.copying_from block l.first_copy l.first (map typed.param l.params)
