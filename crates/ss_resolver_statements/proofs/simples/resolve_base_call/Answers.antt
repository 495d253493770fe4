use Rattle.std.proofs.Common.{map, ap, ◌∙◌}
use Rattle.ss_ast.specs.Expressions.{expr_tree}
use Rattle.ss_typed.specs.Tree.{BaseCallOf, arguments}
use Rattle.ss_resolver_expressions.specs.Environments.{env_of}
use Rattle.ss_resolver_expressions.proofs.PartIs.{args_are}
use Rattle.ss_resolver_statements.proofs.simples.resolve_base_call.Goals as goal

pub returns-clause-tree : goal.returns-clause-tree
returns-clause-tree c =
    c.in_ok-whole.ensures
    ∙ ap (λ v. BaseCallOf c.args.place (arguments v)) c.in_ok-values.ensures.trees
    ∙ ap (λ v. BaseCallOf c.args.place v) (args_are (env_of c.args.context.now c.args.names.now) (map expr_tree c.args.written.now))
