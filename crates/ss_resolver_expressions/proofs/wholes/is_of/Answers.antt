use Rattle.std.proofs.Common.{◌∙◌}
use Rattle.ss_ast.specs.Expressions.{type_tree}
use Rattle.ss_typed.specs.View as view
use Rattle.ss_resolver_expressions.specs.Environments.{env_of, part_view}
use Rattle.ss_resolver_expressions.proofs.Done.{is_done}
use Rattle.ss_typed.proofs.Grouping as typed
use Rattle.ss_resolver_expressions.proofs.wholes.is_of.Goals as goal

pub returns : goal.returns
returns c = λ t h.
    is_done (env_of c.args.context.now c.args.names.now) c.args.place t (type_tree c.args.ty.now) (part_view c.args.before) (view.expr c.in_ok-left.left.value) _ _ h c.in_ok-left.ensures c.written_class-class.ensures
    (c.in_ok-whole.ensures ∙ typed.is_is _ c.args.place (view.expr c.in_ok-left.left.value))
