use Rattle.std.proofs.Common.{ap, ◌∙◌}
use Rattle.ss_typed.specs.View as view
use Rattle.ss_resolver_expressions.specs.Environments.{env_of, part_view}
use Rattle.ss_resolver_expressions.proofs.Done.{operation_done}
use Rattle.ss_typed.proofs.Grouping as typed
use Rattle.ss_resolver_expressions.proofs.wholes.operation.Goals as goal

pub returns : goal.returns
returns c = λ t u h i.
    operation_done (env_of c.args.context.now c.args.names.now) c.args.place t u c.args.operator (part_view c.args.before) (view.expr c.in_ok-left.left.value) (view.expr c.into_inner.result) _ h c.in_ok-left.ensures (ap view.expr c.into_inner.ensures ∙ i)
    (c.in_ok-whole.ensures ∙ typed.operation_is _ c.into_inner.result c.args.place (view.expr c.in_ok-left.left.value))
