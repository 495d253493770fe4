use Rattle.std.proofs.Common.{ap, ◌∙◌}
use Rattle.ss_typed.specs.View as view
use Rattle.ss_resolver_expressions.specs.Environments.{env_of, part_view}
use Rattle.ss_resolver_expressions.proofs.Done.{element_done}
use Rattle.ss_typed.proofs.Grouping as typed
use Rattle.ss_resolver_expressions.proofs.wholes.element.Goals as goal

pub returns : goal.returns
returns c = λ t u h i.
    element_done (env_of c.args.context.now c.args.names.now) c.args.place t u (part_view c.args.before) (view.expr c.in_ok-object.object.value) (view.expr c.into_inner.result) _ _ _ h c.in_ok-object.ensures (ap view.expr c.into_inner.ensures ∙ i)
    (c.in_ok-whole.ensures ∙ typed.element_is c.into_inner.result c.args.place (view.expr c.in_ok-object.object.value)) c.part_type-array.ensures c.type_of_element-ty.ensures
