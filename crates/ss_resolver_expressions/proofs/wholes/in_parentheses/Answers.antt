use Rattle.ss_typed.specs.View as view
use Rattle.ss_resolver_expressions.specs.Environments.{env_of, part_view}
use Rattle.ss_resolver_expressions.proofs.Done.{paren_done}
use Rattle.ss_resolver_expressions.proofs.wholes.in_parentheses.Goals as goal

pub returns : goal.returns
returns c = λ at t h. paren_done (env_of c.args.context.now c.args.names.now) at t (part_view c.args.inner) (view.expr c.in_ok-value.value.value) _ h c.part_type-ty.ensures c.in_ok-value.ensures
