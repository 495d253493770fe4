use Rattle.ss_typed.specs.View as view
use Rattle.ss_resolver_expressions.specs.Environments.{env_of, part_view}
use Rattle.ss_resolver_expressions.proofs.Done.{old_done}
use Rattle.ss_resolver_expressions.proofs.wholes.old.Goals as goal

pub returns : goal.returns
returns c = λ t h. old_done (env_of c.args.context.now c.args.names.now) c.args.place t (part_view c.args.inner) (view.expr c.in_ok-value.value.value) _ _ h c.part_type-ty.ensures c.in_ok-value.ensures c.in_ok-whole.ensures
