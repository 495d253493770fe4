use Rattle.ss_ast.specs.Expressions.{type_tree}
use Rattle.ss_typed.specs.View as view
use Rattle.ss_resolver_expressions.specs.Environments.{env_of}
use Rattle.ss_resolver_expressions.proofs.Done.{cast_done}
use Rattle.ss_resolver_expressions.proofs.wholes.cast.Goals as goal

pub returns : goal.returns
returns c = λ k t h.
    cast_done (env_of c.args.context.now k) c.args.place (type_tree c.args.ty.now) t (view.expr c.args.inner.value) _ _ _ h c.written_class-class.ensures c.in_ok-whole.ensures c.type_of_cast-known.ensures
