use Rattle.ss_ast.specs.Expressions.{type_name_tree}
use Rattle.ss_typed.specs.View as view
use Rattle.ss_resolver_expressions.specs.Environments.{env_of}
use Rattle.ss_resolver_expressions.proofs.Done.{new_array_done}
use Rattle.ss_resolver_expressions.proofs.wholes.new_array.Goals as goal

pub returns : goal.returns
returns c = λ k at t h.
    new_array_done (env_of c.args.context.now k) c.args.place at (type_name_tree c.args.name.now) t (view.expr c.args.length.value) _ _ _ h c.array_class-class.ensures c.in_ok-whole.ensures c.array_type-ty.ensures
