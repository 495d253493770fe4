use Rattle.std.proofs.Common.{◌≡◌, ◌∙◌, subst, IfOk}
use Rattle.ss_tables_lookup.specs.Views.{declared_method}
use Rattle.ss_typed.specs.Tree.{ExprTree}
use Rattle.ss_typed.specs.View as view
use Rattle.ss_resolver_rules.specs.Expressions.{method_call}
use Rattle.ss_resolver_expressions.specs.Environments.{env_of, given}
use Rattle.ss_resolver_expressions.proofs.calls.called_bare.Goals as goal

pub returns-in_ok-object-in-Method : goal.returns-in_ok-object-in-Method
returns-in_ok-object-in-Method c = λ a.
    let s = c.args.context.now in
    rw c.in-Method.is
    (subst (λ (o : ExprTree). IfOk c.method_call.result (λ r. view.expr r.value ≡ method_call (env_of s a) c.args.place s.within.class o (given c.args.args.items) (declared_method (c.in-Method.declared, c.in-Method.method)))) (c.in_ok-object-in-Method.ensures ∙ c.this.ensures) (c.method_call.ensures a))
