use Rattle.std.proofs.Common.{length, sym, ap, ◌∙◌}
use Rattle.std.proofs.lemmas.List.{length-map}
use Rattle.std.specs.Prelude.{unwrap_or, slice_get}
use Rattle.ss_ast.specs.Expressions.{arguments}
use Rattle.ss_typed.specs.View as view
use Rattle.ss_resolver_expressions.specs.Environments.{env_of, part_view, numbers_of}
use Rattle.ss_resolver_expressions.proofs.PartIs.{first_is, third_is}
use Rattle.ss_resolver_expressions.proofs.Done.{call_done}
use Rattle.ss_resolver_expressions.proofs.wholes.call.Goals as goal

pub returns : goal.returns
returns c = λ t es h g k.
    let e = (env_of c.args.context.now c.args.names.now) in
    let many = c.count_of-count.ensures ∙ ap length c.deref.ensures.value ∙ sym (length-map c.args.given.values.items view.expr) in
    let classes = ap numbers_of c.deref-2.ensures.value ∙ k in
    let one = c.asked_of-asked.ensures.first ∙ ap (λ ns. unwrap_or (slice_get ns 0) 0) classes ∙ first_is e es in
    let three = c.asked_of-asked.ensures.third ∙ ap (λ ns. unwrap_or (slice_get ns 2) 0) classes ∙ third_is e es in
    call_done e c.args.place t es (part_view c.args.before) (view.exprs c.args.given.values.items) _ _ _ h g (c.in_ok-whole.ensures (arguments es) one three) many c.part_call_type-ty.ensures
