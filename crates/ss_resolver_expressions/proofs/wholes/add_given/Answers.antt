use Rattle.std.proofs.Common.{◌++◌, [], ◌∷◌, ap, ◌∙◌}
use Rattle.ss_core.specs.declared.names.ClassId.{ClassId}
use Rattle.ss_typed.specs.View as view
use Rattle.ss_resolver_expressions.specs.Environments.{env_of, part_value, part_class, numbers_of}
use Rattle.ss_resolver_expressions.proofs.PartIs.{value_is, class_is}
use Rattle.std.proofs.lemmas.List.{map-append}
use Rattle.ss_resolver_expressions.proofs.wholes.add_given.Goals as goal

pub returns-clause-values : goal.returns-clause-values
returns-clause-values c = λ t h.
    let e = (env_of c.args.context.now c.args.names.now) in
    let old = c.args.given.now.values.items in
    c.in_ok-add_value.ensures
    ∙ ap (λ v. view.exprs old ++ v ∷ []) (c.in_ok-value.ensures ∙ ap (part_value e) h ∙ value_is e t)

pub returns-clause-classes : goal.returns-clause-classes
returns-clause-classes c = λ t h.
    let e = (env_of c.args.context.now c.args.names.now) in
    let old = c.args.given.now.classes.items in
    ap numbers_of c.in_ok-push.ensures.items ∙ map-append (λ (k : ClassId). k.0) old (c.part_class-class.result ∷ [])
    ∙ ap (λ n. numbers_of old ++ n ∷ []) (c.part_class-class.ensures ∙ ap (part_class e) h ∙ class_is e t)
