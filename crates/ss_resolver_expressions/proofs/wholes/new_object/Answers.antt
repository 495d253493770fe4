use Rattle.std.proofs.Common.{length, sym, ap, ◌∙◌}
use Rattle.std.proofs.lemmas.List.{length-map}
use Rattle.ss_ast.specs.Expressions.{name_tree}
use Rattle.ss_tables_lookup.specs.Classes.{trees}
use Rattle.ss_tables.specs.Classes.{class_named}
use Rattle.ss_tables.specs.Statics.{new_type}
use Rattle.ss_typed.specs.View as view
use Rattle.ss_resolver_rules.specs.Numbers.{class_id}
use Rattle.ss_resolver_expressions.specs.Environments.{env_of}
use Rattle.ss_resolver_expressions.proofs.PartIs.{count_is}
use Rattle.ss_resolver_expressions.proofs.Done.{new_done}
use Rattle.ss_resolver_expressions.proofs.wholes.new_object.Goals as goal

pub returns : goal.returns
returns c = λ k es h.
    let cs = trees c.args.context.now.within.tables.now in
    let many = c.count_of-count.ensures ∙ ap length c.deref.ensures.value ∙ sym (length-map c.args.values.items view.expr) in
    new_done (env_of c.args.context.now k) c.args.place (name_tree c.args.name.now) es (view.exprs c.args.values.items) _ _ _ h
    (c.class_id-class.ensures ∙ ap (class_id cs) c.as_str-text.ensures.value) c.in_ok-whole.ensures
    (c.new_type-ty.ensures ∙ ap (λ n. new_type cs c.count_of-count.result (class_named cs n)) c.as_str-text.ensures.value
    ∙ ap (λ k. new_type cs k (class_named cs (name_tree c.args.name.now).text)) (many ∙ ap length h ∙ count_is (env_of c.args.context.now k) es))
