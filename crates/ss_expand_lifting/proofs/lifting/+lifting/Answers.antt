use Rattle.std.proofs.Common.{take, refl, sym, ap, ◌∙◌, add-one, arith}
use Rattle.std.specs.Prelude.{◌||◌}
use Rattle.std.proofs.lemmas.List.{take_all}
use Rattle.ss_core.specs.Tree.{ElementExpr, IffExpr, LocalExpr, NegateExpr, NotExpr}
use Rattle.ss_typed.specs.Tree.{CallOf, arguments}
use Rattle.ss_typed.specs.View as typed
use Rattle.ss_expand_rules.specs.Lifting as elab
use Rattle.ss_typed.specs.Lookups as lookups
use Rattle.ss_expand_expressions.specs.Parameters.{param_types}
use Rattle.ss_typed.specs.Parts.{link_after, linked, step_after, stepped}
use Rattle.ss_expand_expressions.specs.Sources.{stmts_of, source_of, lifted_after, valued_after, listed_after}
use Rattle.ss_expand_expressions.proofs.Shapes.{linked_next, stepped_next}
use Rattle.ss_expand_lifting.specs.Contexts.{context_of}
use Rattle.ss_expand_lifting.specs.Operations.{test_of, values_of}
use Rattle.ss_expand_lifting.proofs.Joins.{with_call, without_call, unlifted_after, value_as_it_is, values_as_they_are, unary_kept, binary_kept, array_after, size_kept, size_plain, values_kept, values_plain, kept_any}
use Rattle.ss_expand_lifting.proofs.Links.{link_next_calls, step_next_calls, link_place, step_place, step_lazy, operand_along, links_go_along, steps_go_along}
use Rattle.ss_typed.proofs.Grouping.{operation_is, is_is, as_is, field_is, element_is, length_is, call_is}
use Rattle.ss_expand_lifting.proofs.Leaves.{others_stay}
use Rattle.ss_expand_lifting.proofs.Sizes.{links_fall, steps_fall}
use Rattle.ss_expand_lifting.proofs.Arms.{iff_lifts, negate_lifts, not_lifts, cast_lifts, begun_there, implies_lifts, chain_lifts, path_lifts, new_called, new_lifts, new_array_lifts, static_called, static_lifts, base_called, base_lifts, call_lifts, lazily_ends, operation_lifts_lazily, operation_lifts_strictly, negation_lifts, negation_stays, argument_joins, arguments_join, link_lifts, step_lifts}
use Rattle.ss_expand_lifting.proofs.lifting.+lifting.Goals as goal

pub lift-returns-in_ok-lift_iff-in-Iff : goal.lift-returns-in_ok-lift_iff-in-Iff
lift-returns-in_ok-lift_iff-in-Iff t c = λ h.
    let a = c.in-Iff in
    let s = context_of c.args.context.now in
    let x = typed.expr c.deref.result.now in
    let before = stmts_of c.args.code.now.statements in
    let types = c.args.made.now.items in
    iff_lifts s a.place a.a a.b c.args.e.now _ _ before _ types a.is c.deref.ensures c.deref-in-Iff.ensures
    (c.in_ok-lift_iff-in-Iff.ensures x before types (c.in_ok-left-in-Iff.ensures ∙ kept_any s _ x before types c.any_object.ensures))

pub lift-returns-in_ok-value-in_default : goal.lift-returns-in_ok-value-in_default
lift-returns-in_ok-value-in_default t c = λ h.
    let d = c.in_default in
    unlifted_after (stmts_of c.args.code.now.statements) _ _ c.args.made.now.items c.in_ok-value-in_default.ensures
    ∙ ap (lifted_after (stmts_of c.args.code.now.statements)) (sym (others_stay (context_of c.args.context.now) c.args.made.now.items c.args.e.now
    (record { iff = d.not-Iff; implies = d.not-Implies; chain = d.not-Chain; negate = d.not-Negate; no = d.not-Not; cast = d.not-Cast; path = d.not-Path; new = d.not-New; new_array = d.not-NewArray; static = d.not-Static; base = d.not-Base })))

pub lift_iff-returns : goal.lift_iff-returns
lift_iff-returns t c = λ a before types h.
    binary_kept (IffExpr c.args.place) (context_of c.args.context.now) a (typed.expr c.args.b.now) elab.any_object _ before _ _ _ _ _ types _ _
    refl c.any_object.ensures h c.in_ok-right.ensures c.in_ok-value.ensures

pub lift-returns-in_ok-lift_negate-in-Negate : goal.lift-returns-in_ok-lift_negate-in-Negate
lift-returns-in_ok-lift_negate-in-Negate t c = λ h.
    let a = c.in-Negate in
    negate_lifts (context_of c.args.context.now) a.place a.e c.args.e.now _ (stmts_of c.args.code.now.statements) _ c.args.made.now.items a.is
    c.deref-in-Negate.ensures c.in_ok-lift_negate-in-Negate.ensures

pub lift_negate-returns : goal.lift_negate-returns
lift_negate-returns t c =
    unary_kept (NegateExpr c.args.place) (context_of c.args.context.now) (typed.expr c.args.e.now) _ (stmts_of c.args.code.now.statements) _ _ _ c.args.made.now.items _
    c.any_object.ensures c.in_ok-value.ensures c.in_ok-negated.ensures

pub lift-returns-in_ok-lift_not-in-Not : goal.lift-returns-in_ok-lift_not-in-Not
lift-returns-in_ok-lift_not-in-Not t c = λ h.
    let a = c.in-Not in
    not_lifts (context_of c.args.context.now) a.place a.e c.args.e.now _ (stmts_of c.args.code.now.statements) _ c.args.made.now.items a.is
    c.deref-in-Not.ensures c.in_ok-lift_not-in-Not.ensures

pub lift_not-returns : goal.lift_not-returns
lift_not-returns t c =
    unary_kept (NotExpr c.args.place) (context_of c.args.context.now) (typed.expr c.args.e.now) _ (stmts_of c.args.code.now.statements) _ _ _ c.args.made.now.items _
    c.any_object.ensures c.in_ok-value.ensures c.in_ok-negated.ensures

pub lift-returns-in_ok-cast-in-Cast : goal.lift-returns-in_ok-cast-in-Cast
lift-returns-in_ok-cast-in-Cast t c = λ h.
    let a = c.in-Cast in
    cast_lifts (context_of c.args.context.now) a.place a.class a.non_null a.e c.args.e.now _ _ (stmts_of c.args.code.now.statements) _ _ _ c.args.made.now.items _ a.is
    c.deref-in-Cast.ensures c.any_object-in-Cast.ensures c.in_ok-value-in-Cast.ensures c.in_ok-cast-in-Cast.ensures

pub lift-returns-in_ok-lift_array-in-NewArray : goal.lift-returns-in_ok-lift_array-in-NewArray
lift-returns-in_ok-lift_array-in-NewArray t c = λ h.
    let a = c.in-NewArray in
    new_array_lifts (context_of c.args.context.now) a.at a.class a.e c.args.e.now _ (stmts_of c.args.code.now.statements) _ c.args.made.now.items a.is
    c.deref-in-NewArray.ensures c.in_ok-lift_array-in-NewArray.ensures

pub lift_array-returns : goal.lift_array-returns
lift_array-returns t c =
    array_after c.args.place c.args.class.0 (context_of c.args.context.now) (typed.expr c.args.e.now) (stmts_of c.args.code.now.statements) _ _ c.args.made.now.items _ c.in_ok-size.ensures

pub lift_kept-returns : goal.lift_kept-returns
lift_kept-returns t c =
    c.in_ok-value.ensures (context_of c.args.context.now) (typed.expr c.args.e.now) (stmts_of c.args.code.now.statements) c.args.made.now.items refl c.in_ok-operand.ensures

pub lift_links-loop-link-preserved : goal.lift_links-loop-link-preserved
lift_links-loop-link-preserved t c = λ e before types h g.
    let p = c.args.place in
    let links = c.args.links.now in
    let i = c.loop-link.link-index in
    let link = c.link-item.result in
    operand_along _ _ _ _ _ _ _ _
    (sym (ap (λ k. linked p e (take k links)) (add-one i) ∙ linked_next p e links i link c.loop-link-test.true c.link-item.is))
    (c.in_ok-operand.ensures (linked p e (take i links)) before types (c.loop-link.invariant e before types h g) (link_next_calls p e links i link g c.loop-link-test.true c.link-item.is))

pub lift_links-returns : goal.lift_links-returns
lift_links-returns t c = λ e before types h g.
    operand_along _ _ _ _ _ _ _ _ (ap (λ ls. linked c.args.place e ls) (take_all c.loop-link.link-index c.args.links.now c.loop-link-test.false)) (c.loop-link.invariant e before types h g)

pub lift_steps-loop-step-preserved : goal.lift_steps-loop-step-preserved
lift_steps-loop-step-preserved t c = λ e before types h g.
    let p = c.args.place in
    let steps = c.args.steps.now in
    let i = c.loop-step.step-index in
    let step = c.step-item.result in
    operand_along _ _ _ _ _ _ _ _
    (sym (ap (λ k. stepped p e (take k steps)) (add-one i) ∙ stepped_next p e steps i step c.loop-step-test.true c.step-item.is))
    (c.in_ok-operand.ensures (stepped p e (take i steps)) before types (c.loop-step.invariant e before types h g) (step_next_calls p e steps i step g c.loop-step-test.true c.step-item.is))

pub lift_steps-returns : goal.lift_steps-returns
lift_steps-returns t c = λ e before types h g.
    operand_along _ _ _ _ _ _ _ _ (ap (λ ls. stepped c.args.place e ls) (take_all c.loop-step.step-index c.args.steps.now c.loop-step-test.false)) (c.loop-step.invariant e before types h g)

pub lift_link-returns : goal.lift_link-returns
lift_link-returns t c = λ e before types h calls.
    let p = c.args.place in
    let link = c.args.link.now in
    record {
      lifted = c.in_ok-source.ensures e before types h ∙ ap (lifted_after before) (sym (with_call (context_of c.args.context.now) (link_after link p e) types calls));
      place = sym (link_place link p e);
      ty = sym (c.link_type.ensures p e);
      calls = sym calls;
      lazy = sym (c.is_lazy_link.ensures p e);
    }

pub lift_step-returns : goal.lift_step-returns
lift_step-returns t c = λ e before types h calls.
    let p = c.args.place in
    let step = c.args.step.now in
    record {
      lifted = c.in_ok-source.ensures e before types h ∙ ap (lifted_after before) (sym (with_call (context_of c.args.context.now) (step_after step p e) types calls));
      place = sym (step_place step p e);
      ty = sym (c.step_type-ty.ensures p e (sym h.ty));
      calls = sym calls;
      lazy = sym (step_lazy step p e);
    }

pub lift_element-returns : goal.lift_element-returns
lift_element-returns t c = λ e before types h.
    let s = context_of c.args.context.now in
    let i = typed.expr c.args.index.now in
    binary_kept (ElementExpr c.args.place) s e i _ _ before _ _ _ _ _ types _ _ c.any_object.ensures c.any_object-2.ensures
    (c.in_ok-array.ensures s e before types refl h) c.in_ok-index.ensures c.in_ok-value.ensures

pub lift_call-returns : goal.lift_call-returns
lift_call-returns t c = λ e ty before types h.
    let s = context_of c.args.context.now in
    let es = arguments (typed.exprs c.args.es.now) in
    call_lifts s c.args.placed.place e c.args.placed.method ty es _ _ _ _ before _ _ _ _ _ types _ _
    (c.class_of_type-class.ensures ∙ ap elab.class_of_type h.ty) (c.params_in-params.ensures ∙ ap lookups.param_types_in c.method_at.ensures)
    c.have_call-in_arguments.ensures (c.are_kept-kept.ensures ∙ ap (λ b. b || c.have_call-in_arguments.result) h.calls)
    (c.in_ok-receiver.ensures s e before types refl h) c.in_ok-values.ensures c.dispatched.ensures

pub lift_lazily-returns : goal.lift_lazily-returns
lift_lazily-returns t c =
    let s = context_of c.args.context.now in
    let b = typed.expr c.args.b.now in
    lazily_ends c.args.left.place b (test_of c.args.left.place c.args.left.holds) c.args.left.x (stmts_of c.args.code.now.statements) _ _ _ (LocalExpr c.args.left.place c.args.left.x) _ _ _ c.args.made.now.items _ (elab.right_side s b c.args.made.now.items)
    (c.in_ok-source.ensures ∙ ap (λ code. lifted_after code (elab.right_side s b c.args.made.now.items)) c.new-inner.ensures)
    c.in_ok-test.ensures c.place_of.ensures c.in_ok-value.ensures.code c.in_ok-value.ensures.value

pub arguments-returns : goal.arguments-returns
arguments-returns t c =
    c.in_ok-values.ensures ∙ ap (λ k. listed_after (stmts_of c.args.code.now.statements) (values_of (context_of c.args.context.now) (param_types c.args.params.now) k (arguments (typed.exprs c.args.es.now)) c.args.made.now.items)) c.have_call.ensures

pub lift_all-loop-e-preserved : goal.lift_all-loop-e-preserved
lift_all-loop-e-preserved t c =
    argument_joins (context_of c.args.context.now) c.args.es.now c.loop-e.e-index c.e-item.result (param_types c.loop-e.rest.now) _ _ (stmts_of c.loop-e.code.statements) _ c.loop-e.values.items _ _ c.loop-e.made.items _
    c.loop-e-test.true c.e-item.is c.first_type.ensures c.other_params-rest.ensures c.in_ok-push.ensures.items c.in_ok-value.ensures
    ∙ c.loop-e.invariant

pub lift_all-returns : goal.lift_all-returns
lift_all-returns t c =
    arguments_join (context_of c.args.context.now) c.args.es.now c.loop-e.e-index (param_types c.args.params.now) (param_types c.loop-e.rest.now) (stmts_of c.args.code.now.statements) _ c.loop-e.values.items c.args.made.now.items _
    c.loop-e-test.false c.loop-e.invariant

pub right_side-returns-in_ok-source : goal.right_side-returns-in_ok-source
right_side-returns-in_ok-source t c =
    c.in_ok-source.ensures (sym c.has_call.ensures ∙ c.if-has_call.true)
    ∙ ap (lifted_after (stmts_of c.args.code.now.statements)) (sym (with_call (context_of c.args.context.now) (typed.expr c.args.e.now) c.args.made.now.items (sym c.has_call.ensures ∙ c.if-has_call.true)))

pub right_side-returns-in_ok-value : goal.right_side-returns-in_ok-value
right_side-returns-in_ok-value t c =
    unlifted_after (stmts_of c.args.code.now.statements) _ _ c.args.made.now.items c.in_ok-value.ensures
    ∙ ap (lifted_after (stmts_of c.args.code.now.statements)) (sym (without_call (context_of c.args.context.now) (typed.expr c.args.e.now) c.args.made.now.items (sym c.has_call.ensures ∙ c.if-has_call.false)))

pub lift_negated-returns-in_ok-negated : goal.lift_negated-returns-in_ok-negated
lift_negated-returns-in_ok-negated t c =
    negation_lifts (context_of c.args.context.now) (typed.expr c.args.a.now) (stmts_of c.args.code.now.statements) _ _ _ _ c.args.made.now.items _
    (sym c.has_call.ensures ∙ c.if-has_call.true) c.in_ok-value.ensures c.place_of.ensures c.in_ok-negated.ensures

pub lift_negated-returns-in_ok-negated-2 : goal.lift_negated-returns-in_ok-negated-2
lift_negated-returns-in_ok-negated-2 t c =
    negation_stays (context_of c.args.context.now) (typed.expr c.args.a.now) (stmts_of c.args.code.now.statements) _ _ _ c.args.made.now.items
    (sym c.has_call.ensures ∙ c.if-has_call.false) c.in_ok-value-2.ensures c.place_of-else-has_call.ensures c.in_ok-negated-2.ensures

pub lift_size-returns-in_ok-value : goal.lift_size-returns-in_ok-value
lift_size-returns-in_ok-value t c =
    c.in_ok-value.ensures ∙ kept_any (context_of c.args.context.now) _ (typed.expr c.args.e.now) (stmts_of c.args.code.now.statements) c.args.made.now.items c.any_object.ensures
    ∙ ap (valued_after (stmts_of c.args.code.now.statements)) (sym (size_kept (context_of c.args.context.now) (typed.expr c.args.e.now) c.args.made.now.items (sym c.has_call.ensures ∙ c.if-has_call.true)))

pub lift_size-returns-in_ok-value-2 : goal.lift_size-returns-in_ok-value-2
lift_size-returns-in_ok-value-2 t c =
    value_as_it_is (stmts_of c.args.code.now.statements) _ _ c.args.made.now.items c.in_ok-value-2.ensures
    ∙ ap (valued_after (stmts_of c.args.code.now.statements)) (sym (size_plain (context_of c.args.context.now) (typed.expr c.args.e.now) c.args.made.now.items (sym c.has_call.ensures ∙ c.if-has_call.false)))

pub lift_values-returns-in_ok-values : goal.lift_values-returns-in_ok-values
lift_values-returns-in_ok-values t c =
    c.in_ok-values.ensures ∙ ap (listed_after (stmts_of c.args.code.now.statements)) (sym (values_kept (context_of c.args.context.now) (param_types c.args.params.now) c.args.kept (arguments (typed.exprs c.args.es.now)) c.args.made.now.items c.if-kept.true))

pub lift_values-returns-in_ok-values-2 : goal.lift_values-returns-in_ok-values-2
lift_values-returns-in_ok-values-2 t c =
    values_as_they_are (stmts_of c.args.code.now.statements) _ _ c.args.made.now.items c.in_ok-values-2.ensures
    ∙ ap (listed_after (stmts_of c.args.code.now.statements)) (sym (values_plain (context_of c.args.context.now) (param_types c.args.params.now) c.args.kept (arguments (typed.exprs c.args.es.now)) c.args.made.now.items c.if-kept.false))

pub lift_operation-returns-in_ok-source : goal.lift_operation-returns-in_ok-source
lift_operation-returns-in_ok-source t c = λ e before types h.
    operation_lifts_lazily (context_of c.args.context.now) c.args.placed.place c.args.placed.operator e (typed.expr c.args.b.now) before (stmts_of c.args.code.now.statements) _ (source_of c.args.operand.source) _ _ _ types c.args.made.now.items _ _ _
    (sym c.is_lazy_operator.ensures ∙ c.if-is_lazy_operator.true) h.lifted h.place c.in_ok-x.ensures.number c.in_ok-x.ensures.kept c.is_and-holds.ensures c.in_ok-source.ensures

pub lift_operation-returns-in_ok-value : goal.lift_operation-returns-in_ok-value
lift_operation-returns-in_ok-value t c = λ e before types h.
    let s = context_of c.args.context.now in
    operation_lifts_strictly s c.args.placed.place c.args.placed.operator e (typed.expr c.args.b.now) _ _ before _ _ _ _ _ types _ _
    (sym c.is_lazy_operator.ensures ∙ c.if-is_lazy_operator.false) c.any_object.ensures c.any_object-else-is_lazy_operator.ensures
    (c.in_ok-left.ensures s e before types refl h) c.in_ok-right.ensures c.in_ok-value.ensures

pub lift-returns-in_ok-lift_lazily-in-Implies : goal.lift-returns-in_ok-lift_lazily-in-Implies
lift-returns-in_ok-lift_lazily-in-Implies t c = λ h.
    let a = c.in-Implies in
    let begun = c.in_ok-begun-in-Implies.ensures in
    implies_lifts (context_of c.args.context.now) a.place a.a a.b c.args.e.now _ _ (stmts_of c.args.code.now.statements) _ _ c.args.made.now.items _ _ _ _ a.is
    c.deref-in-Implies.ensures c.deref-in-Implies-2.ensures begun.place begun.holds begun.begun c.in_ok-lift_lazily-in-Implies.ensures

pub begin_implication-returns-clause-begun : goal.begin_implication-returns-clause-begun
begin_implication-returns-clause-begun t c =
    begun_there (context_of c.args.context.now) _ _ _ _ _ _ _ c.place_of.ensures c.in_ok-negated.ensures c.in_ok-x.ensures

pub lift-returns-in_ok-lift_new-in-New : goal.lift-returns-in_ok-lift_new-in-New
lift-returns-in_ok-lift_new-in-New t c = λ h.
    let a = c.in-New in
    new_lifts (context_of c.args.context.now) a.place a.class a.es c.args.e.now _ (stmts_of c.args.code.now.statements) _ c.args.made.now.items a.is
    c.deref-in-New.ensures.value c.in_ok-lift_new-in-New.ensures

pub lift_new-returns : goal.lift_new-returns
lift_new-returns t c =
    new_called (context_of c.args.context.now) c.args.place c.args.class c.args.es.now _ (stmts_of c.args.code.now.statements) _ _ c.args.made.now.items _
    (c.params_in-params.ensures ∙ ap lookups.param_types_in c.constructor_of.ensures) c.in_ok-values.ensures

pub lift-returns-in_ok-lift_static-in-Static : goal.lift-returns-in_ok-lift_static-in-Static
lift-returns-in_ok-lift_static-in-Static t c = λ h.
    let a = c.in-Static in
    static_lifts (context_of c.args.context.now) a.at a.body a.field-2 a.es c.args.e.now _ (stmts_of c.args.code.now.statements) _ c.args.made.now.items a.is
    c.deref-in-Static.ensures.value (c.in_ok-lift_static-in-Static.ensures a.field-2)

pub lift_static-returns : goal.lift_static-returns
lift_static-returns t c = λ ty.
    static_called (context_of c.args.context.now) c.args.place c.args.number ty c.args.es.now _ _ (stmts_of c.args.code.now.statements) _ _ c.args.made.now.items _
    (c.params_in-params.ensures ∙ ap lookups.param_types_in c.body_at.ensures) c.in_ok-callee.ensures c.in_ok-values.ensures

pub lift-returns-in_ok-lift_base-in-Base : goal.lift-returns-in_ok-lift_base-in-Base
lift-returns-in_ok-lift_base-in-Base t c = λ h.
    let a = c.in-Base in
    base_lifts (context_of c.args.context.now) a.at a.method a.field-2 a.es c.args.e.now _ (stmts_of c.args.code.now.statements) _ c.args.made.now.items a.is
    c.deref-in-Base.ensures.value (c.in_ok-lift_base-in-Base.ensures a.field-2)

pub lift_base-returns : goal.lift_base-returns
lift_base-returns t c = λ ty.
    base_called (context_of c.args.context.now) c.args.place c.args.method ty c.args.es.now _ _ _ (stmts_of c.args.code.now.statements) _ _ c.args.made.now.items _
    c.above_of-above.ensures (c.params_in-params.ensures ∙ ap lookups.param_types_in c.method_at.ensures) c.in_ok-callee.ensures c.in_ok-values.ensures

pub lift-lift_chain-requires : goal.lift-lift_chain-requires
lift-lift_chain-requires t c =
    let a = c.in-Chain in
    (omega (arith, links_fall a.place a.first a.links c.args.e.now _ _ _ a.is c.as_slice-list.ensures.value c.links_after-rest.ensures), tt)

pub lift-lift_path-requires : goal.lift-lift_path-requires
lift-lift_path-requires t c =
    let a = c.in-Path in
    (omega (arith, steps_fall a.place a.first a.steps c.args.e.now _ _ _ a.is c.as_slice-list-in-Path.ensures.value c.steps_after-rest.ensures), tt)

pub lift-returns-in_ok-lift_chain-in-Chain : goal.lift-returns-in_ok-lift_chain-in-Chain
lift-returns-in_ok-lift_chain-in-Chain t c = λ h.
    let a = c.in-Chain in
    let s = context_of c.args.context.now in
    let before = stmts_of c.args.code.now.statements in
    let types = c.args.made.now.items in
    let front = c.in_ok-front-in-Chain.ensures.front s _ before types _ _ refl c.in_ok-operand-in-Chain.ensures in
    let rest = c.links_after-rest.ensures in
    let whole = c.in_ok-lift_chain-in-Chain.ensures _ before types front.operand (links_go_along _ _ _ _ rest front.go_on) in
    chain_lifts s a.place a.first a.links c.args.e.now _ _ _ _ before _ _ types _ a.is c.deref-in-Chain.ensures c.as_slice-list.ensures.value rest h whole

pub lift_chain-returns : goal.lift_chain-returns
lift_chain-returns t c = λ e before types h g.
    let whole = c.in_ok-whole.ensures e before types h g in
    whole.lifted

pub lift-returns-in_ok-lift_path-in-Path : goal.lift-returns-in_ok-lift_path-in-Path
lift-returns-in_ok-lift_path-in-Path t c = λ h.
    let a = c.in-Path in
    let s = context_of c.args.context.now in
    let before = stmts_of c.args.code.now.statements in
    let types = c.args.made.now.items in
    let front = c.in_ok-front-in-Path.ensures.front s _ before types _ _ refl c.in_ok-operand-in-Path.ensures in
    let rest = c.steps_after-rest.ensures in
    let whole = c.in_ok-lift_path-in-Path.ensures _ before types front.operand (steps_go_along _ _ _ _ rest front.go_on) in
    path_lifts s a.place a.first a.steps c.args.e.now _ _ _ _ before _ _ types _ a.is c.deref-in-Path.ensures c.as_slice-list-in-Path.ensures.value rest h whole

pub lift_path-returns : goal.lift_path-returns
lift_path-returns t c = λ e before types h g.
    let whole = c.in_ok-whole.ensures e before types h g in
    whole.lifted

pub lift_after-returns-in_ok-source-in-Operation : goal.lift_after-returns-in_ok-source-in-Operation
lift_after-returns-in_ok-source-in-Operation t c = λ e before types h.
    let a = c.in-Operation in
    let s = context_of c.args.context.now in
    let p = c.args.place in
    link_lifts s p e _ c.args.link.now _ before _ _ types _ a.is (operation_is a.operator a.b p e) (c.in_ok-source-in-Operation.ensures e before types h)

pub lift_after-returns-in_ok-source-in-Is : goal.lift_after-returns-in_ok-source-in-Is
lift_after-returns-in_ok-source-in-Is t c = λ e before types h.
    let a = c.in-Is in
    let s = context_of c.args.context.now in
    let p = c.args.place in
    link_lifts s p e _ c.args.link.now _ before _ _ types _ a.is (is_is a.class p e) (c.in_ok-source-in-Is.ensures s e before types refl h)

pub lift_after-returns-in_ok-source-in-As : goal.lift_after-returns-in_ok-source-in-As
lift_after-returns-in_ok-source-in-As t c = λ e before types h.
    let a = c.in-As in
    let s = context_of c.args.context.now in
    let p = c.args.place in
    link_lifts s p e _ c.args.link.now _ before _ _ types _ a.is (as_is a.class p e) (c.in_ok-source-in-As.ensures s e before types refl h)

pub lift_onward-returns-in_ok-source-in-Field : goal.lift_onward-returns-in_ok-source-in-Field
lift_onward-returns-in_ok-source-in-Field t c = λ e before types h.
    let a = c.in-Field in
    let s = context_of c.args.context.now in
    let p = c.args.place in
    step_lifts s p e _ c.args.step.now _ before _ _ types _ a.is (field_is a.field a.field-1 p e) (c.in_ok-source-in-Field.ensures s e a.field-1 before types refl h)

pub lift_onward-returns-in_ok-source-in-Element : goal.lift_onward-returns-in_ok-source-in-Element
lift_onward-returns-in_ok-source-in-Element t c = λ e before types h.
    let a = c.in-Element in
    let s = context_of c.args.context.now in
    let p = c.args.place in
    step_lifts s p e _ c.args.step.now _ before _ _ types _ a.is (element_is a.index p e) (c.in_ok-source-in-Element.ensures e before types h)

pub lift_onward-returns-in_ok-source-in-Length : goal.lift_onward-returns-in_ok-source-in-Length
lift_onward-returns-in_ok-source-in-Length t c = λ e before types h.
    let a = c.in-Length in
    let s = context_of c.args.context.now in
    let p = c.args.place in
    step_lifts s p e _ c.args.step.now _ before _ _ types _ a.is (length_is p e) (c.in_ok-source-in-Length.ensures s e before types refl h)

pub lift_onward-returns-in_ok-source-in-Call : goal.lift_onward-returns-in_ok-source-in-Call
lift_onward-returns-in_ok-source-in-Call t c = λ e before types h.
    let a = c.in-Call in
    let s = context_of c.args.context.now in
    let p = c.args.place in
    step_lifts s p e _ c.args.step.now _ before _ _ types _ a.is (call_is a.method a.field-1 a.es p e ∙ ap (λ xs. CallOf p e a.method a.field-1 (arguments (typed.exprs xs))) (sym c.deref.ensures.value)) (c.in_ok-source-in-Call.ensures e a.field-1 before types h)
