use Rattle.std.proofs.Common.{List, false, ◌≡◌, ◌++◌, map, ap, sym, ◌∙◌, arith}
use Rattle.std.specs.Prelude.{Option, Some}
use Rattle.ss_core.specs.declared.names.Ty.{Ty}
use Rattle.ss_typed.specs.declared.expr.TypedLink.{TypedLink}
use Rattle.ss_typed.specs.declared.expr.TypedStep.{TypedStep}
use Rattle.ss_typed.specs.Tree.{ExprTree, BinaryOf, IsOf, AsOf, FieldOf, ElementOf, LengthOf, CallOf, arguments}
use Rattle.ss_typed.specs.View.{expr}
use Rattle.ss_nonnull_rules.specs.Faults.{inside, wanted_if, handed}
use Rattle.ss_typed.specs.Parts.{link_after, step_after}
use Rattle.ss_nonnull_seen.specs.Called.{called_types}
use Rattle.ss_typed.proofs.Grouping.{as_is, call_is, element_is, field_is, is_is, length_is, operation_is}
use Rattle.ss_nonnull_seen.specs.Codes.{path_of, context_of, seen_of}
use Rattle.ss_nonnull_seen.specs.Seen.{seen, plain}
use Rattle.ss_nonnull_rules.specs.NonNull.{Known}
use Rattle.ss_typed.specs.declared.expr.TypedExpr.{TypedExpr}
use Rattle.ss_nonnull_seen.proofs.Seeing.{wanted_noted, right_known, right_keeps, operation_leads, tested_leads, converted_leads, field_leads, element_leads, length_leads, call_leads}
use Rattle.ss_typed.proofs.Falls.{links_fall, steps_fall}
use Rattle.ss_nonnull.proofs.Walking.{chain_walked, path_walked, leads_by, part_leads, parts_led, no_parts}
use Rattle.ss_nonnull.proofs.Arguments.{one_more, all_done}
use Rattle.ss_nonnull.proofs.expr.+expr.Goals as goal

pub check-returns-in_ok-check_links-in-Chain : goal.check-returns-in_ok-check_links-in-Chain
check-returns-in_ok-check_links-in-Chain t c =
    let a = c.in-Chain in
    let w = chain_walked (context_of c.args.context.now) (path_of c.args.known.now) c.args.found.now.items _ _ _ _ a.place a.first a.links c.args.e.now _ _ a.is
    c.deref.ensures c.deref-in-Chain.ensures.value c.in_ok-head-in-Chain.ensures.seen c.in_ok-head-in-Chain.ensures.noted
    c.in_ok-check_links-in-Chain.ensures in
    record { seen = w.is; noted = w.noted }

pub check-returns-in_ok-check_steps-in-Path : goal.check-returns-in_ok-check_steps-in-Path
check-returns-in_ok-check_steps-in-Path t c =
    let a = c.in-Path in
    let w = path_walked (context_of c.args.context.now) (path_of c.args.known.now) c.args.found.now.items _ _ _ _ a.place a.first a.steps c.args.e.now _ _ a.is
    c.deref-in-Path.ensures c.deref-in-Path-2.ensures.value c.in_ok-head-in-Path.ensures.seen c.in_ok-head-in-Path.ensures.noted
    c.in_ok-check_steps-in-Path.ensures in
    record { seen = w.is; noted = w.noted }

pub check-check_links-requires : goal.check-check_links-requires
check-check_links-requires t c =
    let a = c.in-Chain in
    (omega (arith, links_fall a.place a.first a.links c.args.e.now c.deref-in-Chain.result.now a.is c.deref-in-Chain.ensures.value), tt)

pub check-check_steps-requires : goal.check-check_steps-requires
check-check_steps-requires t c =
    let a = c.in-Path in
    (omega (arith, steps_fall a.place a.first a.steps c.args.e.now c.deref-in-Path-2.result.now a.is c.deref-in-Path-2.ensures.value), tt)

pub check_wanted-returns-clause-noted : goal.check_wanted-returns-clause-noted
check_wanted-returns-clause-noted t c =
    wanted_noted (context_of c.args.context.now) (path_of c.args.known.now) (expr c.args.e.now) c.args.wanted _ c.args.found.now.items _ _
    c.in_ok-head.ensures.seen c.in_ok-head.ensures.noted c.in_ok-note_lacking.ensures

pub check_links-loop-link-init : goal.check_links-loop-link-init
check_links-loop-link-init t c = no_parts link_after (context_of c.args.context.now) (path_of c.args.known.now) c.args.found.now.items (seen_of c.args.first) c.args.place c.args.links.now

pub check_links-loop-link-preserved : goal.check_links-loop-link-preserved
check_links-loop-link-preserved t c =
    part_leads link_after (context_of c.args.context.now) (path_of c.args.known.now) c.args.found.now.items _ _ (seen_of c.args.first) _ _ c.args.place c.args.links.now c.loop-link.link-index c.link-item.result
    c.loop-link-test.true c.link-item.is c.in_ok-head.ensures c.loop-link.invariant

pub check_links-returns : goal.check_links-returns
check_links-returns t c =
    parts_led link_after (context_of c.args.context.now) (path_of c.args.known.now) c.args.found.now.items _ (seen_of c.args.first) _ c.args.place c.args.links.now c.loop-link.link-index c.loop-link-test.false c.loop-link.invariant

pub check_steps-loop-step-init : goal.check_steps-loop-step-init
check_steps-loop-step-init t c = no_parts step_after (context_of c.args.context.now) (path_of c.args.known.now) c.args.found.now.items (seen_of c.args.first) c.args.place c.args.steps.now

pub check_steps-loop-step-preserved : goal.check_steps-loop-step-preserved
check_steps-loop-step-preserved t c =
    part_leads step_after (context_of c.args.context.now) (path_of c.args.known.now) c.args.found.now.items _ _ (seen_of c.args.first) _ _ c.args.place c.args.steps.now c.loop-step.step-index c.step-item.result
    c.loop-step-test.true c.step-item.is c.in_ok-head.ensures c.loop-step.invariant

pub check_steps-returns : goal.check_steps-returns
check_steps-returns t c =
    parts_led step_after (context_of c.args.context.now) (path_of c.args.known.now) c.args.found.now.items _ (seen_of c.args.first) _ c.args.place c.args.steps.now c.loop-step.step-index c.loop-step-test.false c.loop-step.invariant

pub check_operation-returns : goal.check_operation-returns
check_operation-returns t c =
    operation_leads (context_of c.args.context.now) (path_of c.args.known.now) c.args.found.now.items _ (seen_of c.args.head) _ _ c.args.placed.place c.args.placed.operator (expr c.args.operand.now)
    c.in_ok-right.ensures.seen c.in_ok-right.ensures.noted c.in_ok-whole.ensures

pub check_right-returns-in_ok-right-in-Some : goal.check_right-returns-in_ok-right-in-Some
check_right-returns-in_ok-right-in-Some t c =
    let s = context_of c.args.context.now in
    let k = path_of c.args.known.now in
    let b = expr c.args.operand.now in
    let v = seen_of c.args.head.now in
    let f = c.args.found.now.items in
    let more = λ (left : ExprTree) (h : v ≡ seen s k left).
    right_known s k _ c.args.operator c.in-Some.truth v left c.in_ok-more-in-Some.ensures (sym c.in-Some.is ∙ c.learnt_at.ensures) h in
    record {
      seen = λ left h. c.in_ok-right-in-Some.ensures.seen ∙ ap (λ (m : Option Known). seen s m b) (more left h);
      noted = λ left h. c.in_ok-right-in-Some.ensures.noted ∙ ap (λ (m : Option Known). f ++ inside s m b) (more left h);
    }

pub check_right-returns-in_ok-right-in-None : goal.check_right-returns-in_ok-right-in-None
check_right-returns-in_ok-right-in-None t c =
    let s = context_of c.args.context.now in
    let k = path_of c.args.known.now in
    let b = expr c.args.operand.now in
    let f = c.args.found.now.items in
    let o_is = sym c.in-None.is ∙ c.learnt_at.ensures in
    record {
      seen = λ left h. c.in_ok-right-in-None.ensures.seen ∙ ap (λ (m : Option Known). seen s m b) (right_keeps k c.args.operator left o_is);
      noted = λ left h. c.in_ok-right-in-None.ensures.noted ∙ ap (λ (m : Option Known). f ++ inside s m b) (right_keeps k c.args.operator left o_is);
    }

pub check_link-returns-in_ok-longer-in-Operation : goal.check_link-returns-in_ok-longer-in-Operation
check_link-returns-in_ok-longer-in-Operation t c =
    let a = c.in-Operation in
    let p = c.args.place in
    leads_by (context_of c.args.context.now) (path_of c.args.known.now) c.args.found.now.items _ (seen_of c.args.head) _ (λ (e : ExprTree). BinaryOf p a.operator e (expr a.right)) (link_after c.args.link.now p)
    (λ e. ap (λ (l : TypedLink). link_after l p e) a.is ∙ operation_is a.operator a.right p e) c.in_ok-longer-in-Operation.ensures

pub check_link-returns-in_ok-longer-in-Is : goal.check_link-returns-in_ok-longer-in-Is
check_link-returns-in_ok-longer-in-Is t c =
    let a = c.in-Is in
    let p = c.args.place in
    let s = context_of c.args.context.now in
    let k = path_of c.args.known.now in
    leads_by s k c.args.found.now.items _ (seen_of c.args.head) _ (λ (e : ExprTree). IsOf p e a.field-0.0) (link_after c.args.link.now p)
    (λ e. ap (λ (l : TypedLink). link_after l p e) a.is ∙ is_is a.field-0 p e)
    (tested_leads s k c.args.found.now.items (seen_of c.args.head) _ p a.field-0.0 c.in_ok-longer-in-Is.ensures)

pub check_link-returns-in-As : goal.check_link-returns-in-As
check_link-returns-in-As t c =
    let a = c.in-As in
    let p = c.args.place in
    let s = context_of c.args.context.now in
    let k = path_of c.args.known.now in
    leads_by s k c.args.found.now.items _ (seen_of c.args.head) _ (λ (e : ExprTree). AsOf p e a.class.0) (link_after c.args.link.now p)
    (λ e. ap (λ (l : TypedLink). link_after l p e) a.is ∙ as_is a.class p e)
    (converted_leads s k c.args.found.now.items (seen_of c.args.head) _ p a.class.0 (c.plain.ensures ∙ ap (λ (u : Ty). plain p (Some u) false) c.class_type.ensures))

pub check_step-returns-in-Field : goal.check_step-returns-in-Field
check_step-returns-in-Field t c =
    let a = c.in-Field in
    let p = c.args.place in
    let s = context_of c.args.context.now in
    let k = path_of c.args.known.now in
    leads_by s k c.args.found.now.items _ (seen_of c.args.head) _ (λ (e : ExprTree). FieldOf p e a.field.0 a.ty) (step_after c.args.step.now p)
    (λ e. ap (λ (l : TypedStep). step_after l p e) a.is ∙ field_is a.field a.ty p e)
    (field_leads s k c.args.found.now.items (seen_of c.args.head) _ p a.field.0 a.ty c.field_read.ensures)

pub check_step-returns-in-Element : goal.check_step-returns-in-Element
check_step-returns-in-Element t c =
    let a = c.in-Element in
    let p = c.args.place in
    let s = context_of c.args.context.now in
    let k = path_of c.args.known.now in
    leads_by s k c.args.found.now.items _ (seen_of c.args.head) _ (λ (e : ExprTree). ElementOf p e (expr a.index)) (step_after c.args.step.now p)
    (λ e. ap (λ (l : TypedStep). step_after l p e) a.is ∙ element_is a.index p e)
    (element_leads s k c.args.found.now.items _ (seen_of c.args.head) _ p (expr a.index) c.element_read.ensures c.in_ok-check-in-Element.ensures.noted)

pub check_step-returns-in-Length : goal.check_step-returns-in-Length
check_step-returns-in-Length t c =
    let a = c.in-Length in
    let p = c.args.place in
    let s = context_of c.args.context.now in
    let k = path_of c.args.known.now in
    leads_by s k c.args.found.now.items _ (seen_of c.args.head) _ (λ (e : ExprTree). LengthOf p e) (step_after c.args.step.now p)
    (λ e. ap (λ (l : TypedStep). step_after l p e) a.is ∙ length_is p e)
    (length_leads s k c.args.found.now.items (seen_of c.args.head) _ p c.value.ensures)

pub check_step-returns : goal.check_step-returns
check_step-returns t c =
    let a = c.in-Call in
    let p = c.args.place in
    let s = context_of c.args.context.now in
    let k = path_of c.args.known.now in
    let es = arguments (map expr a.list.items) in
    leads_by s k c.args.found.now.items _ (seen_of c.args.head) _ (λ (e : ExprTree). CallOf p e a.method a.ty es) (step_after c.args.step.now p)
    (λ e. ap (λ (l : TypedStep). step_after l p e) a.is ∙ call_is a.method a.ty a.list p e)
    (call_leads s k c.args.found.now.items _ (seen_of c.args.head) _ p a.method a.ty es _ c.called.ensures c.method_of-entered.ensures
    (c.in_ok-check_arguments-in-Call.ensures ∙ ap (λ (xs : List TypedExpr). c.args.found.now.items ++ handed s k (arguments (map expr xs)) (called_types c.method_of-entered.result)) c.deref.ensures.value))

pub check_arguments-loop-i-preserved : goal.check_arguments-loop-i-preserved
check_arguments-loop-i-preserved t c =
    let s = context_of c.args.context.now in
    let k = path_of c.args.known.now in
    let e = expr c.index-list-i.result in
    one_more s k (called_types c.args.entered) c.args.list.now c.loop-i.i c.index-list-i.result c.loop-i.found.items _ _
    c.loop-i-test.true c.index-list-i.is
    (c.in_ok-check_wanted.ensures.noted ∙ ap (λ (w : Option Ty). c.loop-i.found.items ++ (inside s k e ++ wanted_if s k e w)) c.type_at-wanted.ensures)
    c.loop-i.invariant

pub check_arguments-returns : goal.check_arguments-returns
check_arguments-returns t c =
    all_done (context_of c.args.context.now) (path_of c.args.known.now) (called_types c.args.entered) c.args.list.now c.loop-i.i _ _ c.loop-i-test.false c.loop-i.invariant
