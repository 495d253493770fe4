use Rattle.std.proofs.Common.{◌≡◌, ◌++◌, map, ap, subst, ◌∙◌, rules, arith}
use Rattle.std.specs.Prelude.{option_map, option_and_then}
use Rattle.ss_ast.specs.Expressions.{expr_tree, arguments}
use Rattle.ss_tables_lookup.specs.Classes.{trees}
use Rattle.ss_tables_lookup.specs.Views.{type_of}
use Rattle.ss_tables_scopes.specs.Names.{Names}
use Rattle.ss_resolver_types_heads.specs.declared.heads.Form.TheVariants as form
use Rattle.ss_ast.specs.Parts.{link_after, postfix_after}
use Rattle.ss_tables.specs.Types.{class_of, element_type}
use Rattle.ss_resolver_types_heads.specs.Wants.{Known}
use Rattle.ss_resolver_types_heads.specs.Calls.{wants_of}
use Rattle.ss_resolver_types_heads.specs.Expressions.{argument_where, operand}
use Rattle.ss_resolver_types_heads.specs.Heads.{AValueOf, value_at}
use Rattle.ss_resolver_types_heads.specs.Codes.{want_of, context_of, called_of, head_of}
use Rattle.ss_resolver_types_heads.proofs.Endings.{joined, element_leads, call_leads, operation_leads, is_leads, as_leads, operation_noted}
use Rattle.ss_ast.proofs.Falls.{links_fall, postfixes_fall}
use Rattle.ss_resolver_types_expressions.proofs.Walks.{known_read, noted_read, chain_walked, path_walked, part_leads, parts_led, no_parts}
use Rattle.ss_resolver_types_expressions.proofs.Arguments.{one_more, all_done, call_noted}
use Rattle.ss_resolver_types_expressions.proofs.expr.+expr.Goals as goal

pub walk-returns-in_ok-walk_links-in-Chain : goal.walk-returns-in_ok-walk_links-in-Chain
walk-returns-in_ok-walk_links-in-Chain t c =
    let a = c.in-Chain in
    let w = chain_walked c.args.context.now c.args.locals.now _ c.args.found.now.items _ _ _ _ a.place a.first a.links c.args.e.now _ _ a.is
    c.deref.ensures c.deref-in-Chain.ensures.value c.in_ok-head-in-Chain.ensures.same c.in_ok-head-in-Chain.ensures.head c.in_ok-head-in-Chain.ensures.noted
    c.in_ok-walk_links-in-Chain.ensures.walked in
    record { head = w.is; noted = w.noted; same = c.in_ok-walk_links-in-Chain.ensures.same ∙ c.in_ok-head-in-Chain.ensures.same }

pub walk-returns-in_ok-walk_postfixes-in-Path : goal.walk-returns-in_ok-walk_postfixes-in-Path
walk-returns-in_ok-walk_postfixes-in-Path t c =
    let a = c.in-Path in
    let w = path_walked c.args.context.now c.args.locals.now _ c.args.found.now.items _ _ _ _ a.place a.first a.postfixes c.args.e.now _ _ a.is
    c.deref-in-Path.ensures c.deref-in-Path-2.ensures.value c.in_ok-head-in-Path.ensures.same c.in_ok-head-in-Path.ensures.head c.in_ok-head-in-Path.ensures.noted
    c.in_ok-walk_postfixes-in-Path.ensures.walked in
    record { head = w.is; noted = w.noted; same = c.in_ok-walk_postfixes-in-Path.ensures.same ∙ c.in_ok-head-in-Path.ensures.same }

pub walk-walk_links-requires : goal.walk-walk_links-requires
walk-walk_links-requires t c =
    let a = c.in-Chain in
    (omega (arith, links_fall a.place a.first a.links c.args.e.now c.deref-in-Chain.result.now a.is c.deref-in-Chain.ensures.value), tt)

pub walk-walk_postfixes-requires : goal.walk-walk_postfixes-requires
walk-walk_postfixes-requires t c =
    let a = c.in-Path in
    (omega (arith, postfixes_fall a.place a.first a.postfixes c.args.e.now c.deref-in-Path-2.result.now a.is c.deref-in-Path-2.ensures.value), tt)

pub walk_cast-returns-clause-noted : goal.walk_cast-returns-clause-noted
walk_cast-returns-clause-noted t c = joined c.args.found.now.items _ _ _ _ c.in_ok-note_no_class.ensures c.in_ok-check_as.ensures.noted

pub walk_array-returns-clause-noted : goal.walk_array-returns-clause-noted
walk_array-returns-clause-noted t c = joined c.args.found.now.items _ _ _ _ c.in_ok-note_in_condition.ensures c.in_ok-check_as.ensures.noted

pub check-returns-clause-known : goal.check-returns-clause-known
check-returns-clause-known t c =
    known_read c.args.context.now c.args.locals.now _ _ (expr_tree c.args.e.now) _ c.in_ok-head.ensures.same c.in_ok-head.ensures.head c.in_ok-known.ensures.known

pub check-returns-clause-noted : goal.check-returns-clause-noted
check-returns-clause-noted t c =
    noted_read c.args.context.now c.args.locals.now _ _ (expr_tree c.args.e.now) c.args.found.now.items _ _ c.in_ok-head.ensures.same c.in_ok-head.ensures.head c.in_ok-head.ensures.noted c.in_ok-known.ensures.noted

pub walk_links-loop-link-init : goal.walk_links-loop-link-init
walk_links-loop-link-init t c = record { same = search rules; walked = no_parts link_after _ _ _ c.args.place c.args.links.now }

pub walk_links-loop-link-preserved : goal.walk_links-loop-link-preserved
walk_links-loop-link-preserved t c = record {
  same = c.in_ok-head.ensures.same ∙ c.loop-link.invariant.same;
  walked =
      part_leads link_after c.args.context.now c.args.locals.now c.loop-link.locals c.args.found.now.items _ _ (head_of c.args.first) _ _ c.args.place c.args.links.now c.loop-link.link-index c.link-item.result
      c.loop-link.invariant.same c.loop-link-test.true c.link-item.is c.in_ok-head.ensures.walked c.loop-link.invariant.walked;
}

pub walk_links-returns : goal.walk_links-returns
walk_links-returns t c = record {
  walked = parts_led link_after _ c.args.found.now.items _ (head_of c.args.first) _ c.args.place c.args.links.now c.loop-link.link-index c.loop-link-test.false c.loop-link.invariant.walked;
  same = c.loop-link.invariant.same;
}

pub walk_postfixes-loop-postfix-init : goal.walk_postfixes-loop-postfix-init
walk_postfixes-loop-postfix-init t c = record { same = search rules; walked = no_parts postfix_after _ _ _ c.args.place c.args.postfixes.now }

pub walk_postfixes-loop-postfix-preserved : goal.walk_postfixes-loop-postfix-preserved
walk_postfixes-loop-postfix-preserved t c = record {
  same = c.in_ok-head.ensures.same ∙ c.loop-postfix.invariant.same;
  walked =
      part_leads postfix_after c.args.context.now c.args.locals.now c.loop-postfix.locals c.args.found.now.items _ _ (head_of c.args.first) _ _ c.args.place c.args.postfixes.now c.loop-postfix.postfix-index c.postfix-item.result
      c.loop-postfix.invariant.same c.loop-postfix-test.true c.postfix-item.is c.in_ok-head.ensures.walked c.loop-postfix.invariant.walked;
}

pub walk_postfixes-returns : goal.walk_postfixes-returns
walk_postfixes-returns t c = record {
  walked = parts_led postfix_after _ c.args.found.now.items _ (head_of c.args.first) _ c.args.place c.args.postfixes.now c.loop-postfix.postfix-index c.loop-postfix-test.false c.loop-postfix.invariant.walked;
  same = c.loop-postfix.invariant.same;
}

pub walk_link-returns-in_ok-check_operation-in-Operation-clause-walked : goal.walk_link-returns-in_ok-check_operation-in-Operation-clause-walked
walk_link-returns-in_ok-check_operation-in-Operation-clause-walked t c =
    operation_leads (context_of c.args.context.now c.args.locals.now) c.args.found.now.items _ (head_of c.args.head) _ c.args.link.now c.args.place c.in-Operation.operator c.in-Operation.right (option_map type_of c.link_type-known.result) c.in-Operation.is
    c.other-longer.ensures (c.link_type-known.ensures c.args.locals.now c.args.place) c.in_ok-check_operation-in-Operation.ensures.noted

pub walk_link-returns-in_ok-note_class_test-in-Is-clause-walked : goal.walk_link-returns-in_ok-note_class_test-in-Is-clause-walked
walk_link-returns-in_ok-note_class_test-in-Is-clause-walked t c =
    is_leads (context_of c.args.context.now c.args.locals.now) c.args.found.now.items _ (head_of c.args.head) _ c.args.link.now c.args.place c.in-Is.ty (option_map type_of c.link_type-known.result) c.in-Is.is
    c.other-longer.ensures (c.link_type-known.ensures c.args.locals.now c.args.place) c.in_ok-note_class_test-in-Is.ensures

pub walk_link-returns-in_ok-note_class_test-in-As-clause-walked : goal.walk_link-returns-in_ok-note_class_test-in-As-clause-walked
walk_link-returns-in_ok-note_class_test-in-As-clause-walked t c =
    as_leads (context_of c.args.context.now c.args.locals.now) c.args.found.now.items _ (head_of c.args.head) _ c.args.link.now c.args.place c.in-As.ty (option_map type_of c.link_type-known.result) c.in-As.is
    c.other-longer.ensures (c.link_type-known.ensures c.args.locals.now c.args.place) c.in_ok-note_class_test-in-As.ensures

pub check_operation-returns-clause-noted : goal.check_operation-returns-clause-noted
check_operation-returns-clause-noted t c =
    operation_noted (context_of c.args.context.now c.args.locals.now) c.args.found.now.items _ _ _ (head_of c.args.head) c.args.placed.place (operand c.args.placed.operator) (expr_tree c.args.second.now) _ _
    c.in_ok-left.ensures.known c.in_ok-left.ensures.noted c.in_ok-right.ensures.known c.in_ok-right.ensures.noted c.in_ok-note_operands.ensures

pub walk_element-returns-clause-walked : goal.walk_element-returns-clause-walked
walk_element-returns-clause-walked t c =
    element_leads (context_of c.args.context.now c.args.locals.now) c.args.found.now.items _ _ (head_of c.args.head) _ c.args.place (expr_tree c.args.index.now)
    (ap (AValueOf form.Element) (c.value.ensures ∙ ap (value_at c.args.place) (c.type_of_element.ensures
    ∙ ap (λ (v : Known). option_and_then element_type (option_and_then class_of v.ty)) c.in_ok-known.ensures.known)))
    c.in_ok-known.ensures.noted c.in_ok-check_as.ensures.noted

pub walk_call-returns-clause-walked : goal.walk_call-returns-clause-walked
walk_call-returns-clause-walked t c =
    call_leads (context_of c.args.context.now c.args.locals.now) c.args.found.now.items _ (head_of c.args.head) _ c.args.place (arguments (map expr_tree c.args.list.now)) _ _ _ _
    c.callee_at-callee.ensures c.is_question.ensures c.count-number.ensures c.called_at-called.ensures c.call.ensures c.in_ok-check_call.ensures.noted

pub check_call-returns-clause-noted : goal.check_call-returns-clause-noted
check_call-returns-clause-noted t c =
    let a = context_of c.args.context.now c.args.locals.now in
    let cs = trees c.args.context.now.within.tables.now in
    call_noted a c.args.placed.place c.args.placed.is_call _ (called_of cs c.args.placed.called) (arguments (map expr_tree c.args.list.now)) _ c.args.found.now.items _ _
    c.count-number.ensures (c.in_ok-note_whole.ensures c.args.locals.now) (c.unless_wrong-wanted.ensures cs) c.in_ok-check_arguments.ensures.noted

pub check_arguments-loop-i-preserved : goal.check_arguments-loop-i-preserved
check_arguments-loop-i-preserved t c =
    let a = c.args.context.now in
    let cs = trees a.within.tables.now in
    let here = subst (λ (n : Names). c.check_argument.new.found.items ≡ c.loop-i.found.items ++ argument_where (context_of a n) (option_map want_of c.want_at-want.result) (expr_tree c.index-list-i.result)) c.loop-i.invariant.same c.in_ok-check_argument.ensures.noted in
    record {
      same = c.in_ok-check_argument.ensures.same ∙ c.loop-i.invariant.same;
      noted =
          one_more (context_of a c.args.locals.now) (wants_of (called_of cs c.args.called)) c.args.list.now c.loop-i.i c.index-list-i.result _ _ _
          c.loop-i-test.true c.index-list-i.is
          (here ∙ ap (λ w. c.loop-i.found.items ++ argument_where (context_of a c.args.locals.now) w (expr_tree c.index-list-i.result)) c.want_at-want.ensures)
          c.loop-i.invariant.noted;
    }

pub check_arguments-returns : goal.check_arguments-returns
check_arguments-returns t c = record {
  noted = all_done _ (wants_of (called_of (trees c.args.context.now.within.tables.now) c.args.called)) c.args.list.now c.loop-i.i _ _ c.loop-i-test.false c.loop-i.invariant.noted;
  same = c.loop-i.invariant.same;
}
