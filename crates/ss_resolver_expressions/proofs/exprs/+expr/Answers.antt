use Rattle.std.proofs.Common.{◌≡◌, ◌++◌, [], ◌∷◌, Some, map, option_map, sym, ap, ◌∙◌, refl, rules, arith}
use Rattle.ss_core.specs.declared.names.Ty.TheVariants as ty
use Rattle.ss_ast.specs.declared.expr.Expr.{Expr}
use Rattle.ss_ast.specs.Expressions.{expr_tree}
use Rattle.ss_tables_lookup.specs.Views.{type_of}
use Rattle.ss_typed.specs.Tree as typed
use Rattle.ss_typed.specs.View as view
use Rattle.ss_resolver_rules.specs.Expressions.{expr, class_named_by}
use Rattle.ss_resolver_expressions.specs.Environments.{AnOther, env_of, part, part_view, numbers_of}
use Rattle.ss_ast.specs.Parts.{link_after, postfix_after}
use Rattle.ss_resolver_expressions.proofs.Loops.{none_yet, one_more, drop_all}
use Rattle.ss_ast.proofs.Falls.{links_fall, postfixes_fall}
use Rattle.ss_resolver_expressions.proofs.Walked as walked
use Rattle.ss_resolver_expressions.proofs.exprs.+expr.Goals as goal

pub walk-returns-in_ok-walk_links-in-Chain-clause-part : goal.walk-returns-in_ok-walk_links-in-Chain-clause-part
walk-returns-in_ok-walk_links-in-Chain-clause-part t c =
    let a = c.in-Chain in
    let b = c.in_ok-before-in-Chain in
    walked.chain_walked c.args.context.now c.args.names.now _ a.place a.first a.links c.args.e.now _ _ _ _ a.is c.deref-in-Chain.ensures c.deref-in-Chain-2.ensures.value b.ensures.kept b.ensures.part c.in_ok-walk_links-in-Chain.ensures.part

pub walk-returns-in_ok-walk_postfixes-in-Path-clause-part : goal.walk-returns-in_ok-walk_postfixes-in-Path-clause-part
walk-returns-in_ok-walk_postfixes-in-Path-clause-part t c =
    let a = c.in-Path in
    let b = c.in_ok-before-in-Path in
    walked.path_walked c.args.context.now c.args.names.now _ a.place a.first a.postfixes c.args.e.now _ _ _ _ a.is c.deref.ensures c.deref-in-Path.ensures.value b.ensures.kept b.ensures.part c.in_ok-walk_postfixes-in-Path.ensures.part

pub walk-returns-in_ok-walk_paren-in-Paren-clause-part : goal.walk-returns-in_ok-walk_paren-in-Paren-clause-part
walk-returns-in_ok-walk_paren-in-Paren-clause-part t c =
    let a = c.in-Paren in
    walked.paren_read c.args.context.now c.args.names.now a.field-0 a.inner c.args.e.now _ _ a.is c.deref-in-Paren.ensures (c.in_ok-walk_paren-in-Paren.ensures.part a.field-0)

pub walk-returns-in_ok-walk_old-in-Old-clause-part : goal.walk-returns-in_ok-walk_old-in-Old-clause-part
walk-returns-in_ok-walk_old-in-Old-clause-part t c =
    let a = c.in-Old in
    walked.old_read c.args.context.now c.args.names.now a.place a.inner c.args.e.now _ _ a.is c.deref-in-Old.ensures c.in_ok-walk_old-in-Old.ensures.part

pub walk-returns-in_ok-walk_negate-in-Negate-clause-part : goal.walk-returns-in_ok-walk_negate-in-Negate-clause-part
walk-returns-in_ok-walk_negate-in-Negate-clause-part t c =
    let a = c.in-Negate in
    walked.negate_walked c.args.context.now c.args.names.now _ _ c.args.e.now _ _ _ a.is c.deref-in-Negate.ensures refl c.in_ok-walk_negate-in-Negate.ensures.part

pub walk-returns-in_ok-walk_not-in-Not-clause-part : goal.walk-returns-in_ok-walk_not-in-Not-clause-part
walk-returns-in_ok-walk_not-in-Not-clause-part t c =
    let a = c.in-Not in
    walked.not_walked c.args.context.now c.args.names.now _ _ c.args.e.now _ _ _ a.is c.deref-in-Not.ensures refl c.in_ok-walk_not-in-Not.ensures.part

pub walk-returns-in_ok-walk_iff-in-Iff-clause-part : goal.walk-returns-in_ok-walk_iff-in-Iff-clause-part
walk-returns-in_ok-walk_iff-in-Iff-clause-part t c =
    walked.iff_walked c.args.context.now c.args.names.now _ _ _ _ c.args.e.now _ _ _ _ _ c.in-Iff.is c.deref-in-Iff.ensures c.deref-in-Iff-2.ensures c.in_ok-left-in-Iff.ensures.kept
    c.in_ok-left-in-Iff.ensures.tree refl c.in_ok-walk_iff-in-Iff.ensures.part

pub walk-returns-in_ok-walk_implies-in-Implies-clause-part : goal.walk-returns-in_ok-walk_implies-in-Implies-clause-part
walk-returns-in_ok-walk_implies-in-Implies-clause-part t c =
    walked.implies_walked c.args.context.now c.args.names.now _ _ _ _ c.args.e.now _ _ _ _ _ c.in-Implies.is c.deref-in-Implies.ensures c.deref-in-Implies-2.ensures c.in_ok-left-in-Implies.ensures.kept
    c.in_ok-left-in-Implies.ensures.tree refl c.in_ok-walk_implies-in-Implies.ensures.part

pub walk-returns-in_ok-walk_cast-in-Cast-clause-part : goal.walk-returns-in_ok-walk_cast-in-Cast-clause-part
walk-returns-in_ok-walk_cast-in-Cast-clause-part t c =
    walked.cast_read c.args.context.now c.args.names.now _ _ _ c.args.e.now _ _ c.in-Cast.is c.deref-in-Cast.ensures c.in_ok-walk_cast-in-Cast.ensures.part

pub walk-returns-in_ok-walk_new-in-New-clause-part : goal.walk-returns-in_ok-walk_new-in-New-clause-part
walk-returns-in_ok-walk_new-in-New-clause-part t c =
    walked.new_read c.args.context.now c.args.names.now _ _ _ c.args.e.now _ _ c.in-New.is c.deref-in-New.ensures.value c.in_ok-walk_new-in-New.ensures.part

pub walk-returns-in_ok-walk_array-in-NewArray-clause-part : goal.walk-returns-in_ok-walk_array-in-NewArray-clause-part
walk-returns-in_ok-walk_array-in-NewArray-clause-part t c =
    let a = c.in-NewArray in
    walked.new_array_read c.args.context.now c.args.names.now _ _ _ _ c.args.e.now _ _ a.is c.deref-in-NewArray.ensures (c.in_ok-walk_array-in-NewArray.ensures.part a.field-1)

pub walk-returns-in_ok-quantified_part-in-Quantified-clause-part : goal.walk-returns-in_ok-quantified_part-in-Quantified-clause-part
walk-returns-in_ok-quantified_part-in-Quantified-clause-part t c =
    let a = c.in-Quantified in
    let low = c.in_ok-low-in-Quantified.ensures in
    let bounds = c.in_ok-bounds-in-Quantified.ensures in
    walked.quantified_walked c.args.context.now c.args.names.now _ _ _ _ _ _ _ _ c.args.e.now _ _ _ _ _ _ _ a.is c.deref-in-Quantified.ensures c.deref-in-Quantified-2.ensures c.deref-in-Quantified-3.ensures low.kept bounds.kept
    (bounds.low ∙ low.tree) bounds.high c.in_ok-member-in-Quantified.ensures.tree c.in_ok-quantified_part-in-Quantified.ensures

pub walk_paren-returns-clause-part : goal.walk_paren-returns-clause-part
walk_paren-returns-clause-part t c = λ at.
    let b = c.in_ok-inner.ensures in
    walked.paren_walked c.args.context.now c.args.names.now _ at c.args.e.now _ _ b.kept b.part c.in_ok-whole.ensures

pub walk_old-returns-clause-part : goal.walk_old-returns-clause-part
walk_old-returns-clause-part t c =
    let b = c.in_ok-inner.ensures in
    walked.old_walked c.args.context.now c.args.names.now _ c.args.place c.args.e.now _ _ b.kept b.part c.in_ok-whole.ensures

pub walk_negate-returns-clause-part : goal.walk_negate-returns-clause-part
walk_negate-returns-clause-part t c = c.in_ok-whole.ensures ∙ ap (λ v. AnOther (Some ty.Int) (typed.NegateOf c.args.place v)) c.in_ok-inner.ensures.tree

pub walk_not-returns-clause-part : goal.walk_not-returns-clause-part
walk_not-returns-clause-part t c = c.in_ok-whole.ensures ∙ ap (λ v. AnOther (Some ty.Bool) (typed.NotOf c.args.place v)) c.in_ok-inner.ensures.tree

pub walk_iff-returns-clause-part : goal.walk_iff-returns-clause-part
walk_iff-returns-clause-part t c =
    c.in_ok-whole.ensures ∙ ap (λ v. AnOther (Some ty.Bool) (typed.IffOf c.args.place (view.expr c.args.left.value) v)) c.in_ok-right.ensures.tree

pub walk_implies-returns-clause-part : goal.walk_implies-returns-clause-part
walk_implies-returns-clause-part t c =
    c.in_ok-whole.ensures ∙ ap (λ v. AnOther (Some ty.Bool) (typed.ImpliesOf c.args.place (view.expr c.args.left.value) v)) c.in_ok-right.ensures.tree

pub walk_cast-returns-clause-part : goal.walk_cast-returns-clause-part
walk_cast-returns-clause-part t c = c.in_ok-whole.ensures c.args.names.now (expr_tree c.args.e.now) c.in_ok-inner.ensures.tree

pub walk_new-returns-clause-part : goal.walk_new-returns-clause-part
walk_new-returns-clause-part t c = c.in_ok-whole.ensures c.args.names.now (map expr_tree c.args.written.now) c.in_ok-values.ensures.trees

pub walk_array-returns-clause-part : goal.walk_array-returns-clause-part
walk_array-returns-clause-part t c = λ at. c.in_ok-whole.ensures c.args.names.now at (expr_tree c.args.e.now) c.in_ok-length.ensures.tree

pub resolve_boxed-returns-clause-tree : goal.resolve_boxed-returns-clause-tree
resolve_boxed-returns-clause-tree t c =
    walked.resolved c.args.context.now c.args.names.now _ c.args.e.now (part_view c.in_ok-whole.whole) _ c.in_ok-whole.ensures.kept c.in_ok-whole.ensures.part c.in_ok-tree.ensures

pub resolve_member-returns-clause-tree : goal.resolve_member-returns-clause-tree
resolve_member-returns-clause-tree t c =
    walked.member_resolved c.args.context.now c.args.names.now _ c.args.name.now _ c.args.e.now _ c.as_str.ensures.value c.in_ok-enter_member.ensures c.in_ok-inner.ensures.tree

pub resolve_member-returns-clause-kept : goal.resolve_member-returns-clause-kept
resolve_member-returns-clause-kept t c =
    walked.member_kept c.args.names.now _ _ _ c.as_str.result.now c.in_ok-enter_member.ensures c.in_ok-inner.ensures.kept c.leave_member.ensures

pub walk_links-loop-link-init : goal.walk_links-loop-link-init
walk_links-loop-link-init t c =
    record { part = λ u h. h; kept = search rules }

pub walk_links-loop-link-preserved : goal.walk_links-loop-link-preserved
walk_links-loop-link-preserved t c =
    let l = c.loop-link in
    let b = c.in_ok-before in
    record {
      part = walked.one_more_part link_after c.args.context.now c.args.names.now l.names c.args.place c.args.links.now l.link-index c.link-item.result (part_view c.args.first) (part_view l.before) (part_view b.before)
          l.invariant.kept c.loop-link-test.true c.link-item.is b.ensures.part l.invariant.part;
      kept = b.ensures.kept ∙ l.invariant.kept;
    }

pub walk_links-returns : goal.walk_links-returns
walk_links-returns t c =
    let l = c.loop-link in
    record {
      part = walked.all_parts link_after c.args.context.now c.args.names.now c.args.place c.args.links.now l.link-index (part_view c.args.first) (part_view l.before) c.loop-link-test.false l.invariant.part;
      kept = l.invariant.kept;
    }

pub walk_postfixes-loop-postfix-init : goal.walk_postfixes-loop-postfix-init
walk_postfixes-loop-postfix-init t c =
    record { part = λ u h. h; kept = search rules }

pub walk_postfixes-loop-postfix-preserved : goal.walk_postfixes-loop-postfix-preserved
walk_postfixes-loop-postfix-preserved t c =
    let l = c.loop-postfix in
    let b = c.in_ok-before in
    record {
      part = walked.one_more_part postfix_after c.args.context.now c.args.names.now l.names c.args.place c.args.postfixes.now l.postfix-index c.postfix-item.result (part_view c.args.first) (part_view l.before) (part_view b.before)
          l.invariant.kept c.loop-postfix-test.true c.postfix-item.is b.ensures.part l.invariant.part;
      kept = b.ensures.kept ∙ l.invariant.kept;
    }

pub walk_postfixes-returns : goal.walk_postfixes-returns
walk_postfixes-returns t c =
    let l = c.loop-postfix in
    record {
      part = walked.all_parts postfix_after c.args.context.now c.args.names.now c.args.place c.args.postfixes.now l.postfix-index (part_view c.args.first) (part_view l.before) c.loop-postfix-test.false l.invariant.part;
      kept = l.invariant.kept;
    }

pub walk_link-returns-in_ok-whole-in-Operation-clause-part : goal.walk_link-returns-in_ok-whole-in-Operation-clause-part
walk_link-returns-in_ok-whole-in-Operation-clause-part t c =
    λ u h.
    let a = c.in-Operation in
    let r = c.in_ok-right-in-Operation.ensures in
    walked.operation_walked c.args.context.now c.args.names.now _ c.args.place a.operator a.operand c.args.link.now _ (view.expr c.in_ok-whole-in-Operation.whole.value) (part_view c.args.before) (option_map type_of c.link_type-known.result) u a.is r.kept r.tree
    c.in_ok-whole-in-Operation.ensures (c.link_type-known.ensures c.args.names.now.names c.args.place u) h

pub walk_link-returns-in_ok-whole-in-Is-clause-part : goal.walk_link-returns-in_ok-whole-in-Is-clause-part
walk_link-returns-in_ok-whole-in-Is-clause-part t c =
    λ u h.
    walked.is_walked c.args.context.now c.args.names.now c.args.place c.in-Is.ty c.args.link.now (view.expr c.in_ok-whole-in-Is.whole.value) (option_map type_of c.link_type-known.result) u c.in-Is.is
    (c.link_type-known.ensures c.args.names.now.names c.args.place u) (c.in_ok-whole-in-Is.ensures u h)

pub walk_link-returns-in_ok-whole-in-As-clause-part : goal.walk_link-returns-in_ok-whole-in-As-clause-part
walk_link-returns-in_ok-whole-in-As-clause-part t c =
    λ u h.
    walked.as_walked c.args.context.now c.args.names.now c.args.place c.in-As.ty c.args.link.now (view.expr c.in_ok-whole-in-As.whole.value) (option_map type_of c.link_type-known.result) u c.in-As.is
    (c.link_type-known.ensures c.args.names.now.names c.args.place u) (c.in_ok-whole-in-As.ensures u h)

pub walk_postfix-returns-in_ok-longer-in-Member-clause-part : goal.walk_postfix-returns-in_ok-longer-in-Member-clause-part
walk_postfix-returns-in_ok-longer-in-Member-clause-part t c =
    λ u h. walked.member_walked c.args.context.now c.args.names.now c.args.place c.in-Member.name c.args.postfix.now _ u c.in-Member.is (c.in_ok-longer-in-Member.ensures u h)

pub walk_postfix-returns-in_ok-longer-in-Element-clause-part : goal.walk_postfix-returns-in_ok-longer-in-Element-clause-part
walk_postfix-returns-in_ok-longer-in-Element-clause-part t c =
    λ u h.
    let a = c.in-Element in
    let r = c.in_ok-index-in-Element.ensures in
    walked.element_walked c.args.context.now c.args.names.now _ c.args.place a.index c.args.postfix.now _ (part_view c.args.before) _ u a.is r.kept r.tree c.in_ok-longer-in-Element.ensures h

pub walk_postfix-returns-in_ok-longer-in-Call-clause-part : goal.walk_postfix-returns-in_ok-longer-in-Call-clause-part
walk_postfix-returns-in_ok-longer-in-Call-clause-part t c =
    λ u h.
    let a = c.in-Call in
    let g = c.in_ok-given-in-Call.ensures in
    walked.call_walked c.args.context.now c.args.names.now _ c.args.place a.written c.deref.result.now c.args.postfix.now _ _ (part_view c.args.before) _ u a.is c.deref.ensures.value g.kept g.values g.classes c.in_ok-longer-in-Call.ensures h

pub resolve_values-loop-argument-init : goal.resolve_values-loop-argument-init
resolve_values-loop-argument-init t c =
    record {
      trees = none_yet (expr (env_of c.args.context.now c.args.names.now)) expr_tree (view.exprs c.new-values.result.items) c.args.written.now (ap view.exprs c.new-values.ensures.items);
      kept = search rules;
    }

pub resolve_values-loop-argument-preserved : goal.resolve_values-loop-argument-preserved
resolve_values-loop-argument-preserved t c =
    let s = c.args.context.now in
    let l = c.loop-argument in
    let v = c.in_ok-value in
    record {
      trees = one_more (λ (a : Expr). expr (env_of s c.args.names.now) (expr_tree a)) (view.exprs l.values.items) _ _ c.args.written.now l.argument-index c.argument-item.result (view.expr v.value.value)
          c.loop-argument-test.true c.argument-item.is
          (v.ensures.tree ∙ ap (λ k. expr (env_of s k) (expr_tree c.argument-item.result)) l.invariant.kept)
          c.in_ok-add_value.ensures
          l.invariant.trees;
      kept = v.ensures.kept ∙ l.invariant.kept;
    }

pub resolve_values-returns : goal.resolve_values-returns
resolve_values-returns t c =
    let l = c.loop-argument in
    record {
      trees = drop_all (λ (a : Expr). expr (env_of c.args.context.now c.args.names.now) (expr_tree a)) (view.exprs l.values.items) _ c.args.written.now l.argument-index c.loop-argument-test.false l.invariant.trees;
      kept = l.invariant.kept;
    }

pub resolve_given-loop-argument-init : goal.resolve_given-loop-argument-init
resolve_given-loop-argument-init t c =
    record {
      values = none_yet (expr (env_of c.args.context.now c.args.names.now)) expr_tree (view.exprs c.new-values.result.items) c.args.written.now (ap view.exprs c.new-values.ensures.items);
      classes = none_yet (class_named_by (env_of c.args.context.now c.args.names.now)) expr_tree (numbers_of c.new-classes.result.items) c.args.written.now (ap numbers_of c.new-classes.ensures.items);
      kept = search rules;
    }

pub resolve_given-loop-argument-preserved : goal.resolve_given-loop-argument-preserved
resolve_given-loop-argument-preserved t c =
    let s = c.args.context.now in
    let n = c.args.names.now in
    let l = c.loop-argument in
    let item = c.argument-item.result in
    let w = c.in_ok-part.ensures in
    let added = c.in_ok-add_given.ensures in
    let same = w.kept ∙ l.invariant.kept in
    let there = w.part ∙ ap (λ k. part (env_of s k) (expr_tree item)) (sym w.kept) in
    record {
      values = one_more (λ (a : Expr). expr (env_of s n) (expr_tree a)) (view.exprs l.given.values.items) _ _ c.args.written.now l.argument-index item (expr (env_of s n) (expr_tree item))
          c.loop-argument-test.true c.argument-item.is refl
          (added.values (expr_tree item) there ∙ ap (λ k. view.exprs l.given.values.items ++ expr (env_of s k) (expr_tree item) ∷ []) same)
          l.invariant.values;
      classes = one_more (λ (a : Expr). class_named_by (env_of s n) (expr_tree a)) (numbers_of l.given.classes.items) _ _ c.args.written.now l.argument-index item (class_named_by (env_of s n) (expr_tree item))
          c.loop-argument-test.true c.argument-item.is refl
          (added.classes (expr_tree item) there ∙ ap (λ k. numbers_of l.given.classes.items ++ class_named_by (env_of s k) (expr_tree item) ∷ []) same)
          l.invariant.classes;
      kept = same;
    }

pub resolve_given-returns : goal.resolve_given-returns
resolve_given-returns t c =
    let l = c.loop-argument in
    record {
      values = drop_all (λ (a : Expr). expr (env_of c.args.context.now c.args.names.now) (expr_tree a)) (view.exprs l.given.values.items) _ c.args.written.now l.argument-index c.loop-argument-test.false l.invariant.values;
      classes = drop_all (λ (a : Expr). class_named_by (env_of c.args.context.now c.args.names.now) (expr_tree a)) (numbers_of l.given.classes.items) _ c.args.written.now l.argument-index c.loop-argument-test.false l.invariant.classes;
      kept = l.invariant.kept;
    }

pub walk-walk_links-requires : goal.walk-walk_links-requires
walk-walk_links-requires t c =
    let a = c.in-Chain in
    (omega (arith, links_fall a.place a.first a.links c.args.e.now c.deref-in-Chain-2.result.now a.is c.deref-in-Chain-2.ensures.value), tt)

pub walk-walk_postfixes-requires : goal.walk-walk_postfixes-requires
walk-walk_postfixes-requires t c =
    let a = c.in-Path in
    (omega (arith, postfixes_fall a.place a.first a.postfixes c.args.e.now c.deref-in-Path.result.now a.is c.deref-in-Path.ensures.value), tt)

pub walk-returns-in_ok-this_word-in-This-clause-part : goal.walk-returns-in_ok-this_word-in-This-clause-part
walk-returns-in_ok-this_word-in-This-clause-part t c = walked.this_walked c.args.context.now c.args.names.now _ c.args.e.now _ c.in-This.is c.in_ok-this_word-in-This.ensures

pub walk-returns-in_ok-outcome-in-Result-clause-part : goal.walk-returns-in_ok-outcome-in-Result-clause-part
walk-returns-in_ok-outcome-in-Result-clause-part t c = walked.result_walked c.args.context.now c.args.names.now _ c.args.e.now _ c.in-Result.is c.in_ok-outcome-in-Result.ensures
