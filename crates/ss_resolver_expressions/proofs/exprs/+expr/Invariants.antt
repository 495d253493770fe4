use Rattle.std.proofs.Common.{◌≡◌, ◌++◌, map, drop, take}
use Rattle.ss_ast.specs.declared.expr.Expr.{Expr}
use Rattle.ss_ast.specs.Expressions.{ExprTree, grouped, expr_tree}
use Rattle.ss_typed.specs.View as view
use Rattle.ss_resolver_rules.specs.Expressions.{expr, class_named_by}
use Rattle.ss_resolver_expressions.specs.Environments.{env_of, part, part_view, numbers_of}
use Rattle.ss_ast.specs.Parts.{link_after, postfix_after}
use Rattle.ss_resolver_expressions.proofs.exprs.+expr.Given as goal

abbrev pub invariant-walk_links-loop-link : goal.invariant-walk_links-loop-link
invariant-walk_links-loop-link l = record {
  part : (t : ExprTree) → part_view l.fn.first ≡ part (env_of l.context l.fn.names) t
      → part_view l.before ≡ part (env_of l.context l.fn.names) (grouped l.place t (map link_after (take l.link-index l.links)));
  kept : l.names ≡ l.fn.names;
}

abbrev pub invariant-walk_postfixes-loop-postfix : goal.invariant-walk_postfixes-loop-postfix
invariant-walk_postfixes-loop-postfix l = record {
  part : (t : ExprTree) → part_view l.fn.first ≡ part (env_of l.context l.fn.names) t
      → part_view l.before ≡ part (env_of l.context l.fn.names) (grouped l.place t (map postfix_after (take l.postfix-index l.postfixes)));
  kept : l.names ≡ l.fn.names;
}

abbrev pub invariant-resolve_values-loop-argument : goal.invariant-resolve_values-loop-argument
invariant-resolve_values-loop-argument l = record {
  trees : view.exprs l.values.items ++ map (λ (a : Expr). expr (env_of l.context l.fn.names) (expr_tree a)) (drop l.argument-index l.written)
      ≡ map (expr (env_of l.context l.fn.names)) (map expr_tree l.written);
  kept : l.names ≡ l.fn.names;
}

abbrev pub invariant-resolve_given-loop-argument : goal.invariant-resolve_given-loop-argument
invariant-resolve_given-loop-argument l = record {
  values : view.exprs l.given.values.items ++ map (λ (a : Expr). expr (env_of l.context l.fn.names) (expr_tree a)) (drop l.argument-index l.written)
      ≡ map (expr (env_of l.context l.fn.names)) (map expr_tree l.written);
  classes : numbers_of l.given.classes.items ++ map (λ (a : Expr). class_named_by (env_of l.context l.fn.names) (expr_tree a)) (drop l.argument-index l.written)
      ≡ map (class_named_by (env_of l.context l.fn.names)) (map expr_tree l.written);
  kept : l.names ≡ l.fn.names;
}
