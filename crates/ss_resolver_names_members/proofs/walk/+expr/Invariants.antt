use Rattle.std.proofs.Common.{◌≡◌, ◌++◌, map, drop, take}
use Rattle.ss_ast.specs.Expressions.{ExprTree, grouped, expr_tree, arguments}
use Rattle.ss_tables_scopes.specs.Views.{scope_of}
use Rattle.ss_resolver_names_rules.specs.Faults.{Faults}
use Rattle.ss_resolver_names_rules.specs.Expressions.{arguments_faults}
use Rattle.ss_resolver_names_rules.specs.Prefixes.{prefix, settled}
use Rattle.ss_ast.specs.Parts.{link_after, postfix_after}
use Rattle.ss_resolver_scoping.specs.Views.{prefix_view}
use Rattle.ss_resolver_names_members.proofs.walk.+expr.Given as goal

abbrev pub invariant-walk_links-loop-link : goal.invariant-walk_links-loop-link
invariant-walk_links-loop-link l = record {
  noted : (e : ExprTree) → (found : Faults) → l.fn.faults.items ≡ found ++ settled (scope_of l.context l.fn.locals) e → prefix_view l.fn.first ≡ prefix (scope_of l.context l.fn.locals) e
      → l.faults.items ≡ found ++ settled (scope_of l.context l.fn.locals) (grouped l.place e (map link_after (take l.link-index l.links)));
  begun : (e : ExprTree) → prefix_view l.fn.first ≡ prefix (scope_of l.context l.fn.locals) e
      → prefix_view l.before ≡ prefix (scope_of l.context l.fn.locals) (grouped l.place e (map link_after (take l.link-index l.links)));
  kept : l.locals ≡ l.fn.locals;
}

abbrev pub invariant-walk_postfixes-loop-postfix : goal.invariant-walk_postfixes-loop-postfix
invariant-walk_postfixes-loop-postfix l = record {
  noted : (e : ExprTree) → (found : Faults) → l.fn.faults.items ≡ found ++ settled (scope_of l.context l.fn.locals) e → prefix_view l.fn.first ≡ prefix (scope_of l.context l.fn.locals) e
      → l.faults.items ≡ found ++ settled (scope_of l.context l.fn.locals) (grouped l.place e (map postfix_after (take l.postfix-index l.postfixes)));
  begun : (e : ExprTree) → prefix_view l.fn.first ≡ prefix (scope_of l.context l.fn.locals) e
      → prefix_view l.before ≡ prefix (scope_of l.context l.fn.locals) (grouped l.place e (map postfix_after (take l.postfix-index l.postfixes)));
  kept : l.locals ≡ l.fn.locals;
}

abbrev pub invariant-check_arguments-loop-argument : goal.invariant-check_arguments-loop-argument
invariant-check_arguments-loop-argument l = record {
  noted : l.faults.items ++ arguments_faults (scope_of l.context l.fn.locals) l.which (arguments (map expr_tree (drop l.argument-index l.exprs))) ≡ l.fn.faults.items ++ arguments_faults (scope_of l.context l.fn.locals) l.fn.asked (arguments (map expr_tree l.exprs));
  kept : l.locals ≡ l.fn.locals;
}
