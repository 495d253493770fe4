use Rattle.std.proofs.Common.{◌≡◌, ◌++◌, map, take, drop}
use Rattle.ss_ast.specs.Expressions.{ExprTree, grouped, expr_tree, arguments}
use Rattle.ss_tables_lookup.specs.Classes.{trees}
use Rattle.ss_ast.specs.Parts.{link_after, postfix_after}
use Rattle.ss_resolver_types_heads.specs.Calls.{wants_of}
use Rattle.ss_resolver_types_heads.specs.Expressions.{argument_faults}
use Rattle.ss_resolver_types_heads.specs.Heads.{Leads}
use Rattle.ss_resolver_types_heads.specs.Codes.{context_of, called_of, head_of}
use Rattle.ss_resolver_types_expressions.proofs.expr.+expr.Given as goal

abbrev pub invariant-walk_links-loop-link : goal.invariant-walk_links-loop-link
invariant-walk_links-loop-link l = record {
  same : l.locals ≡ l.fn.locals;
  walked : Leads (context_of l.context l.fn.locals) l.fn.found.items (head_of l.fn.first) l.found.items (head_of l.head)
      (λ (e : ExprTree). grouped l.place e (map link_after (take l.link-index l.links)));
}

abbrev pub invariant-walk_postfixes-loop-postfix : goal.invariant-walk_postfixes-loop-postfix
invariant-walk_postfixes-loop-postfix l = record {
  same : l.locals ≡ l.fn.locals;
  walked : Leads (context_of l.context l.fn.locals) l.fn.found.items (head_of l.fn.first) l.found.items (head_of l.head)
      (λ (e : ExprTree). grouped l.place e (map postfix_after (take l.postfix-index l.postfixes)));
}

abbrev pub invariant-check_arguments-loop-i : goal.invariant-check_arguments-loop-i
invariant-check_arguments-loop-i l = record {
  same : l.locals ≡ l.fn.locals;
  noted : l.found.items ++ argument_faults (context_of l.context l.fn.locals) (drop l.i (wants_of (called_of (trees l.context.within.tables.now) l.called))) (arguments (map expr_tree (drop l.i l.list)))
      ≡ l.fn.found.items ++ argument_faults (context_of l.context l.fn.locals) (wants_of (called_of (trees l.context.within.tables.now) l.called)) (arguments (map expr_tree l.list));
}
