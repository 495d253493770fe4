use Rattle.std.proofs.Common.{◌≡◌, IfOk, map, ap, subst, ◌∙◌}
use Rattle.ss_ast.specs.Expressions.{expr_tree, arguments}
use Rattle.ss_typed.specs.Tree.{AloneOf}
use Rattle.ss_typed.specs.View as view
use Rattle.ss_resolver_expressions.specs.Environments.{env_of, part_view}
use Rattle.ss_resolver_statements.specs.Alone.{of_kind}
use Rattle.ss_resolver_statements.proofs.simples.resolve_alone_call.Goals as goal

pub returns-in-Print-clause-tree : goal.returns-in-Print-clause-tree
returns-in-Print-clause-tree c =
    let e = env_of c.args.context.now c.args.names.now in
    let es = arguments (map expr_tree c.args.written.now) in
    let x = part_view c.args.before in
    subst (λ k. IfOk c.resolve_print.result (λ s. view.simple_of s.value ≡ of_kind e c.args.place es x k)) c.in-Print.ensures c.resolve_print.ensures.tree

pub returns-in-Base-clause-tree : goal.returns-in-Base-clause-tree
returns-in-Base-clause-tree c =
    let e = env_of c.args.context.now c.args.names.now in
    let es = arguments (map expr_tree c.args.written.now) in
    let x = part_view c.args.before in
    subst (λ k. IfOk c.resolve_base_call.result (λ s. view.simple_of s.value ≡ of_kind e c.args.place es x k)) c.in-Base.ensures c.resolve_base_call.ensures.tree

pub returns-in_ok-simple-in-Call-clause-tree : goal.returns-in_ok-simple-in-Call-clause-tree
returns-in_ok-simple-in-Call-clause-tree c =
    let e = env_of c.args.context.now c.args.names.now in
    let es = arguments (map expr_tree c.args.written.now) in
    let x = part_view c.args.before in
    c.in_ok-simple-in-Call.ensures ∙ ap (λ v. AloneOf v) c.in_ok-whole-in-Call.ensures.tree ∙ ap (of_kind e c.args.place es x) c.in-Call.ensures
