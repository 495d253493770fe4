use Rattle.std.proofs.Common.{Some, ap, ◌∙◌}
use Rattle.ss_ast.specs.Expressions.{expr_tree}
use Rattle.ss_typed.specs.Tree.{PrintOf}
use Rattle.ss_resolver_expressions.specs.Environments.{env_of}
use Rattle.ss_resolver_statements.specs.Alone.{print_of}
use Rattle.ss_resolver_statements.proofs.Alones.{printed_is}
use Rattle.ss_resolver_statements.proofs.simples.resolve_printed.Goals as goal

pub returns-in_ok-whole-in-Some-clause-tree : goal.returns-in_ok-whole-in-Some-clause-tree
returns-in_ok-whole-in-Some-clause-tree c =
    let e = env_of c.args.context.now c.args.names.now in
    let t = expr_tree c.args.e.now in
    c.in_ok-whole-in-Some.ensures
    ∙ ap (print_of e c.args.place c.args.line t) c.in-Some.ensures
    ∙ printed_is e c.args.place c.args.line t

pub returns-in_ok-whole-in-None-clause-tree : goal.returns-in_ok-whole-in-None-clause-tree
returns-in_ok-whole-in-None-clause-tree c =
    let e = env_of c.args.context.now c.args.names.now in
    let t = expr_tree c.args.e.now in
    c.in_ok-whole-in-None.ensures
    ∙ ap (λ x. PrintOf c.args.place (Some x) c.args.line) c.in_ok-value-in-None.ensures.tree
    ∙ ap (print_of e c.args.place c.args.line t) c.in-None.ensures
    ∙ printed_is e c.args.place c.args.line t
