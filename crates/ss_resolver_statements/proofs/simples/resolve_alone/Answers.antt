use Rattle.std.proofs.Common.{map, sym, ap, ◌∙◌}
use Rattle.ss_ast.specs.Expressions.{expr_tree, grouped, arguments}
use Rattle.ss_typed.specs.Tree.{AloneOf}
use Rattle.ss_resolver_rules.specs.Statements.{alone}
use Rattle.ss_ast.specs.Parts.{postfix_after}
use Rattle.ss_resolver_expressions.specs.Environments.{env_of}
use Rattle.ss_resolver_statements.proofs.Alones.{call_is, other_is}
use Rattle.ss_resolver_statements.proofs.simples.resolve_alone.Goals as goal

pub returns-in_ok-whole-in-Some-clause-tree : goal.returns-in_ok-whole-in-Some-clause-tree
returns-in_ok-whole-in-Some-clause-tree c =
    let e = env_of c.args.context.now c.args.names.now in
    let call = c.in-Some.call in
    c.in_ok-whole-in-Some.ensures.tree
    ∙ call_is e call.place (arguments (map expr_tree call.written.now)) (grouped call.place (expr_tree call.first.now) (map postfix_after call.front.now))
    ∙ ap (alone e) (sym c.in-Some.ensures.some)

pub returns-in_ok-simple-in-None-clause-tree : goal.returns-in_ok-simple-in-None-clause-tree
returns-in_ok-simple-in-None-clause-tree c =
    let e = env_of c.args.context.now c.args.names.now in
    c.in_ok-simple-in-None.ensures ∙ ap (λ x. AloneOf x) c.in_ok-whole-in-None.ensures.tree ∙ other_is e (expr_tree c.args.e.now) c.in-None.ensures.none
