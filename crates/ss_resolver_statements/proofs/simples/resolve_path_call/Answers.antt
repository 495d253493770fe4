use Rattle.std.proofs.Common.{map, sym, ap, ◌∙◌}
use Rattle.ss_ast.specs.Expressions.{expr_tree, grouped, arguments}
use Rattle.ss_ast.specs.Parts.{postfix_after}
use Rattle.ss_resolver_expressions.specs.Environments.{env_of, part, part_view}
use Rattle.ss_resolver_statements.specs.Alone.{part_alone}
use Rattle.ss_resolver_statements.proofs.simples.resolve_path_call.Goals as goal

pub returns-clause-tree : goal.returns-clause-tree
returns-clause-tree c =
    let s = c.args.context.now in
    let e = env_of s c.args.names.now in
    let at = c.args.place in
    let es = arguments (map expr_tree c.args.written.now) in
    let first = expr_tree c.args.first.now in
    let path = grouped at first (map postfix_after c.args.front.now) in
    let k = c.in_ok-first.ensures.kept in
    let before = part_view c.in_ok-before.before in
    c.in_ok-whole.ensures.tree
    ∙ ap (λ n. part_alone (env_of s n) at es before) (c.in_ok-before.ensures.kept ∙ k)
    ∙ ap (part_alone e at es) (c.in_ok-before.ensures.part first (c.in_ok-first.ensures.part ∙ ap (λ n. part (env_of s n) first) (sym k)) ∙ ap (λ n. part (env_of s n) path) k)
