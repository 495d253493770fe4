use Rattle.std.proofs.Common.{◌≡◌, ap, ◌∙◌, rules}
use Rattle.ss_ast.specs.Expressions.{expr_tree}
use Rattle.ss_resolver_types_expressions.specs.Statements.{is_target}
use Rattle.ss_resolver_types_heads.specs.Heads.{ending}
use Rattle.ss_resolver_types_heads.specs.Codes.{context_of, head_of}
use Rattle.ss_resolver_types.specs.Bodies.{target_at}
use Rattle.ss_resolver_types.proofs.Uses.{target_is, use_noted}
use Rattle.ss_resolver_types.proofs.simple.check_target.Goals as goal

pub returns-clause-noted : goal.returns-clause-noted
returns-clause-noted c =
    let a = context_of c.args.context.now c.args.locals.now in
    let t = expr_tree c.args.e.now in
    let ends : head_of c.in_ok-head.head ≡ ending a.scope t = search rules in
    let same : c.is_target.result ≡ is_target a.scope t = c.is_target.ensures ∙ ap target_at ends ∙ target_is a.scope t in
    use_noted a t c.args.found.now.items _ _ c.is_target.result _ c.place_of.result same c.place_of.ensures c.in_ok-head.ensures.noted c.in_ok-note_bad_type.ensures
