use Rattle.std.proofs.Common.{◌≡◌, ap, ◌∙◌, rules}
use Rattle.ss_ast.specs.Expressions.{expr_tree}
use Rattle.ss_tables_scopes.specs.Names.{Names}
use Rattle.ss_resolver_types_expressions.specs.Members.{is_field_term}
use Rattle.ss_resolver_types_heads.specs.Heads.{ending}
use Rattle.ss_resolver_types_heads.specs.Codes.{context_of, head_of}
use Rattle.ss_resolver_types.specs.Bodies.{field_term_at}
use Rattle.ss_resolver_types.proofs.Uses.{field_term_is, use_noted}
use Rattle.ss_resolver_types.proofs.clauses.check_field_term.Goals as goal

pub returns-clause-noted : goal.returns-clause-noted
returns-clause-noted c =
    let a = context_of c.args.context.now c.args.locals.now in
    let t = expr_tree c.args.e.now in
    let ends : head_of c.in_ok-head.head ≡ ending a.scope t = search rules in
    let same : c.is_field_term.result ≡ is_field_term a.scope t =
    c.is_field_term.ensures ∙ ap (λ (n : Names). field_term_at (context_of c.args.context.now n).scope (head_of c.in_ok-head.head)) c.in_ok-head.ensures.same ∙ ap (field_term_at a.scope) ends ∙ field_term_is a.scope t in
    use_noted a t c.args.found.now.items _ _ c.is_field_term.result _ c.place_of.result same c.place_of.ensures c.in_ok-head.ensures.noted c.in_ok-note_bad_type.ensures
