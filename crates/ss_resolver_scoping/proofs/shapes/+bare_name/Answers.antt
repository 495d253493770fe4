use Rattle.std.proofs.Common.{None, sym, ap, ◌∙◌}
use Rattle.ss_ast.specs.Expressions.{expr_tree}
use Rattle.ss_resolver_names_rules.specs.Bare.{bare_name}
use Rattle.ss_ast.proofs.Grouping.{chain_is, path_is, chain_some, path_some, path_alone}
use Rattle.ss_resolver_scoping.proofs.Bareness.{link_not_bare, postfix_not_bare}
use Rattle.ss_resolver_scoping.proofs.shapes.+bare_name.Goals as goal

pub returns-else-is_empty : goal.returns-else-is_empty
returns-else-is_empty t c =
    let a = c.in-Chain in
    sym (ap (λ e. bare_name (expr_tree e)) a.is ∙ ap bare_name (chain_is a.field-0 a.first a.links) ∙ chain_some bare_name (λ p. None) link_not_bare a.field-0 (expr_tree a.first.value) a.links.items a.links.len a.links.ok.0 c.if-is_empty.ensures)

pub returns-then-is_empty-2 : goal.returns-then-is_empty-2
returns-then-is_empty-2 t c =
    let a = c.in-Path in
    c.bare_name-then-is_empty-2.ensures ∙ ap (λ e. bare_name (expr_tree e)) c.deref-then-is_empty-2.ensures ∙ sym (ap (λ e. bare_name (expr_tree e)) a.is ∙ ap bare_name (path_is a.field-0 a.first a.postfixes) ∙ ap bare_name (path_alone a.field-0 (expr_tree a.first.value) a.postfixes.items a.postfixes.len a.postfixes.ok.0 c.if-is_empty-2.ensures))

pub returns-else-is_empty-2 : goal.returns-else-is_empty-2
returns-else-is_empty-2 t c =
    let a = c.in-Path in
    sym (ap (λ e. bare_name (expr_tree e)) a.is ∙ ap bare_name (path_is a.field-0 a.first a.postfixes) ∙ path_some bare_name (λ p. None) postfix_not_bare a.field-0 (expr_tree a.first.value) a.postfixes.items a.postfixes.len a.postfixes.ok.0 c.if-is_empty-2.ensures)
