use Rattle.std.proofs.Common.{◌≡◌, false, sym, ap, ◌∙◌, refl}
use Rattle.ss_core.specs.declared.names.Place.{Place}
use Rattle.ss_ast.specs.declared.expr.Expr.TheOpen as shape
use Rattle.ss_ast.specs.declared.expr.Expr.TheOpen.{Link-F, Postfix-F}
use Rattle.ss_ast.specs.Expressions.{ExprTree, Behind, expr_tree, link_step, postfix_step}
use Rattle.ss_resolver_types_expressions.specs.Members.{is_this}
use Rattle.ss_ast.proofs.Grouping.{chain_is, path_is, chain_some, path_some, path_alone}
use Rattle.ss_resolver_types.proofs.bases.+is_this.Goals as goal

link_never : (s : Link-F ExprTree Behind Behind) (at : Place) (t : ExprTree) → is_this (link_step s at t) ≡ false
link_never (shape.Operation op e) at t = refl
link_never (shape.Is u) at t = refl
link_never (shape.As u) at t = refl

postfix_never : (s : Postfix-F ExprTree Behind Behind) (at : Place) (t : ExprTree) → is_this (postfix_step s at t) ≡ false
postfix_never (shape.Member n) at t = refl
postfix_never (shape.Element e) at t = refl
postfix_never (shape.Call es) at t = refl

pub returns-else-is_empty : goal.returns-else-is_empty
returns-else-is_empty t c =
    let a = c.in-Chain in
    sym (ap (λ e. is_this (expr_tree e)) a.is ∙ ap is_this (chain_is a.field-0 a.first a.links) ∙ chain_some is_this (λ p. false) link_never a.field-0 (expr_tree a.first.value) a.links.items a.links.len a.links.ok.0 c.if-is_empty.ensures)

pub returns-then-is_empty-2 : goal.returns-then-is_empty-2
returns-then-is_empty-2 t c =
    let a = c.in-Path in
    c.is_this-then-is_empty-2.ensures ∙ ap (λ e. is_this (expr_tree e)) c.deref-then-is_empty-2.ensures ∙ sym (ap (λ e. is_this (expr_tree e)) a.is ∙ ap is_this (path_is a.field-0 a.first a.postfixes) ∙ ap is_this (path_alone a.field-0 (expr_tree a.first.value) a.postfixes.items a.postfixes.len a.postfixes.ok.0 c.if-is_empty-2.ensures))

pub returns-else-is_empty-2 : goal.returns-else-is_empty-2
returns-else-is_empty-2 t c =
    let a = c.in-Path in
    sym (ap (λ e. is_this (expr_tree e)) a.is ∙ ap is_this (path_is a.field-0 a.first a.postfixes) ∙ path_some is_this (λ p. false) postfix_never a.field-0 (expr_tree a.first.value) a.postfixes.items a.postfixes.len a.postfixes.ok.0 c.if-is_empty-2.ensures)
