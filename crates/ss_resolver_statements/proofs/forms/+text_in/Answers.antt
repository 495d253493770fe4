use Rattle.std.proofs.Common.{ℕ, ◌≡◌, List, Option, None, sym, ap, ◌∙◌, refl}
use Rattle.ss_core.specs.declared.names.Place.{Place}
use Rattle.ss_ast.specs.declared.expr.Expr.TheOpen as shape
use Rattle.ss_ast.specs.declared.expr.Expr.TheOpen.{Link-F, Postfix-F}
use Rattle.ss_ast.specs.Expressions.{ExprTree, Behind, expr_tree, link_step, postfix_step}
use Rattle.ss_ast.proofs.Grouping.{chain_is, path_is, chain_some, path_some, path_alone}
use Rattle.ss_resolver_statements.specs.Forms.{text_of}
use Rattle.ss_resolver_statements.proofs.forms.+text_in.Goals as goal

abbrev shown : ExprTree → Option (List ℕ)
shown e = text_of e

link_shown : (s : Link-F ExprTree Behind Behind) (at : Place) (t : ExprTree) → shown (link_step s at t) ≡ None
link_shown (shape.Operation op e) at t = refl
link_shown (shape.Is u) at t = refl
link_shown (shape.As u) at t = refl

postfix_shown : (s : Postfix-F ExprTree Behind Behind) (at : Place) (t : ExprTree) → shown (postfix_step s at t) ≡ None
postfix_shown (shape.Member n) at t = refl
postfix_shown (shape.Element e) at t = refl
postfix_shown (shape.Call es) at t = refl

pub returns-else-is_empty : goal.returns-else-is_empty
returns-else-is_empty t c =
    let a = c.in-Chain in
    sym (ap (λ e. shown (expr_tree e)) a.is ∙ ap shown (chain_is a.field-0 a.first a.links) ∙ chain_some shown (λ at. None) link_shown a.field-0 (expr_tree a.first.value) a.links.items a.links.len a.links.ok.0 c.if-is_empty.ensures)

pub returns-then-is_empty-2 : goal.returns-then-is_empty-2
returns-then-is_empty-2 t c =
    let a = c.in-Path in
    c.text_in-then-is_empty-2.ensures ∙ ap (λ e. shown (expr_tree e)) c.deref-then-is_empty-2.ensures ∙ sym (ap (λ e. shown (expr_tree e)) a.is ∙ ap shown (path_is a.field-0 a.first a.postfixes) ∙ ap shown (path_alone a.field-0 (expr_tree a.first.value) a.postfixes.items a.postfixes.len a.postfixes.ok.0 c.if-is_empty-2.ensures))

pub returns-else-is_empty-2 : goal.returns-else-is_empty-2
returns-else-is_empty-2 t c =
    let a = c.in-Path in
    sym (ap (λ e. shown (expr_tree e)) a.is ∙ ap shown (path_is a.field-0 a.first a.postfixes) ∙ path_some shown (λ at. None) postfix_shown a.field-0 (expr_tree a.first.value) a.postfixes.items a.postfixes.len a.postfixes.ok.0 c.if-is_empty-2.ensures)
