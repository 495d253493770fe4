use Rattle.std.proofs.Common.{◌≡◌, false, map, sym, ap, subst, ◌∙◌, refl}
use Rattle.std.specs.Prelude.{IfSome, IfNone}
use Rattle.ss_core.specs.declared.names.Place.{Place}
use Rattle.ss_ast.specs.declared.expr.Expr.TheOpen as shape
use Rattle.ss_ast.specs.declared.expr.Expr.TheOpen.{Link-F}
use Rattle.ss_ast.specs.Expressions.{ExprTree, CallOf, Behind, grouped, arguments, expr_tree, link_step}
use Rattle.ss_ast.specs.Parts.{postfix_after}
use Rattle.ss_ast.proofs.Grouping.{chain_is, path_last, chain_some}
use Rattle.ss_resolver_statements.specs.Forms.{is_call}
use Rattle.ss_resolver_statements.proofs.forms.+call_in.Goals as goal

link_shown : (s : Link-F ExprTree Behind Behind) (at : Place) (t : ExprTree) → is_call (link_step s at t) ≡ false
link_shown (shape.Operation op e) at t = refl
link_shown (shape.Is u) at t = refl
link_shown (shape.As u) at t = refl

pub returns-else-is_empty-clause-none : goal.returns-else-is_empty-clause-none
returns-else-is_empty-clause-none t c =
    let a = c.in-Chain in
    ap (λ e. is_call (expr_tree e)) a.is ∙ ap (λ e. is_call e) (chain_is a.field-0 a.first a.links)
    ∙ chain_some (λ e. is_call e) (λ at. false) link_shown a.field-0 (expr_tree a.first.value) a.links.items a.links.len a.links.ok.0 c.if-is_empty.ensures

pub returns-in-Some-clause-some : goal.returns-in-Some-clause-some
returns-in-Some-clause-some t c =
    let a = c.in-Path in
    let x = c.in-Some in
    let parts = sym c.deref-in-Path.ensures.value ∙ x.ensures.some in
    let whole =
    ap expr_tree a.is ∙ path_last a.place a.first a.postfixes x.front.now x.last.now parts
    ∙ ap (λ v. postfix_after x.last.now a.place (grouped a.place (expr_tree v) (map postfix_after x.front.now))) (sym c.deref-in-Some.ensures) in
    subst (λ u. IfSome c.call_by_last.result (λ r. u ≡ CallOf r.place (grouped r.place (expr_tree r.first.now) (map postfix_after r.front.now)) (arguments (map expr_tree r.written.now)))) (sym whole) c.call_by_last.ensures.some

pub returns-in-Some-clause-none : goal.returns-in-Some-clause-none
returns-in-Some-clause-none t c =
    let a = c.in-Path in
    let x = c.in-Some in
    let parts = sym c.deref-in-Path.ensures.value ∙ x.ensures.some in
    let whole =
    ap expr_tree a.is ∙ path_last a.place a.first a.postfixes x.front.now x.last.now parts
    ∙ ap (λ v. postfix_after x.last.now a.place (grouped a.place (expr_tree v) (map postfix_after x.front.now))) (sym c.deref-in-Some.ensures) in
    subst (λ u. IfNone c.call_by_last.result (is_call u ≡ false)) (sym whole) c.call_by_last.ensures.none
