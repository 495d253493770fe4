use Rattle.std.proofs.Common.{◌≡◌, None, sym, ap, ◌∙◌, refl}
use Rattle.ss_core.specs.declared.names.Place.{Place}
use Rattle.ss_ast.specs.declared.expr.Expr.TheOpen as shape
use Rattle.ss_ast.specs.declared.expr.Expr.TheOpen.{Link-F}
use Rattle.ss_ast.specs.Expressions.{ExprTree, Behind, expr_tree, link_step}
use Rattle.ss_ast.proofs.Grouping.{chain_is, path_is, chain_some, path_alone}
use Rattle.ss_resolver_types.specs.Bodies.{base_arguments}
use Rattle.ss_resolver_types.proofs.Paths.{path_there}
use Rattle.ss_resolver_types.proofs.bases.+base_arguments.Goals as goal

link_never : (x : Link-F ExprTree Behind Behind) (at : Place) (t : ExprTree) → base_arguments (link_step x at t) ≡ None
link_never (shape.Operation op e) at t = refl
link_never (shape.Is u) at t = refl
link_never (shape.As u) at t = refl

pub returns-else-is_empty : goal.returns-else-is_empty
returns-else-is_empty t c =
    let a = c.in-Chain in
    sym (ap (λ e. base_arguments (expr_tree e)) a.is ∙ ap base_arguments (chain_is a.field-0 a.first a.links)
    ∙ chain_some base_arguments (λ p. None) link_never a.field-0 (expr_tree a.first.value) a.links.items a.links.len a.links.ok.0 c.if-is_empty.ensures)

pub returns-then-is_empty-2 : goal.returns-then-is_empty-2
returns-then-is_empty-2 t c =
    let a = c.in-Path in
    c.base_arguments-then-is_empty-2.ensures ∙ ap (λ e. base_arguments (expr_tree e)) c.deref-then-is_empty-2.ensures
    ∙ sym (ap (λ e. base_arguments (expr_tree e)) a.is ∙ ap base_arguments (path_is a.place a.first a.postfixes)
    ∙ ap base_arguments (path_alone a.place (expr_tree a.first.value) a.postfixes.items a.postfixes.len a.postfixes.ok.0 c.if-is_empty-2.ensures))

pub returns-else-is_empty-2 : goal.returns-else-is_empty-2
returns-else-is_empty-2 t c =
    let a = c.in-Path in
    path_there base_arguments a.place a.first a.postfixes c.args.e.now c.deref-else-is_empty-2.result.now c.as_slice.result.now
    _ a.postfixes.len c.path_arguments.ensures a.is c.deref-else-is_empty-2.ensures c.as_slice.ensures.value a.postfixes.ok.0 c.if-is_empty-2.ensures
