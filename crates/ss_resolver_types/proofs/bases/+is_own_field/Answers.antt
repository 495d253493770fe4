use Rattle.std.proofs.Common.{◌≡◌, ℕ, false, sym, ap, ◌∙◌, refl}
use Rattle.ss_core.specs.declared.names.Place.{Place}
use Rattle.ss_ast.specs.declared.expr.Expr.TheOpen as shape
use Rattle.ss_ast.specs.declared.expr.Expr.TheOpen.{Link-F}
use Rattle.ss_ast.specs.Expressions.{ExprTree, Behind, expr_tree, link_step}
use Rattle.ss_tables.specs.Scopes.{Scope}
use Rattle.ss_tables_scopes.specs.Views.{scope_of}
use Rattle.ss_resolver_types_expressions.specs.Members.{is_own_field}
use Rattle.ss_ast.proofs.Grouping.{chain_is, path_is, chain_some, path_alone}
use Rattle.ss_resolver_types.proofs.Paths.{path_there}
use Rattle.ss_resolver_types.proofs.bases.+is_own_field.Goals as goal

link_never : (k : ℕ) (s : Scope) (x : Link-F ExprTree Behind Behind) (at : Place) (t : ExprTree) → is_own_field k s (link_step x at t) ≡ false
link_never k s (shape.Operation op e) at t = refl
link_never k s (shape.Is u) at t = refl
link_never k s (shape.As u) at t = refl

pub returns-else-is_empty : goal.returns-else-is_empty
returns-else-is_empty t c =
    let a = c.in-Chain in
    let k = c.args.context.class in
    let s = scope_of c.args.context c.args.locals.now in
    sym (ap (λ e. is_own_field k s (expr_tree e)) a.is ∙ ap (is_own_field k s) (chain_is a.field-0 a.first a.links)
    ∙ chain_some (is_own_field k s) (λ p. false) (link_never k s) a.field-0 (expr_tree a.first.value) a.links.items a.links.len a.links.ok.0 c.if-is_empty.ensures)

pub returns-then-is_empty-2 : goal.returns-then-is_empty-2
returns-then-is_empty-2 t c =
    let a = c.in-Path in
    let k = c.args.context.class in
    let s = scope_of c.args.context c.args.locals.now in
    c.is_own_field-then-is_empty-2.ensures ∙ ap (λ e. is_own_field k s (expr_tree e)) c.deref-then-is_empty-2.ensures
    ∙ sym (ap (λ e. is_own_field k s (expr_tree e)) a.is ∙ ap (is_own_field k s) (path_is a.field-0 a.first a.postfixes)
    ∙ ap (is_own_field k s) (path_alone a.field-0 (expr_tree a.first.value) a.postfixes.items a.postfixes.len a.postfixes.ok.0 c.if-is_empty-2.ensures))

pub returns-else-is_empty-2 : goal.returns-else-is_empty-2
returns-else-is_empty-2 t c =
    let a = c.in-Path in
    path_there (is_own_field c.args.context.class (scope_of c.args.context c.args.locals.now)) a.field-0 a.first a.postfixes c.args.e.now c.deref-else-is_empty-2.result.now c.as_slice.result.now
    c.is_own_path.result a.postfixes.len (c.is_own_path.ensures c.args.locals.now a.field-0) a.is c.deref-else-is_empty-2.ensures c.as_slice.ensures.value a.postfixes.ok.0 c.if-is_empty-2.ensures
