use Rattle.std.proofs.Common.{◌≡◌, sym, ap, ◌∙◌, refl}
use Rattle.ss_core.specs.declared.names.Place.{Place}
use Rattle.ss_typed.specs.declared.expr.TypedExpr.TheOpen as shape
use Rattle.ss_typed.specs.declared.expr.TypedExpr.TheOpen.{TypedLink-F, TypedStep-F}
use Rattle.ss_typed.specs.Tree.{ExprTree}
use Rattle.ss_typed.specs.View.{Behind, expr, link_step, step_step}
use Rattle.ss_typed.specs.Shapes.{place_of}
use Rattle.ss_typed.proofs.Grouping.{chain_is, chain_some, path_alone, path_is, path_some}
use Rattle.ss_typed.proofs.shapes.+place_of.Goals as goal

link_never : (s : TypedLink-F ExprTree Behind Behind) (p : Place) (e : ExprTree) → place_of (link_step s p e) ≡ p
link_never (shape.Operation op b) p e = refl
link_never (shape.Is t) p e = refl
link_never (shape.As t) p e = refl

step_never : (s : TypedStep-F ExprTree Behind Behind) (p : Place) (e : ExprTree) → place_of (step_step s p e) ≡ p
step_never (shape.Field n t) p e = refl
step_never (shape.Element i) p e = refl
step_never shape.Length p e = refl
step_never (shape.Call m t es) p e = refl

pub returns-else-is_empty : goal.returns-else-is_empty
returns-else-is_empty t c =
    let a = c.in-Chain in
    sym (ap (λ e. place_of (expr e)) a.is ∙ ap (λ e. place_of e) (chain_is a.place a.first a.links) ∙ chain_some (λ e. place_of e) (λ p. p) (link_never) a.place (expr a.first.value) a.links.items a.links.len a.links.ok.0 c.if-is_empty.ensures)

pub returns-then-is_empty-2 : goal.returns-then-is_empty-2
returns-then-is_empty-2 t c =
    let a = c.in-Path in
    c.place_of-then-is_empty-2.ensures ∙ ap (λ e. place_of (expr e)) c.deref-then-is_empty-2.ensures
    ∙ sym (ap (λ e. place_of (expr e)) a.is ∙ ap (λ e. place_of e) (path_is a.place a.first a.steps) ∙ ap (λ e. place_of e) (path_alone a.place (expr a.first.value) a.steps.items a.steps.len a.steps.ok.0 c.if-is_empty-2.ensures))

pub returns-else-is_empty-2 : goal.returns-else-is_empty-2
returns-else-is_empty-2 t c =
    let a = c.in-Path in
    sym (ap (λ e. place_of (expr e)) a.is ∙ ap (λ e. place_of e) (path_is a.place a.first a.steps) ∙ path_some (λ e. place_of e) (λ p. p) (step_never) a.place (expr a.first.value) a.steps.items a.steps.len a.steps.ok.0 c.if-is_empty-2.ensures)
