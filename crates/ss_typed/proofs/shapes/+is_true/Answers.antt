use Rattle.std.proofs.Common.{◌≡◌, false, sym, ap, ◌∙◌, refl}
use Rattle.ss_core.specs.declared.names.Place.{Place}
use Rattle.ss_typed.specs.declared.expr.TypedExpr.TheOpen as shape
use Rattle.ss_typed.specs.declared.expr.TypedExpr.TheOpen.{TypedLink-F, TypedStep-F}
use Rattle.ss_typed.specs.Tree.{ExprTree}
use Rattle.ss_typed.specs.View.{Behind, expr, link_step, step_step}
use Rattle.ss_typed.specs.Shapes.{is_true}
use Rattle.ss_typed.proofs.Grouping.{chain_is, chain_some, path_alone, path_is, path_some}
use Rattle.ss_typed.proofs.shapes.+is_true.Goals as goal

link_never : (s : TypedLink-F ExprTree Behind Behind) (p : Place) (e : ExprTree) → is_true (link_step s p e) ≡ false
link_never (shape.Operation op b) p e = refl
link_never (shape.Is t) p e = refl
link_never (shape.As t) p e = refl

step_never : (s : TypedStep-F ExprTree Behind Behind) (p : Place) (e : ExprTree) → is_true (step_step s p e) ≡ false
step_never (shape.Field n t) p e = refl
step_never (shape.Element i) p e = refl
step_never shape.Length p e = refl
step_never (shape.Call m t es) p e = refl

pub returns-else-is_empty : goal.returns-else-is_empty
returns-else-is_empty t c =
    let a = c.in-Chain in
    sym (ap (λ e. is_true (expr e)) a.is ∙ ap (λ e. is_true e) (chain_is a.field-0 a.first a.links) ∙ chain_some (λ e. is_true e) (λ p. false) (link_never) a.field-0 (expr a.first.value) a.links.items a.links.len a.links.ok.0 c.if-is_empty.ensures)

pub returns-then-is_empty-2 : goal.returns-then-is_empty-2
returns-then-is_empty-2 t c =
    let a = c.in-Path in
    c.is_true-then-is_empty-2.ensures ∙ ap (λ e. is_true (expr e)) c.deref-then-is_empty-2.ensures
    ∙ sym (ap (λ e. is_true (expr e)) a.is ∙ ap (λ e. is_true e) (path_is a.field-0 a.first a.steps) ∙ ap (λ e. is_true e) (path_alone a.field-0 (expr a.first.value) a.steps.items a.steps.len a.steps.ok.0 c.if-is_empty-2.ensures))

pub returns-else-is_empty-2 : goal.returns-else-is_empty-2
returns-else-is_empty-2 t c =
    let a = c.in-Path in
    sym (ap (λ e. is_true (expr e)) a.is ∙ ap (λ e. is_true e) (path_is a.field-0 a.first a.steps) ∙ path_some (λ e. is_true e) (λ p. false) (step_never) a.field-0 (expr a.first.value) a.steps.items a.steps.len a.steps.ok.0 c.if-is_empty-2.ensures)
