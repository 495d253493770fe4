use Rattle.std.proofs.Common.{◌≡◌, None, sym, ap, ◌∙◌, refl}
use Rattle.ss_core.specs.declared.names.Place.{Place}
use Rattle.ss_typed.specs.declared.expr.TypedExpr.TheOpen as shape
use Rattle.ss_typed.specs.declared.expr.TypedExpr.TheOpen.{TypedLink-F, TypedStep-F}
use Rattle.ss_typed.specs.Tree.{ExprTree}
use Rattle.ss_typed.specs.View.{Behind, expr, link_step, step_step}
use Rattle.ss_typed.specs.Shapes.{local_of}
use Rattle.ss_typed.proofs.Grouping.{chain_is, chain_some, path_alone, path_is, path_some}
use Rattle.ss_typed.proofs.targets.+local_of.Goals as goal

link_never : (s : TypedLink-F ExprTree Behind Behind) (at : Place) (t : ExprTree) → local_of (link_step s at t) ≡ None
link_never (shape.Operation op e) at t = refl
link_never (shape.Is u) at t = refl
link_never (shape.As u) at t = refl

step_never : (s : TypedStep-F ExprTree Behind Behind) (at : Place) (t : ExprTree) → local_of (step_step s at t) ≡ None
step_never (shape.Field f u) at t = refl
step_never (shape.Element e) at t = refl
step_never shape.Length at t = refl
step_never (shape.Call m u es) at t = refl

pub returns-else-is_empty : goal.returns-else-is_empty
returns-else-is_empty t c =
    let a = c.in-Chain in
    sym (ap (λ e. local_of (expr e)) a.is ∙ ap local_of (chain_is a.field-0 a.first a.links) ∙ chain_some local_of (λ p. None) link_never a.field-0 (expr a.first.value) a.links.items a.links.len a.links.ok.0 c.if-is_empty.ensures)

pub returns-then-is_empty-2 : goal.returns-then-is_empty-2
returns-then-is_empty-2 t c =
    let a = c.in-Path in
    c.local_of-then-is_empty-2.ensures ∙ ap (λ e. local_of (expr e)) c.deref-then-is_empty-2.ensures ∙ sym (ap (λ e. local_of (expr e)) a.is ∙ ap local_of (path_is a.field-0 a.first a.steps) ∙ ap local_of (path_alone a.field-0 (expr a.first.value) a.steps.items a.steps.len a.steps.ok.0 c.if-is_empty-2.ensures))

pub returns-else-is_empty-2 : goal.returns-else-is_empty-2
returns-else-is_empty-2 t c =
    let a = c.in-Path in
    sym (ap (λ e. local_of (expr e)) a.is ∙ ap local_of (path_is a.field-0 a.first a.steps) ∙ path_some local_of (λ p. None) step_never a.field-0 (expr a.first.value) a.steps.items a.steps.len a.steps.ok.0 c.if-is_empty-2.ensures)
