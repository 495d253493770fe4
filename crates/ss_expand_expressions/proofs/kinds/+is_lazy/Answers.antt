use Rattle.std.proofs.Common.{◌≡◌, false, sym, ap, ◌∙◌, refl, length, ◌-◌, Some, None}
use Rattle.std.specs.Prelude.{slice_get}
use Rattle.ss_core.specs.declared.names.Place.{Place}
use Rattle.ss_typed.specs.declared.expr.TypedExpr.TheOpen as shape
use Rattle.ss_typed.specs.declared.expr.TypedExpr.TheOpen.{TypedStep-F}
use Rattle.ss_typed.specs.Tree.{ExprTree}
use Rattle.ss_typed.specs.View.{Behind, expr, step_step}
use Rattle.ss_expand_rules.specs.Calls.{is_lazy}
use Rattle.ss_typed.proofs.Grouping.{chain_is, chain_last_none, chain_last_some, path_alone, path_is, path_some}
use Rattle.ss_expand_expressions.proofs.kinds.+is_lazy.Goals as goal

step_never : (s : TypedStep-F ExprTree Behind Behind) (p : Place) (e : ExprTree) → is_lazy (step_step s p e) ≡ false
step_never (shape.Field n t) p e = refl
step_never (shape.Element i) p e = refl
step_never shape.Length p e = refl
step_never (shape.Call m t es) p e = refl

pub returns-in-Some : goal.returns-in-Some
returns-in-Some t c =
    let a = c.in-Chain in
    let last : Some c.in-Some.link.now ≡ slice_get a.links.items (length a.links.items - 1) = c.in-Some.ensures.value ∙ ap (λ ls. slice_get ls (length ls - 1)) c.deref.ensures.value in
    sym (ap (λ e. is_lazy (expr e)) a.is ∙ ap is_lazy (chain_is a.field-0 a.first a.links) ∙ chain_last_some is_lazy c.is_lazy_link.result a.field-0 (expr a.first.value) a.links.items c.in-Some.link.now last (λ before. c.is_lazy_link.ensures a.field-0 before))

pub returns-in-None : goal.returns-in-None
returns-in-None t c =
    let a = c.in-Chain in
    let last : None ≡ slice_get a.links.items (length a.links.items - 1) = c.in-None.ensures.value ∙ ap (λ ls. slice_get ls (length ls - 1)) c.deref.ensures.value in
    c.is_lazy.ensures ∙ ap (λ e. is_lazy (expr e)) c.deref-in-None.ensures
    ∙ sym (ap (λ e. is_lazy (expr e)) a.is ∙ ap is_lazy (chain_is a.field-0 a.first a.links) ∙ ap is_lazy (chain_last_none a.field-0 (expr a.first.value) a.links.items last))

pub returns-then-is_empty : goal.returns-then-is_empty
returns-then-is_empty t c =
    let a = c.in-Path in
    c.is_lazy-then-is_empty.ensures ∙ ap (λ e. is_lazy (expr e)) c.deref-then-is_empty.ensures
    ∙ sym (ap (λ e. is_lazy (expr e)) a.is ∙ ap (λ e. is_lazy e) (path_is a.field-0 a.first a.steps) ∙ ap (λ e. is_lazy e) (path_alone a.field-0 (expr a.first.value) a.steps.items a.steps.len a.steps.ok.0 c.if-is_empty.ensures))

pub returns-else-is_empty : goal.returns-else-is_empty
returns-else-is_empty t c =
    let a = c.in-Path in
    sym (ap (λ e. is_lazy (expr e)) a.is ∙ ap (λ e. is_lazy e) (path_is a.field-0 a.first a.steps) ∙ path_some (λ e. is_lazy e) (λ p. false) (step_never) a.field-0 (expr a.first.value) a.steps.items a.steps.len a.steps.ok.0 c.if-is_empty.ensures)
