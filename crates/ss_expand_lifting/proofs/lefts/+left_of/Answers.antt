use Rattle.std.proofs.Common.{◌≡◌, false, length, sym, ap, subst, ◌∙◌, refl}
use Rattle.std.specs.Prelude.{◌==◌}
use Rattle.ss_core.specs.declared.names.Place.{Place}
use Rattle.ss_typed.specs.declared.expr.TypedExpr.TheOpen as shape
use Rattle.ss_typed.specs.declared.expr.TypedExpr.TheOpen.{TypedLink-F}
use Rattle.ss_typed.specs.Tree.{ExprTree}
use Rattle.ss_typed.specs.View.{Behind, expr, link_step}
use Rattle.ss_typed.specs.Parts.{step_after, stepped}
use Rattle.ss_typed.proofs.Grouping.{chain_alone, chain_is, chain_some, path_alone, path_is, stepped_push}
use Rattle.ss_expand_lifting.specs.declared.lefts.Left.{Left}
use Rattle.ss_expand_lifting.specs.Lefts.{IsLeft, may_be_left}
use Rattle.ss_expand_lifting.proofs.lefts.+left_of.Goals as goal

link_never : (s : TypedLink-F ExprTree Behind Behind) (p : Place) (e : ExprTree) → may_be_left (link_step s p e) ≡ false
link_never (shape.Operation op b) p e = refl
link_never (shape.Is t) p e = refl
link_never (shape.As t) p e = refl

left_along : (a b : ExprTree) (l : Left) → a ≡ b → IsLeft a l → IsLeft b l
left_along a b l h x = let P : ExprTree → Type 0 = λ y. IsLeft y l in subst P h x

pub returns-in-Some : goal.returns-in-Some
returns-in-Some t c =
    let a = c.in-Path in
    let last = c.in-Some.last.now in
    let before = c.in-Some.before.now in
    let first = expr a.first.value in
    left_along _ _ _
    (ap (λ x. step_after last a.place (stepped a.place (expr x) before)) c.deref-in-Some.ensures
    ∙ sym (stepped_push a.place first before last)
    ∙ ap (stepped a.place first) (sym c.in-Some.ensures.cases.0 ∙ c.deref.ensures.value)
    ∙ sym (path_is a.place a.first a.steps) ∙ ap expr (sym a.is))
    c.left_of_path.ensures

pub returns-in-None : goal.returns-in-None
returns-in-None t c =
    let a = c.in-Path in
    let first = expr a.first.value in
    let none : length a.steps.items ≡ 0 = ap length (sym c.deref.ensures.value) ∙ c.in-None.ensures.cases in
    left_along _ _ _
    (ap expr c.deref-in-None.ensures
    ∙ sym (ap expr a.is ∙ path_is a.place a.first a.steps ∙ path_alone a.place first a.steps.items (length a.steps.items) refl (sym (ap (λ k. k == 0) none))))
    c.left_of.ensures

pub returns-then-is_empty : goal.returns-then-is_empty
returns-then-is_empty t c =
    let a = c.in-Chain in
    let first = expr a.first.value in
    left_along _ _ _
    (ap expr c.deref-then-is_empty.ensures
    ∙ sym (ap expr a.is ∙ chain_is a.field-0 a.first a.links ∙ chain_alone a.field-0 first a.links.items a.links.len a.links.ok.0 c.if-is_empty.ensures))
    c.left_of-then-is_empty.ensures

pub returns-else-is_empty : goal.returns-else-is_empty
returns-else-is_empty t c =
    let a = c.in-Chain in
    ap (λ e. may_be_left (expr e)) a.is ∙ ap may_be_left (chain_is a.field-0 a.first a.links) ∙ chain_some may_be_left (λ p. false) link_never a.field-0 (expr a.first.value) a.links.items a.links.len a.links.ok.0 c.if-is_empty.ensures
