-- What chains and paths with parts are, and are not.
use Rattle.std.proofs.Common.{◌≡◌, ◌<◌, length, List, [], ◌∷◌, map, false, None, refl, ap, ◌∙◌, arith}
use Rattle.ss_core.specs.declared.names.Place.{Place}
use Rattle.ss_typed.specs.declared.expr.TypedStep.{TypedStep}
use Rattle.ss_typed.specs.declared.expr.TypedExpr.TheOpen as shape
use Rattle.ss_typed.specs.declared.expr.TypedExpr.TheOpen.{TypedLink-F, TypedStep-F}
use Rattle.ss_typed.specs.Tree.{ExprTree}
use Rattle.ss_typed.specs.View.{Behind, grouped, link_step, step_step}
use Rattle.ss_typed.specs.Shapes.{is_this, own_field}
use Rattle.ss_typed.specs.Parts.{step_after}
use Rattle.ss_typed.proofs.Grouping.{step_shape}

step_not_this : (s : TypedStep-F ExprTree Behind Behind) (at : Place) (t : ExprTree) → is_this (step_step s at t) ≡ false
step_not_this (shape.Field f ty) at t = refl
step_not_this (shape.Element e) at t = refl
step_not_this shape.Length at t = refl
step_not_this (shape.Call m ty es) at t = refl

pub link_no_field : (s : TypedLink-F ExprTree Behind Behind) (at : Place) (t : ExprTree) → own_field (link_step s at t) ≡ None
link_no_field (shape.Operation op e) at t = refl
link_no_field (shape.Is u) at t = refl
link_no_field (shape.As u) at t = refl

-- what stands after something is not `this`
pub no_this_after : (s : TypedStep) (at : Place) (t : ExprTree) → is_this (step_after s at t) ≡ false
no_this_after s at t = ap (λ (b : Behind). is_this (b at t)) (step_shape s).is ∙ step_not_this (step_shape s).shape at t

-- what stands after something that isn't `this` is no field of `this`
step_no_field : (s : TypedStep-F ExprTree Behind Behind) (at : Place) (t : ExprTree) → is_this t ≡ false → own_field (step_step s at t) ≡ None
step_no_field (shape.Field f ty) at t n = rw n refl
step_no_field (shape.Element e) at t n = refl
step_no_field shape.Length at t n = refl
step_no_field (shape.Call m ty es) at t n = refl

pub no_field_after : (s : TypedStep) (at : Place) (t : ExprTree) → is_this t ≡ false → own_field (step_after s at t) ≡ None
no_field_after s at t n = ap (λ (b : Behind). own_field (b at t)) (step_shape s).is ∙ step_no_field (step_shape s).shape at t n

no_field_along : (at : Place) (t : ExprTree) (s : TypedStep) (ss : List TypedStep) → is_this t ≡ false → own_field (grouped at t (map step_after (s ∷ ss))) ≡ None
no_field_along at t s [] n = no_field_after s at t n
no_field_along at t s (u ∷ ss) n = no_field_along at (step_after s at t) u ss (no_this_after s at t)

-- a path of more than one step is no field of `this`
pub no_field_far : (at : Place) (t : ExprTree) (ss : List TypedStep) → 1 < length ss → own_field (grouped at t (map step_after ss)) ≡ None
no_field_far at t [] l = absurd (omega arith)
no_field_far at t (s ∷ []) l = absurd (omega arith)
no_field_far at t (s ∷ u ∷ ss) l = no_field_along at (step_after s at t) u ss (no_this_after s at t)
