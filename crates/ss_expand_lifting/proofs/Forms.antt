-- What the expressions of the code stand for.
use Rattle.std.proofs.Common.{◌≡◌, ℕ, Bool, Option, Vec, Box, Global, sym, ap, ◌∙◌}
use Rattle.ss_core.specs.declared.names.Place.{Place}
use Rattle.ss_core.specs.declared.names.ClassId.{ClassId}
use Rattle.ss_core.specs.declared.names.BodyId.{BodyId}
use Rattle.ss_core.specs.declared.names.Ty.{Ty}
use Rattle.ss_typed.specs.declared.expr.TypedExpr.{TypedExpr}
use Rattle.ss_typed.specs.declared.expr.TypedExpr.TheFolds.{fold-roll-TypedExpr}
use Rattle.ss_typed.specs.declared.expr.TypedExpr.TheVariants as variant
use Rattle.ss_typed.specs.declared.expr.TypedExpr.TheOpen as shape
use Rattle.ss_typed.specs.Tree.{ExprTree, IffOf, ImpliesOf, NegateOf, NotOf, CastOf, NewOf, NewArrayOf, StaticOf, BaseOf, arguments}
use Rattle.ss_typed.specs.View.{Behind, expr_step, link_step, step_step, expr, exprs}

pub iff_is : (p : Place) (a b : Box TypedExpr Global) → expr (variant.Iff p a b) ≡ IffOf p (expr a.value) (expr b.value)
iff_is p a b = ap expr (sym (variant.rolls-Iff p a b)) ∙ fold-roll-TypedExpr ExprTree Behind Behind expr_step link_step step_step (shape.Iff p a b)

pub implies_is : (p : Place) (a b : Box TypedExpr Global) → expr (variant.Implies p a b) ≡ ImpliesOf p (expr a.value) (expr b.value)
implies_is p a b = ap expr (sym (variant.rolls-Implies p a b)) ∙ fold-roll-TypedExpr ExprTree Behind Behind expr_step link_step step_step (shape.Implies p a b)

pub negate_is : (p : Place) (a : Box TypedExpr Global) → expr (variant.Negate p a) ≡ NegateOf p (expr a.value)
negate_is p a = ap expr (sym (variant.rolls-Negate p a)) ∙ fold-roll-TypedExpr ExprTree Behind Behind expr_step link_step step_step (shape.Negate p a)

pub not_is : (p : Place) (a : Box TypedExpr Global) → expr (variant.Not p a) ≡ NotOf p (expr a.value)
not_is p a = ap expr (sym (variant.rolls-Not p a)) ∙ fold-roll-TypedExpr ExprTree Behind Behind expr_step link_step step_step (shape.Not p a)

pub cast_is : (p : Place) (t : ClassId) (non_null : Bool) (a : Box TypedExpr Global) → expr (variant.Cast p t non_null a) ≡ CastOf p t.0 non_null (expr a.value)
cast_is p t non_null a = ap expr (sym (variant.rolls-Cast p t non_null a)) ∙ fold-roll-TypedExpr ExprTree Behind Behind expr_step link_step step_step (shape.Cast p t non_null a)

pub new_is : (p : Place) (t : ClassId) (es : Vec TypedExpr Global) → expr (variant.New p t es) ≡ NewOf p t.0 (arguments (exprs es.items))
new_is p t es = ap expr (sym (variant.rolls-New p t es)) ∙ fold-roll-TypedExpr ExprTree Behind Behind expr_step link_step step_step (shape.New p t es)

pub new_array_is : (p : Place) (t : ClassId) (a : Box TypedExpr Global) → expr (variant.NewArray p t a) ≡ NewArrayOf p t.0 (expr a.value)
new_array_is p t a = ap expr (sym (variant.rolls-NewArray p t a)) ∙ fold-roll-TypedExpr ExprTree Behind Behind expr_step link_step step_step (shape.NewArray p t a)

pub static_is : (p : Place) (n : BodyId) (t : Option Ty) (es : Vec TypedExpr Global) → expr (variant.Static p n t es) ≡ StaticOf p n.0 t (arguments (exprs es.items))
static_is p n t es = ap expr (sym (variant.rolls-Static p n t es)) ∙ fold-roll-TypedExpr ExprTree Behind Behind expr_step link_step step_step (shape.Static p n t es)

pub base_is : (p : Place) (m : ℕ) (t : Option Ty) (es : Vec TypedExpr Global) → expr (variant.Base p m t es) ≡ BaseOf p m t (arguments (exprs es.items))
base_is p m t es = ap expr (sym (variant.rolls-Base p m t es)) ∙ fold-roll-TypedExpr ExprTree Behind Behind expr_step link_step step_step (shape.Base p m t es)
