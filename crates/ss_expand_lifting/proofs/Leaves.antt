-- The forms of expressions that are no operations and make nothing stay as they are.
use Rattle.std.proofs.Common.{◌≡◌, ℕ, Bool, Option, Vec, Box, Global, List, refl, sym, ap, ◌∙◌, rules}
use Rattle.ss_core.specs.declared.names.Place.{Place}
use Rattle.ss_core.specs.declared.names.ClassId.{ClassId}
use Rattle.ss_core.specs.declared.names.BodyId.{BodyId}
use Rattle.ss_core.specs.declared.names.Ty.{Ty}
use Rattle.ss_typed.specs.declared.expr.TypedExpr.{TypedExpr, out-TypedExpr, roll-TypedExpr, the_lemmas}
use Rattle.ss_typed.specs.declared.expr.TypedExpr.TheFolds.{fold-roll-TypedExpr}
use Rattle.ss_typed.specs.declared.expr.TypedExpr.TheVariants as variant
use Rattle.ss_typed.specs.declared.expr.TypedExpr.TheOpen as shape
use Rattle.ss_typed.specs.declared.expr.TypedExpr.TheOpen.{TypedExpr-F}
use Rattle.ss_typed.specs.declared.expr.TypedLink.{TypedLink}
use Rattle.ss_typed.specs.declared.expr.TypedStep.{TypedStep}
use Rattle.ss_typed.specs.Tree.{ExprTree}
use Rattle.ss_typed.specs.View.{Behind, expr_step, link_step, step_step, expr}
use Rattle.ss_expand_rules.specs.Numbers.{plain}
use Rattle.ss_expand_rules.specs.Lifting.{ElaborationContext, lifted, unlifted}

unrolled : (e : TypedExpr) → e ≡ roll-TypedExpr (out-TypedExpr e)
unrolled e = search (rules, the_lemmas)

-- an expression of another form than these
pub record IsOther (e : TypedExpr) : Type 0 where
  pub iff : (p : Place) (a b : Box TypedExpr Global) → e ≡ variant.Iff p a b → ⊥
  pub implies : (p : Place) (a b : Box TypedExpr Global) → e ≡ variant.Implies p a b → ⊥
  pub chain : (p : Place) (a : Box TypedExpr Global) (ls : Vec TypedLink Global) → e ≡ variant.Chain p a ls → ⊥
  pub negate : (p : Place) (a : Box TypedExpr Global) → e ≡ variant.Negate p a → ⊥
  pub no : (p : Place) (a : Box TypedExpr Global) → e ≡ variant.Not p a → ⊥
  pub cast : (p : Place) (t : ClassId) (non_null : Bool) (a : Box TypedExpr Global) → e ≡ variant.Cast p t non_null a → ⊥
  pub path : (p : Place) (a : Box TypedExpr Global) (ss : Vec TypedStep Global) → e ≡ variant.Path p a ss → ⊥
  pub new : (p : Place) (t : ClassId) (es : Vec TypedExpr Global) → e ≡ variant.New p t es → ⊥
  pub new_array : (p : Place) (t : ClassId) (a : Box TypedExpr Global) → e ≡ variant.NewArray p t a → ⊥
  pub static : (p : Place) (n : BodyId) (t : Option Ty) (es : Vec TypedExpr Global) → e ≡ variant.Static p n t es → ⊥
  pub base : (p : Place) (m : ℕ) (t : Option Ty) (es : Vec TypedExpr Global) → e ≡ variant.Base p m t es → ⊥

module _ (s : ElaborationContext) (types : List Ty) (e : TypedExpr) where
  by_its_tree : (x : ExprTree) → expr e ≡ x → lifted s x types ≡ unlifted (plain s.numbers x) types → lifted s (expr e) types ≡ unlifted (plain s.numbers (expr e)) types
  by_its_tree x is h = ap (λ z. lifted s z types) is ∙ h ∙ sym (ap (λ z. unlifted (plain s.numbers z) types) is)

  by_form : (y : TypedExpr-F TypedExpr TypedLink TypedStep) → e ≡ roll-TypedExpr y → IsOther e → lifted s (expr e) types ≡ unlifted (plain s.numbers (expr e)) types
  by_form (shape.Int p n) is o = by_its_tree _ (ap expr is ∙ fold-roll-TypedExpr ExprTree Behind Behind expr_step link_step step_step (shape.Int p n)) refl
  by_form (shape.Bool p b) is o = by_its_tree _ (ap expr is ∙ fold-roll-TypedExpr ExprTree Behind Behind expr_step link_step step_step (shape.Bool p b)) refl
  by_form (shape.Null p) is o = by_its_tree _ (ap expr is ∙ fold-roll-TypedExpr ExprTree Behind Behind expr_step link_step step_step (shape.Null p)) refl
  by_form (shape.This p t) is o = by_its_tree _ (ap expr is ∙ fold-roll-TypedExpr ExprTree Behind Behind expr_step link_step step_step (shape.This p t)) refl
  by_form (shape.Local p x t) is o = by_its_tree _ (ap expr is ∙ fold-roll-TypedExpr ExprTree Behind Behind expr_step link_step step_step (shape.Local p x t)) refl
  by_form (shape.Result p t) is o = by_its_tree _ (ap expr is ∙ fold-roll-TypedExpr ExprTree Behind Behind expr_step link_step step_step (shape.Result p t)) refl
  by_form (shape.Bound p n) is o = by_its_tree _ (ap expr is ∙ fold-roll-TypedExpr ExprTree Behind Behind expr_step link_step step_step (shape.Bound p n)) refl
  by_form (shape.Old p a) is o = by_its_tree _ (ap expr is ∙ fold-roll-TypedExpr ExprTree Behind Behind expr_step link_step step_step (shape.Old p a)) refl
  by_form (shape.Quantified p q n low high a) is o = by_its_tree _ (ap expr is ∙ fold-roll-TypedExpr ExprTree Behind Behind expr_step link_step step_step (shape.Quantified p q n low high a)) refl
  by_form (shape.State p w a) is o = by_its_tree _ (ap expr is ∙ fold-roll-TypedExpr ExprTree Behind Behind expr_step link_step step_step (shape.State p w a)) refl
  by_form (shape.Owners p w a b) is o = by_its_tree _ (ap expr is ∙ fold-roll-TypedExpr ExprTree Behind Behind expr_step link_step step_step (shape.Owners p w a b)) refl
  by_form (shape.Iff p a b) is o = absurd (o.iff p a b (is ∙ variant.rolls-Iff p a b))
  by_form (shape.Implies p a b) is o = absurd (o.implies p a b (is ∙ variant.rolls-Implies p a b))
  by_form (shape.Chain p a ls) is o = absurd (o.chain p a ls (is ∙ variant.rolls-Chain p a ls))
  by_form (shape.Negate p a) is o = absurd (o.negate p a (is ∙ variant.rolls-Negate p a))
  by_form (shape.Not p a) is o = absurd (o.no p a (is ∙ variant.rolls-Not p a))
  by_form (shape.Cast p t non_null a) is o = absurd (o.cast p t non_null a (is ∙ variant.rolls-Cast p t non_null a))
  by_form (shape.Path p a ss) is o = absurd (o.path p a ss (is ∙ variant.rolls-Path p a ss))
  by_form (shape.New p t es) is o = absurd (o.new p t es (is ∙ variant.rolls-New p t es))
  by_form (shape.NewArray p t a) is o = absurd (o.new_array p t a (is ∙ variant.rolls-NewArray p t a))
  by_form (shape.Static p n t es) is o = absurd (o.static p n t es (is ∙ variant.rolls-Static p n t es))
  by_form (shape.Base p m t es) is o = absurd (o.base p m t es (is ∙ variant.rolls-Base p m t es))

  pub others_stay : IsOther e → lifted s (expr e) types ≡ unlifted (plain s.numbers (expr e)) types
  others_stay o = by_form (out-TypedExpr e) (unrolled e) o
