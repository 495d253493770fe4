-- Literals and locals by the forms of expressions.
use Rattle.std.proofs.Common.{◌≡◌, ℕ, Bool, false, Option, Some, None, refl}
use Rattle.std.specs.Prelude.{◌==◌}
use Rattle.ss_core.specs.declared.names.Place.{Place}
use Rattle.ss_core.specs.declared.expr.Expr.TheOpen as shape
use Rattle.ss_core.specs.declared.expr.Expr.TheOpen.{Link-F, Step-F}
use Rattle.ss_core.specs.Tree.{ExprTree, IntExpr, BoolExpr, NullExpr, LocalExpr, FieldExpr, ElementExpr, LengthExpr, NegateExpr, NotExpr, BinaryExpr, ImpliesExpr, IffExpr, IsExpr, AsExpr, CastExpr, OldExpr, QuantifiedExpr, StateExpr, OwnersExpr, DefaultExpr}
use Rattle.ss_core.specs.View.{Behind, link_step, step_step}
use Rattle.ss_store_rules.specs.Admissible.{is_this}
use Rattle.ss_store_rules.specs.NonNull.{Site, Known, is_null_literal, is_this_object, is_never_null}
use Rattle.ss_store_rules.specs.Paths.{is_literal_true}
use Rattle.ss_vcgen_types.specs.Told.{local_of}

pub link_not_true : (s : Link-F ExprTree Behind Behind) (p : Place) (t : ExprTree) → is_literal_true (link_step s p t) ≡ false
link_not_true (shape.Operation o b) p t = refl
link_not_true (shape.Is c) p t = refl
link_not_true (shape.As c) p t = refl

pub step_not_true : (s : Step-F ExprTree Behind Behind) (p : Place) (t : ExprTree) → is_literal_true (step_step s p t) ≡ false
step_not_true (shape.Field f) p t = refl
step_not_true (shape.Element i) p t = refl
step_not_true shape.Length p t = refl

pub link_not_null : (s : Link-F ExprTree Behind Behind) (p : Place) (t : ExprTree) → is_null_literal (link_step s p t) ≡ false
link_not_null (shape.Operation o b) p t = refl
link_not_null (shape.Is c) p t = refl
link_not_null (shape.As c) p t = refl

pub step_not_null : (s : Step-F ExprTree Behind Behind) (p : Place) (t : ExprTree) → is_null_literal (step_step s p t) ≡ false
step_not_null (shape.Field f) p t = refl
step_not_null (shape.Element i) p t = refl
step_not_null shape.Length p t = refl

pub link_no_local : (s : Link-F ExprTree Behind Behind) (p : Place) (t : ExprTree) → local_of (link_step s p t) ≡ None
link_no_local (shape.Operation o b) p t = refl
link_no_local (shape.Is c) p t = refl
link_no_local (shape.As c) p t = refl

pub step_no_local : (s : Step-F ExprTree Behind Behind) (p : Place) (t : ExprTree) → local_of (step_step s p t) ≡ None
step_no_local (shape.Field f) p t = refl
step_no_local (shape.Element i) p t = refl
step_no_local shape.Length p t = refl

pub step_not_this : (s : Step-F ExprTree Behind Behind) (p : Place) (t : ExprTree) → is_this_object (step_step s p t) ≡ false
step_not_this (shape.Field f) p t = refl
step_not_this (shape.Element i) p t = refl
step_not_this shape.Length p t = refl

-- ---- `this` is the local 0

abbrev pub is_first : Option ℕ → Bool
is_first None = false
is_first (Some x) = x == 0

pub this_is : (e : ExprTree) → is_this e ≡ is_first (local_of e)
this_is (IntExpr p n) = refl
this_is (BoolExpr p b) = refl
this_is (NullExpr p) = refl
this_is (LocalExpr p x) = refl
this_is (FieldExpr p e f) = refl
this_is (ElementExpr p a i) = refl
this_is (LengthExpr p e) = refl
this_is (NegateExpr p e) = refl
this_is (NotExpr p e) = refl
this_is (BinaryExpr p o a b) = refl
this_is (ImpliesExpr p a b) = refl
this_is (IffExpr p a b) = refl
this_is (IsExpr p e t) = refl
this_is (AsExpr p e t) = refl
this_is (CastExpr p t n e) = refl
this_is (OldExpr p e) = refl
this_is (QuantifiedExpr p q n l h e) = refl
this_is (StateExpr p w e) = refl
this_is (OwnersExpr p w a b) = refl
this_is (DefaultExpr p d) = refl

-- a chain with at least one link may be null
pub link_may : (site : Site) (k : Known) (old : Bool) (s : Link-F ExprTree Behind Behind) (p : Place) (t : ExprTree) → is_never_null site k old (link_step s p t) ≡ false
link_may site k old (shape.Operation o b) p t = refl
link_may site k old (shape.Is c) p t = refl
link_may site k old (shape.As c) p t = refl
