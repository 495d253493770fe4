-- What fits in a context fits in one with more locals.
use Rattle.std.proofs.Common.{◌≡◌, ℕ, suc, List, [], ◌∷◌, Some, sym, ◌∙◌, subst, true, false}
use Rattle.std.specs.Prelude.{slice_get}
use Rattle.ss_core.specs.declared.names.Ty.{Ty}
use Rattle.ss_core.specs.Tree as core
use Rattle.ss_typed.specs.Tree.{ExprTree, IntOf, BoolOf, NullOf, ThisOf, LocalOf, ResultOf, BoundOf, IffOf, ImpliesOf, BinaryOf, IsOf, AsOf, NegateOf, NotOf, CastOf, FieldOf, ElementOf, LengthOf, OldOf, QuantifiedOf, StateOf, OwnersOf, NewOf, NewArrayOf, CallOf, StaticOf, BaseOf, Arguments, NoMore, Argument, TypedTree}
use Rattle.ss_typed.specs.Types.{class_type}
use Rattle.ss_expand_rules.specs.Program.{above_of, method_at}
use Rattle.ss_typed.specs.Lookups.{param_types_in}
use Rattle.ss_expand_formed.proofs.Fit.{Context, IsCallee, Fit, Fits}

pub record Wider (x y : Context) : Type 0 where
  pub is_static : x.is_static ≡ y.is_static
  pub class : x.class ≡ y.class
  pub locals : (n : ℕ) (t : Ty) → slice_get x.locals n ≡ Some t → slice_get y.locals n ≡ Some t
  pub result : x.result ≡ y.result

module _ (P : TypedTree) (C : List core.ClassTree) (x y : Context) (w : Wider x y) where
  mutual
    pub fit_wider : (k : ℕ) (e : ExprTree) → Fit P C x k e → Fit P C y k e
    fit_wider k (IntOf p n) f = f
    fit_wider k (BoolOf p b) f = f
    fit_wider k (NullOf p) f = f
    fit_wider k (ThisOf p t) f = w.locals 0 (class_type t true) f
    fit_wider k (LocalOf p n t) f = w.locals n t f
    fit_wider k (ResultOf p t) f = (f.0, f.1, sym w.result ∙ f.2)
    fit_wider k (BoundOf p n) f = f
    fit_wider k (IffOf p a b) f = (fit_wider k a f.0, fit_wider k b f.1, f.2, f.3)
    fit_wider k (ImpliesOf p a b) f = (fit_wider k a f.0, fit_wider k b f.1, f.2, f.3)
    fit_wider k (BinaryOf p o a b) f = (fit_wider k a f.0, fit_wider k b f.1, f.2)
    fit_wider k (IsOf p e t) f = (fit_wider k e f.0, f.1, f.2)
    fit_wider k (AsOf p e t) f = (fit_wider k e f.0, f.1, f.2)
    fit_wider k (NegateOf p e) f = (fit_wider k e f.0, f.1)
    fit_wider k (NotOf p e) f = (fit_wider k e f.0, f.1)
    fit_wider k (CastOf p t non_null e) f = (fit_wider k e f.0, f.1, f.2)
    fit_wider k (FieldOf p e g t) f = (fit_wider k e f.0, f.1)
    fit_wider k (ElementOf p a i) f = (fit_wider k a f.0, fit_wider k i f.1, f.2, f.3)
    fit_wider k (LengthOf p e) f = (fit_wider k e f.0, f.1)
    fit_wider k (OldOf p e) f = fit_wider k e f
    fit_wider k (QuantifiedOf p q name low high e) f = (fit_wider k low f.0, fit_wider k high f.1, fit_wider (suc k) e f.2, f.3, f.4, f.5)
    fit_wider k (StateOf p v e) f = (fit_wider k e f.0, f.1, f.2)
    fit_wider k (OwnersOf p v a b) f = (fit_wider k a f.0, fit_wider k b f.1, f.2, f.3, f.4)
    fit_wider k (NewOf p t es) f = (f.0, fits_wider k es _ f.1)
    fit_wider k (NewArrayOf p t e) f = (fit_wider k e f.0, f.1, f.2)
    fit_wider k (CallOf p e m t es) f = (fit_wider k e f.0, f.1, f.2, fits_wider k es _ f.3)
    fit_wider k (StaticOf p n t es) f = (f.0, fits_wider k es _ f.1)
    fit_wider k (BaseOf p m t es) f = (
      sym w.is_static ∙ f.0,
      subst (λ (c : ℕ). IsCallee (method_at P (above_of P c) m) false t) w.class f.1,
      subst (λ (c : ℕ). Fits P C y k es (param_types_in (method_at P (above_of P c) m))) w.class (fits_wider k es _ f.2),
    )

    pub fits_wider : (k : ℕ) (es : Arguments) (ts : List Ty) → Fits P C x k es ts → Fits P C y k es ts
    fits_wider k NoMore [] f = f
    fits_wider k NoMore (t ∷ ts) f = absurd f
    fits_wider k (Argument e es) [] f = absurd f
    fits_wider k (Argument e es) (t ∷ ts) f = (fit_wider k e f.0, f.1, fits_wider k es ts f.2)
