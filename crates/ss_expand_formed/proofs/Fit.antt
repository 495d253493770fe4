-- Resolved expressions whose parts are of the types that are wanted of them.
use Rattle.std.proofs.Common.{◌≡◌, ℕ, suc, ◌<◌, List, [], ◌∷◌, Bool, true, false, Option, Some}
use Rattle.std.specs.Prelude.{slice_get}
use Rattle.ss_core.specs.declared.names.Ty.{Ty}
use Rattle.ss_core.specs.Tree as core
use Rattle.ss_core.specs.Chain.{is_class, is_declared, DeclaredField, all_fields}
use Rattle.ss_typed.specs.Tree.{ExprTree, IntOf, BoolOf, NullOf, ThisOf, LocalOf, ResultOf, BoundOf, IffOf, ImpliesOf, BinaryOf, IsOf, AsOf, NegateOf, NotOf, CastOf, FieldOf, ElementOf, LengthOf, OldOf, QuantifiedOf, StateOf, OwnersOf, NewOf, NewArrayOf, CallOf, StaticOf, BaseOf, Arguments, NoMore, Argument, BodyTree, TypedTree}
use Rattle.ss_typed.specs.Types.{class_type, type_of}
use Rattle.ss_typed.specs.Types as typed
use Rattle.ss_expand_rules.specs.Program.{above_of, method_at}
use Rattle.ss_typed.specs.Lookups.{body_at, constructor_of, param_types_in}
use Rattle.ss_expand_rules.specs.Lifting.{static_class}
use Rattle.ss_store_rules.specs.Numbers.{fits}
use Rattle.ss_store_rules.specs.Changes.{below, is_array}
use Rattle.ss_store_rules.specs.Types.{has_fitting, is_int, is_bool, has_class, is_reference, operation_type, is_word, is_owners_word}

-- where an expression stands: the types of `this`, the parameters and the declared locals by number, that of the result, and the class
pub record Context : Type 0 where
  pub is_static : Bool
  pub class : ℕ
  pub locals : List Ty
  pub result : Option Ty

-- the method that a call names, static or not, with this result
pub record IsCallee (m : Option BodyTree) (static : Bool) (t : Option Ty) : Type 0 where
  pub body : BodyTree
  pub is : m ≡ Some body
  pub static_as : body.flags.is_static ≡ static
  pub no_constructor : body.flags.ctor ≡ false
  pub result : body.result ≡ t

-- a field that an object of this type has
pub record IsRead (C : List core.ClassTree) (o : Option Ty) (f : ℕ) (t : Ty) : Type 0 where
  pub field : DeclaredField
  pub there : slice_get (all_fields C) f ≡ Some field
  pub has : has_class (λ c. below C c field.class) o ≡ true
  pub type : field.field.ty ≡ t

module _ (P : TypedTree) (C : List core.ClassTree) (x : Context) where
  abbrev mutual
    -- so many quantifiers stand around the expression
    pub Fit : ℕ → ExprTree → Type 0
    Fit k (IntOf p n) = fits n ≡ true
    Fit k (BoolOf p b) = Unit {0}
    Fit k (NullOf p) = Unit {0}
    Fit k (ThisOf p t) = slice_get x.locals 0 ≡ Some (class_type t true)
    Fit k (LocalOf p y t) = slice_get x.locals y ≡ Some t
    Fit k (ResultOf p t) = (u : Ty) × (t ≡ Some u) × (x.result ≡ Some u)
    Fit k (BoundOf p n) = n < k
    Fit k (IffOf p a b) = Fit k a × Fit k b × (is_bool (type_of a) ≡ true) × (is_bool (type_of b) ≡ true)
    Fit k (ImpliesOf p a b) = Fit k a × Fit k b × (is_bool (type_of a) ≡ true) × (is_bool (type_of b) ≡ true)
    Fit k (BinaryOf p o a b) = Fit k a × Fit k b × (operation_type o (type_of a) (type_of b) ≡ Some (typed.operation_type o))
    Fit k (IsOf p e t) = Fit k e × (is_reference (type_of e) ≡ true) × (is_class C t ≡ true)
    Fit k (AsOf p e t) = Fit k e × (is_reference (type_of e) ≡ true) × (is_class C t ≡ true)
    Fit k (NegateOf p e) = Fit k e × (is_int (type_of e) ≡ true)
    Fit k (NotOf p e) = Fit k e × (is_bool (type_of e) ≡ true)
    Fit k (CastOf p t non_null e) = Fit k e × (is_reference (type_of e) ≡ true) × (is_class C t ≡ true)
    Fit k (FieldOf p e f t) = Fit k e × IsRead C (type_of e) f t
    Fit k (ElementOf p a i) = Fit k a × Fit k i × (has_class (is_array C) (type_of a) ≡ true) × (is_int (type_of i) ≡ true)
    Fit k (LengthOf p e) = Fit k e × (has_class (is_array C) (type_of e) ≡ true)
    Fit k (OldOf p e) = Fit k e
    Fit k (QuantifiedOf p q name low high e) = Fit k low × Fit k high × Fit (suc k) e × (is_int (type_of low) ≡ true) × (is_int (type_of high) ≡ true) × (is_bool (type_of e) ≡ true)
    Fit k (StateOf p w e) = Fit k e × (is_reference (type_of e) ≡ true) × (is_word C w ≡ true)
    Fit k (OwnersOf p w a b) = Fit k a × Fit k b × (is_reference (type_of a) ≡ true) × (is_reference (type_of b) ≡ true) × (is_owners_word C w ≡ true)
    Fit k (NewOf p t es) = (is_declared C t ≡ true) × Fits k es (param_types_in (constructor_of P t))
    Fit k (NewArrayOf p t e) = Fit k e × (is_array C t ≡ true) × (is_int (type_of e) ≡ true)
    Fit k (CallOf p e m t es) = Fit k e × (has_class (is_declared C) (type_of e) ≡ true) × IsCallee (method_at P (static_class e) m) false t × Fits k es (param_types_in (method_at P (static_class e) m))
    Fit k (StaticOf p n t es) = IsCallee (body_at P n) true t × Fits k es (param_types_in (body_at P n))
    Fit k (BaseOf p m t es) = (x.is_static ≡ false) × IsCallee (method_at P (above_of P x.class) m) false t × Fits k es (param_types_in (method_at P (above_of P x.class) m))

    -- each argument fits the type in its place, and there are as many
    pub Fits : ℕ → Arguments → List Ty → Type 0
    Fits k NoMore [] = Unit {0}
    Fits k NoMore (t ∷ ts) = ⊥
    Fits k (Argument e es) [] = ⊥
    Fits k (Argument e es) (t ∷ ts) = Fit k e × (has_fitting C (type_of e) t ≡ true) × Fits k es ts
