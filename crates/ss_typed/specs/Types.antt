-- The static type of an expression, as it is declared: what is known of null at a place isn't in it.
use Rattle.std.specs.Prelude.{ℕ, Bool, true, false, Option, Some, None, ◌==◌, ◌-◌, if◌then◌else◌}
use Rattle.ss_core.specs.declared.names.Ty.{Ty}
use Rattle.ss_core.specs.declared.names.Ty.TheVariants as ty
pub use Rattle.ss_core.specs.Kinds.{element_type}
pub use Rattle.ss_core.specs.Operations.{operation_type}
use Rattle.ss_typed.specs.Tree.{ExprTree, IntOf, BoolOf, NullOf, ThisOf, LocalOf, ResultOf, BoundOf, IffOf, ImpliesOf, BinaryOf, IsOf, AsOf, NegateOf, NotOf, CastOf, FieldOf, ElementOf, LengthOf, OldOf, QuantifiedOf, StateOf, OwnersOf, NewOf, NewArrayOf, CallOf, StaticOf, BaseOf}

-- the type of a class, with or without null
abbrev pub class_type : ℕ → Bool → Ty
class_type t non_null = ty.Ref (record { 0 = t }) non_null

abbrev pub element_of : Option Ty → Option Ty
element_of (Some (ty.Ref t non_null)) = Some (element_type t.0)
element_of a = None

-- A call of a method without a result has no type.
abbrev pub type_of : ExprTree → Option Ty
type_of (IntOf p n) = Some ty.Int
type_of (BoolOf p b) = Some ty.Bool
type_of (NullOf p) = Some ty.Null
type_of (ThisOf p t) = Some (class_type t true)
type_of (LocalOf p x t) = Some t
type_of (ResultOf p t) = t
type_of (BoundOf p n) = Some ty.Int
type_of (IffOf p a b) = Some ty.Bool
type_of (ImpliesOf p a b) = Some ty.Bool
type_of (BinaryOf p o a b) = Some (operation_type o)
type_of (IsOf p e t) = Some ty.Bool
type_of (AsOf p e t) = Some (class_type t false)
type_of (NegateOf p e) = Some ty.Int
type_of (NotOf p e) = Some ty.Bool
type_of (CastOf p t non_null e) = Some (class_type t non_null)
type_of (FieldOf p e f t) = Some t
type_of (ElementOf p a i) = element_of (type_of a)
type_of (LengthOf p e) = Some ty.Int
type_of (OldOf p e) = type_of e
type_of (QuantifiedOf p q name low high e) = Some ty.Bool
type_of (StateOf p w e) = Some ty.Bool
type_of (OwnersOf p w a b) = Some ty.Bool
type_of (NewOf p t es) = Some (class_type t true)
type_of (NewArrayOf p t e) = Some (class_type t true)
type_of (CallOf p e m t es) = t
type_of (StaticOf p n t es) = t
type_of (BaseOf p m t es) = t
