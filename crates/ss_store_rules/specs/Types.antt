-- Types of expressions without regard to null: whether one may be null is said elsewhere.
use Rattle.std.specs.Prelude.{ℕ, List, [], ◌∷◌, ◌++◌, Bool, true, false, not, ◌&&◌, ◌||◌, if◌then◌else◌, Option, Some, None, option_map, slice_get}
use Rattle.ss_core.specs.declared.names.Ty.{Ty}
use Rattle.ss_core.specs.declared.names.Ty.TheVariants as ty
use Rattle.ss_core.specs.declared.expr.Operator.{Operator}
use Rattle.ss_core.specs.declared.expr.Operator.TheVariants as op
use Rattle.ss_core.specs.Tree.{ClassTree, WordTree, New, Level, Packed, OwnersTree, SameOwner, OwnedAt, ExprTree, IntExpr, BoolExpr, NullExpr, LocalExpr, FieldExpr, ElementExpr, LengthExpr, NegateExpr, NotExpr, BinaryExpr, ImpliesExpr, IffExpr, IsExpr, AsExpr, CastExpr, OldExpr, QuantifiedExpr, StateExpr, OwnersExpr, DefaultExpr, BodyTree}
use Rattle.ss_core.specs.Chain.{sub, is_class, DeclaredField, all_fields}
use Rattle.ss_core.specs.Types.{nullable}
use Rattle.ss_store_rules.specs.Numbers.{fits}
use Rattle.ss_store_rules.specs.Changes.{below, is_array, element_type}
use Rattle.ss_store_rules.specs.Locals.{local_types, is_result, everywhere}

-- ---- types

abbrev pub class_type : ℕ → Ty
class_type t = ty.Ref (record { 0 = t }) false

-- a value of the first type may stand where one of the second is wanted, as far as null isn't asked
abbrev pub fits_type : List ClassTree → Ty → Ty → Bool
fits_type cs ty.Int ty.Int = true
fits_type cs ty.Bool ty.Bool = true
fits_type cs ty.Null (ty.Ref t n) = true
fits_type cs (ty.Ref c m) (ty.Ref t n) = sub cs c.0 t.0
fits_type cs a t = false

-- There is a type, and it fits.
abbrev pub has_fitting : List ClassTree → Option Ty → Ty → Bool
has_fitting cs None t = false
has_fitting cs (Some a) t = fits_type cs a t

abbrev pub is_int : Option Ty → Bool
is_int (Some ty.Int) = true
is_int a = false

abbrev pub is_bool : Option Ty → Bool
is_bool (Some ty.Bool) = true
is_bool a = false

-- the type of a class, and the class is such a one
abbrev pub has_class : (ℕ → Bool) → Option Ty → Bool
has_class test (Some (ty.Ref t n)) = test t.0
has_class test a = false

-- the type of a class or of null
abbrev pub is_reference : Option Ty → Bool
is_reference (Some (ty.Ref t n)) = true
is_reference (Some ty.Null) = true
is_reference a = false

-- ---- operations

abbrev pub where_typed : Bool → Ty → Option Ty
where_typed condition t = if condition then Some t else None

-- a field is read from an object of the class that declares it, or of one below
abbrev pub field_read_type : List ClassTree → Option Ty → Option DeclaredField → Option Ty
field_read_type cs a None = None
field_read_type cs a (Some d) = where_typed (has_class (λ c. below cs c d.class) a) (nullable d.field.ty)

abbrev pub element_of : List ClassTree → Option Ty → Option Ty
element_of cs (Some (ty.Ref t n)) = where_typed (is_array cs t.0) (element_type t.0)
element_of cs a = None

abbrev pub element_read_type : List ClassTree → Option Ty → Option Ty → Option Ty
element_read_type cs a i = if is_int i then element_of cs a else None

-- two numbers, two truth values, or two references of whatever classes
abbrev pub are_comparable : Option Ty → Option Ty → Bool
are_comparable a b = is_int a && is_int b || is_bool a && is_bool b || is_reference a && is_reference b

abbrev pub operation_type : Operator → Option Ty → Option Ty → Option Ty
operation_type op.Or a b = where_typed (is_bool a && is_bool b) ty.Bool
operation_type op.And a b = where_typed (is_bool a && is_bool b) ty.Bool
operation_type op.Equal a b = where_typed (are_comparable a b) ty.Bool
operation_type op.NotEqual a b = where_typed (are_comparable a b) ty.Bool
operation_type op.Less a b = where_typed (is_int a && is_int b) ty.Bool
operation_type op.LessEqual a b = where_typed (is_int a && is_int b) ty.Bool
operation_type op.Greater a b = where_typed (is_int a && is_int b) ty.Bool
operation_type op.GreaterEqual a b = where_typed (is_int a && is_int b) ty.Bool
operation_type op.Add a b = where_typed (is_int a && is_int b) ty.Int
operation_type op.Subtract a b = where_typed (is_int a && is_int b) ty.Int
operation_type op.Multiply a b = where_typed (is_int a && is_int b) ty.Int
operation_type op.Divide a b = where_typed (is_int a && is_int b) ty.Int
operation_type op.Remainder a b = where_typed (is_int a && is_int b) ty.Int

-- the class that the question names, if it names one, is of the table
abbrev pub is_word : List ClassTree → WordTree → Bool
is_word cs (Level t) = is_class cs t
is_word cs (Packed t) = is_class cs t
is_word cs w = true

abbrev pub is_owners_word : List ClassTree → OwnersTree → Bool
is_owners_word cs SameOwner = true
is_owners_word cs (OwnedAt t) = is_class cs t

-- ---- expressions

-- the type of the expression, where the locals have these types; none where its parts don't fit
abbrev pub type_of : List ClassTree → List Ty → ExprTree → Option Ty
type_of cs tys (IntExpr p n) = where_typed (fits n) ty.Int
type_of cs tys (BoolExpr p b) = Some ty.Bool
type_of cs tys (NullExpr p) = Some ty.Null
type_of cs tys (LocalExpr p x) = option_map nullable (slice_get tys x)
type_of cs tys (FieldExpr p e f) = field_read_type cs (type_of cs tys e) (slice_get (all_fields cs) f)
type_of cs tys (ElementExpr p a i) = element_read_type cs (type_of cs tys a) (type_of cs tys i)
type_of cs tys (LengthExpr p e) = where_typed (has_class (is_array cs) (type_of cs tys e)) ty.Int
type_of cs tys (NegateExpr p e) = where_typed (is_int (type_of cs tys e)) ty.Int
type_of cs tys (NotExpr p e) = where_typed (is_bool (type_of cs tys e)) ty.Bool
type_of cs tys (BinaryExpr p o a b) = operation_type o (type_of cs tys a) (type_of cs tys b)
type_of cs tys (ImpliesExpr p a b) = where_typed (is_bool (type_of cs tys a) && is_bool (type_of cs tys b)) ty.Bool
type_of cs tys (IffExpr p a b) = where_typed (is_bool (type_of cs tys a) && is_bool (type_of cs tys b)) ty.Bool
type_of cs tys (IsExpr p e t) = where_typed (is_reference (type_of cs tys e) && is_class cs t) ty.Bool
type_of cs tys (AsExpr p e t) = where_typed (is_reference (type_of cs tys e) && is_class cs t) (class_type t)
type_of cs tys (CastExpr p t non_null e) = where_typed (is_reference (type_of cs tys e) && is_class cs t) (class_type t)
type_of cs tys (OldExpr p e) = type_of cs tys e
type_of cs tys (QuantifiedExpr p q name low high e) =
    where_typed (is_int (type_of cs tys low) && is_int (type_of cs tys high) && is_bool (type_of cs (tys ++ ty.Int ∷ []) e)) ty.Bool
type_of cs tys (StateExpr p w e) = where_typed (is_reference (type_of cs tys e) && is_word cs w) ty.Bool
type_of cs tys (OwnersExpr p w a b) = where_typed (is_reference (type_of cs tys a) && is_reference (type_of cs tys b) && is_owners_word cs w) ty.Bool
type_of cs tys (DefaultExpr p d) = Some ty.Bool

-- ---- what may stand where

-- What an expression may have beside what all code may: questions about levels and owners, what looks back to the entry of the
-- body, and the result.
pub record Words : Type 0 where
  pub states : Bool
  pub entry : Bool
  pub result : Bool

-- in code, in an `assume`, in a class invariant and in what a body may change
abbrev pub in_code : Words
in_code = record { states = false; entry = false; result = false }

-- in a condition at entry
abbrev pub in_requires : Words
in_requires = record { states = true; entry = false; result = false }

-- in an `assert` and in a loop invariant
abbrev pub in_assert : Words
in_assert = record { states = true; entry = true; result = false }

-- in a condition at exit
abbrev pub in_ensures : Words
in_ensures = record { states = true; entry = true; result = true }

-- the expression itself, without its parts, is allowed; a default condition is no part of any other expression
abbrev pub is_allowed : BodyTree → Words → ExprTree → Bool
is_allowed b w (LocalExpr p x) = w.result || not (is_result b x)
is_allowed b w (OldExpr p e) = w.entry
is_allowed b w (StateExpr p New e) = w.entry
is_allowed b w (StateExpr p k e) = w.states
is_allowed b w (OwnersExpr p k x y) = w.states
is_allowed b w (DefaultExpr p d) = false
is_allowed b w e = true

-- the type of an expression of the body, which has these words alone
abbrev pub typed : List ClassTree → BodyTree → Words → ExprTree → Option Ty
typed cs b w e = if everywhere (is_allowed b w) e then type_of cs (local_types b) e else None

abbrev pub code_type : List ClassTree → BodyTree → ExprTree → Option Ty
code_type cs b e = typed cs b in_code e

-- it is a truth value
abbrev pub is_condition : List ClassTree → BodyTree → Words → ExprTree → Bool
is_condition cs b w e = is_bool (typed cs b w e)
