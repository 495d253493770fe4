-- What is wanted where an expression stands, and which expressions don't suit.
use Rattle.std.specs.Prelude.{ℕ, ◌==◌, ◌&&◌, ◌||◌, not, Bool, true, false, List, [], ◌∷◌, Option, Some, None, is_some, is_none, option_and_then}
use Rattle.ss_core.specs.declared.names.Place.{Place}
use Rattle.ss_core.specs.declared.names.Ty.{Ty}
use Rattle.ss_core.specs.declared.names.Ty.TheVariants as ty
use Rattle.ss_ast.specs.Expressions.{ExprTree, IffOf, ImpliesOf, BinaryOf, IsOf, AsOf, NegateOf, NotOf, CastOf, MemberOf, ElementOf, CallOf, NumberOf, TextOf, TruthOf, NullOf, ThisOf, BaseOf, ResultOf, NameOf, ParenOf, OldOf, NewOf, NewArrayOf, QuantifiedOf}
use Rattle.ss_ast.specs.Programs.{ClassTree}
use Rattle.ss_tables.specs.Classes.{chain, is_array_number, declared_place}
use Rattle.ss_tables.specs.Types.{class_of}
use Rattle.ss_tables.specs.Scopes.{Scope}
use Rattle.ss_tables.specs.Statics.{Callee, AMethod, APrint, AWord, ABase, NoCallee, callee, count, called_with, static}
use Rattle.ss_faults.specs.declared.Fault.{Fault}
use Rattle.ss_resolver_types_heads.specs.Faults.{bad_type, fault_where}

-- ---- places

-- parentheses leave no trace
abbrev pub bare : ExprTree → ExprTree
bare (ParenOf p e) = bare e
bare e = e

-- the place of the first byte
abbrev pub place_of : ExprTree → Place
place_of (IffOf p a b) = p
place_of (ImpliesOf p a b) = p
place_of (BinaryOf p o a b) = p
place_of (IsOf p e t) = p
place_of (AsOf p e t) = p
place_of (NegateOf p e) = p
place_of (NotOf p e) = p
place_of (CastOf p t e) = p
place_of (MemberOf p e n) = p
place_of (ElementOf p e i) = p
place_of (CallOf p f es) = p
place_of (NumberOf p n) = p
place_of (TextOf p x) = p
place_of (TruthOf p b) = p
place_of (NullOf p) = p
place_of (ThisOf p) = p
place_of (BaseOf p) = p
place_of (ResultOf p) = p
place_of (NameOf p n) = p
place_of (ParenOf p e) = p
place_of (OldOf p e) = p
place_of (NewOf p n es) = p
place_of (NewArrayOf p q t e) = p
place_of (QuantifiedOf p q n low high e) = p

-- the place of an expression that doesn't suit is within its parentheses
abbrev pub place_within : ExprTree → Place
place_within e = place_of (bare e)

-- ---- types

abbrev pub in_chain : ℕ → List ℕ → Bool
in_chain j [] = false
in_chain j (k ∷ ks) = k == j || in_chain j ks

-- the declared class at the first place is the one at the second or stands above it
abbrev pub stands_above : List ClassTree → Option ℕ → Option ℕ → Bool
stands_above cs None k = false
stands_above cs (Some j) None = false
stands_above cs (Some j) (Some k) = in_chain j (chain cs k)

-- a class is below `object` and below itself, and a declared class below each class above it
abbrev pub is_below : List ClassTree → ℕ → ℕ → Bool
is_below cs c d = d == 0 || c == d || stands_above cs (declared_place d) (declared_place c)

abbrev pub is_int : Ty → Bool
is_int ty.Int = true
is_int ty.Bool = false
is_int ty.Null = false
is_int (ty.Ref c non_null) = false

abbrev pub is_bool : Ty → Bool
is_bool ty.Int = false
is_bool ty.Bool = true
is_bool ty.Null = false
is_bool (ty.Ref c non_null) = false

-- an object, an array or null
abbrev pub is_reference : Ty → Bool
is_reference ty.Int = false
is_reference ty.Bool = false
is_reference ty.Null = true
is_reference (ty.Ref c non_null) = true

abbrev pub is_null : Ty → Bool
is_null ty.Int = false
is_null ty.Bool = false
is_null ty.Null = true
is_null (ty.Ref c non_null) = false

abbrev pub is_array : Ty → Bool
is_array ty.Int = false
is_array ty.Bool = false
is_array ty.Null = false
is_array (ty.Ref c non_null) = is_array_number c.0

-- an object of this class or of one below
abbrev pub is_object_of : List ClassTree → ℕ → Ty → Bool
is_object_of cs d ty.Int = false
is_object_of cs d ty.Bool = false
is_object_of cs d ty.Null = false
is_object_of cs d (ty.Ref c non_null) = is_below cs c.0 d

-- an object of a declared class
abbrev pub is_declared : Ty → Bool
is_declared t = is_some (option_and_then declared_place (class_of t))

-- a value of the first type may stand where one of the second is wanted; the mark `!` is a matter of a later phase
abbrev pub may_stand_for : List ClassTree → Ty → Ty → Bool
may_stand_for cs t ty.Int = is_int t
may_stand_for cs t ty.Bool = is_bool t
may_stand_for cs t ty.Null = is_reference t
may_stand_for cs t (ty.Ref d non_null) = is_object_of cs d.0 t || is_null t

-- both are numbers, both are truth values, or both are references
abbrev pub are_alike : Ty → Ty → Bool
are_alike t u = (is_int t && is_int u) || (is_bool t && is_bool u) || (is_reference t && is_reference u)

-- ---- wants

pub data Want : Type 0 where
  AnInt : Want
  ABool : Want
  AReference : Want
  AnArray : Want
  AnyValue : Want
  -- a value of the type; None where it isn't known
  OfType : Option Ty → Want
  -- what `Console` writes: a number, a truth value, or a string
  Printable : Want
  -- an object of a declared class
  OfDeclared : Want
  -- an object of the class with this number, or of one below it
  OfClass : ℕ → Want
  -- the name of a class, which is no expression
  ClassName : Want

abbrev pub suits : List ClassTree → Want → Ty → Bool
suits cs AnInt t = is_int t
suits cs ABool t = is_bool t
suits cs AReference t = is_reference t
suits cs AnArray t = is_array t
suits cs AnyValue t = true
suits cs (OfType None) t = true
suits cs (OfType (Some u)) t = may_stand_for cs t u
suits cs Printable t = is_int t || is_bool t
suits cs OfDeclared t = is_declared t
suits cs (OfClass d) t = is_object_of cs d t
suits cs ClassName t = false

-- ---- what doesn't suit

abbrev pub gives_nothing : Callee → Bool
gives_nothing (AMethod m) = is_none m.member.result
gives_nothing (APrint is_line) = true
gives_nothing (AWord n) = false
gives_nothing ABase = false
gives_nothing NoCallee = false

-- a call without a result that isn't refused
abbrev pub has_no_value : Scope → ExprTree → Bool
has_no_value s (CallOf p f es) = gives_nothing (called_with (count es) (callee s f))
has_no_value s (ParenOf p e) = has_no_value s e
has_no_value s e = false

-- what is known of an expression: its place, its static type, and whether it is a call without a result
pub record Known : Type 0 where
  pub place : Place
  pub ty : Option Ty
  pub is_nothing : Bool

abbrev pub known : Scope → ExprTree → Known
known s e = record { place = place_within e; ty = static s e; is_nothing = has_no_value s e }

-- of what isn't known nothing is said
abbrev pub is_unsuited : List ClassTree → Want → Option Ty → Bool
is_unsuited cs w None = false
is_unsuited cs w (Some t) = not (suits cs w t)

-- it has no value, or a type that doesn't suit
abbrev pub misfit : List ClassTree → Want → Known → List Fault
misfit cs w v = fault_where (v.is_nothing || is_unsuited cs w v.ty) (bad_type v.place)

-- an expression that isn't what is wanted where it stands
abbrev pub wrong : Scope → Want → ExprTree → List Fault
wrong s w e = misfit s.classes w (known s e)
