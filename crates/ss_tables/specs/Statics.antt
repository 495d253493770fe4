-- The static type that the form of an expression gives it, whatever its parts are: `a + b` is an `int`. None where a value has
-- none, where a name is unknown, where a part has not the form that is wanted, and where a call, a `new` or what is of `this` is refused.
use Rattle.std.specs.Prelude.{ℕ, ◌+◌, ◌==◌, Bool, true, false, not, List, [], length, Option, Some, None, option_and_then, option_map, is_some, ◌&&◌, ◌||◌, slice_get, codes, if◌then◌else◌}
use Rattle.std.specs.Str.{bytes_eq}
use Rattle.ss_core.specs.declared.names.Ty.{Ty}
use Rattle.ss_core.specs.declared.names.Ty.TheVariants as ty
pub use Rattle.ss_core.specs.Operations.{operation_type}
use Rattle.ss_core.specs.Types.{nullable}
use Rattle.ss_ast.specs.Expressions.{TypeTree, ExprTree, Arguments, NoMore, Argument, IffOf, ImpliesOf, BinaryOf, IsOf, AsOf, NegateOf, NotOf, CastOf, MemberOf, ElementOf, CallOf, NumberOf, TextOf, TruthOf, NullOf, ThisOf, BaseOf, ResultOf, NameOf, ParenOf, OldOf, NewOf, NewArrayOf, QuantifiedOf}
use Rattle.ss_ast.specs.Programs.{ParamTree, ClassTree}
use Rattle.ss_tables.specs.Words.{is_console, is_owner, is_print, is_owner_word, is_state_read, is_state_call, is_state_word, is_length}
use Rattle.ss_tables.specs.Members.{FieldTree, MethodTree, ConstructorTree, constructors_in, is_static}
use Rattle.ss_tables.specs.Classes.{Declared, members_at, class_named, field_of, method_of, inherited_method, class_number, is_array_number, declared_place}
use Rattle.ss_tables.specs.Types.{reference, array_type, written_type, class_of, element_type}
use Rattle.ss_tables.specs.Scopes.{Local, Scope, local_named}

-- ---- what stands before a dot

pub data Receiver : Type 0 where
  -- the word `Console` or `Owner`, which no local hides
  TheConsole : Receiver
  TheOwner : Receiver
  -- the word `base`
  TheBase : Receiver
  -- a bare name that isn't a local or a member, but a class, told by its place
  AClass : ℕ → Receiver
  -- any other expression, with its static type
  AValue : Option Ty → Receiver

-- the members of the class and of those above it that a bare name may mean
abbrev pub is_member : List ClassTree → ℕ → List ℕ → Bool
is_member cs k n = is_some (field_of cs k n) || is_some (method_of cs k n)

-- a bare name means a local, else a field, else a method of the class or of one above
abbrev pub is_known : Scope → List ℕ → Bool
is_known s n = is_some (local_named s n) || is_member s.classes s.class n

abbrev pub class_or_value : Option ℕ → Option Ty → Receiver
class_or_value (Some k) t = AClass k
class_or_value None t = AValue t

-- a bare name before a dot, with its static type
abbrev pub name_receiver : Scope → List ℕ → Option Ty → Receiver
name_receiver s n t =
    if is_some (local_named s n) then AValue t
    else if is_console n then TheConsole
    else if is_owner n then TheOwner
    else if is_member s.classes s.class n then AValue t
    else class_or_value (class_named s.classes n) t

-- an expression before a dot, with its static type
abbrev pub receiver : Scope → ExprTree → Option Ty → Receiver
receiver s (NameOf p n) t = name_receiver s n t
receiver s (BaseOf p) t = TheBase
receiver s (IffOf p a b) t = AValue t
receiver s (ImpliesOf p a b) t = AValue t
receiver s (BinaryOf p o a b) t = AValue t
receiver s (IsOf p e u) t = AValue t
receiver s (AsOf p e u) t = AValue t
receiver s (NegateOf p e) t = AValue t
receiver s (NotOf p e) t = AValue t
receiver s (CastOf p u e) t = AValue t
receiver s (MemberOf p e n) t = AValue t
receiver s (ElementOf p e i) t = AValue t
receiver s (CallOf p e es) t = AValue t
receiver s (NumberOf p n) t = AValue t
receiver s (TextOf p x) t = AValue t
receiver s (TruthOf p b) t = AValue t
receiver s (NullOf p) t = AValue t
receiver s (ThisOf p) t = AValue t
receiver s (ResultOf p) t = AValue t
receiver s (ParenOf p e) t = AValue t
receiver s (OldOf p e) t = AValue t
receiver s (NewOf p n es) t = AValue t
receiver s (NewArrayOf p q u e) t = AValue t
receiver s (QuantifiedOf p q n low high e) t = AValue t

-- ---- reading a member

abbrev pub type_of_field : List ClassTree → Option (Declared FieldTree) → Option Ty
type_of_field cs None = None
type_of_field cs (Some f) = written_type cs f.member.ty

abbrev pub type_of_local : Option Local → Option Ty
type_of_local None = None
type_of_local (Some l) = l.ty

-- what is refused has no type
abbrev pub unless_refused : Bool → Option Ty → Option Ty
unless_refused is_refused t = if is_refused then None else t

abbrev pub this_type : Bool → ℕ → Option Ty
this_type is_refused k = unless_refused is_refused (Some (reference true (class_number k)))

-- a local, else a field of `this`
abbrev pub name_type : Scope → List ℕ → Option Ty
name_type s n =
    if is_some (local_named s n) then type_of_local (local_named s n)
    else unless_refused s.refuses_members (type_of_field s.classes (field_of s.classes s.class n))

-- the field of the declared class with this number
abbrev pub field_type : List ClassTree → List ℕ → Option ℕ → Option Ty
field_type cs n None = None
field_type cs n (Some k) = type_of_field cs (field_of cs k n)

-- a member of an object of this class: the length of an array, or a field
abbrev pub member_type : List ClassTree → List ℕ → Option ℕ → Option Ty
member_type cs n None = None
member_type cs n (Some t) =
    if is_array_number t then (if is_length n then Some ty.Int else None) else field_type cs n (declared_place t)

-- what is read after the dot; a state word is a truth value
abbrev pub read_type : List ClassTree → List ℕ → Receiver → Option Ty
read_type cs n TheConsole = None
read_type cs n TheOwner = None
read_type cs n TheBase = None
read_type cs n (AClass k) = None
read_type cs n (AValue t) =
    if is_state_read n then Some ty.Bool else if is_state_call n then None else member_type cs n (option_and_then class_of t)

-- ---- calls

pub data Callee : Type 0 where
  -- a method, with the class that declares it
  AMethod : Declared MethodTree → Callee
  -- `Console.Write`, or `Console.WriteLine`, where it is a line
  APrint : Bool → Callee
  -- A question about owners, or a state word that asks for a class, with the number of arguments that it takes. That is 0 where it asks about what
  -- isn't known.
  AWord : ℕ → Callee
  -- `base(..)`
  ABase : Callee
  -- nothing that can be called
  NoCallee : Callee

-- a method called by its bare name: one that isn't static is called on `this`
abbrev pub method_callee : Bool → Option (Declared MethodTree) → Callee
method_callee refuses_members None = NoCallee
method_callee refuses_members (Some m) = if refuses_members && not (is_static m.member) then NoCallee else AMethod m

abbrev pub is_of_kind : Bool → MethodTree → Bool
is_of_kind true m = is_static m
is_of_kind false m = not (is_static m)

-- a method that has to be static, or not to be
abbrev pub kind_callee : Bool → Option (Declared MethodTree) → Callee
kind_callee wants_static None = NoCallee
kind_callee wants_static (Some m) = if is_of_kind wants_static m.member then AMethod m else NoCallee

-- a local or a field hides a method of its name
abbrev pub name_callee : Scope → List ℕ → Callee
name_callee s n =
    if is_some (local_named s n) || is_some (field_of s.classes s.class n) then NoCallee
    else method_callee s.refuses_members (method_of s.classes s.class n)

abbrev pub method_at : List ClassTree → List ℕ → Option ℕ → Callee
method_at cs n None = NoCallee
method_at cs n (Some k) = kind_callee false (method_of cs k n)

-- how many arguments a question about owners takes
abbrev pub owner_count : List ℕ → ℕ
owner_count n = if bytes_eq n (codes "Is") then 3 else if bytes_eq n (codes "Same") then 2 else 1

-- a reference has a level, and an array always its full one; of null the question is asked as of any other reference
abbrev pub has_levels : Ty → Bool
has_levels ty.Int = false
has_levels ty.Bool = false
has_levels ty.Null = true
has_levels (ty.Ref t non_null) = true

-- of what isn't known nothing is said
abbrev pub may_have_levels : Option Ty → Bool
may_have_levels None = true
may_have_levels (Some t) = has_levels t

-- a question about the level of a value takes the name of a class; one about what isn't known takes nothing, and has no type
abbrev pub level_callee : Option Ty → Callee
level_callee None = AWord 0
level_callee (Some t) = if has_levels t then AWord 1 else NoCallee

-- what is called after the dot: a static method of a class, or a method of an object; a question about a level is one about a reference
abbrev pub member_callee : Scope → List ℕ → Receiver → Callee
member_callee s n TheConsole = if is_print n then APrint (bytes_eq n (codes "WriteLine")) else NoCallee
member_callee s n TheOwner = if is_owner_word n then AWord (owner_count n) else NoCallee
member_callee s n TheBase = if s.refuses_members || is_state_word n then NoCallee else kind_callee false (inherited_method s.classes s.class n)
member_callee s n (AClass k) = if is_state_word n then NoCallee else kind_callee true (method_of s.classes k n)
member_callee s n (AValue t) =
    if is_state_call n then level_callee t
    else if is_state_read n then NoCallee
    else method_at s.classes n (option_and_then declared_place (option_and_then class_of t))

abbrev pub count : Arguments → ℕ
count NoMore = 0
count (Argument e es) = count es + 1

-- it takes so many arguments; `Console.WriteLine` one or none
abbrev pub takes : ℕ → Callee → Bool
takes n (AMethod m) = n == length m.member.params
takes n (APrint is_line) = n == 1 || (is_line && n == 0)
takes n (AWord k) = n == k
takes n ABase = false
takes n NoCallee = false

-- what a call with so many arguments calls: nothing where it takes another number of them
abbrev pub called_with : ℕ → Callee → Callee
called_with n c = if takes n c then c else NoCallee

abbrev pub result_type : List ClassTree → Option TypeTree → Option Ty
result_type cs None = None
result_type cs (Some t) = written_type cs t

-- the result of a question that takes so many arguments; one about what isn't known has none
abbrev pub question_type : ℕ → Option Ty
question_type n = if n == 0 then None else Some ty.Bool

-- the result of a call; one that is refused has none
abbrev pub call_type : List ClassTree → Callee → Option Ty
call_type cs (AMethod m) = result_type cs m.member.result
call_type cs (APrint is_line) = None
call_type cs (AWord n) = question_type n
call_type cs ABase = None
call_type cs NoCallee = None

-- ---- new objects

abbrev pub params_of_first : Option ConstructorTree → List ParamTree
params_of_first None = []
params_of_first (Some c) = c.params

-- the parameters of the constructor of a class: none where no constructor is written
abbrev pub constructor_params : List ClassTree → ℕ → List ParamTree
constructor_params cs k = params_of_first (slice_get (constructors_in (members_at cs k)) 0)

-- a new object of the class, whose constructor takes so many arguments; one of another number of them has no type
abbrev pub new_type : List ClassTree → ℕ → Option ℕ → Option Ty
new_type cs n None = None
new_type cs n (Some k) = if n == length (constructor_params cs k) then Some (reference true (class_number k)) else None

-- ---- the static type

-- a cast to a class, `object` or an array has that type; to `int` or `bool` there is none
abbrev pub reference_only : Ty → Option Ty
reference_only ty.Int = None
reference_only ty.Bool = None
reference_only ty.Null = None
reference_only (ty.Ref t non_null) = Some (ty.Ref t non_null)

abbrev pub cast_type : Option Ty → Option Ty
cast_type t = option_and_then reference_only t

abbrev mutual
  pub static : Scope → ExprTree → Option Ty
  static s (IffOf p a b) = Some ty.Bool
  static s (ImpliesOf p a b) = Some ty.Bool
  static s (BinaryOf p o a b) = Some (operation_type o)
  static s (IsOf p e t) = Some ty.Bool
  static s (AsOf p e t) = option_map nullable (cast_type (written_type s.classes t))
  static s (NegateOf p e) = Some ty.Int
  static s (NotOf p e) = Some ty.Bool
  static s (CastOf p t e) = cast_type (written_type s.classes t)
  static s (MemberOf p e n) = read_type s.classes n.text (receiver s e (static s e))
  static s (ElementOf p e i) = option_and_then element_type (option_and_then class_of (static s e))
  static s (CallOf p e es) = call_type s.classes (called_with (count es) (callee s e))
  static s (NumberOf p n) = Some ty.Int
  static s (TextOf p x) = None
  static s (TruthOf p b) = Some ty.Bool
  static s (NullOf p) = Some ty.Null
  static s (ThisOf p) = this_type s.refuses_this s.class
  static s (BaseOf p) = None
  static s (ResultOf p) = s.outcome
  static s (NameOf p n) = name_type s n
  static s (ParenOf p e) = static s e
  static s (OldOf p e) = static s e
  static s (NewOf p n es) = new_type s.classes (count es) (class_named s.classes n.text)
  static s (NewArrayOf p q t e) = array_type s.classes true t
  static s (QuantifiedOf p q n low high e) = Some ty.Bool

  -- what a call of an expression calls
  pub callee : Scope → ExprTree → Callee
  callee s (NameOf p n) = name_callee s n
  callee s (MemberOf p e n) = member_callee s n.text (receiver s e (static s e))
  callee s (BaseOf p) = ABase
  callee s (IffOf p a b) = NoCallee
  callee s (ImpliesOf p a b) = NoCallee
  callee s (BinaryOf p o a b) = NoCallee
  callee s (IsOf p e t) = NoCallee
  callee s (AsOf p e t) = NoCallee
  callee s (NegateOf p e) = NoCallee
  callee s (NotOf p e) = NoCallee
  callee s (CastOf p t e) = NoCallee
  callee s (ElementOf p e i) = NoCallee
  callee s (CallOf p e es) = NoCallee
  callee s (NumberOf p n) = NoCallee
  callee s (TextOf p x) = NoCallee
  callee s (TruthOf p b) = NoCallee
  callee s (NullOf p) = NoCallee
  callee s (ThisOf p) = NoCallee
  callee s (ResultOf p) = NoCallee
  callee s (ParenOf p e) = NoCallee
  callee s (OldOf p e) = NoCallee
  callee s (NewOf p n es) = NoCallee
  callee s (NewArrayOf p q t e) = NoCallee
  callee s (QuantifiedOf p q n low high e) = NoCallee
