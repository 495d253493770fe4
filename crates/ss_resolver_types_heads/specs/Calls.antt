-- What a call takes, and which calls are refused.
use Rattle.std.specs.Prelude.{ℕ, ◌==◌, ◌&&◌, ◌||◌, not, Bool, true, false, List, [], ◌∷◌, length, map, Option, Some, None, is_some, option_and_then, codes, if◌then◌else◌}
use Rattle.std.specs.Str.{bytes_eq}
use Rattle.ss_core.specs.declared.names.Place.{Place}
use Rattle.ss_core.specs.declared.names.Ty.{Ty}
use Rattle.ss_core.specs.declared.names.Ty.TheVariants as ty
use Rattle.ss_ast.specs.Expressions.{ExprTree, MemberOf, NameOf}
use Rattle.ss_ast.specs.Programs.{ParamTree, ClassTree}
use Rattle.ss_tables.specs.Words.{is_state_read, is_state_call, is_state_word, is_length}
use Rattle.ss_tables.specs.Members.{FieldTree, MethodTree, is_static}
use Rattle.ss_tables.specs.Classes.{Declared, above, field_of, method_of, inherited_field, inherited_method, is_array_number, declared_place}
use Rattle.ss_tables.specs.Types.{written_type, class_of}
use Rattle.ss_tables.specs.Scopes.{Scope, local_named}
use Rattle.ss_tables.specs.Statics.{Receiver, TheConsole, TheOwner, TheBase, AClass, AValue, is_of_kind, may_have_levels, constructor_params, receiver, static}
use Rattle.ss_faults.specs.declared.Fault.{Fault}
use Rattle.ss_resolver_types_heads.specs.Faults.{bad_type, fault_where}
use Rattle.ss_resolver_types_heads.specs.Wants.{Want, AReference, OfType, Printable, ClassName, Known, known}

-- the context of an expression
pub record ExprContext : Type 0 where
  pub scope : Scope
  -- it stands in a static method, or in a clause of one
  pub is_static : Bool
  pub in_condition : Bool
  -- it stands in `ensures` of a body without a result
  pub lacks_result : Bool

-- ---- parameters

abbrev pub param_wants : List ClassTree → List ParamTree → List Want
param_wants cs ps = map (λ (p : ParamTree). OfType (written_type cs p.ty)) ps

-- what the constructor of a class takes: nothing where none is written
abbrev pub constructor_wants : List ClassTree → ℕ → List Want
constructor_wants cs k = param_wants cs (constructor_params cs k)

abbrev pub wants_above : List ClassTree → Option ℕ → List Want
wants_above cs None = []
wants_above cs (Some j) = constructor_wants cs j

-- what `base(..)` takes in a constructor of a class: nothing below `object`
abbrev pub base_wants : List ClassTree → ℕ → List Want
base_wants cs k = wants_above cs (above cs k)

abbrev pub takes_nothing : List Want → Bool
takes_nothing [] = true
takes_nothing (w ∷ ws) = false

-- ---- what a call means

pub data Called : Type 0 where
  -- a call with arguments for these wants
  Taking : List Want → Called
  -- no call that can stand there
  Refused : Called
  -- a call of something unknown, of which nothing is said
  Unknown : Called

-- a method that has to be static, or not to be
abbrev pub taking : List ClassTree → Bool → Declared MethodTree → Called
taking cs static_wanted m =
    if is_of_kind static_wanted m.member then Taking (param_wants cs m.member.params) else Refused

-- a field can't be called
abbrev pub method_or_field : List ClassTree → Bool → Option (Declared MethodTree) → Option (Declared FieldTree) → Called
method_or_field cs static_wanted (Some m) f = taking cs static_wanted m
method_or_field cs static_wanted None f = if is_some f then Refused else Unknown

abbrev pub called_on_class : List ClassTree → Bool → ℕ → List ℕ → Called
called_on_class cs static_wanted k n = method_or_field cs static_wanted (method_of cs k n) (field_of cs k n)

abbrev pub called_method : List ClassTree → Bool → Option (Declared MethodTree) → Called
called_method cs in_static None = Unknown
called_method cs in_static (Some m) = if in_static && not (is_static m.member) then Refused else Taking (param_wants cs m.member.params)

-- a static method, or outside static methods an instance method of `this`; a local or a field hides it
abbrev pub called_name : ExprContext → List ℕ → Called
called_name a n =
    if is_some (local_named a.scope n) || is_some (field_of a.scope.classes a.scope.class n) then Refused
    else called_method a.scope.classes a.is_static (method_of a.scope.classes a.scope.class n)

-- `Write` takes one argument, `WriteLine` one or none
abbrev pub called_console : ℕ → List ℕ → Called
called_console count n =
    if bytes_eq n (codes "Write") then Taking (Printable ∷ [])
    else if bytes_eq n (codes "WriteLine") then Taking (if count == 0 then [] else Printable ∷ [])
    else Unknown

abbrev pub called_owner : List ℕ → Called
called_owner n =
    if bytes_eq n (codes "None") then Taking (AReference ∷ [])
    else if bytes_eq n (codes "Same") then Taking (AReference ∷ AReference ∷ [])
    else if bytes_eq n (codes "Is") then Taking (AReference ∷ AReference ∷ ClassName ∷ [])
    else Unknown

-- the class above has the method, and it isn't static; nothing of `base` stands in a static method
abbrev pub called_base : ExprContext → List ℕ → Called
called_base a n =
    if a.is_static || is_state_word n then Refused
    else method_or_field a.scope.classes false (inherited_method a.scope.classes a.scope.class n) (inherited_field a.scope.classes a.scope.class n)

-- a value of these types has no members
abbrev pub is_memberless : Ty → Bool
is_memberless ty.Int = true
is_memberless ty.Bool = true
is_memberless ty.Null = true
is_memberless (ty.Ref c non_null) = false

abbrev pub without_members : Bool → Option Ty → Bool
without_members is_nothing None = is_nothing
without_members is_nothing (Some t) = is_memberless t

abbrev pub has_no_members : Known → Bool
has_no_members v = without_members v.is_nothing v.ty

abbrev pub called_on_declared : List ClassTree → List ℕ → Option ℕ → Called
called_on_declared cs n None = Unknown
called_on_declared cs n (Some k) = called_on_class cs false k n

-- the length of an array can't be called
abbrev pub called_on_object : List ClassTree → List ℕ → Option ℕ → Called
called_on_object cs n None = Unknown
called_on_object cs n (Some c) =
    if is_array_number c then (if is_length n then Refused else Unknown) else called_on_declared cs n (declared_place c)

-- the number of the class of a value, where that is known
abbrev pub class_of_known : Known → Option ℕ
class_of_known v = option_and_then class_of v.ty

-- what has no value has no level either
abbrev pub asks_level : Known → Called
asks_level v = if not v.is_nothing && may_have_levels v.ty then Taking (ClassName ∷ []) else Refused

-- a state word is a question about a value, and has `()` where it asks for a class
abbrev pub called_value : List ClassTree → Known → List ℕ → Called
called_value cs v n =
    if is_state_read n then Refused
    else if is_state_call n then asks_level v
    else if has_no_members v then Refused
    else called_on_object cs n (class_of_known v)

-- a method after a dot; before the dot stands this receiver, of which as much is known
abbrev pub called_member : ExprContext → ℕ → Known → List ℕ → Receiver → Called
called_member a count v n TheConsole = called_console count n
called_member a count v n TheOwner = called_owner n
called_member a count v n TheBase = called_base a n
called_member a count v n (AClass k) = if is_state_word n then Unknown else called_on_class a.scope.classes true k n
called_member a count v n (AValue t) = called_value a.scope.classes v n

-- what a call of this expression with so many arguments means; `base(..)` in its place is no such call
abbrev pub called : ExprContext → ℕ → ExprTree → Called
called a count (NameOf p n) = called_name a n
called a count (MemberOf p e n) = called_member a count (known a.scope e) n.text (receiver a.scope e (static a.scope e))
called a count f = Refused

abbrev pub constructed : List ClassTree → Option ℕ → Called
constructed cs None = Unknown
constructed cs (Some k) = Taking (constructor_wants cs k)

-- ---- faults at the call

abbrev pub wants_of : Called → List Want
wants_of (Taking ws) = ws
wants_of Refused = []
wants_of Unknown = []

-- the whole call is at fault: it can't stand there, or has another number of arguments
abbrev pub is_wrong_call : ℕ → Called → Bool
is_wrong_call count (Taking ws) = not (count == length ws)
is_wrong_call count Refused = true
is_wrong_call count Unknown = false

-- the arguments of a call at fault are only searched for faults within
abbrev pub argument_wants : ℕ → Called → List Want
argument_wants count c = if is_wrong_call count c then [] else wants_of c

abbrev pub whole_call : Place → ℕ → Called → List Fault
whole_call p count c = fault_where (is_wrong_call count c) (bad_type p)
