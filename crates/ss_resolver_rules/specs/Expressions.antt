-- The resolved tree of an expression. Parentheses leave no trace. `result` stays, with its type where the body has one, for a later phase; what else a
-- source without faults doesn't have becomes `null`.
use Rattle.std.specs.Prelude.{ℕ, ℤ, pos, negsuc, int_lt, Bool, true, false, List, [], ◌∷◌, Option, Some, None, option_and_then, codes, if◌then◌else◌}
use Rattle.std.specs.Str.{bytes_eq}
use Rattle.ss_core.specs.declared.names.Place.{Place}
use Rattle.ss_ast.specs.Expressions.{NameTree, TypeTree, TypeNameTree, Arguments, NoMore, Argument}
use Rattle.ss_ast.specs.Expressions as text
use Rattle.ss_core.specs.declared.names.Ty.{Ty}
use Rattle.ss_core.specs.Tree.{WordTree, Consistent, Committed, New, Level, Packed, Unowned, SameOwner, OwnedAt}
use Rattle.ss_tables.specs.Members.{FieldTree, MethodTree, is_static}
use Rattle.ss_tables.specs.Classes.{Declared, above, class_number, field_of, is_array_number, declared_place, array_number}
use Rattle.ss_tables.specs.Types.{class_of}
use Rattle.ss_tables.specs.Words.{is_state_read, is_state_call, is_length}
use Rattle.ss_tables.specs.Statics.{Receiver, TheConsole, TheOwner, TheBase, AClass, AValue, Callee, AMethod, APrint, AWord, ABase, NoCallee, receiver, static, name_callee, member_callee, type_of_field, result_type}
use Rattle.ss_typed.specs.Tree.{ExprTree, IntOf, BoolOf, NullOf, ThisOf, LocalOf, ResultOf, BoundOf, IffOf, ImpliesOf, BinaryOf, IsOf, AsOf, NegateOf, NotOf, CastOf, FieldOf, ElementOf, LengthOf, OldOf, QuantifiedOf, StateOf, OwnersOf, NewOf, NewArrayOf, CallOf, StaticOf, BaseOf}
use Rattle.ss_typed.specs.Tree as typed
use Rattle.ss_resolver_rules.specs.Numbers.{class_id, type_id, class_in, written_class, array_class, field_id, method_id, table_place}
use Rattle.ss_resolver_rules.specs.Names.{Env, known, within}
use Rattle.ss_resolver_rules.specs.declared.known.Known.{Known}
use Rattle.ss_resolver_rules.specs.declared.known.Known.TheVariants.{Variable, BoundName}

-- A number that is no `int` counts as the largest one. A source has none: its literals end at 2147483647, and the one after a
-- minus at 2147483648.
abbrev pub as_int : ℤ → ℤ
as_int n =
    if int_lt (pos 2147483647) n then pos 2147483647
    else if int_lt n (negsuc 2147483647) then pos 2147483647
    else n

-- ---- names and members

abbrev pub this : Env → Place → ExprTree
this e p = ThisOf p (class_number e.scope.class)

-- a field of what stands before the dot, with the class that declares it
abbrev pub read_field : Env → Place → ExprTree → Option (Declared FieldTree) → ExprTree
read_field e p o None = NullOf p
read_field e p o (Some f) = FieldOf p o (field_id e.scope.classes f.class f.member.name.text) (type_id e.scope.classes f.member.ty)

abbrev pub known_or_field : Env → Place → List ℕ → Option Known → ExprTree
known_or_field e p n (Some (Variable x t)) = LocalOf p x t
known_or_field e p n (Some (BoundName k)) = BoundOf p k
known_or_field e p n None = read_field e p (this e p) (field_of e.scope.classes e.scope.class n)

-- a bare name is a local, else a field of `this`
abbrev pub bare_name : Env → Place → List ℕ → ExprTree
bare_name e p n = known_or_field e p n (known e n)

abbrev pub field_after : Env → Place → ExprTree → List ℕ → Option ℕ → ExprTree
field_after e p o n None = o
field_after e p o n (Some k) = read_field e p o (field_of e.scope.classes k n)

-- the state words without arguments
abbrev pub state_word : List ℕ → WordTree
state_word n = if bytes_eq n (codes "IsConsistent") then Consistent else if bytes_eq n (codes "IsCommitted") then Committed else New

-- the state words that ask for a class
abbrev pub state_question : List ℕ → ℕ → WordTree
state_question n t = if bytes_eq n (codes "IsLevel") then Level t else Packed t

-- what is read after a dot of an object or array of this class: a state word, the length of an array, or a field
abbrev pub member : Env → Place → ExprTree → List ℕ → ℕ → ExprTree
member e p o n t =
    if is_state_read n then StateOf p (state_word n) o
    else if is_array_number t then LengthOf p o
    else field_after e p o n (declared_place t)

-- ---- calls

-- the class that an argument names
abbrev pub class_named_by : Env → text.ExprTree → ℕ
class_named_by e (text.NameOf p n) = class_id e.scope.classes n
class_named_by e a = 0

abbrev pub first_class : Env → Arguments → ℕ
first_class e NoMore = 0
first_class e (Argument a more) = class_named_by e a

abbrev pub third_class : Env → Arguments → ℕ
third_class e (Argument a (Argument b more)) = first_class e more
third_class e more = 0

-- a call of a method of the class with this number, on an object where the method isn't static
abbrev pub method_call : Env → Place → ℕ → ExprTree → typed.Arguments → Declared MethodTree → ExprTree
method_call e p k o args m =
    if is_static m.member
    then StaticOf p (method_id e.scope.classes m.class m.member.name.text) (result_type e.scope.classes m.member.result) args
    else CallOf p o (table_place e.scope.classes k m.member.name.text) (result_type e.scope.classes m.member.result) args

-- a call of a method of the class above, on `this`
abbrev pub base_call : Env → Place → typed.Arguments → Declared MethodTree → Option ℕ → ExprTree
base_call e p args m None = NullOf p
base_call e p args m (Some k) = BaseOf p (table_place e.scope.classes k m.member.name.text) (result_type e.scope.classes m.member.result) args

abbrev pub owner_question : Env → Place → List ℕ → Arguments → typed.Arguments → ExprTree
owner_question e p n es (typed.Argument a typed.NoMore) = StateOf p Unowned a
owner_question e p n es (typed.Argument a (typed.Argument b more)) =
    if bytes_eq n (codes "Same") then OwnersOf p SameOwner a b else OwnersOf p (OwnedAt (third_class e es)) a b
owner_question e p n es typed.NoMore = NullOf p

-- the class with this place, else that of the body
abbrev pub place_or_own : Env → Option ℕ → ℕ
place_or_own e None = e.scope.class
place_or_own e (Some k) = k

-- a method that is called, by what stands before the dot
abbrev pub call_of : Env → Place → Receiver → ExprTree → typed.Arguments → Declared MethodTree → ExprTree
call_of e p TheBase o args m = base_call e p args m (above e.scope.classes e.scope.class)
call_of e p (AClass k) o args m = method_call e p k o args m
call_of e p (AValue t) o args m = method_call e p (place_or_own e (option_and_then declared_place (option_and_then class_of t))) o args m
call_of e p TheConsole o args m = NullOf p
call_of e p TheOwner o args m = NullOf p

-- a state word or a question about owners
abbrev pub question : Env → Place → Receiver → ExprTree → List ℕ → Arguments → typed.Arguments → ExprTree
question e p TheOwner o n es args = owner_question e p n es args
question e p TheBase o n es args = StateOf p (state_question n (first_class e es)) o
question e p (AClass k) o n es args = StateOf p (state_question n (first_class e es)) o
question e p (AValue t) o n es args = StateOf p (state_question n (first_class e es)) o
question e p TheConsole o n es args = NullOf p

-- what is called after a dot
abbrev pub called_after : Env → Place → Receiver → ExprTree → List ℕ → Arguments → typed.Arguments → Callee → ExprTree
called_after e p r o n es args (AMethod m) = call_of e p r o args m
called_after e p r o n es args (AWord k) = question e p r o n es args
called_after e p r o n es args (APrint is_line) = NullOf p
called_after e p r o n es args ABase = NullOf p
called_after e p r o n es args NoCallee = CallOf p o 0 None args

-- a method of the class or of one above, called by its bare name at place q
abbrev pub called_bare : Env → Place → Place → typed.Arguments → Callee → ExprTree
called_bare e p q args (AMethod m) = method_call e p e.scope.class (this e q) args m
called_bare e p q args (AWord k) = NullOf p
called_bare e p q args (APrint is_line) = NullOf p
called_bare e p q args ABase = NullOf p
called_bare e p q args NoCallee = NullOf p

-- ---- expressions

abbrev mutual
  pub expr : Env → text.ExprTree → ExprTree
  expr e (text.NumberOf p n) = IntOf p (as_int n)
  expr e (text.TruthOf p b) = BoolOf p b
  expr e (text.NullOf p) = NullOf p
  expr e (text.TextOf p x) = NullOf p
  expr e (text.ThisOf p) = this e p
  expr e (text.BaseOf p) = this e p
  expr e (text.ResultOf p) = ResultOf p e.scope.outcome
  expr e (text.NameOf p n) = bare_name e p n
  expr e (text.ParenOf p a) = expr e a
  expr e (text.OldOf p a) = OldOf p (expr e a)
  expr e (text.NegateOf p a) = NegateOf p (expr e a)
  expr e (text.NotOf p a) = NotOf p (expr e a)
  expr e (text.IffOf p a b) = IffOf p (expr e a) (expr e b)
  expr e (text.ImpliesOf p a b) = ImpliesOf p (expr e a) (expr e b)
  expr e (text.BinaryOf p o a b) = BinaryOf p o (expr e a) (expr e b)
  expr e (text.IsOf p a t) = IsOf p (expr e a) (written_class e.scope.classes t)
  expr e (text.AsOf p a t) = AsOf p (expr e a) (written_class e.scope.classes t)
  expr e (text.CastOf p t a) = CastOf p (written_class e.scope.classes t) t.non_null (expr e a)
  expr e (text.MemberOf p a n) = member e p (expr e a) n.text (class_in (static e.scope a))
  expr e (text.ElementOf p a i) = ElementOf p (expr e a) (expr e i)
  expr e (text.CallOf p f es) = call e p es (args e es) f
  expr e (text.NewOf p n es) = NewOf p (class_id e.scope.classes n.text) (args e es)
  expr e (text.NewArrayOf p q t n) = NewArrayOf p (array_class e.scope.classes t) (expr e n)
  expr e (text.QuantifiedOf p q n low high a) = QuantifiedOf p q n.text (expr e low) (expr e high) (expr (within e n) a)

  -- a call of what is written before its arguments
  pub call : Env → Place → Arguments → typed.Arguments → text.ExprTree → ExprTree
  call e p es given (text.NameOf q n) = called_bare e p q given (name_callee e.scope n)
  call e p es given (text.MemberOf q a n) =
      called_after e p (receiver e.scope a (static e.scope a)) (expr e a) n.text es given (member_callee e.scope n.text (receiver e.scope a (static e.scope a)))
  call e p es given (text.NumberOf q n) = NullOf p
  call e p es given (text.TruthOf q b) = NullOf p
  call e p es given (text.NullOf q) = NullOf p
  call e p es given (text.TextOf q x) = NullOf p
  call e p es given (text.ThisOf q) = NullOf p
  call e p es given (text.BaseOf q) = NullOf p
  call e p es given (text.ResultOf q) = NullOf p
  call e p es given (text.ParenOf q a) = NullOf p
  call e p es given (text.OldOf q a) = NullOf p
  call e p es given (text.NegateOf q a) = NullOf p
  call e p es given (text.NotOf q a) = NullOf p
  call e p es given (text.IffOf q a b) = NullOf p
  call e p es given (text.ImpliesOf q a b) = NullOf p
  call e p es given (text.BinaryOf q o a b) = NullOf p
  call e p es given (text.IsOf q a t) = NullOf p
  call e p es given (text.AsOf q a t) = NullOf p
  call e p es given (text.CastOf q t a) = NullOf p
  call e p es given (text.ElementOf q a i) = NullOf p
  call e p es given (text.CallOf q f ds) = NullOf p
  call e p es given (text.NewOf q n ds) = NullOf p
  call e p es given (text.NewArrayOf q r t n) = NullOf p
  call e p es given (text.QuantifiedOf q r n low high a) = NullOf p

  pub args : Env → Arguments → typed.Arguments
  args e NoMore = typed.NoMore
  args e (Argument a es) = typed.Argument (expr e a) (args e es)
