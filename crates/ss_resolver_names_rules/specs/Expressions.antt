-- Unknown names in expressions.
use Rattle.std.specs.Prelude.{ℕ, zero, suc, Bool, true, false, ◌||◌, List, [], ◌++◌, Option, Some, None, option_and_then, is_some, codes, if◌then◌else◌}
use Rattle.std.specs.Str.{bytes_eq}
use Rattle.ss_ast.specs.Expressions.{NameTree, ExprTree, IffOf, ImpliesOf, BinaryOf, IsOf, AsOf, NegateOf, NotOf, CastOf, MemberOf, ElementOf, CallOf, NumberOf, TextOf, TruthOf, NullOf, ThisOf, BaseOf, ResultOf, NameOf, ParenOf, OldOf, NewOf, NewArrayOf, QuantifiedOf, Arguments, NoMore, Argument}
use Rattle.ss_ast.specs.Programs.{ClassTree}
use Rattle.ss_tables.specs.Words.{is_print, is_owner_word, is_state_call, is_state_word, is_length}
use Rattle.ss_tables.specs.Classes.{inherited_field, inherited_method, is_array_number, declared_place}
use Rattle.ss_tables.specs.Types.{class_of}
use Rattle.ss_tables.specs.Scopes.{Scope, within_quantifier}
use Rattle.ss_tables.specs.Statics.{Receiver, TheConsole, TheOwner, TheBase, AClass, AValue, is_member, is_known, receiver, static}
use Rattle.ss_resolver_names_rules.specs.Faults.{Faults, unless, unknown, class_faults, type_name_faults, type_faults}

-- ---- members after a dot

-- an object of the declared class has a field or a method of the name; `object` has none
abbrev pub declares : List ClassTree → List ℕ → Option ℕ → Bool
declares cs n None = false
declares cs n (Some k) = is_member cs k n

-- an array has its length alone; what has no class, or an unknown one, is no matter of names
abbrev pub has_member : List ClassTree → List ℕ → Option ℕ → Bool
has_member cs n None = true
has_member cs n (Some t) = if is_array_number t then is_length n else declares cs n (declared_place t)

-- a field or a method that a class has from above
abbrev pub is_inherited : List ClassTree → ℕ → List ℕ → Bool
is_inherited cs k n = is_some (inherited_field cs k n) || is_some (inherited_method cs k n)

-- what is read after the dot; the state words may stand after any, and after `base` nothing is read
abbrev pub read_faults : Scope → NameTree → Receiver → Faults
read_faults s n TheConsole = unless (is_print n.text) (unknown n.place)
read_faults s n TheOwner = unless (is_owner_word n.text) (unknown n.place)
read_faults s n TheBase = []
read_faults s n (AClass k) = []
read_faults s n (AValue t) = unless (is_state_word n.text || has_member s.classes n.text (option_and_then class_of t)) (unknown n.place)

-- `Console` and `Owner` are known before a dot
abbrev pub before_dot : Receiver → Faults → Faults
before_dot TheConsole fs = []
before_dot TheOwner fs = []
before_dot TheBase fs = fs
before_dot (AClass k) fs = fs
before_dot (AValue t) fs = fs

-- what is called after the dot, with the faults of the same where it is read: `base` or a class may stand before the dot of a call
abbrev pub called_faults : Scope → NameTree → Receiver → Faults → Faults
called_faults s n TheConsole fs = fs
called_faults s n TheOwner fs = fs
called_faults s n TheBase fs = unless (is_state_word n.text || is_inherited s.classes s.class n.text) (unknown n.place)
called_faults s n (AClass k) fs = if is_state_word n.text then fs else unless (is_member s.classes k n.text) (unknown n.place)
called_faults s n (AValue t) fs = fs

-- what is called, with its faults where it is read
abbrev pub callee_faults : Scope → ExprTree → Faults → Faults
callee_faults s (MemberOf p e n) fs = called_faults s n (receiver s e (static s e)) fs
callee_faults s (NameOf p n) fs = fs
callee_faults s (BaseOf p) fs = fs
callee_faults s (IffOf p a b) fs = fs
callee_faults s (ImpliesOf p a b) fs = fs
callee_faults s (BinaryOf p o a b) fs = fs
callee_faults s (IsOf p e t) fs = fs
callee_faults s (AsOf p e t) fs = fs
callee_faults s (NegateOf p e) fs = fs
callee_faults s (NotOf p e) fs = fs
callee_faults s (CastOf p t e) fs = fs
callee_faults s (ElementOf p e i) fs = fs
callee_faults s (CallOf p e es) fs = fs
callee_faults s (NumberOf p n) fs = fs
callee_faults s (TextOf p x) fs = fs
callee_faults s (TruthOf p b) fs = fs
callee_faults s (NullOf p) fs = fs
callee_faults s (ThisOf p) fs = fs
callee_faults s (ResultOf p) fs = fs
callee_faults s (ParenOf p e) fs = fs
callee_faults s (OldOf p e) fs = fs
callee_faults s (NewOf p n es) fs = fs
callee_faults s (NewArrayOf p q t e) fs = fs
callee_faults s (QuantifiedOf p q n low high e) fs = fs

-- ---- arguments

-- which argument of a question names a class: the third of `Owner.Is`, the first of `IsLevel` and `IsPacked`
abbrev pub asked_class : List ℕ → Receiver → Option ℕ
asked_class n TheConsole = None
asked_class n TheOwner = if bytes_eq n (codes "Is") then Some 2 else None
asked_class n TheBase = if is_state_call n then Some 0 else None
asked_class n (AClass k) = if is_state_call n then Some 0 else None
asked_class n (AValue t) = if is_state_call n then Some 0 else None

abbrev pub class_argument : Scope → ExprTree → Option ℕ
class_argument s (MemberOf p e n) = asked_class n.text (receiver s e (static s e))
class_argument s (NameOf p n) = None
class_argument s (BaseOf p) = None
class_argument s (IffOf p a b) = None
class_argument s (ImpliesOf p a b) = None
class_argument s (BinaryOf p o a b) = None
class_argument s (IsOf p e t) = None
class_argument s (AsOf p e t) = None
class_argument s (NegateOf p e) = None
class_argument s (NotOf p e) = None
class_argument s (CastOf p t e) = None
class_argument s (ElementOf p e i) = None
class_argument s (CallOf p e es) = None
class_argument s (NumberOf p n) = None
class_argument s (TextOf p x) = None
class_argument s (TruthOf p b) = None
class_argument s (NullOf p) = None
class_argument s (ThisOf p) = None
class_argument s (ResultOf p) = None
class_argument s (ParenOf p e) = None
class_argument s (OldOf p e) = None
class_argument s (NewOf p n es) = None
class_argument s (NewArrayOf p q t e) = None
class_argument s (QuantifiedOf p q n low high e) = None

-- a bare name that is to be a class; any other expression has its own faults
abbrev pub class_named_by : Scope → ExprTree → Faults → Faults
class_named_by s (NameOf p n) fs = class_faults s.classes n p
class_named_by s (MemberOf p e n) fs = fs
class_named_by s (BaseOf p) fs = fs
class_named_by s (IffOf p a b) fs = fs
class_named_by s (ImpliesOf p a b) fs = fs
class_named_by s (BinaryOf p o a b) fs = fs
class_named_by s (IsOf p e t) fs = fs
class_named_by s (AsOf p e t) fs = fs
class_named_by s (NegateOf p e) fs = fs
class_named_by s (NotOf p e) fs = fs
class_named_by s (CastOf p t e) fs = fs
class_named_by s (ElementOf p e i) fs = fs
class_named_by s (CallOf p e es) fs = fs
class_named_by s (NumberOf p n) fs = fs
class_named_by s (TextOf p x) fs = fs
class_named_by s (TruthOf p b) fs = fs
class_named_by s (NullOf p) fs = fs
class_named_by s (ThisOf p) fs = fs
class_named_by s (ResultOf p) fs = fs
class_named_by s (ParenOf p e) fs = fs
class_named_by s (OldOf p e) fs = fs
class_named_by s (NewOf p n es) fs = fs
class_named_by s (NewArrayOf p q t e) fs = fs
class_named_by s (QuantifiedOf p q n low high e) fs = fs

-- the argument with the number 0 is the one that names a class
abbrev pub argument_faults : Scope → Option ℕ → ExprTree → Faults → Faults
argument_faults s None e fs = fs
argument_faults s (Some zero) e fs = class_named_by s e fs
argument_faults s (Some (suc n)) e fs = fs

abbrev pub after_argument : Option ℕ → Option ℕ
after_argument None = None
after_argument (Some zero) = None
after_argument (Some (suc n)) = Some n

-- ---- expressions

abbrev mutual
  pub expr_faults : Scope → ExprTree → Faults
  expr_faults s (IffOf p a b) = expr_faults s a ++ expr_faults s b
  expr_faults s (ImpliesOf p a b) = expr_faults s a ++ expr_faults s b
  expr_faults s (BinaryOf p o a b) = expr_faults s a ++ expr_faults s b
  expr_faults s (IsOf p e t) = expr_faults s e ++ type_faults s.classes t
  expr_faults s (AsOf p e t) = expr_faults s e ++ type_faults s.classes t
  expr_faults s (NegateOf p e) = expr_faults s e
  expr_faults s (NotOf p e) = expr_faults s e
  expr_faults s (CastOf p t e) = type_faults s.classes t ++ expr_faults s e
  expr_faults s (MemberOf p e n) =
      before_dot (receiver s e (static s e)) (expr_faults s e) ++ read_faults s n (receiver s e (static s e))
  expr_faults s (ElementOf p e i) = expr_faults s e ++ expr_faults s i
  expr_faults s (CallOf p e es) = callee_faults s e (expr_faults s e) ++ arguments_faults s (class_argument s e) es
  expr_faults s (NumberOf p n) = []
  expr_faults s (TextOf p x) = []
  expr_faults s (TruthOf p b) = []
  expr_faults s (NullOf p) = []
  expr_faults s (ThisOf p) = []
  expr_faults s (BaseOf p) = []
  expr_faults s (ResultOf p) = []
  expr_faults s (NameOf p n) = unless (is_known s n) (unknown p)
  expr_faults s (ParenOf p e) = expr_faults s e
  expr_faults s (OldOf p e) = expr_faults s e
  expr_faults s (NewOf p n es) = class_faults s.classes n.text n.place ++ arguments_faults s None es
  expr_faults s (NewArrayOf p q t e) = type_name_faults s.classes q t ++ expr_faults s e
  expr_faults s (QuantifiedOf p q n low high e) = expr_faults s low ++ expr_faults s high ++ expr_faults (within_quantifier s n) e

  -- the number tells which argument names a class, counted from 0
  pub arguments_faults : Scope → Option ℕ → Arguments → Faults
  arguments_faults s which NoMore = []
  arguments_faults s which (Argument e es) = argument_faults s which e (expr_faults s e) ++ arguments_faults s (after_argument which) es
