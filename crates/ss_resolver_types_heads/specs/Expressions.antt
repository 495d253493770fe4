-- Which faults of types stand in an expression, form by form.
use Rattle.std.specs.Prelude.{ℕ, ◌+◌, ◌&&◌, ◌||◌, not, Bool, true, false, List, [], ◌∷◌, ◌++◌, Option, Some, None, is_some, is_none, option_and_then, if◌then◌else◌}
use Rattle.ss_core.specs.declared.names.Place.{Place}
use Rattle.ss_core.specs.declared.names.Ty.{Ty}
use Rattle.ss_core.specs.declared.expr.Operator.{Operator}
use Rattle.ss_core.specs.declared.expr.Operator.TheVariants as op
use Rattle.ss_ast.specs.Expressions.{NameTree, TypeNameTree, IntType, BoolType, ObjectType, ClassType, TypeTree, ExprTree, Arguments, NoMore, Argument, IffOf, ImpliesOf, BinaryOf, IsOf, AsOf, NegateOf, NotOf, CastOf, MemberOf, ElementOf, CallOf, NumberOf, TextOf, TruthOf, NullOf, ThisOf, BaseOf, ResultOf, NameOf, ParenOf, OldOf, NewOf, NewArrayOf, QuantifiedOf}
use Rattle.ss_ast.specs.Programs.{ClassTree}
use Rattle.ss_tables.specs.Words.{is_state_read, is_state_call, is_state_word}
use Rattle.ss_tables.specs.Classes.{class_named, field_of, method_of, declared_place}
use Rattle.ss_tables.specs.Types.{class_of}
use Rattle.ss_tables.specs.Scopes.{local_named, within_quantifier}
use Rattle.ss_tables.specs.Statics.{Receiver, TheConsole, TheOwner, TheBase, AClass, AValue, receiver, callee, count, static, Callee, AMethod, APrint, AWord, ABase, NoCallee}
use Rattle.ss_faults.specs.declared.Fault.{Fault}
use Rattle.ss_resolver_types_heads.specs.Faults.{bad_type, call_in_condition, fault_where}
use Rattle.ss_resolver_types_heads.specs.Wants.{Want, AnInt, ABool, AReference, AnArray, AnyValue, OfType, Printable, OfDeclared, OfClass, ClassName, Known, known, bare, place_within, are_alike, misfit, wrong}
use Rattle.ss_resolver_types_heads.specs.Calls.{ExprContext, Called, called, constructed, argument_wants, whole_call, has_no_members}

-- ---- what an expression is for

pub data Use : Type 0 where
  AsValue : Use
  -- it stands before a dot
  BeforeDot : Use
  -- it is called
  AsCallee : Use

-- the faults within an expression, and that it isn't what is wanted where it stands
abbrev pub wanted : ExprContext → Want → ExprTree → List Fault → List Fault
wanted a w e within = within ++ wrong a.scope w e

-- ---- operations

-- both types are known, and they can't be compared
abbrev pub are_unlike : Option Ty → Option Ty → Bool
are_unlike None u = false
are_unlike (Some t) None = false
are_unlike (Some t) (Some u) = not (are_alike t u)

abbrev pub comparison_faults : List ClassTree → Place → Known → Known → List Fault
comparison_faults cs p v w = misfit cs AnyValue v ++ misfit cs AnyValue w ++ fault_where (are_unlike v.ty w.ty) (bad_type p)

-- what both operands of an operator are to be; `==` and `!=` compare any two values that are alike
abbrev pub operand : Operator → Option Want
operand op.Or = Some ABool
operand op.And = Some ABool
operand op.Equal = None
operand op.NotEqual = None
operand op.Less = Some AnInt
operand op.LessEqual = Some AnInt
operand op.Greater = Some AnInt
operand op.GreaterEqual = Some AnInt
operand op.Add = Some AnInt
operand op.Subtract = Some AnInt
operand op.Multiply = Some AnInt
operand op.Divide = Some AnInt
operand op.Remainder = Some AnInt

abbrev pub operand_faults : List ClassTree → Place → Option Want → Known → Known → List Fault
operand_faults cs p None v w = comparison_faults cs p v w
operand_faults cs p (Some want) v w = misfit cs want v ++ misfit cs want w

-- ---- types

abbrev pub is_number_name : TypeNameTree → Bool
is_number_name IntType = true
is_number_name BoolType = true
is_number_name ObjectType = false
is_number_name (ClassType n) = false

-- `int` or `bool`, which no reference has as its class
abbrev pub is_number_type : TypeTree → Bool
is_number_type t = not t.is_array && is_number_name t.name

-- the type of a cast, of `is` and of `as` is one of references
abbrev pub no_class : TypeTree → List Fault
no_class t = fault_where (is_number_type t) (bad_type t.place)

-- a value of `int` or `bool` is never null, so there is no `int!` and no `bool!`
abbrev pub mark_faults : TypeTree → List Fault
mark_faults t = fault_where (t.non_null && is_number_type t) (bad_type t.place)

-- ---- names

-- a bare name that means no local, but a field of `this` where there is no `this`, or a method
abbrev pub is_misused : ExprContext → List ℕ → Bool
is_misused a n =
    is_none (local_named a.scope n)
    && (if is_some (field_of a.scope.classes a.scope.class n) then a.is_static else is_some (method_of a.scope.classes a.scope.class n))

abbrev pub name_faults : ExprContext → Place → List ℕ → List Fault
name_faults a p n = fault_where (is_misused a n) (bad_type p)

abbrev pub is_value_receiver : Receiver → Bool
is_value_receiver (AValue t) = true
is_value_receiver TheConsole = false
is_value_receiver TheOwner = false
is_value_receiver TheBase = false
is_value_receiver (AClass k) = false

-- before a dot a name may also be that of a class, `Console` or `Owner`
abbrev pub used_name : ExprContext → Use → Place → List ℕ → List Fault
used_name a AsValue p n = name_faults a p n
used_name a BeforeDot p n = if is_value_receiver (receiver a.scope (NameOf p n) None) then name_faults a p n else []
used_name a AsCallee p n = []

-- `base` stands before a dot or is called
abbrev pub used_base : Use → Place → List Fault
used_base AsValue p = bad_type p ∷ []
used_base BeforeDot p = []
used_base AsCallee p = []

-- ---- members that are read

-- an object of a class has no field of the name, but a method
abbrev pub is_method_name : List ClassTree → List ℕ → Option ℕ → Bool
is_method_name cs n None = false
is_method_name cs n (Some k) = is_none (field_of cs k n) && is_some (method_of cs k n)

abbrev pub reads_method : List ClassTree → List ℕ → Option ℕ → Bool
reads_method cs n None = false
reads_method cs n (Some c) = is_method_name cs n (declared_place c)

-- what stands before the dot has no members, or the name is that of a method; a state word that asks for a class is called
abbrev pub is_no_read : List ClassTree → Known → List ℕ → Bool
is_no_read cs v n =
    if is_state_read n then false else is_state_call n || has_no_members v || reads_method cs n (option_and_then class_of v.ty)

-- the words after `Console.` and `Owner.` are called, and so are the methods after `base.`
abbrev pub is_wrong_read : List ClassTree → Known → List ℕ → Receiver → Bool
is_wrong_read cs v n TheConsole = true
is_wrong_read cs v n TheOwner = true
is_wrong_read cs v n TheBase = true
is_wrong_read cs v n (AClass k) = false
is_wrong_read cs v n (AValue t) = is_no_read cs v n

-- a state word that is read asks about a reference
abbrev pub word_faults : List ClassTree → Known → List ℕ → Receiver → List Fault
word_faults cs v n r = if is_value_receiver r && is_state_read n then misfit cs AReference v else []

abbrev pub read_faults : List ClassTree → Place → Known → List ℕ → Receiver → List Fault
read_faults cs p v n r = fault_where (is_wrong_read cs v n r) (bad_type p)

abbrev pub used_member : List ClassTree → Use → Place → Known → List ℕ → Receiver → List Fault
used_member cs AsValue p v n r = read_faults cs p v n r
used_member cs BeforeDot p v n r = read_faults cs p v n r
used_member cs AsCallee p v n r = []

-- ---- calls

abbrev pub is_question : Callee → Bool
is_question (AWord n) = true
is_question (AMethod m) = false
is_question (APrint is_line) = false
is_question ABase = false
is_question NoCallee = false

-- a call or a `new` in a condition; questions about states and owners are no calls
abbrev pub condition_faults : ExprContext → Place → Bool → List Fault
condition_faults a p is_call = fault_where (a.in_condition && is_call) (call_in_condition p)

abbrev pub is_name : ExprTree → Bool
is_name (NameOf p n) = true
is_name e = false

abbrev pub is_text : ExprTree → Bool
is_text (TextOf p x) = true
is_text e = false

-- an argument with the faults within it: where a class is to be named it is a bare name, and a string may be printed
abbrev pub argument : ExprContext → Want → ExprTree → List Fault → List Fault
argument a ClassName e within = fault_where (not (is_name e)) (bad_type (place_within e))
argument a Printable e within = if is_text (bare e) then [] else wanted a Printable e within
argument a AnInt e within = wanted a AnInt e within
argument a ABool e within = wanted a ABool e within
argument a AReference e within = wanted a AReference e within
argument a AnArray e within = wanted a AnArray e within
argument a AnyValue e within = wanted a AnyValue e within
argument a (OfType t) e within = wanted a (OfType t) e within
argument a OfDeclared e within = wanted a OfDeclared e within
argument a (OfClass d) e within = wanted a (OfClass d) e within

-- ---- the faults of an expression

abbrev pub conditional : ExprContext → ExprContext
conditional a = record a { in_condition = true }

abbrev pub bound : ExprContext → NameTree → ExprContext
bound a n = record a { in_condition = true; scope = within_quantifier a.scope n }

abbrev pub newly : ExprContext → NameTree → Called
newly a n = constructed a.scope.classes (class_named a.scope.classes n.text)

abbrev mutual
  pub faults : ExprContext → Use → ExprTree → List Fault
  faults a u (IffOf p e f) = wanted a ABool e (faults a AsValue e) ++ wanted a ABool f (faults a AsValue f)
  faults a u (ImpliesOf p e f) = wanted a ABool e (faults a AsValue e) ++ wanted a ABool f (faults a AsValue f)
  faults a u (BinaryOf p o e f) =
      faults a AsValue e ++ faults a AsValue f ++ operand_faults a.scope.classes p (operand o) (known a.scope e) (known a.scope f)
  faults a u (IsOf p e t) = wanted a AReference e (faults a AsValue e) ++ no_class t
  faults a u (AsOf p e t) = wanted a AReference e (faults a AsValue e) ++ no_class t
  faults a u (NegateOf p e) = wanted a AnInt e (faults a AsValue e)
  faults a u (NotOf p e) = wanted a ABool e (faults a AsValue e)
  faults a u (CastOf p t e) = no_class t ++ wanted a AReference e (faults a AsValue e)
  faults a u (MemberOf p e n) =
      faults a BeforeDot e ++ word_faults a.scope.classes (known a.scope e) n.text (receiver a.scope e (static a.scope e))
      ++ used_member a.scope.classes u p (known a.scope e) n.text (receiver a.scope e (static a.scope e))
  faults a u (ElementOf p e i) = wanted a AnArray e (faults a AsValue e) ++ wanted a AnInt i (faults a AsValue i)
  faults a u (CallOf p f es) =
      faults a AsCallee f ++ condition_faults a p (not (is_question (callee a.scope f)))
      ++ whole_call p (count es) (called a (count es) f) ++ argument_faults a (argument_wants (count es) (called a (count es) f)) es
  faults a u (NumberOf p n) = []
  -- a string stands only where it is printed
  faults a u (TextOf p x) = bad_type p ∷ []
  faults a u (TruthOf p b) = []
  faults a u (NullOf p) = []
  faults a u (ThisOf p) = fault_where a.is_static (bad_type p)
  faults a u (BaseOf p) = used_base u p
  faults a u (ResultOf p) = fault_where a.lacks_result (bad_type p)
  faults a u (NameOf p n) = used_name a u p n
  faults a u (ParenOf p e) = faults a AsValue e
  faults a u (OldOf p e) = wanted a AnyValue e (faults a AsValue e)
  faults a u (NewOf p n es) =
      condition_faults a p true ++ whole_call p (count es) (newly a n) ++ argument_faults a (argument_wants (count es) (newly a n)) es
  faults a u (NewArrayOf p q t e) = condition_faults a p true ++ wanted a AnInt e (faults a AsValue e)
  -- a quantifier is a condition
  faults a u (QuantifiedOf p q n low high e) =
      wanted a AnInt low (faults (conditional a) AsValue low) ++ wanted a AnInt high (faults (conditional a) AsValue high)
      ++ wanted (bound a n) ABool e (faults (bound a n) AsValue e)

  -- each argument is what is wanted in its place; of one past the wants nothing is wanted
  pub argument_faults : ExprContext → List Want → Arguments → List Fault
  argument_faults a ws NoMore = []
  argument_faults a [] (Argument e es) = faults a AsValue e ++ argument_faults a [] es
  argument_faults a (w ∷ ws) (Argument e es) = argument a w e (faults a AsValue e) ++ argument_faults a ws es

-- an argument for which something is wanted, or nothing
abbrev pub argument_where : ExprContext → Option Want → ExprTree → List Fault
argument_where a None e = faults a AsValue e
argument_where a (Some w) e = argument a w e (faults a AsValue e)

-- an expression with what is wanted where it stands
abbrev pub faults_as : ExprContext → Want → ExprTree → List Fault
faults_as a w e = wanted a w e (faults a AsValue e)
