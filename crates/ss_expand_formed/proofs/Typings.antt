-- The types that stand in resolved expressions and statements are of the table, or that of null.
use Rattle.std.proofs.Common.{◌≡◌, ℕ, ◌+◌, ◌-◌, ◌*◌, List, length, Bool, true, false, Option, Some, None, refl, arith}
use Rattle.std.specs.Prelude.{◌&&◌, ◌==◌, if◌then◌else◌}
use Rattle.std.specs.List.{list_all}
use Rattle.std.proofs.lemmas.Bool.{and_parts, ltb-true, lt-ltb}
use Rattle.ss_core.specs.declared.names.Ty.{Ty}
use Rattle.ss_core.specs.declared.names.Ty.TheVariants as ty
use Rattle.ss_core.specs.declared.expr.Operator.{Operator}
use Rattle.ss_core.specs.declared.expr.Operator.TheVariants as op
use Rattle.ss_core.specs.Tree as core
use Rattle.ss_core.specs.Chain.{is_class, is_type}
use Rattle.ss_core.specs.Types.{nullable}
use Rattle.ss_typed.specs.Tree.{ExprTree, IntOf, BoolOf, NullOf, ThisOf, LocalOf, ResultOf, BoundOf, IffOf, ImpliesOf, BinaryOf, IsOf, AsOf, NegateOf, NotOf, CastOf, FieldOf, ElementOf, LengthOf, OldOf, QuantifiedOf, StateOf, OwnersOf, NewOf, NewArrayOf, CallOf, StaticOf, BaseOf, Arguments, NoMore, Argument, DeclaratorTree, SimpleTree, AssignOf, StepOf, AloneOf, PrintOf, PrintTextOf, BaseCallOf, InitTree, DeclareFirst, SimpleFirst, BlockTree, BlockOf, StmtTree, InBlock, DeclareOf, SimpleOf, IfOf, IfElseOf, WhileOf, ForOf, ReturnOf, ExposeOf, StmtTrees, Before}
use Rattle.ss_typed.specs.Tree as typed
use Rattle.ss_typed.specs.Types.{class_type, element_type, element_of, operation_type, type_of}
use Rattle.ss_expand_rules.specs.Lifting.{temporary_type}
use Rattle.ss_expand_formed.proofs.Choosing.{on_either}

abbrev pub may_be : List core.ClassTree → Ty → Bool
may_be cs ty.Int = true
may_be cs ty.Bool = true
may_be cs ty.Null = true
may_be cs (ty.Ref t non_null) = is_class cs t.0

abbrev pub may_have : List core.ClassTree → Option Ty → Bool
may_have cs None = true
may_have cs (Some t) = may_be cs t

-- ---- expressions

abbrev mutual
  pub has_types : List core.ClassTree → ExprTree → Bool
  has_types cs (ThisOf p t) = is_class cs t
  has_types cs (LocalOf p x t) = may_be cs t
  has_types cs (ResultOf p t) = may_have cs t
  has_types cs (IffOf p a b) = has_types cs a && has_types cs b
  has_types cs (ImpliesOf p a b) = has_types cs a && has_types cs b
  has_types cs (BinaryOf p o a b) = has_types cs a && has_types cs b
  has_types cs (IsOf p e t) = has_types cs e
  has_types cs (AsOf p e t) = is_class cs t && has_types cs e
  has_types cs (NegateOf p e) = has_types cs e
  has_types cs (NotOf p e) = has_types cs e
  has_types cs (CastOf p t non_null e) = is_class cs t && has_types cs e
  has_types cs (FieldOf p e f t) = may_be cs t && has_types cs e
  has_types cs (ElementOf p a i) = has_types cs a && has_types cs i
  has_types cs (LengthOf p e) = has_types cs e
  has_types cs (OldOf p e) = has_types cs e
  has_types cs (QuantifiedOf p q name low high e) = has_types cs low && (has_types cs high && has_types cs e)
  has_types cs (StateOf p w e) = has_types cs e
  has_types cs (OwnersOf p w a b) = has_types cs a && has_types cs b
  has_types cs (NewOf p t es) = is_class cs t && have_types cs es
  has_types cs (NewArrayOf p t e) = is_class cs t && has_types cs e
  has_types cs (CallOf p e m t es) = may_have cs t && (has_types cs e && have_types cs es)
  has_types cs (StaticOf p n t es) = may_have cs t && have_types cs es
  has_types cs (BaseOf p m t es) = may_have cs t && have_types cs es
  has_types cs e = true

  pub have_types : List core.ClassTree → Arguments → Bool
  have_types cs NoMore = true
  have_types cs (Argument e es) = has_types cs e && have_types cs es

abbrev pub may_type : List core.ClassTree → Option ExprTree → Bool
may_type cs None = true
may_type cs (Some e) = has_types cs e

-- ---- statements

abbrev pub declared_typed : List core.ClassTree → List DeclaratorTree → Bool
declared_typed cs ds = list_all (λ (d : DeclaratorTree). may_type cs d.initial) ds

abbrev pub simple_typed : List core.ClassTree → SimpleTree → Bool
simple_typed cs (AssignOf target o e) = has_types cs target && has_types cs e
simple_typed cs (StepOf target o) = has_types cs target
simple_typed cs (AloneOf e) = has_types cs e
simple_typed cs (PrintOf p e line) = may_type cs e
simple_typed cs (PrintTextOf p text line) = true
simple_typed cs (BaseCallOf p es) = have_types cs es

abbrev pub begin_typed : List core.ClassTree → Option InitTree → Bool
begin_typed cs None = true
begin_typed cs (Some (DeclareFirst ds)) = declared_typed cs ds
begin_typed cs (Some (SimpleFirst s)) = simple_typed cs s

abbrev pub advance_typed : List core.ClassTree → Option SimpleTree → Bool
advance_typed cs None = true
advance_typed cs (Some s) = simple_typed cs s

-- what is evaluated in the statement has such types; what stands in its conditions isn't looked at
abbrev mutual
  pub stmt_typed : List core.ClassTree → StmtTree → Bool
  stmt_typed cs (InBlock b) = block_typed cs b
  stmt_typed cs (DeclareOf ds) = declared_typed cs ds
  stmt_typed cs (SimpleOf s) = simple_typed cs s
  stmt_typed cs (IfOf p e a) = has_types cs e && stmt_typed cs a
  stmt_typed cs (IfElseOf p e a b) = has_types cs e && (stmt_typed cs a && stmt_typed cs b)
  stmt_typed cs (WhileOf p e is a) = has_types cs e && stmt_typed cs a
  stmt_typed cs (ForOf p i e s is a) = begin_typed cs i && (may_type cs e && (advance_typed cs s && stmt_typed cs a))
  stmt_typed cs (ReturnOf p e) = may_type cs e
  stmt_typed cs (ExposeOf p e t b) = has_types cs e && block_typed cs b
  stmt_typed cs s = true

  pub block_typed : List core.ClassTree → BlockTree → Bool
  block_typed cs (BlockOf p ss end) = all_typed cs ss

  pub all_typed : List core.ClassTree → StmtTrees → Bool
  all_typed cs typed.NoMore = true
  all_typed cs (Before s ss) = stmt_typed cs s && all_typed cs ss

-- ---- the type of an expression

module _ (cs : List core.ClassTree) where
  pub object_known : is_class cs 0 ≡ true
  object_known = lt-ltb 0 (4 + 2 * length cs) (omega arith)

  pub type_may : (t : Ty) → is_type cs t ≡ true → may_be cs t ≡ true
  type_may ty.Int h = refl
  type_may ty.Bool h = refl
  type_may ty.Null h = refl
  type_may (ty.Ref t non_null) h = h

  element_may : (t : ℕ) → is_class cs t ≡ true → may_be cs (element_type t) ≡ true
  element_may t h =
      let l = ltb-true t (4 + 2 * length cs) h in
      on_either (λ (z : Ty). may_be cs z ≡ true) (t == 1) ty.Int (if t == 2 then ty.Bool else if t == 3 then class_type 0 false else class_type (t - 1) false) refl
      (on_either (λ (z : Ty). may_be cs z ≡ true) (t == 2) ty.Bool (if t == 3 then class_type 0 false else class_type (t - 1) false) refl
      (on_either (λ (z : Ty). may_be cs z ≡ true) (t == 3) (class_type 0 false) (class_type (t - 1) false) object_known (lt-ltb (t - 1) (4 + 2 * length cs) (omega arith))))

  elements_may : (o : Option Ty) → may_have cs o ≡ true → may_have cs (element_of o) ≡ true
  elements_may None h = refl
  elements_may (Some ty.Int) h = refl
  elements_may (Some ty.Bool) h = refl
  elements_may (Some ty.Null) h = refl
  elements_may (Some (ty.Ref t non_null)) h = element_may t.0 h

  operation_may : (o : Operator) → may_be cs (operation_type o) ≡ true
  operation_may op.Or = refl
  operation_may op.And = refl
  operation_may op.Equal = refl
  operation_may op.NotEqual = refl
  operation_may op.Less = refl
  operation_may op.LessEqual = refl
  operation_may op.Greater = refl
  operation_may op.GreaterEqual = refl
  operation_may op.Add = refl
  operation_may op.Subtract = refl
  operation_may op.Multiply = refl
  operation_may op.Divide = refl
  operation_may op.Remainder = refl

  type_of_may : (e : ExprTree) → has_types cs e ≡ true → may_have cs (type_of e) ≡ true
  type_of_may (IntOf p n) h = refl
  type_of_may (BoolOf p b) h = refl
  type_of_may (NullOf p) h = refl
  type_of_may (ThisOf p t) h = h
  type_of_may (LocalOf p x t) h = h
  type_of_may (ResultOf p t) h = h
  type_of_may (BoundOf p n) h = refl
  type_of_may (IffOf p a b) h = refl
  type_of_may (ImpliesOf p a b) h = refl
  type_of_may (BinaryOf p o a b) h = operation_may o
  type_of_may (IsOf p e t) h = refl
  type_of_may (AsOf p e t) h = (and_parts (is_class cs t) (has_types cs e) h).0
  type_of_may (NegateOf p e) h = refl
  type_of_may (NotOf p e) h = refl
  type_of_may (CastOf p t non_null e) h = (and_parts (is_class cs t) (has_types cs e) h).0
  type_of_may (FieldOf p e f t) h = (and_parts (may_be cs t) (has_types cs e) h).0
  type_of_may (ElementOf p a i) h = elements_may (type_of a) (type_of_may a (and_parts (has_types cs a) (has_types cs i) h).0)
  type_of_may (LengthOf p e) h = refl
  type_of_may (OldOf p e) h = type_of_may e h
  type_of_may (QuantifiedOf p q name low high e) h = refl
  type_of_may (StateOf p w e) h = refl
  type_of_may (OwnersOf p w a b) h = refl
  type_of_may (NewOf p t es) h = (and_parts (is_class cs t) (have_types cs es) h).0
  type_of_may (NewArrayOf p t e) h = (and_parts (is_class cs t) (has_types cs e) h).0
  type_of_may (CallOf p e m t es) h = (and_parts (may_have cs t) (has_types cs e && have_types cs es) h).0
  type_of_may (StaticOf p n t es) h = (and_parts (may_have cs t) (have_types cs es) h).0
  type_of_may (BaseOf p m t es) h = (and_parts (may_have cs t) (have_types cs es) h).0

  nullable_known : (t : Ty) → is_type cs t ≡ true → is_type cs (nullable t) ≡ true
  nullable_known ty.Int h = refl
  nullable_known ty.Bool h = refl
  nullable_known ty.Null h = h
  nullable_known (ty.Ref t non_null) h = h

  temporary_by : (wanted : Ty) (o : Option Ty) → is_type cs wanted ≡ true → may_have cs o ≡ true → is_type cs (temporary_type wanted o) ≡ true
  temporary_by wanted None h g = nullable_known wanted h
  temporary_by wanted (Some ty.Int) h g = refl
  temporary_by wanted (Some ty.Bool) h g = refl
  temporary_by wanted (Some ty.Null) h g = nullable_known wanted h
  temporary_by wanted (Some (ty.Ref t non_null)) h g = g

  -- the type of a temporary
  pub temporary_known : (wanted : Ty) (e : ExprTree) → is_type cs wanted ≡ true → has_types cs e ≡ true → is_type cs (temporary_type wanted (type_of e)) ≡ true
  temporary_known wanted e h g = temporary_by wanted (type_of e) h (type_of_may e g)
