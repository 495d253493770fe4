-- Lifting of calls: each call is a statement of its own before the expression in which it stands, and what is evaluated before it is put
-- into temporaries, so that everything happens in the order of the source.
use Rattle.std.specs.Prelude.{ℕ, ◌+◌, List, [], ◌∷◌, ◌++◌, length, false, ◌&&◌, if◌then◌else◌, Option, Some, None}
use Rattle.ss_core.specs.declared.names.Place.{Place}
use Rattle.ss_core.specs.declared.names.Ty.{Ty}
use Rattle.ss_core.specs.declared.names.Ty.TheVariants as ty
use Rattle.ss_core.specs.declared.expr.Operator.{Operator}
use Rattle.ss_core.specs.declared.expr.Operator.TheVariants as op
use Rattle.ss_core.specs.Tree as core
use Rattle.ss_core.specs.Tree.{LocalExpr, NullExpr, FieldExpr, ElementExpr, LengthExpr, NegateExpr, NotExpr, BinaryExpr, IffExpr, IsExpr, AsExpr, CastExpr, CalleeTree, Dispatched, Static, Base, AssignStmt, NewStmt, NewArrayStmt, CallStmt, IfStmt, NoCode}
use Rattle.ss_core.specs.View.{code_of}
use Rattle.ss_core.specs.Types.{nullable}
use Rattle.ss_typed.specs.Tree.{ExprTree, IffOf, ImpliesOf, BinaryOf, IsOf, AsOf, NegateOf, NotOf, CastOf, FieldOf, ElementOf, LengthOf, NewOf, NewArrayOf, CallOf, StaticOf, BaseOf, Arguments, NoMore, Argument, BodyTree, TypedTree}
use Rattle.ss_typed.specs.Types.{class_type, type_of}
use Rattle.ss_expand_rules.specs.Program.{above_of, method_at, number_of_written, number_in_table}
use Rattle.ss_typed.specs.Lookups.{body_at, constructor_of, param_types_in}
use Rattle.ss_expand_rules.specs.Numbers.{Numbers, plain, plain_arguments}
use Rattle.ss_expand_rules.specs.Calls.{has_call, have_call, is_lazy}
use Rattle.ss_typed.specs.Shapes.{place_of}

-- an `expose` around a statement: its place, the temporary with the object, and the class
pub record Opened : Type 0 where
  pub place : Place
  pub local : ℕ
  pub class : ℕ

-- the context in which the code of a body is elaborated
pub record ElaborationContext : Type 0 where
  pub program : TypedTree
  pub body : BodyTree
  pub numbers : Numbers
  -- from the outermost inwards
  pub exposes : List Opened

-- ---- where values come from

-- an expression without calls, or what a statement makes
pub data Source : Type 0 where
  Pure : core.ExprTree → Source
  Created : Place → ℕ → List core.ExprTree → Source
  CreatedArray : Place → ℕ → core.ExprTree → Source
  Called : Place → CalleeTree → List core.ExprTree → Source

-- the statement that puts the value into a local; an assignment stands at this place, a call at its own
abbrev pub put : Place → ℕ → Source → core.StmtTree
put p x (Pure e) = AssignStmt p x e
put p x (Created q t es) = NewStmt q (Some x) t es
put p x (CreatedArray q t e) = NewArrayStmt q (Some x) t e
put p x (Called q callee es) = CallStmt q (Some x) callee es

-- the statements before a value, where it comes from, and the types of the temporaries made so far
pub record Lifted : Type 0 where
  pub code : List core.StmtTree
  pub source : Source
  pub made : List Ty

-- the same where the value is an expression
pub record Valued : Type 0 where
  pub code : List core.StmtTree
  pub value : core.ExprTree
  pub made : List Ty

-- the same of several values
pub record Listed : Type 0 where
  pub code : List core.StmtTree
  pub values : List core.ExprTree
  pub made : List Ty

abbrev pub unlifted : core.ExprTree → List Ty → Lifted
unlifted e made = record { code = []; source = Pure e; made = made }

-- ---- temporaries

-- the number of the next temporary
abbrev pub next : Numbers → List Ty → ℕ
next ns made = ns.first_temporary + length made

-- A temporary may hold null: where it doesn't, that is known from its assignment.
-- Its type is that of its value; the literal `null` has the type that is wanted of it.
abbrev pub temporary_type : Ty → Option Ty → Ty
temporary_type wanted None = nullable wanted
temporary_type wanted (Some ty.Null) = nullable wanted
temporary_type wanted (Some t) = nullable t

abbrev pub in_local : Place → ℕ → Ty → Lifted → Valued
in_local p x t l = record { code = l.code ++ put p x l.source ∷ []; value = LocalExpr p x; made = l.made ++ t ∷ [] }

-- the value in a temporary of its own
abbrev pub in_temporary : Numbers → Place → Ty → Lifted → Valued
in_temporary ns p t l = in_local p (next ns l.made) t l

-- the type that is wanted of a reference wherever none is declared
abbrev pub any_object : Ty
any_object = class_type 0 false

abbrev pub valued_from : Numbers → ExprTree → Lifted → Source → Valued
valued_from ns e l (Pure v) = record { code = l.code; value = v; made = l.made }
valued_from ns e l (Created p t es) = in_temporary ns (place_of e) (temporary_type any_object (type_of e)) l
valued_from ns e l (CreatedArray p t n) = in_temporary ns (place_of e) (temporary_type any_object (type_of e)) l
valued_from ns e l (Called p callee es) = in_temporary ns (place_of e) (temporary_type any_object (type_of e)) l

-- the value as an expression: that of a call is in a temporary
abbrev pub valued : Numbers → ExprTree → Lifted → Valued
valued ns e l = valued_from ns e l l.source

-- ---- operands

-- What an expression is lifted to, by what it is lifted to where it has a call: without one it stays as it is.
abbrev pub lifted_of : Numbers → ExprTree → (List Ty → Lifted) → List Ty → Lifted
lifted_of ns e lift made = if has_call e then lift made else unlifted (plain ns e) made

-- An operand of an operation with a call inside is put into a temporary, whatever it is; but a lazy operation with a call is in one
-- already.
abbrev pub operand : Numbers → Ty → ExprTree → (List Ty → Lifted) → List Ty → Valued
operand ns wanted e lift made =
    if is_lazy e && has_call e then valued ns e (lift made)
    else in_temporary ns (place_of e) (temporary_type wanted (type_of e)) (lifted_of ns e lift made)

abbrev pub unary : (core.ExprTree → core.ExprTree) → Valued → Lifted
unary f a = record { code = a.code; source = Pure (f a.value); made = a.made }

abbrev pub binary_with : (core.ExprTree → core.ExprTree → core.ExprTree) → Valued → Valued → Lifted
binary_with f a b = record { code = a.code ++ b.code; source = Pure (f a.value b.value); made = b.made }

-- operands from the left
abbrev pub binary : (core.ExprTree → core.ExprTree → core.ExprTree) → Valued → (List Ty → Valued) → Lifted
binary f a b = binary_with f a (b a.made)

-- ---- lifting out of lazy operators

-- `t = a; if (test of t) { t = b; }`, with t in place of the operation
abbrev pub lazily_with : Place → ExprTree → (core.ExprTree → core.ExprTree) → ℕ → Valued → Lifted → Lifted
lazily_with p b test x first second = record {
  code = first.code ++ IfStmt p (test (LocalExpr p x)) (code_of (second.code ++ put (place_of b) x second.source ∷ [])) NoCode ∷ [];
  source = Pure (LocalExpr p x);
  made = second.made;
}

abbrev pub lazily_in : Place → ExprTree → (core.ExprTree → core.ExprTree) → ℕ → Valued → (List Ty → Lifted) → Lifted
lazily_in p b test x first second = lazily_with p b test x first (second first.made)

abbrev pub lazily : Numbers → Place → ExprTree → ExprTree → (core.ExprTree → core.ExprTree) → Lifted → (List Ty → Lifted) → Lifted
lazily ns p a b test first second = lazily_in p b test (next ns first.made) (in_temporary ns (place_of a) ty.Bool first) second

abbrev pub holds : core.ExprTree → core.ExprTree
holds t = t

abbrev pub fails : Place → core.ExprTree → core.ExprTree
fails p t = NotExpr p t

-- `!a`
abbrev pub negated : Numbers → ExprTree → (List Ty → Lifted) → List Ty → Lifted
negated ns a lift made =
    if has_call a then unary (NotExpr (place_of a)) (operand ns ty.Bool a lift made) else unlifted (NotExpr (place_of a) (plain ns a)) made

-- `a && b` goes on to b where a holds, `a || b` where it fails
abbrev pub operation : Numbers → Place → Operator → ExprTree → ExprTree → (List Ty → Lifted) → (List Ty → Lifted) → List Ty → Lifted
operation ns p op.And a b lift_a lift_b made = lazily ns p a b holds (lifted_of ns a lift_a made) (lifted_of ns b lift_b)
operation ns p op.Or a b lift_a lift_b made = lazily ns p a b (fails p) (lifted_of ns a lift_a made) (lifted_of ns b lift_b)
operation ns p o a b lift_a lift_b made = binary (BinaryExpr p o) (operand ns any_object a lift_a made) (operand ns any_object b lift_b)

-- `a ==> b` is `t = !a; if (!t) { t = b; }`
abbrev pub implication : Numbers → Place → ExprTree → ExprTree → (List Ty → Lifted) → (List Ty → Lifted) → List Ty → Lifted
implication ns p a b lift_a lift_b made = lazily ns p a b (fails p) (negated ns a lift_a made) (lifted_of ns b lift_b)

-- ---- calls

abbrev pub first_type : List Ty → Ty
first_type [] = any_object
first_type (t ∷ ts) = t

abbrev pub other_types : List Ty → List Ty
other_types [] = []
other_types (t ∷ ts) = ts

abbrev pub no_operands : List Ty → Listed
no_operands made = record { code = []; values = []; made = made }

abbrev pub and_operands_with : Valued → Listed → Listed
and_operands_with v l = record { code = v.code ++ l.code; values = v.value ∷ l.values; made = l.made }

abbrev pub and_operands : Valued → (List Ty → Listed) → Listed
and_operands v others = and_operands_with v (others v.made)

-- A call whose operands are without calls has them as they are; otherwise all of them are in temporaries, from the left.
abbrev pub operands_of : Numbers → Arguments → (List Ty → Listed) → List Ty → Listed
operands_of ns es lift made = if have_call es then lift made else record { code = []; values = plain_arguments ns es; made = made }

abbrev pub called : (List core.ExprTree → Source) → Listed → Lifted
called f l = record { code = l.code; source = f l.values; made = l.made }

abbrev pub only_of : Place → List core.ExprTree → core.ExprTree
only_of p [] = NullExpr p
only_of p (v ∷ vs) = v

abbrev pub class_of_type : Option Ty → ℕ
class_of_type (Some (ty.Ref t non_null)) = t.0
class_of_type a = 0

abbrev pub static_class : ExprTree → ℕ
static_class e = class_of_type (type_of e)

-- a call on the first of the values
abbrev pub dispatched : Place → ℕ → ℕ → List core.ExprTree → Source
dispatched p t m [] = Called p (Dispatched (NullExpr p) t m) []
dispatched p t m (v ∷ vs) = Called p (Dispatched v t m) vs

-- the body of the class above that `base.M(..)` names by its place in the table
abbrev pub base_number : ElaborationContext → ℕ → ℕ
base_number s m = number_in_table s.program (above_of s.program s.body.class) m

-- the types of the parameters
abbrev pub types_of_constructor : ElaborationContext → ℕ → List Ty
types_of_constructor s t = param_types_in (constructor_of s.program t)

abbrev pub types_of_written : ElaborationContext → ℕ → List Ty
types_of_written s n = param_types_in (body_at s.program n)

abbrev pub types_of_method : ElaborationContext → ℕ → ℕ → List Ty
types_of_method s t m = param_types_in (method_at s.program t m)

-- ---- an expression with a call inside

abbrev mutual
  pub lifted : ElaborationContext → ExprTree → List Ty → Lifted
  lifted s (IffOf p a b) made = binary (IffExpr p) (operand s.numbers any_object a (lifted s a) made) (operand s.numbers any_object b (lifted s b))
  lifted s (ImpliesOf p a b) made = implication s.numbers p a b (lifted s a) (lifted s b) made
  lifted s (BinaryOf p o a b) made = operation s.numbers p o a b (lifted s a) (lifted s b) made
  lifted s (IsOf p e t) made = unary (λ v. IsExpr p v t) (operand s.numbers any_object e (lifted s e) made)
  lifted s (AsOf p e t) made = unary (λ v. AsExpr p v t) (operand s.numbers any_object e (lifted s e) made)
  lifted s (NegateOf p e) made = unary (NegateExpr p) (operand s.numbers any_object e (lifted s e) made)
  lifted s (NotOf p e) made = unary (NotExpr p) (operand s.numbers any_object e (lifted s e) made)
  lifted s (CastOf p t non_null e) made = unary (CastExpr p t non_null) (operand s.numbers any_object e (lifted s e) made)
  lifted s (FieldOf p e f t) made = unary (λ v. FieldExpr p v f) (operand s.numbers any_object e (lifted s e) made)
  lifted s (ElementOf p a i) made = binary (ElementExpr p) (operand s.numbers any_object a (lifted s a) made) (operand s.numbers any_object i (lifted s i))
  lifted s (LengthOf p e) made = unary (LengthExpr p) (operand s.numbers any_object e (lifted s e) made)
  lifted s (NewOf p t es) made = called (Created p t) (operands_of s.numbers es (in_temporaries s (types_of_constructor s t) es) made)
  lifted s (NewArrayOf p t e) made =
      called (λ vs. CreatedArray p t (only_of p vs)) (operands_of s.numbers (Argument e NoMore) (λ made. and_operands (operand s.numbers any_object e (lifted s e) made) no_operands) made)
  lifted s (CallOf p e m t es) made =
      called (dispatched p (static_class e) m) (operands_of s.numbers (Argument e es) (λ made. and_operands (operand s.numbers any_object e (lifted s e) made) (in_temporaries s (types_of_method s (static_class e) m) es)) made)
  lifted s (StaticOf p n t es) made = called (Called p (Static (number_of_written s.program n))) (operands_of s.numbers es (in_temporaries s (types_of_written s n) es) made)
  lifted s (BaseOf p m t es) made = called (Called p (Base (base_number s m))) (operands_of s.numbers es (in_temporaries s (types_of_method s (above_of s.program s.body.class) m) es) made)
  -- these have no call in a program of the language
  lifted s e made = unlifted (plain s.numbers e) made

  -- operands of these types in temporaries
  pub in_temporaries : ElaborationContext → List Ty → Arguments → List Ty → Listed
  in_temporaries s ts NoMore made = no_operands made
  in_temporaries s ts (Argument e es) made = and_operands (operand s.numbers (first_type ts) e (lifted s e) made) (in_temporaries s (other_types ts) es)

-- any expression
abbrev pub right_side : ElaborationContext → ExprTree → List Ty → Lifted
right_side s e made = lifted_of s.numbers e (lifted s e) made

abbrev pub value : ElaborationContext → ExprTree → List Ty → Valued
value s e made = valued s.numbers e (right_side s e made)

-- the arguments of `base(..)`
abbrev pub arguments_of : ElaborationContext → List Ty → Arguments → List Ty → Listed
arguments_of s ts es made = operands_of s.numbers es (in_temporaries s ts es) made
