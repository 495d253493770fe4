-- Which expressions are never null (OOPSLA 2003): what a local is known to be is learned from tests.
use Rattle.std.specs.Prelude.{ℕ, List, [], ◌∷◌, Bool, true, false, not, ◌==◌, ◌&&◌, ◌||◌, if◌then◌else◌, Option, Some, None, option_map, slice_get}
use Rattle.std.specs.Bool.{beq}
use Rattle.ss_core.specs.declared.names.Ty.{Ty}
use Rattle.ss_core.specs.declared.expr.Operator.{Operator}
use Rattle.ss_core.specs.declared.expr.Operator.TheVariants as op
pub use Rattle.ss_core.specs.Types.{is_non_null_type}
use Rattle.ss_core.specs.Tree.{ClassTree, ExprTree, NullExpr, LocalExpr, FieldExpr, NotExpr, BinaryExpr, IsExpr, AsExpr, CastExpr, OldExpr, CalleeTree, BaseConstructor, StmtTree, AssignStmt, WriteStmt, NewStmt, NewArrayStmt, CallStmt, ReadyStmt, ReturnStmt, BodyTree, CoreTree}
use Rattle.ss_store_rules.specs.Changes.{below, field_class, field_type}
use Rattle.ss_store_rules.specs.Good.{is_non_null}
use Rattle.ss_store_rules.specs.Admissible.{is_this}
use Rattle.ss_store_rules.specs.Locals.{types_of, local_types, assigns}
use Rattle.ss_store_rules.specs.Typed.{constructor_of, callee_of, invariant_types}
use Rattle.ss_store_rules.specs.Paths.{Flow, Check, holds_along}

-- ---- what is known

-- some locals that aren't null
abbrev pub Facts : Type 0
Facts = ℕ → Bool

abbrev pub no_facts : Facts
no_facts x = false

abbrev pub both : Facts → Facts → Facts
both f g x = f x || g x

-- What is known at a place of a body.
pub record Known : Type 0 where
  -- of the locals
  pub facts : Facts
  -- Where the truth value of this local is this one. None where that isn't reached.
  pub sides : ℕ → Bool → Option Facts
  -- the fields of the `this` of a constructor that have their values
  pub fields : ℕ → Bool

-- at the entry of a body; the `this` of a body that is no constructor has all its fields
abbrev pub known_at_entry : BodyTree → Known
known_at_entry b = record {
  facts = no_facts;
  sides = λ x v. Some no_facts;
  fields = λ f. not b.flags.ctor;
}

-- ---- what a test says

abbrev pub is_null_literal : ExprTree → Bool
is_null_literal (NullExpr p) = true
is_null_literal e = false

-- the local that the expression is, if it is one
abbrev pub is_local_number : ExprTree → ℕ → Bool
is_local_number (LocalExpr p x) y = x == y
is_local_number e y = false

abbrev pub side_facts : Option Facts → Facts
side_facts None = no_facts
side_facts (Some f) = f

abbrev pub compared : Bool → ExprTree → ExprTree → Facts
compared differs a b y = differs && is_null_literal b && is_local_number a y

-- what an operation says where it has this truth value, from what its operands say
abbrev pub operation_facts : Operator → Bool → ExprTree → ExprTree → (Bool → Facts) → (Bool → Facts) → Facts
operation_facts op.And v a b f g = if v then both (f true) (g true) else no_facts
operation_facts op.Or v a b f g = if v then no_facts else both (f false) (g false)
operation_facts op.NotEqual v a b f g = compared v a b
operation_facts op.Equal v a b f g = compared (not v) a b
operation_facts o v a b f g = no_facts

-- The locals that aren't null where the expression has this truth value: by `x != null`, `x == null`, `x is T`, by `&&`, `||` and `!`,
-- and by a local that was assigned such an expression.
abbrev pub learned : Known → ExprTree → Bool → Facts
learned k (LocalExpr p x) v = side_facts (k.sides x v)
learned k (NotExpr p e) v = learned k e (not v)
learned k (BinaryExpr p o a b) v = operation_facts o v a b (learned k a) (learned k b)
learned k (IsExpr p e t) v = λ y. v && is_local_number e y
learned k e v = no_facts

abbrev pub operation_tells : Operator → Bool → Bool → Bool → Bool
operation_tells op.And v a b = v && (a || b)
operation_tells op.Or v a b = not v && (a || b)
operation_tells o v a b = false

-- where the expression has this truth value, the local x has the truth value u
abbrev pub tells : ExprTree → Bool → ℕ → Bool → Bool
tells (LocalExpr p y) v x u = x == y && beq u v
tells (NotExpr p e) v x u = tells e (not v) x u
tells (BinaryExpr p o a b) v x u = operation_tells o v (tells a v x u) (tells b v x u)
tells e v x u = false

-- where a test has come out so; what it tells of a local leaves the other side of that unreached
abbrev pub known_tested : ExprTree → Bool → Known → Known
known_tested e v k = record k {
  facts = both k.facts (learned k e v);
  sides = λ x u. if tells e v x (not u) then None else k.sides x u;
}

-- ---- expressions

-- `this`, or `this` as another class
abbrev pub is_this_object : ExprTree → Bool
is_this_object (LocalExpr p x) = x == 0
is_this_object (AsExpr p e t) = is_this_object e
is_this_object (CastExpr p t non_null e) = is_this_object e
is_this_object (OldExpr p e) = is_this_object e
is_this_object e = false

-- Where an expression stands: the classes, the types of the locals, and whether that is in a constructor.
pub record Site : Type 0 where
  pub classes : List ClassTree
  pub locals : List Ty
  pub constructs : Bool

abbrev pub site_of : CoreTree → BodyTree → Site
site_of c b = record { classes = c.classes; locals = local_types b; constructs = b.flags.ctor }

-- in an invariant of the class t
abbrev pub invariant_site : CoreTree → ℕ → Site
invariant_site c t = record { classes = c.classes; locals = invariant_types t; constructs = false }

-- The value isn't null. In a constructor a field of `this` has its value only once it is assigned, and inside `old` no field has.
abbrev pub is_never_null : Site → Known → Bool → ExprTree → Bool
is_never_null s k old (LocalExpr p x) = is_non_null_type (slice_get s.locals x) || k.facts x
is_never_null s k old (FieldExpr p e f) = is_non_null (field_type s.classes f) && (not s.constructs || not old && (not (is_this_object e) || k.fields f))
is_never_null s k old (CastExpr p t non_null e) = non_null
is_never_null s k old (OldExpr p e) = is_never_null s k true e
is_never_null s k old e = false

-- what is known where the right operand is read
abbrev pub known_right : Operator → ExprTree → Known → Known
known_right op.And a k = known_tested a true k
known_right op.Or a k = known_tested a false k
known_right o a k = k

-- a value of the expression may stand where one of the type is wanted, as far as null goes
abbrev pub may_stand : CoreTree → BodyTree → Known → ExprTree → Ty → Bool
may_stand c b k e t = not (is_non_null t) || is_never_null (site_of c b) k false e

-- ---- statements

-- the local is assigned a value that isn't null, or one that may be; on its sides it says this
abbrev pub with_local : ℕ → Bool → (Bool → Facts) → Known → Known
with_local x non_null says k = record k {
  facts = λ y. if x == y then non_null else k.facts y;
  sides = λ y v. if x == y then Some (says v) else option_map (λ f z. f z && not (x == z)) (k.sides y v);
}

abbrev pub says_nothing : Bool → Facts
says_nothing v = no_facts

abbrev pub with_kept : Option ℕ → Bool → Known → Known
with_kept None non_null k = k
with_kept (Some x) non_null k = with_local x non_null says_nothing k

abbrev pub result_of : Option BodyTree → Option Ty
result_of None = None
result_of (Some b) = b.result

-- a field that a class above that of the body declares
abbrev pub is_field_above : CoreTree → BodyTree → ℕ → Bool
is_field_above c b f = below c.classes b.class (field_class c.classes f) && not (field_class c.classes f == b.class)

-- the constructor of the class above gives the fields above their values, and after it the `this` of one that isn't delayed has all
abbrev pub with_base : CoreTree → BodyTree → CalleeTree → Known → Known
with_base c b (BaseConstructor n) k = record k { fields = λ f. k.fields f || not b.flags.delayed || is_field_above c b f }
with_base c b callee k = k

abbrev pub known_after : CoreTree → BodyTree → StmtTree → Known → Known
known_after c b (AssignStmt p x e) k = with_local x (is_never_null (site_of c b) k false e) (learned k e) k
known_after c b (WriteStmt p o f m t e) k = record k { fields = λ g. k.fields g || is_this o && g == f }
known_after c b (NewStmt p x t es) k = with_kept x true k
known_after c b (NewArrayStmt p x t e) k = with_kept x true k
known_after c b (CallStmt p x callee es) k = with_base c b callee (with_kept x (is_non_null_type (result_of (callee_of c b callee))) k)
known_after c b (ReadyStmt p) k = record k { fields = λ f. true }
known_after c b s k = k

-- ---- paths

-- what is known on a side, with the facts of its end
abbrev pub at_this_end : Known → ℕ → Bool → Option Facts
at_this_end k x v = option_map (both k.facts) (k.sides x v)

abbrev pub side_met : Option Facts → Option Facts → Option Facts
side_met None f = f
side_met (Some f) None = Some f
side_met (Some f) (Some g) = Some (λ x. f x && g x)

abbrev pub known_met : Known → Known → Known
known_met k l = record {
  facts = λ x. k.facts x && l.facts x;
  sides = λ x v. side_met (at_this_end k x v) (at_this_end l x v);
  fields = λ f. k.fields f && l.fields f;
}

-- at the head of a loop nothing is known of the locals that it assigns
abbrev pub known_head : StmtTree → Known → Known
known_head s k = record k {
  facts = λ x. k.facts x && not (assigns s x);
  sides = λ x v. if assigns s x then Some no_facts else option_map (λ f y. f y && not (assigns s y)) (k.sides x v);
}

abbrev pub known_flow : CoreTree → BodyTree → Flow Known
known_flow c b = record {
  after = known_after c b;
  tested = known_tested;
  meet = known_met;
  head = known_head;
}

-- ---- what is asked

abbrev pub may_stand_at : CoreTree → BodyTree → Known → ExprTree → Option Ty → Bool
may_stand_at c b k e None = true
may_stand_at c b k e (Some t) = may_stand c b k e t

abbrev pub arguments_may_stand : CoreTree → BodyTree → Known → List ExprTree → List Ty → Bool
arguments_may_stand c b k [] ts = true
arguments_may_stand c b k (e ∷ es) [] = true
arguments_may_stand c b k (e ∷ es) (t ∷ ts) = may_stand c b k e t && arguments_may_stand c b k es ts

abbrev pub may_enter : CoreTree → BodyTree → Known → List ExprTree → Option BodyTree → Bool
may_enter c b k es None = true
may_enter c b k es (Some callee) = arguments_may_stand c b k es (types_of callee.params)

-- a local that is never null keeps such a result alone
abbrev pub may_keep : BodyTree → Option ℕ → Option Ty → Bool
may_keep b None result = true
may_keep b (Some x) result = not (is_non_null_type (slice_get (local_types b) x)) || is_non_null_type result

abbrev pub may_return : CoreTree → BodyTree → Known → Option ExprTree → Bool
may_return c b k None = true
may_return c b k (Some e) = may_stand_at c b k e b.result

-- no value that may be null goes where none is wanted
abbrev pub puts_no_null : CoreTree → BodyTree → StmtTree → Known → Bool
puts_no_null c b (AssignStmt p x e) k = may_stand_at c b k e (slice_get (local_types b) x)
puts_no_null c b (WriteStmt p o f m t e) k = may_stand c b k e (field_type c.classes f)
puts_no_null c b (NewStmt p x t es) k = may_enter c b k es (constructor_of c t)
puts_no_null c b (CallStmt p x callee es) k = may_enter c b k es (callee_of c b callee) && may_keep b x (result_of (callee_of c b callee))
puts_no_null c b (ReturnStmt p e) k = may_return c b k e
puts_no_null c b s k = true

abbrev pub null_check : CoreTree → BodyTree → Check Known
null_check c b = record { statement = puts_no_null c b; test = λ e k. true }

abbrev pub keeps_nulls_out : CoreTree → BodyTree → Bool
keeps_nulls_out c b = holds_along (known_flow c b) (null_check c b) b.code (Some (known_at_entry b))
