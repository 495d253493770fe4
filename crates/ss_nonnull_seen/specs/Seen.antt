-- All that is asked of an expression from outside, in one record, so that it is walked once.
use Rattle.std.specs.Prelude.{◌≡◌, ℕ, List, [], ◌∷◌, ◌++◌, Bool, true, false, not, ◌&&◌, ◌||◌, if◌then◌else◌, Option, Some, None, is_some}
use Rattle.ss_core.specs.declared.names.Place.{Place}
use Rattle.ss_faults.specs.declared.Fault.{Fault}
use Rattle.ss_core.specs.declared.names.Ty.{Ty}
use Rattle.ss_core.specs.declared.names.Ty.TheVariants as ty
use Rattle.ss_core.specs.declared.expr.Operator.{Operator}
use Rattle.ss_core.specs.declared.expr.Operator.TheVariants as op
use Rattle.ss_typed.specs.Tree.{ExprTree}
use Rattle.ss_typed.specs.Types.{type_of, class_type, element_of}
use Rattle.ss_paths.specs.Sets.{Set, none, either}
use Rattle.ss_paths.specs.Fields.{is_non_null}
use Rattle.ss_typed.specs.Shapes.{is_this, is_true, local_of, place_of}
use Rattle.ss_nonnull_rules.specs.Facts.{is_null, the_one, says}
use Rattle.ss_nonnull_rules.specs.NonNull.{NullContext, Known, knows, has_its_field, is_never_null, is_non_null_type}
use Rattle.ss_nonnull_rules.specs.Faults.{null_fault, inside}

pub record Seen : Type 0 where
  pub place : Place
  pub ty : Option Ty
  pub is_this : Bool
  -- the literals `null` and `true`
  pub is_null : Bool
  pub is_true : Bool
  -- its value isn't null where it stands
  pub never_null : Bool
  -- the local that it is, if it is one
  pub local : Option ℕ
  -- the locals that aren't null where it is true, and where it is false
  pub holds : Set
  pub fails : Set

abbrev pub seen : NullContext → Option Known → ExprTree → Seen
seen s k e = record {
  place = place_of e;
  ty = type_of e;
  is_this = is_this e;
  is_null = is_null e;
  is_true = is_true e;
  never_null = is_never_null s k e;
  local = local_of e;
  holds = says e true;
  fails = says e false;
}

-- ---- by the form of the expression

-- what is no local, neither `this` nor one of these literals, and says nothing
abbrev pub plain : Place → Option Ty → Bool → Seen
plain p t never_null = record {
  place = p;
  ty = t;
  is_this = false;
  is_null = false;
  is_true = false;
  never_null = never_null;
  local = None;
  holds = none;
  fails = none;
}

-- of which nothing is seen but its place and its type
abbrev pub by_type : ExprTree → Seen
by_type e = plain (place_of e) (type_of e) (is_non_null_type (type_of e))

abbrev pub literal : Place → Bool → Seen
literal p b = record (plain p (Some ty.Bool) false) { is_true = b }

abbrev pub null_literal : Place → Seen
null_literal p = record (plain p (Some ty.Null) false) { is_null = true }

abbrev pub this_object : Place → ℕ → Seen
this_object p t = record (plain p (Some (class_type t true)) true) { is_this = true }

abbrev pub local_read : Option Known → Place → ℕ → Ty → Seen
local_read k p x t = record (plain p (Some t) (is_non_null t || knows k x)) { local = Some x }

-- a test that says this where it is true, and where it is false
abbrev pub telling : Place → Set → Set → Seen
telling p holds fails = record (plain p (Some ty.Bool) false) { holds = holds; fails = fails }

abbrev pub negated : Place → Seen → Seen
negated p v = telling p v.fails v.holds

-- `old(..)`
abbrev pub aged : Place → Seen → Seen
aged p v = plain p v.ty v.never_null

abbrev pub class_tested : Place → Seen → Seen
class_tested p v = telling p (the_one v.local) none

-- the left side, where the right one is `null`
abbrev pub compared_by : Seen → Seen → Set
compared_by a b = if b.is_null then the_one a.local else none

abbrev pub operated : Place → Operator → Seen → Seen → Seen
operated p op.And a b = telling p (either a.holds b.holds) none
operated p op.Or a b = telling p none (either a.fails b.fails)
operated p op.NotEqual a b = telling p (compared_by a b) none
operated p op.Equal a b = telling p none (compared_by a b)
operated p op.Less a b = plain p (Some ty.Bool) false
operated p op.LessEqual a b = plain p (Some ty.Bool) false
operated p op.Greater a b = plain p (Some ty.Bool) false
operated p op.GreaterEqual a b = plain p (Some ty.Bool) false
operated p op.Add a b = plain p (Some ty.Int) false
operated p op.Subtract a b = plain p (Some ty.Int) false
operated p op.Multiply a b = plain p (Some ty.Int) false
operated p op.Divide a b = plain p (Some ty.Int) false
operated p op.Remainder a b = plain p (Some ty.Int) false

-- a field of what is `this` or not
abbrev pub is_set : NullContext → Option Known → Bool → ℕ → Bool
is_set s k is_this f = not s.constructs || not s.in_old && (not is_this || has_its_field s k f)

abbrev pub field_read : NullContext → Option Known → Place → ℕ → Ty → Seen → Seen
field_read s k p f t v = plain p (Some t) (is_non_null t && is_set s k v.is_this f)

abbrev pub element_read : Place → Seen → Seen
element_read p v = plain p (element_of v.ty) false

abbrev pub called : Place → Option Ty → Seen
called p t = plain p t (is_non_null_type t)

-- ---- faults

abbrev pub fault_where : Bool → Place → List Fault
fault_where b p = if b then null_fault p ∷ [] else []

abbrev pub lacks : Ty → Seen → Bool
lacks t v = is_non_null t && is_some v.ty && not v.never_null

-- it stands where a value of this type is wanted, if of any
abbrev pub lacking : Option Ty → Seen → List Fault
lacking None v = []
lacking (Some t) v = fault_where (lacks t v) v.place

-- ---- what is known of the right operand

-- which truth value of the left operand it is read at, where that says something
abbrev pub learnt_at : Operator → Option Bool
learnt_at op.And = Some true
learnt_at op.Or = Some false
learnt_at op.Equal = None
learnt_at op.NotEqual = None
learnt_at op.Less = None
learnt_at op.LessEqual = None
learnt_at op.Greater = None
learnt_at op.GreaterEqual = None
learnt_at op.Add = None
learnt_at op.Subtract = None
learnt_at op.Multiply = None
learnt_at op.Divide = None
learnt_at op.Remainder = None

abbrev pub side_of : Bool → Seen → Set
side_of v a = if v then a.holds else a.fails

-- ---- one part more

-- after faults that were there before, an expression was read up to where this is known of it
pub record IsSeen (s : NullContext) (k : Option Known) (before now : List Fault) (v : Seen) (e : ExprTree) : Type 0 where
  pub is : v ≡ seen s k e
  pub noted : now ≡ before ++ inside s k e

-- what stands after any expression that was read, by the faults and what is known of it
pub record Leads (s : NullContext) (k : Option Known) (old : List Fault) (from : Seen) (new : List Fault) (to : Seen) (behind : ExprTree → ExprTree) : Type 0 where
  pub on : (e : ExprTree) (before : List Fault) → IsSeen s k before old from e → IsSeen s k before new to (behind e)
