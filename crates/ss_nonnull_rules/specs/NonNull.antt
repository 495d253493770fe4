-- Which expressions are never null, by what is known where they stand (OOPSLA 2003).
use Rattle.std.specs.Prelude.{ℕ, ◌==◌, List, [], ◌∷◌, Bool, true, false, not, ◌&&◌, ◌||◌, if◌then◌else◌, Option, Some, None}
use Rattle.ss_core.specs.declared.names.Place.{Place}
use Rattle.ss_ast.specs.declared.stmt.AssignOperator.TheVariants as assign
use Rattle.ss_core.specs.declared.names.Ty.{Ty}
use Rattle.ss_core.specs.declared.expr.Operator.{Operator}
use Rattle.ss_core.specs.declared.expr.Operator.TheVariants as op
pub use Rattle.ss_core.specs.Types.{is_non_null_type}
use Rattle.ss_typed.specs.Tree.{ExprTree, ThisOf, LocalOf, ResultOf, FieldOf, CastOf, OldOf, NewOf, NewArrayOf, CallOf, StaticOf, BaseOf, DeclaratorTree, SimpleTree, AssignOf, StmtTree, TypedTree}
use Rattle.ss_paths.specs.Sets.{Set, either, both, put}
use Rattle.ss_paths.specs.Fields.{Numbers, is_non_null}
use Rattle.ss_paths.specs.Paths.{Flow}
use Rattle.ss_paths.specs.Assigned.{Assigned, has_field, assigned_by, both_assigned}
use Rattle.ss_typed.specs.Shapes.{is_this}
use Rattle.ss_nonnull_rules.specs.Facts.{says, forgotten}

-- The context of an expression: the program, the class, whether it stands in a constructor or in `old`, and the body's result.
pub record NullContext : Type 0 where
  pub program : TypedTree
  -- the class, and the numbers of its fields
  pub class : ℕ
  pub numbers : Numbers
  -- in a constructor
  pub constructs : Bool
  pub in_old : Bool
  -- the type of the body's result
  pub result : Option Ty

-- What is known at a point: which locals aren't null, and which fields of the `this` of a constructor are assigned.
pub record Known : Type 0 where
  pub facts : Set
  pub fields : Assigned

-- Where no path leads nothing is known of a local, and each field counts as assigned.
abbrev pub knows : Option Known → ℕ → Bool
knows None x = false
knows (Some k) x = k.facts x

abbrev pub has_its_field : NullContext → Option Known → ℕ → Bool
has_its_field s None f = true
has_its_field s (Some k) f = has_field s.numbers k.fields f

-- In a constructor a field of `this` has its type only once it is assigned, and inside `old` no field has.
abbrev pub field_is_set : NullContext → Option Known → ExprTree → ℕ → Bool
field_is_set s k e f = not s.constructs || not s.in_old && (not (is_this e) || has_its_field s k f)

-- the result of a body that has none fits everything: where it may stand another rule sees to
abbrev pub is_set_result : Option Ty → Bool
is_set_result None = true
is_set_result (Some t) = is_non_null t

-- The value isn't null by its type, or because it is a local that is known.
abbrev pub is_never_null : NullContext → Option Known → ExprTree → Bool
is_never_null s k (ThisOf p t) = true
is_never_null s k (LocalOf p x t) = is_non_null t || knows k x
is_never_null s k (FieldOf p e f t) = is_non_null t && field_is_set s k e f
is_never_null s k (CastOf p t non_null e) = non_null
is_never_null s k (OldOf p e) = is_never_null (record s { in_old = true }) k e
is_never_null s k (NewOf p t es) = true
is_never_null s k (NewArrayOf p t e) = true
is_never_null s k (CallOf p e m t es) = is_non_null_type t
is_never_null s k (StaticOf p n t es) = is_non_null_type t
is_never_null s k (BaseOf p m t es) = is_non_null_type t
is_never_null s k (ResultOf p t) = is_set_result t
is_never_null s k e = false

-- ---- along paths

abbrev pub known_tested : ExprTree → Bool → Known → Known
known_tested e v k = record k { facts = either k.facts (says e v) }

-- what is known where the right operand is read
abbrev pub known_right : Operator → ExprTree → Known → Known
known_right op.And a k = known_tested a true k
known_right op.Or a k = known_tested a false k
known_right o a k = k

-- a local that starts without a value is null
abbrev pub starts_non_null : NullContext → Known → Option ExprTree → Bool
starts_non_null s k None = false
starts_non_null s k (Some e) = is_never_null s (Some k) e

abbrev pub known_declared : NullContext → DeclaratorTree → Known → Known
known_declared s d k = record k { facts = put d.local (starts_non_null s k d.initial) k.facts }

-- what stands on the left is put to a value that isn't null, or to one that may be
abbrev pub put_left : ExprTree → Bool → Set → Set
put_left (LocalOf p x t) non_null f = put x non_null f
put_left l non_null f = f

abbrev pub facts_done : NullContext → SimpleTree → Known → Set
facts_done s (AssignOf l assign.Set e) k = put_left l (is_never_null s (Some k) e) k.facts
facts_done s st k = k.facts

abbrev pub known_done : NullContext → SimpleTree → Known → Known
known_done s st k = record { facts = facts_done s st k; fields = assigned_by s.numbers st k.fields }

abbrev pub known_met : Known → Known → Known
known_met k l = record { facts = both k.facts l.facts; fields = both_assigned k.fields l.fields }

abbrev pub known_flow : NullContext → Flow Known
known_flow s = record {
  declared = known_declared s;
  done = known_done s;
  tested = known_tested;
  meet = known_met;
  head = λ st step k. record k { facts = forgotten st step k.facts };
}
