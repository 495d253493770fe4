-- A value that may be null stands where none is wanted.
use Rattle.std.specs.Prelude.{ℕ, ◌==◌, List, [], ◌∷◌, ◌++◌, Bool, true, false, not, ◌&&◌, if◌then◌else◌, Option, Some, None, option_map, is_some, slice_get}
use Rattle.ss_core.specs.declared.names.Place.{Place}
use Rattle.ss_core.specs.declared.rules.Rule.TheVariants as rule
use Rattle.ss_core.specs.Rules.{rule_number}
use Rattle.ss_faults.specs.declared.Fault.{Fault}
use Rattle.ss_core.specs.declared.names.Ty.{Ty}
use Rattle.ss_core.specs.declared.names.Ty.TheVariants as ty
use Rattle.ss_core.specs.Tree as core
use Rattle.ss_core.specs.Chain.{above, table}
pub use Rattle.ss_core.specs.Chain.{table_of}
use Rattle.ss_typed.specs.Constructors.{written_constructor}
use Rattle.ss_typed.specs.Tree.{ExprTree, IntOf, BoolOf, NullOf, ThisOf, LocalOf, ResultOf, BoundOf, FieldOf, ElementOf, LengthOf, NegateOf, NotOf, BinaryOf, ImpliesOf, IffOf, IsOf, AsOf, CastOf, OldOf, QuantifiedOf, StateOf, OwnersOf, NewOf, NewArrayOf, CallOf, StaticOf, BaseOf, Arguments, NoMore, Argument, DeclaratorTree, SimpleTree, AssignOf, StepOf, AloneOf, BaseCallOf, PrintOf, PrintTextOf, TypedTree}
use Rattle.ss_typed.specs.Shapes.{place_of}
use Rattle.ss_typed.specs.Types.{type_of}
use Rattle.ss_paths.specs.Fields.{is_non_null}
use Rattle.ss_typed.specs.Lookups.{body_at, members_of, param_types_in}
use Rattle.ss_paths.specs.Paths.{Check}
use Rattle.ss_nonnull_rules.specs.NonNull.{NullContext, Known, is_never_null, known_right}

-- the number of the rule
abbrev pub may_be_null : ℕ
may_be_null = rule_number rule.MayBeNull

abbrev pub null_fault : Place → Fault
null_fault p = record { rule = may_be_null; place = p }

-- The expression stands where a value of this type is wanted. Of what has no type, as `result` where there is none, another phase speaks.
abbrev pub wanted : NullContext → Option Known → ExprTree → Ty → List Fault
wanted s k e t = if is_non_null t && is_some (type_of e) && not (is_never_null s k e) then null_fault (place_of e) ∷ [] else []

abbrev pub wanted_if : NullContext → Option Known → ExprTree → Option Ty → List Fault
wanted_if s k e None = []
wanted_if s k e (Some t) = wanted s k e t

-- ---- what a call hands over

-- the types of the parameters of a body
abbrev pub parameters : TypedTree → Option ℕ → List Ty
parameters p None = []
parameters p (Some n) = param_types_in (body_at p n)

abbrev pub body_of_entry : Option core.EntryTree → Option ℕ
body_of_entry None = None
body_of_entry (Some e) = Some e.body

-- the body at this place of the table of the class
abbrev pub body_in_table : TypedTree → ℕ → ℕ → Option ℕ
body_in_table p t m = body_of_entry (slice_get (table p.classes t) m)

abbrev pub class_of : Option Ty → Option ℕ
class_of (Some (ty.Ref t non_null)) = Some t.0
class_of a = None

-- the method at this place of the table of the static class of the receiver
abbrev pub method_of : TypedTree → Option ℕ → ℕ → Option ℕ
method_of p None m = None
method_of p (Some t) m = body_in_table p t m

-- the types of the parameters of the constructor of the class; one that isn't written has none
abbrev pub constructor_parameters : TypedTree → ℕ → List Ty
constructor_parameters p t = parameters p (written_constructor (members_of p t))

-- ---- inside an expression

abbrev mutual
  -- the faults inside the expression; they are at arguments of calls
  pub inside : NullContext → Option Known → ExprTree → List Fault
  inside s k (IffOf p a b) = inside s k a ++ inside s k b
  inside s k (ImpliesOf p a b) = inside s k a ++ inside s k b
  inside s k (BinaryOf p o a b) = inside s k a ++ inside s (option_map (known_right o a) k) b
  inside s k (IsOf p e t) = inside s k e
  inside s k (AsOf p e t) = inside s k e
  inside s k (NegateOf p e) = inside s k e
  inside s k (NotOf p e) = inside s k e
  inside s k (CastOf p t non_null e) = inside s k e
  inside s k (FieldOf p e f t) = inside s k e
  inside s k (ElementOf p a i) = inside s k a ++ inside s k i
  inside s k (LengthOf p e) = inside s k e
  inside s k (OldOf p e) = inside (record s { in_old = true }) k e
  inside s k (QuantifiedOf p q name low high e) = inside s k low ++ inside s k high ++ inside s k e
  inside s k (StateOf p w e) = inside s k e
  inside s k (OwnersOf p w a b) = inside s k a ++ inside s k b
  inside s k (NewOf p t es) = handed s k es (constructor_parameters s.program t)
  inside s k (NewArrayOf p t e) = inside s k e
  inside s k (CallOf p e m t es) = inside s k e ++ handed s k es (parameters s.program (method_of s.program (class_of (type_of e)) m))
  inside s k (StaticOf p n t es) = handed s k es (parameters s.program (Some n))
  inside s k (BaseOf p m t es) = handed s k es (parameters s.program (body_in_table s.program (above s.program.classes s.class) m))
  inside s k e = []

  -- each argument stands where a value of its parameter's type is wanted
  pub handed : NullContext → Option Known → Arguments → List Ty → List Fault
  handed s k NoMore ts = []
  handed s k (Argument e es) [] = inside s k e ++ handed s k es []
  handed s k (Argument e es) (t ∷ ts) = inside s k e ++ wanted s k e t ++ handed s k es ts

-- ---- what is done at a point

-- a local of non-null type starts with a value, and that isn't null
abbrev pub starts : NullContext → Option Known → Place → Ty → Option ExprTree → List Fault
starts s k p t None = if is_non_null t then null_fault p ∷ [] else []
starts s k p t (Some e) = inside s k e ++ wanted s k e t

abbrev pub inside_if : NullContext → Option Known → Option ExprTree → List Fault
inside_if s k None = []
inside_if s k (Some e) = inside s k e

-- the arguments of `base(..)` go to the constructor of the class above
abbrev pub handed_to_base : NullContext → Option Known → Arguments → List Fault
handed_to_base s k es = handed s k es (constructor_parameters s.program (above s.program.classes s.class))

abbrev pub done_faults : NullContext → SimpleTree → Option Known → List Fault
done_faults s (AssignOf l o e) k = inside s k l ++ inside s k e ++ wanted_if s k e (type_of l)
done_faults s (StepOf l o) k = inside s k l
done_faults s (AloneOf e) k = inside s k e
done_faults s (PrintOf p e line) k = inside_if s k e
done_faults s (PrintTextOf p text line) k = []
done_faults s (BaseCallOf p es) k = handed_to_base s k es

abbrev pub returned_faults : NullContext → Option ExprTree → Option Known → List Fault
returned_faults s None k = []
returned_faults s (Some e) k = inside s k e ++ wanted_if s k e s.result

-- A condition has no call, so nothing is handed over in it.
abbrev pub null_check : NullContext → Check Known
null_check s = record {
  declared = λ d k. starts s k d.place d.ty d.initial;
  done = done_faults s;
  read = λ e k. inside s k e;
  returned = returned_faults s;
}
