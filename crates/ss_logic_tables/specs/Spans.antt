-- The frame condition between two heaps, and what its terms stand for.
use Rattle.std.specs.Prelude.{◌≡◌, List, [], ◌∷◌, Bool, true, false, ◌&&◌}
use Rattle.std.specs.List.{list_all}
use Rattle.ss_core.specs.declared.names.Ty.{Ty}
use Rattle.ss_core.specs.Tree.{ClassTree, NamedTree, BodyTree}
use Rattle.ss_core.specs.Chain.{IsChain, NoAlso}
use Rattle.ss_store_rules.specs.declared.Value.{Value as ObjectValue}
use Rattle.ss_store_rules.specs.Good.{IsGood}
use Rattle.ss_store_rules.specs.Admissible.{invariants_hold}
use Rattle.ss_store_rules.specs.Locals.{argument_types, local_types}
use Rattle.ss_store_rules.specs.Types.{is_reference, type_of}
use Rattle.ss_store_rules.specs.Typed.{is_local}
use Rattle.ss_machine_rules.specs.Frame.{Span, subject_of}
use Rattle.ss_machine_rules.specs.States.{locals_at_entry}
use Rattle.ss_machine_typed.specs.Older.{IsOlder}
use Rattle.ss_machine_typed.specs.Settings.{AreGoodArguments}
use Rattle.ss_logic.specs.declared.Sort.{Sort}
use Rattle.ss_logic.specs.declared.Sort.TheVariants as sort
use Rattle.ss_logic.specs.Values.{Heap, Value, Structure}
use Rattle.ss_logic.specs.Terms.{Term, sort_of_type, value_of}
use Rattle.ss_logic.specs.Objects.{objects_of}
use Rattle.ss_logic.specs.Express.{Meant, One, Either, Says, choices}
use Rattle.ss_logic.specs.Frames.{CallTerms}
use Rattle.ss_logic_means.specs.Means.{standing, Denotes}
use Rattle.ss_logic_means.specs.Scenes.{IsStoreTerm, has_no_default}
use Rattle.ss_logic_means.specs.Sorts.{HasSort, HaveSort}
use Rattle.ss_vcgen_heaps.specs.Contracts.{frame_terms}

-- ---- arguments

-- one term, or what a formula says
abbrev pub IsSettled : Meant → Type 0
IsSettled (One t) = Unit {0}
IsSettled (Either xs) = ⊥
IsSettled (Says f) = Unit {0}

-- An argument of the type has the value, whatever names are bound around it.
pub record IsArgument (cs : List ClassTree) (m : Structure) (t : Ty) (x : Meant) (v : ObjectValue) : Type 0 where
  pub settled : IsSettled x
  pub sorted : (bound : List Sort) → HaveSort cs bound (sort_of_type t) (choices x)
  pub denotes : (e : List Value) → Denotes cs m e x (standing v)

-- one for each type
abbrev pub AreArguments : List ClassTree → Structure → List Ty → List Meant → List ObjectValue → Type 0
AreArguments cs m [] [] [] = Unit {0}
AreArguments cs m (t ∷ ts) (x ∷ xs) (v ∷ vs) = IsArgument cs m t x v × AreArguments cs m ts xs vs
AreArguments cs m ts xs vs = ⊥

-- terms for these references
abbrev pub AreReferences : List ClassTree → Structure → List Term → List ObjectValue → Type 0
AreReferences cs m [] [] = Unit {0}
AreReferences cs m (t ∷ ts) (v ∷ vs) = HasSort cs [] sort.Rest t × (value_of cs m [] t ≡ standing v) × AreReferences cs m ts vs
AreReferences cs m ts vs = ⊥

-- ---- spans

-- what is named is typed, as a reference
abbrev pub is_typed_name : List ClassTree → BodyTree → NamedTree → Bool
is_typed_name cs b n = has_no_default (subject_of n) && is_reference (type_of cs (local_types b) (subject_of n))

-- The terms of a frame condition: the stores, the arguments, and the objects of enclosing exposes.
pub record SpanTerms : Type 0 where
  pub before : Term
  pub after : Term
  pub arguments : List Meant
  pub outside : List Term

-- and what these stand for
pub record SpanValues : Type 0 where
  pub before : Heap
  pub after : Heap
  pub arguments : List ObjectValue
  pub outside : List ObjectValue

abbrev pub terms_of : List ClassTree → BodyTree → SpanTerms → CallTerms
terms_of cs b t = frame_terms cs b t.before t.after t.arguments t.outside

-- the frame condition over the objects of the two heaps
abbrev pub span_of : List ClassTree → Structure → BodyTree → SpanValues → Span
span_of cs m b v = record {
  classes = cs;
  body = b;
  locals = locals_at_entry b v.arguments;
  entry = objects_of cs m.table v.before;
  now = objects_of cs m.table v.after;
  outside = v.outside;
}

-- A body's parameters and names have types, and a constructor has a `this`.
pub record IsTypedBody (cs : List ClassTree) (b : BodyTree) : Type 0 where
  pub named : list_all (is_typed_name cs b) b.named ≡ true
  pub params : list_all (is_local cs) b.params ≡ true
  pub constructs : b.flags.ctor ≡ true → b.flags.is_static ≡ false

-- The terms stand for the values: two good stores, of which the later is that much later, arguments of the body, and references.
pub record IsSpan (cs : List ClassTree) (m : Structure) (b : BodyTree) (t : SpanTerms) (v : SpanValues) : Type 0 where
  pub chain : IsChain cs
  pub beside : NoAlso cs
  pub body : IsTypedBody cs b
  pub before : IsStoreTerm cs m t.before v.before
  pub after : IsStoreTerm cs m t.after v.after
  pub good_before : IsGood cs (invariants_hold cs) (objects_of cs m.table v.before)
  pub good_after : IsGood cs (invariants_hold cs) (objects_of cs m.table v.after)
  pub older : IsOlder (objects_of cs m.table v.before) (objects_of cs m.table v.after)
  pub passed : AreGoodArguments cs (objects_of cs m.table v.before) b v.arguments
  pub arguments : AreArguments cs m (argument_types b) t.arguments v.arguments
  pub outside : AreReferences cs m t.outside v.outside
