-- Initializers, one by one, and what is known before each.
use Rattle.std.specs.Prelude.{ℕ, suc, List, [], ◌∷◌, ◌++◌, true, false, length, nat_lt, ◌&&◌, Option, Some, None, slice_get}
use Rattle.ss_faults.specs.declared.Fault.{Fault}
use Rattle.ss_core.specs.declared.names.Ty.{Ty}
use Rattle.ss_core.specs.Tree as core
use Rattle.ss_core.specs.Kinds.{class_number}
use Rattle.ss_core.specs.Chain.{fields_of}
use Rattle.ss_typed.specs.Tree.{ExprTree, FieldTree, BaseTree, BodyTree, TypedTree}
use Rattle.ss_paths.specs.Sets.{Set}
use Rattle.ss_paths.specs.Fields.{Numbers}
use Rattle.ss_paths.specs.Assigned.{starts_with_value, assigned_by_initializers, assigned_first}
use Rattle.ss_nonnull_rules.specs.NonNull.{NullContext, Known}
use Rattle.ss_nonnull_rules.specs.Faults.{handed_to_base}
use Rattle.ss_nonnull_rules.specs.Program.{only_fields, initializer_faults, null_context_of}
use Rattle.ss_nonnull.specs.Walks.{block_faults}

-- the first n of these fields have begun with a value, where they do
abbrev pub begun_below : List FieldTree → ℕ → Set
begun_below fs n = λ i. nat_lt i n && starts_with_value (slice_get fs i)

abbrev pub begun_with : Set → Option Known
begun_with own = only_fields (record { own = own; above = false })

-- where the type of the field is known
abbrev pub initial_faults : NullContext → Option Known → Option Ty → Option ExprTree → List Fault
initial_faults s k None e = []
initial_faults s k (Some t) e = initializer_faults s k t e

abbrev pub type_of_field : Option core.FieldTree → Option Ty
type_of_field None = None
type_of_field (Some f) = Some f.ty

-- the initializers of these fields, before the first of which n are done, of all
abbrev pub each_initial : NullContext → List FieldTree → ℕ → List FieldTree → List core.FieldTree → List Fault
each_initial s all n [] ts = []
each_initial s all n (f ∷ fs) [] = []
each_initial s all n (f ∷ fs) (g ∷ gs) = initializer_faults s (begun_with (begun_below all n)) g.ty f.initial ++ each_initial s all (suc n) fs gs

-- ---- classes

abbrev pub context_with : TypedTree → ℕ → Numbers → NullContext
context_with p t n = record { program = p; class = t; numbers = n; constructs = true; in_old = false; result = None }

-- the initializers of the class at this place, before whose fields there are so many
abbrev pub class_faults : TypedTree → ℕ → ℕ → List FieldTree → List Fault
class_faults p k first fs =
    each_initial (context_with p (class_number k) (record { first = first; count = length (fields_of (slice_get p.classes k)) })) fs 0 fs (fields_of (slice_get p.classes k))

-- ---- bodies

abbrev pub base_call_faults : NullContext → ℕ → Option BaseTree → List Fault
base_call_faults s t None = []
base_call_faults s t (Some b) = handed_to_base s (only_fields (assigned_by_initializers s.program t)) b.arguments

abbrev pub code_faults : NullContext → BodyTree → List Fault
code_faults s b = block_faults s b.block (only_fields (assigned_first s.program b))

abbrev pub faults_in_body : TypedTree → BodyTree → List Fault
faults_in_body p b = base_call_faults (null_context_of p b) b.class b.base ++ code_faults (null_context_of p b) b
