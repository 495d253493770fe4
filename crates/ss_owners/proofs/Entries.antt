-- Fields with their entries, gone over by a loop.
use Rattle.std.specs.Prelude.{slice_get, option_map}
use Rattle.std.proofs.Common.{◌≡◌, ◌++◌, Option, None, Bor, ◌+◌, ◌<◌, ℕ, length, drop, get_or, List, [], ◌∷◌, map, refl, sym, ap, ◌∙◌, append_assoc, append-nil}
use Rattle.ss_core.specs.declared.names.Mark.{Mark}
use Rattle.ss_core.specs.declared.class.Class.{Class}
use Rattle.ss_core.specs.declared.class.Field.{Field}
use Rattle.ss_core.specs.View.{class_of, field_of}
use Rattle.ss_core.specs.Tree as core
use Rattle.ss_core.specs.Chain.{fields_of}
use Rattle.ss_faults.specs.declared.Fault.{Fault}
use Rattle.ss_typed.specs.declared.program.TypedField.{TypedField}
use Rattle.ss_typed.specs.Tree.{FieldTree}
use Rattle.ss_typed.specs.declared.program.TypedClass.{TypedClass}
use Rattle.ss_typed.specs.declared.program.TypedInvariant.{TypedInvariant}
use Rattle.ss_typed.specs.declared.program.Typed.{Typed}
use Rattle.ss_typed.specs.View.{field, invariant_of, members, typed}
use Rattle.ss_owners_rules.specs.Admissible.{field_marks}
use Rattle.ss_ast.proofs.Loops.{drop_next}
use Rattle.ss_owners_rules.specs.Program.{field_faults, fields_faults, invariants_faults, class_faults}

-- one more field
pub fields_more : (fs : List TypedField) (gs : List Field) (i : ℕ) (x : TypedField) (y : Field) (f0 f1 all : List Fault)
    → f0 ++ fields_faults (map field (drop i fs)) (map field_of (drop i gs)) ≡ all → i < length fs → x ≡ get_or fs i x → i < length gs → y ≡ get_or gs i y
    → f1 ≡ f0 ++ field_faults (field x) (field_of y) → f1 ++ fields_faults (map field (drop (i + 1) fs)) (map field_of (drop (i + 1) gs)) ≡ all
fields_more fs gs i x y f0 f1 all so_far l x_is m y_is added =
    let rest = fields_faults (map field (drop (i + 1) fs)) (map field_of (drop (i + 1) gs)) in
    ap (λ (z : List Fault). z ++ rest) added
    ∙ append_assoc f0 (field_faults (field x) (field_of y)) rest
    ∙ sym (ap (λ (zs : List TypedField). f0 ++ fields_faults (map field zs) (map field_of (drop i gs))) (drop_next fs i x l x_is)
    ∙ ap (λ (zs : List Field). f0 ++ fields_faults (field x ∷ map field (drop (i + 1) fs)) (map field_of zs)) (drop_next gs i y m y_is))
    ∙ so_far

pub without_entries : (fs : List FieldTree) → fields_faults fs [] ≡ []
without_entries [] = refl
without_entries (f ∷ fs) = refl

-- where a class has no entry
pub nothing_entered : (fs : List FieldTree) (o : Option (Bor Class)) (f : List Fault) → o ≡ None → f ≡ f ++ fields_faults fs (fields_of (option_map (λ (k : Bor Class). class_of k.now) o))
nothing_entered fs o f none =
    sym (ap (λ (q : Option (Bor Class)). f ++ fields_faults fs (fields_of (option_map (λ (k : Bor Class). class_of k.now) q))) none ∙ ap (λ (z : List Fault). f ++ z) (without_entries fs) ∙ append-nil f)

-- a class, its fields first
pub class_found : (t : Typed) (k : ℕ) (c : TypedClass) (ms : List Mark) (o : Option core.ClassTree) (fs : List TypedField) (rest : List TypedInvariant) (f0 f1 f2 : List Fault)
    → ms ≡ field_marks (typed t).classes → o ≡ slice_get (typed t).classes k → fs ≡ c.fields.items → rest ≡ c.invariants.items
    → f1 ≡ f0 ++ fields_faults (map field fs) (fields_of o) → f2 ≡ f1 ++ invariants_faults ms (map invariant_of rest) → f2 ≡ f0 ++ class_faults (typed t) k (members c)
class_found t k c ms o fs rest f0 f1 f2 ms_is o_is fs_is rest_is f1_is f2_is =
    f2_is
    ∙ ap (λ (z : List Fault). z ++ invariants_faults ms (map invariant_of rest)) f1_is
    ∙ append_assoc f0 (fields_faults (map field fs) (fields_of o)) (invariants_faults ms (map invariant_of rest))
    ∙ ap (λ (z : List Mark). f0 ++ (fields_faults (map field fs) (fields_of o) ++ invariants_faults z (map invariant_of rest))) ms_is
    ∙ ap (λ (z : Option core.ClassTree). f0 ++ (fields_faults (map field fs) (fields_of z) ++ invariants_faults (field_marks (typed t).classes) (map invariant_of rest))) o_is
    ∙ ap (λ (z : List TypedField). f0 ++ (fields_faults (map field z) (fields_of (slice_get (typed t).classes k)) ++ invariants_faults (field_marks (typed t).classes) (map invariant_of rest))) fs_is
    ∙ ap (λ (z : List TypedInvariant). f0 ++ (fields_faults (map field c.fields.items) (fields_of (slice_get (typed t).classes k)) ++ invariants_faults (field_marks (typed t).classes) (map invariant_of z))) rest_is
