-- The faults of a class by its number are those by its place.
use Rattle.std.proofs.Common.{ℕ, ◌≡◌, ◌+◌, ◌*◌, List, [], ◌∷◌, ◌++◌, true, Option, Some, None, sym, ap, ◌∙◌, arith}
use Rattle.std.specs.Prelude.{if◌then◌else◌, ◌%◌, nat_le, slice_get, option_map, is_some}
use Rattle.std.proofs.lemmas.Bool.{eq-eqb, le-leb}
use Rattle.ss_core.specs.declared.names.Place.{Place}
use Rattle.ss_core.specs.declared.names.BodyId.{BodyId}
use Rattle.ss_faults.specs.declared.Fault.{Fault}
use Rattle.ss_core.specs.Tree as core
use Rattle.ss_core.specs.Chain.{declared, above_of, fields_of}
use Rattle.ss_typed.specs.declared.program.TypedClass.{TypedClass}
use Rattle.ss_typed.specs.Tree.{TypedTree}
use Rattle.ss_typed.specs.View.{members}
use Rattle.ss_paths.specs.Fields.{own_fields, fields_of_members}
use Rattle.ss_typed.specs.Lookups.{class_place, constructor_of}
use Rattle.ss_paths.specs.Sets.{Set}
use Rattle.ss_paths.specs.Assigned.{assigned_by_initializers}
use Rattle.ss_typed.specs.Constructors.{is_delayed_body}
use Rattle.ss_delayed_rules.specs.Constructors.{unassigned, base_not_delayed, at, are_assigned_from, unassigned_faults, base_faults}
use Rattle.ss_delayed_rules.specs.Program.{implied_faults}
use Rattle.ss_paths_assigned.specs.Started.{started}
use Rattle.ss_paths_assigned.proofs.Places.{initializers_are}
use Rattle.ss_delayed.specs.Implied.{empty_faults}

pub place_is : (k : ℕ) → class_place (4 + 2 * k) ≡ k
place_is k = omega arith

even : (k : ℕ) → (4 + 2 * k) % 2 ≡ 0
even k = omega arith

at_least_four : (k : ℕ) → nat_le 4 (4 + 2 * k) ≡ true
at_least_four k = le-leb 4 (4 + 2 * k) (omega arith)

pub declared_is : (cs : List core.ClassTree) (k : ℕ) → declared cs (4 + 2 * k) ≡ slice_get cs k
declared_is cs k = rw (at_least_four k, eq-eqb ((4 + 2 * k) % 2) 0 (even k)) (ap (slice_get cs) (place_is k))

pub empty_is : (p : TypedTree) (k : ℕ) (q : Place) → empty_faults p k q ≡ unassigned_faults p (4 + 2 * k) q (Some (assigned_by_initializers p (4 + 2 * k))) ++ base_faults p (4 + 2 * k) q
empty_is p k q =
    ap (λ (j : ℕ). (if are_assigned_from (started (fields_of_members (slice_get p.members j))) 0 (fields_of (slice_get p.classes j)) then [] else at unassigned q ∷ []) ++ above_faults (slice_get p.classes k)) (sym (place_is k))
    ∙ ap (λ (s : Set). (if are_assigned_from s 0 (own_fields p (4 + 2 * k)) then [] else at unassigned q ∷ []) ++ above_faults (slice_get p.classes k)) (sym (initializers_are p (4 + 2 * k)))
    ∙ ap (λ (o : Option core.ClassTree). unassigned_faults p (4 + 2 * k) q (Some (assigned_by_initializers p (4 + 2 * k))) ++ above_faults o) (sym (declared_is p.classes k))
  where
    above_faults : Option core.ClassTree → List Fault
    above_faults o = if is_delayed_body (constructor_of p (above_of o)) then [] else at base_not_delayed q ∷ []

-- a class without a written constructor
pub implied_found : (p : TypedTree) (k : ℕ) (c : TypedClass) (f0 f1 : List Fault) → c.constructor ≡ None → f1 ≡ f0 ++ empty_faults p k c.place → f1 ≡ f0 ++ implied_faults p (4 + 2 * k) (members c)
implied_found p k c f0 f1 none found =
    found
    ∙ ap (λ z. f0 ++ z) (empty_is p k c.place)
    ∙ ap (λ (o : Option BodyId). f0 ++ (if is_some (option_map (λ (n : BodyId). n.0) o) then [] else unassigned_faults p (4 + 2 * k) c.place (Some (assigned_by_initializers p (4 + 2 * k))) ++ base_faults p (4 + 2 * k) c.place)) (sym none)
