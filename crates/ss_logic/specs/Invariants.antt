-- The rule on invariants: where an object is packed at a class, each invariant of the class is defined and true of it.
use Rattle.std.specs.Prelude.{ℕ, List, [], ◌∷◌, map, true, false, Option, Some, None, if◌then◌else◌}
use Rattle.ss_core.specs.declared.names.Ty.TheVariants as ty
use Rattle.ss_core.specs.Tree.{ClassTree}
use Rattle.ss_store_rules.specs.Admissible.{invariants}
use Rattle.ss_logic.specs.declared.Sort.TheVariants as sort
use Rattle.ss_logic.specs.Terms.{Term, have_sorts}
use Rattle.ss_logic.specs.Formulas.{Formula}
use Rattle.ss_logic.specs.Shapes.{class_term, level_of, sub_atom, allocated, given, class_of_term}
use Rattle.ss_logic.specs.Express.{One, Context, and_of, holds_formula}

-- an invariant of the class t of the object o, in the store s
abbrev pub invariant_context : List ClassTree → Term → Term → ℕ → Context
invariant_context cs s o t = record {
  classes = cs;
  now = s;
  entry = s;
  inside_old = false;
  types = ty.Ref (record { 0 = t }) true ∷ [];
  locals = One o ∷ [];
  bound = 0;
}

abbrev pub invariants_said : List ClassTree → Term → Term → ℕ → Formula
invariants_said cs s o t = and_of (map (λ e. holds_formula e (invariant_context cs s o t)) (invariants cs t))

abbrev pub packed_invariants : List ClassTree → Term → Term → ℕ → Formula
packed_invariants cs s o t = given (allocated s o ∷ sub_atom (level_of s o) (class_term t) ∷ []) (invariants_said cs s o t)

abbrev pub invariants_at : List ClassTree → Term → Term → Option ℕ → Option Formula
invariants_at cs s o (Some t) = Some (packed_invariants cs s o t)
invariants_at cs s o None = None

-- the instance at an object and a class name
abbrev pub invariants_of : List ClassTree → Term → List Term → Option Formula
invariants_of cs s (o ∷ t ∷ []) = if have_sorts cs (sort.Store ∷ sort.Rest ∷ []) (s ∷ o ∷ []) then invariants_at cs s o (class_of_term t) else None
invariants_of cs s ts = None
