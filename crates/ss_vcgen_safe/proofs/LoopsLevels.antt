-- The levels of what is exposed around a loop: the formula is true exactly where the objects stand there.
use Rattle.std.proofs.Common.{◌≡◌, ℕ, List, [], ◌∷◌, ◌++◌, map, Bool, true, false, ◌||◌, refl, subst}
use Rattle.std.specs.List.{list_any}
use Rattle.std.proofs.lemmas.Bool.{false≢true}
use Rattle.ss_core.specs.Chain.{above}
use Rattle.ss_core.specs.Tree.{ClassTree, ExposedTree}
use Rattle.ss_store_rules.specs.declared.Value.{Value as ObjectValue}
use Rattle.ss_store_rules.specs.declared.Value.TheVariants as value
use Rattle.ss_store_rules.specs.Store.{Object}
use Rattle.ss_store_rules.specs.Reads.{same_value}
use Rattle.ss_machine_rules.specs.States.{Frame}
use Rattle.ss_machine_rules.specs.Steps.{held_by, stands_above, are_exposed}
use Rattle.ss_logic.specs.Values.{Heap, store, Structure}
use Rattle.ss_logic.specs.Terms.{Term, value_of}
use Rattle.ss_logic.specs.Formulas.{Formula}
use Rattle.ss_logic.specs.Objects.{objects_of}
use Rattle.ss_logic.specs.Shapes.{null_term, class_term, level_of, equal}
use Rattle.ss_logic.specs.Express.{and_of, or_of}
use Rattle.ss_logic_means.specs.Means.{standing}
use Rattle.ss_logic_means.proofs.Denoting.{V, M}
use Rattle.ss_logic_means.proofs.Operations.{equal_means}
use Rattle.ss_logic_means.proofs.Classes.{IsReferenceOf, null_means}
use Rattle.ss_logic_means.proofs.States.{level_means}
use Rattle.ss_logic_means.proofs.Listed.{and_more, and_none, or_more}
use Rattle.ss_vcgen_heaps.specs.Positions.{Position, local_term}
use Rattle.ss_vcgen_heaps.specs.Obligations.{exposed_terms, exposed_formulas}

or_or : (a b c : Bool) → (a || (b || c)) ≡ ((a || b) || c)
or_or true b c = refl
or_or false b c = refl

or_last : (a : Bool) → (a || true) ≡ true
or_last true = refl
or_last false = refl

or_false : (a : Bool) → (a || false) ≡ a
or_false true = refl
or_false false = refl

module _ (cs : List ClassTree) (m : Structure) (k : Position) (f : Frame) (h : Heap) (stands : value_of cs m [] k.store ≡ store h) where
  -- The term of the local has the value, null or a reference.
  abbrev pub IsHeld : ExposedTree → Type 0
  IsHeld x = (value_of cs m [] (local_term x.local k) ≡ standing (held_by f x)) × IsReferenceOf h (held_by f x)

  abbrev pub AllHeld : List ExposedTree → Type 0
  AllHeld [] = Unit {0}
  AllHeld (x ∷ xs) = IsHeld x × AllHeld xs

  abbrev There : List Object
  There = objects_of cs m.table h

  or_one : (g : Formula) (b : Bool) → M cs m [] g b → M cs m [] (or_of (g ∷ [])) b
  or_one g b x = subst (M cs m [] (or_of (g ∷ []))) (or_false b) (or_more cs m [] g [] b false x ((λ t. absurd (t tt)), λ e. absurd (false≢true e)))

  -- one of these is the object, or else the last formula is true
  any_mean : (o : Term) (u : ObjectValue) → V cs m [] o ≡ standing u → (g : Formula) (b : Bool) → M cs m [] g b → (xs : List ExposedTree) → AllHeld xs →
      M cs m [] (or_of (map (λ v. equal v o) (exposed_terms xs k) ++ g ∷ [])) (list_any (λ y. same_value (held_by f y) u) xs || b)
  any_mean o u is g b x [] held = or_one g b x
  any_mean o u is g b x (y ∷ ys) held =
      subst (M cs m [] (or_of (map (λ v. equal v o) (exposed_terms (y ∷ ys) k) ++ g ∷ []))) (or_or (same_value (held_by f y) u) (list_any (λ z. same_value (held_by f z) u) ys) b)
      (or_more cs m [] (equal (local_term y.local k) o) (map (λ v. equal v o) (exposed_terms ys k) ++ g ∷ []) (same_value (held_by f y) u) (list_any (λ z. same_value (held_by f z) u) ys || b)
      (equal_means cs m [] (local_term y.local k) o (held_by f y) u held.0.0 is) (any_mean o u is g b x ys held.1))

  one_means : (t : ℕ) (o : Term) (u : ObjectValue) → V cs m [] o ≡ standing u → IsReferenceOf h u → (xs : List ExposedTree) → AllHeld xs →
      M cs m [] (or_of (equal o null_term ∷ map (λ v. equal v o) (exposed_terms xs k) ++ equal (level_of k.store o) (class_term (above cs t)) ∷ [])) (list_any (λ y. same_value (held_by f y) u) xs || stands_above cs There t u)
  one_means t o (value.Obj q) is r xs held =
      or_more cs m [] (equal o null_term) (map (λ v. equal v o) (exposed_terms xs k) ++ equal (level_of k.store o) (class_term (above cs t)) ∷ []) false (list_any (λ y. same_value (held_by f y) (value.Obj q)) xs || stands_above cs There t (value.Obj q))
      (null_means cs m [] h o (value.Obj q) r is)
      (any_mean o (value.Obj q) is (equal (level_of k.store o) (class_term (above cs t))) (stands_above cs There t (value.Obj q)) (level_means cs m [] h k.store stands o q r is (above cs t)) xs held)
  one_means t o value.Null is r xs held = ((λ _. or_last (list_any (λ y. same_value (held_by f y) value.Null) xs)), λ _ n. n.0 ((null_means cs m [] h o value.Null tt is).1 refl))
  one_means t o (value.Int n) is r xs held = absurd r
  one_means t o (value.Bool b) is r xs held = absurd r

  pub levels_mean : (xs : List ExposedTree) → AllHeld xs → M cs m [] (and_of (exposed_formulas cs xs k)) (are_exposed cs There f xs)
  levels_mean [] held = and_none cs m []
  levels_mean (x ∷ xs) held =
      let o = local_term x.local k in
      and_more cs m [] (or_of (equal o null_term ∷ map (λ v. equal v o) (exposed_terms xs k) ++ equal (level_of k.store o) (class_term (above cs x.class)) ∷ [])) (exposed_formulas cs xs k)
      (list_any (λ y. same_value (held_by f y) (held_by f x)) xs || stands_above cs There x.class (held_by f x)) (are_exposed cs There f xs)
      (one_means x.class o (held_by f x) held.0.0 held.0.1 xs held.1) (levels_mean xs held.1)
