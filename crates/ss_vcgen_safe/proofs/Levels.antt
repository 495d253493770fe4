-- Unpack and pack, from a position at which the run is.
use Rattle.std.proofs.Common.{◌≡◌, ℕ, List, [], ◌∷◌, true, refl, sym, ◌∙◌, ap, subst}
use Rattle.std.specs.Prelude.{slice_get}
use Rattle.std.proofs.lemmas.Bool.{and_parts}
use Rattle.ss_core.specs.declared.names.Kind.TheVariants as kind
use Rattle.ss_core.specs.declared.names.Place.{Place}
use Rattle.ss_core.specs.declared.names.Ty.TheVariants as ty
use Rattle.ss_core.specs.Tree.{ClassTree, UnpackStmt, PackStmt}
use Rattle.ss_core.specs.Chain.{is_declared, above}
use Rattle.ss_core.proofs.Chains.{sub-below}
use Rattle.ss_store_rules.specs.declared.Value.{Value as ObjectValue}
use Rattle.ss_store_rules.specs.declared.Value.TheVariants as value
use Rattle.ss_store_rules.specs.Store.{Object}
use Rattle.ss_store_rules.specs.Admissible.{invariants, invariants_hold}
use Rattle.ss_store_rules.specs.Changes.{below, unpack_of, pack_of}
use Rattle.ss_store_rules.specs.Good.{has_type}
use Rattle.ss_store_rules.specs.Locals.{local_types}
use Rattle.ss_store_rules.specs.Types.{has_class}
use Rattle.ss_store_rules.specs.Values.{setting, local_value}
use Rattle.ss_machine_typed.proofs.Sound.{class_of_type}
use Rattle.ss_machine_good.specs.Known.{IsTrueOf}
use Rattle.ss_machine_good.proofs.Steps.{fits_typed}
use Rattle.ss_logic.specs.declared.Sort.TheVariants as sort
use Rattle.ss_logic.specs.Values.{Table}
use Rattle.ss_logic.specs.Terms.{Unpack, Pack, Term, app}
use Rattle.ss_logic.specs.Formulas.{neg}
use Rattle.ss_logic.specs.Shapes.{class_term, level_of, equal, committed}
use Rattle.ss_logic.specs.Express.{element_sort}
use Rattle.ss_logic.specs.Invariants.{invariant_context}
use Rattle.ss_logic_means.specs.Means.{standing}
use Rattle.ss_logic_means.specs.Sorts.{HasSort}
use Rattle.ss_vcgen_heaps.specs.Positions.{Walk, check, check_all, local_term}
use Rattle.ss_vcgen_heaps.specs.Contracts.{conditions}
use Rattle.ss_vcgen_heaps.specs.Obligations.{check_local, owned_are_full}
use Rattle.ss_vcgen_safe.specs.Done.{IsDone}
use Rattle.ss_vcgen_safe.proofs.AfterChanges.{unpack_after, pack_after}
use Rattle.ss_vcgen_safe.proofs.Checked.{unpack_done, pack_done}
use Rattle.ss_sound_outcomes.specs.Points.{Point, scene, entry_size}
use Rattle.ss_sound_outcomes.specs.Outcomes.{with_store}
use Rattle.ss_vcgen_safe.specs.At.{Stays, activation}
use Rattle.ss_vcgen_safe.proofs.Alike.{alike_self}
use Rattle.ss_vcgen_safe.proofs.Keeps.{AllMean, checked, conditions_checked}
use Rattle.ss_vcgen_safe.proofs.Leads.{leads_check, leads_check_all}
use Rattle.ss_vcgen_safe.proofs.Same.{same_twice, same_check, same_check_all, same_local}
use Rattle.ss_vcgen_safe.specs.Goes.{IsEntered, Goes}
use Rattle.ss_vcgen_safe.proofs.Behind.{later_known}
use Rattle.ss_vcgen_safe.proofs.Invariants.{invariants_mean}
use Rattle.ss_vcgen_safe.proofs.Operands.{operand, local_typed, local_checked}
use Rattle.ss_vcgen_safe.proofs.Stored.{IsSteady, steady_value, steady_two, store_there, store_goes}

-- a change at an object is a store
unpack_sorted : (cs : List ClassTree) (t : ℕ) (s o : Term) → HasSort cs [] sort.Store s → HasSort cs [] sort.Rest o → HasSort cs [] sort.Store (app (Unpack t) (s ∷ o ∷ []))
unpack_sorted cs t s o x y = (refl, rw (x.0, x.1, y.0, y.1) refl)

pack_sorted : (cs : List ClassTree) (t : ℕ) (s o : Term) → HasSort cs [] sort.Store s → HasSort cs [] sort.Rest o → HasSort cs [] sort.Store (app (Pack t) (s ∷ o ∷ []))
pack_sorted cs t s o x y = (refl, rw (x.0, x.1, y.0, y.1) refl)

module _ (w : Walk) (before : List Object) (table : Table) (arguments : List ObjectValue) (entered : IsEntered w before arguments) where
  pub unpack_goes : (at : Place) (x t : ℕ) (Q : Point → Type 0) → Goes w before table arguments (UnpackStmt at x t) Q
  unpack_goes at x t Q xs m k p coded here valid ends =
      let cs = w.program.classes in
      let a = activation w before table in
      let is = here.at in
      let v = local_value (scene a p) x in
      let read : xs x ≡ true = (and_parts (xs x) true coded.assigned).0 in
      let class = class_of_type (λ c. below cs c t) (slice_get (local_types w.body) x) (and_parts (is_declared cs t) (has_class (λ c. below cs c t) (slice_get (local_types w.body) x)) coded.exposed).1 in
      let o = local_term x k in
      let term = operand w before table xs m k p is x read in
      let level = equal (level_of k.store o) (class_term t) in
      let free = neg (committed k.store o) in
      let k1 = check_local w at x k in
      let k2 = check w kind.UnpackLevel at level k1 in
      let k3 = check w kind.UnpackCommitted at free k2 in
      let v2 = (leads_check w kind.UnpackCommitted at free k2).listed valid in
      let v1 = (leads_check w kind.UnpackLevel at level k1).listed v2 in
      let c1 = local_checked w before table xs m k p is at x class.0 class.1 read class.2 v1 in
      let c2 = checked w before table m p kind.UnpackLevel at level k1 v2 c1.agrees in
      let c3 = checked w before table m p kind.UnpackCommitted at free k2 valid c2.1 in
      let self = alike_self k.next m in
      let has = store_there cs table k.next m k.store p.store is.agrees.table_is is.agrees.store_is m self in
      let stands = term.is m self in
      let there = c1.there in
      let done : IsDone (unpack_of cs p.store v t) =
      subst (λ u. IsDone (unpack_of cs p.store u t)) (sym there.is)
      (unpack_done cs m k.store p.store has o there.position there.object there.there (λ e. stands e ∙ ap standing there.is) t (c2.0 m (alike_self k1.next m)) (c3.0 m (alike_self k2.next m))) in
      let same = same_twice k k1 k3 (same_local w at x k) (same_twice k1 k2 k3 (same_check w kind.UnpackLevel at level k1) (same_check w kind.UnpackCommitted at free k2)) in
      let t' = app (Unpack t) (k.store ∷ o ∷ []) in
      store_goes w before table arguments xs m k p (UnpackStmt at x t) refl coded here m k3 t' (unpack_of cs p.store v t) Q self c3.1
      (subst (λ n. IsSteady cs n m t') (sym same.next) (steady_two cs k.next m (Unpack t) k.store o (λ m m' vs. refl) (steady_value cs k.next m k.store _ is.agrees.store_is.is) (steady_value cs k.next m o (standing v) term.is)))
      (unpack_sorted cs t k.store o is.agrees.store_is.sorted (subst (λ u. HasSort cs [] (element_sort u) o) class.2 term.sorted))
      done
      (λ z e sound. unpack_after cs m k.store p.store has o v t z stands e sound.store)
      (λ z g. g)
      (λ z e sound b. subst (λ u. IsTrueOf w.body.flags.ctor u (scene a (with_store z p))) (sym same.like.known) (later_known a (entry_size a) p z entered.body.flags is.sound b.reached.later k.known is.known))
      ends

  pub pack_goes : (at : Place) (x t : ℕ) (Q : Point → Type 0) → Goes w before table arguments (PackStmt at x t) Q
  pack_goes at x t Q xs m k p coded here valid ends =
      let cs = w.program.classes in
      let a = activation w before table in
      let is = here.at in
      let v = local_value (scene a p) x in
      let read : xs x ≡ true = (and_parts (xs x) true coded.assigned).0 in
      let class = class_of_type (λ c. below cs c t) (slice_get (local_types w.body) x) (and_parts (is_declared cs t) (has_class (λ c. below cs c t) (slice_get (local_types w.body) x)) coded.exposed).1 in
      let o = local_term x k in
      let term = operand w before table xs m k p is x read in
      let level = equal (level_of k.store o) (class_term (above cs t)) in
      let es = invariants cs t in
      let c = invariant_context cs k.store o t in
      let owned = owned_are_full k.store o t in
      let k1 = check_local w at x k in
      let k2 = check w kind.PackLevel at level k1 in
      let k3 = check_all w kind.Invariant at (conditions es c) k2 in
      let k4 = check w kind.PackOwned at owned k3 in
      let v3 = (leads_check w kind.PackOwned at owned k3).listed valid in
      let v2 = (leads_check_all w kind.Invariant at (conditions es c) k2).listed v3 in
      let v1 = (leads_check w kind.PackLevel at level k1).listed v2 in
      let c1 = local_checked w before table xs m k p is at x class.0 class.1 read class.2 v1 in
      let c2 = checked w before table m p kind.PackLevel at level k1 v2 c1.agrees in
      let there = c1.there in
      let q = there.position in
      let next1 : k1.next ≡ k.next = (same_local w at x k).next in
      let typed : has_type cs p.store (ty.Ref (record { 0 = t }) true) (value.Obj q) ≡ true =
      subst (λ u. has_type cs p.store (ty.Ref (record { 0 = t }) true) u ≡ true) there.is
      (fits_typed cs entered.program.chain entered.program.beside p.store (ty.Ref (record { 0 = class.0 }) class.1) (ty.Ref (record { 0 = t }) true) v (sub-below cs entered.program.beside class.0 t ∙ class.3)
      (local_typed w before table xs m k p is x (ty.Ref (record { 0 = class.0 }) class.1) class.2)) in
      let mean : Stays k2.next m (λ m'. AllMean cs m' es c (setting cs p.store p.store (value.Obj q ∷ []))) =
      subst (λ n. Stays n m (λ m'. AllMean cs m' es c (setting cs p.store p.store (value.Obj q ∷ [])))) (sym next1)
      (λ m' alike.
      invariants_mean cs entered.program.chain entered.program.beside p.store is.sound.store q t typed m' k.store o (store_there cs table k.next m k.store p.store is.agrees.table_is is.agrees.store_is m' alike) (λ e. term.is m' alike e ∙ ap standing there.is)
      (entered.program.invariants t) (entered.program.admissible t)) in
      let c3 = conditions_checked w before table m p kind.Invariant at es c (setting cs p.store p.store (value.Obj q ∷ [])) k2 mean v3 c2.1 in
      let c4 = checked w before table m p kind.PackOwned at owned k3 valid c3.1 in
      let self = alike_self k.next m in
      let has = store_there cs table k.next m k.store p.store is.agrees.table_is is.agrees.store_is m self in
      let stands = term.is m self in
      let done : IsDone (pack_of cs (invariants_hold cs) p.store v t) =
      subst (λ u. IsDone (pack_of cs (invariants_hold cs) p.store u t)) (sym there.is)
      (pack_done cs m k.store p.store has o q there.object there.there (λ e. stands e ∙ ap standing there.is) t (c2.0 m (alike_self k1.next m)) c3.0 (c4.0 m (alike_self k3.next m))) in
      let same = same_twice k k1 k4 (same_local w at x k) (same_twice k1 k2 k4 (same_check w kind.PackLevel at level k1) (same_twice k2 k3 k4 (same_check_all w kind.Invariant at (conditions es c) k2) (same_check w kind.PackOwned at owned k3))) in
      let t' = app (Pack t) (k.store ∷ o ∷ []) in
      store_goes w before table arguments xs m k p (PackStmt at x t) refl coded here m k4 t' (pack_of cs (invariants_hold cs) p.store v t) Q self c4.1
      (subst (λ n. IsSteady cs n m t') (sym same.next) (steady_two cs k.next m (Pack t) k.store o (λ m m' vs. refl) (steady_value cs k.next m k.store _ is.agrees.store_is.is) (steady_value cs k.next m o (standing v) term.is)))
      (pack_sorted cs t k.store o is.agrees.store_is.sorted (subst (λ u. HasSort cs [] (element_sort u) o) class.2 term.sorted))
      done
      (λ z e sound. pack_after cs m k.store p.store has (invariants_hold cs) o v t z stands e sound.store)
      (λ z g. g)
      (λ z e sound b. subst (λ u. IsTrueOf w.body.flags.ctor u (scene a (with_store z p))) (sym same.like.known) (later_known a (entry_size a) p z entered.body.flags is.sound b.reached.later k.known is.known))
      ends
