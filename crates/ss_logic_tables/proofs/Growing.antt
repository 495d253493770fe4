-- A heap has grown out of another where its objects have.
use Rattle.std.proofs.Common.{◌≡◌, ℕ, zero, suc, ◌+◌, ◌<◌, List, [], ◌∷◌, length, true, false, Some, refl, sym, ◌∙◌, ap, subst}
use Rattle.std.specs.Prelude.{slice_get, unwrap_or, nat_lt}
use Rattle.std.proofs.lemmas.Bool.{false≢true, true≢false, lt-ltb}
use Rattle.std.proofs.lemmas.Option.{slice_get_within}
use Rattle.ss_core.specs.declared.names.Ty.{Ty}
use Rattle.ss_core.specs.Tree.{ClassTree}
use Rattle.ss_store_rules.specs.Store.{Object}
use Rattle.ss_store_rules.specs.Reads as reads
use Rattle.ss_store_rules.specs.Changes.{element_type}
use Rattle.ss_store_rules.specs.Good.{IsGood}
use Rattle.ss_store_rules.specs.Admissible.{invariants_hold}
use Rattle.ss_logic.specs.declared.Sort.TheVariants as sort
use Rattle.ss_logic.specs.Values.{Thing, null, reference, class_name, group_number, owner_pair, is_group, Entry, Heap, Table, as_store, is_allocated, Structure}
use Rattle.ss_logic.specs.Terms.{Term, have_sorts}
use Rattle.ss_logic.specs.Objects.{elements_from, element_count, owner_of_thing, object_in, objects_of}
use Rattle.ss_logic.proofs.Tabled.{there, count}
use Rattle.ss_logic.specs.FrameMeans.{IsGrown, store_of}
use Rattle.ss_logic_means.specs.Scenes.{IsStoreTerm}
use Rattle.ss_logic_means.proofs.Typed.{good_owners, still_allocated}
use Rattle.ss_sound_outcomes.specs.Points.{HasGrown}
use Rattle.ss_logic_tables.proofs.Objects.{owner_steady, same_back, same_owner_self, group_owner}
use Rattle.ss_logic_tables.proofs.Freeing.{not_true}
use Rattle.ss_logic_tables.proofs.Standing.{sorted_store}
use Rattle.ss_logic_tables.proofs.Sorting.{one_more}

element_length : (t : Ty) (x : Entry) (i n : ℕ) → length (elements_from t x i n) ≡ n
element_length t x i zero = refl
element_length t x i (suc n) = ap suc (element_length t x (i + 1) n)

module _ (cs : List ClassTree) (table : Table) (h z : Heap) where
  -- an object of the list is that of its entry
  known : (k : Heap) (o : ℕ) (x : Object) → slice_get (objects_of cs table k) o ≡ Some x → (nat_lt o k.next ≡ true) × (object_in cs table k o ≡ x)
  known k o x at =
      let within = slice_get_within (objects_of cs table k) o x at in
      let l : nat_lt o k.next ≡ true = lt-ltb o k.next (subst (λ n. o < n) (count cs table k) within) in
      (l, ap (λ q. unwrap_or q x) (sym (there cs table k o l) ∙ at))

  -- owners of both, by what the first allocates next
  owner_here : IsGood cs (invariants_hold cs) (objects_of cs table z) → (o : ℕ) → nat_lt o z.next ≡ true → (object_in cs table z o).owner ≡ owner_of_thing h.next (z.at (reference o)).owner
  owner_here good_after o k = sym (owner_steady z.next h.next (z.at (reference o)).owner (good_owners cs table z good_after o k))

  pub objects_grown : IsGood cs (invariants_hold cs) (objects_of cs table z) → IsGrown h z → HasGrown (objects_of cs table h) (objects_of cs table z)
  objects_grown good_after g = record {
    older = λ o x at.
        let x_known = known h o x at in
        let k = g.allocated (reference o) x_known.0 in
        record {
          object = object_in cs table z o;
          there = there cs table z o k;
          class = ap (λ y. y.class) x_known.1;
          size =
              let T = element_type (table.class_of (reference o)) in
              element_length T (z.at (reference o)) 0 (element_count cs table o) ∙ sym (element_length T (h.at (reference o)) 0 (element_count cs table o)) ∙ ap (λ y. length y.elements) x_known.1;
          ready = λ r. g.ready (reference o) x_known.0 (ap (λ y. y.ready) x_known.1 ∙ r);
        };
    owners = λ o x y at now apart.
        let x_known = known h o x at in
        let y_known = known z o y now in
        let grouped : is_group (h.at (reference o)).owner ≡ false = group_owner h.next (h.at (reference o)).owner ∙ ap (λ u. reads.is_group u.owner) x_known.1 ∙ apart in
        ap (λ u. u.owner) (sym y_known.1) ∙ owner_here good_after o y_known.0 ∙ ap (owner_of_thing h.next) (g.owner (reference o) x_known.0 (λ e. true≢false (sym e ∙ grouped))) ∙ ap (λ u. u.owner) x_known.1;
  }

  each_thing : (k : Heap) (P : Thing → Type 0) → ((o : ℕ) → nat_lt o k.next ≡ true → P (reference o)) → (w : Thing) → is_allocated k w ≡ true → P w
  each_thing k P f (reference o) a = f o a
  each_thing k P f null a = absurd (false≢true a)
  each_thing k P f (class_name t) a = absurd (false≢true a)
  each_thing k P f (group_number g) a = absurd (false≢true a)
  each_thing k P f (owner_pair x y) a = absurd (false≢true a)

  pub heaps_grown : IsGood cs (invariants_hold cs) (objects_of cs table h) → IsGood cs (invariants_hold cs) (objects_of cs table z) → HasGrown (objects_of cs table h) (objects_of cs table z) → IsGrown h z
  heaps_grown good_before good_after g =
      let later = still_allocated cs table z h g.older in
      record {
        allocated = λ w a. each_thing h (λ w. is_allocated z w ≡ true) later w a;
        ready = λ w a. each_thing h (λ w. (h.at w).ready ≡ true → (z.at w).ready ≡ true) (λ o l r.
            let remains = g.older o (object_in cs table h o) (there cs table h o l) in
            ap (λ y. y.ready) (known z o remains.object remains.there).1 ∙ remains.ready r) w a;
        owner = λ w a. each_thing h (λ w. (is_group (h.at w).owner ≡ true → ⊥) → (z.at w).owner ≡ (h.at w).owner) (λ o l apart.
            let k = later o l in
            let grouped : reads.is_group (object_in cs table h o).owner ≡ false = sym (group_owner h.next (h.at (reference o)).owner) ∙ not_true (is_group (h.at (reference o)).owner) apart in
            let same : (object_in cs table z o).owner ≡ (object_in cs table h o).owner = g.owners o (object_in cs table h o) (object_in cs table z o) (there cs table h o l) (there cs table z o k) grouped in
            same_back h.next (z.at (reference o)).owner (h.at (reference o)).owner (good_owners cs table h good_before o l)
            (ap (λ u. reads.same_owner u (owner_of_thing h.next (h.at (reference o)).owner)) (sym (owner_here good_after o k) ∙ same) ∙ same_owner_self (object_in cs table h o).owner)) w a;
      }

module _ (cs : List ClassTree) (m : Structure) (s r : Term) (h z : Heap) (is_before : IsStoreTerm cs m s h) (is_after : IsStoreTerm cs m r z) where
  before_is : store_of cs m s ≡ h
  before_is = ap as_store is_before.1

  after_is : store_of cs m r ≡ z
  after_is = ap as_store is_after.1

  pub grown_heaps : IsGrown (store_of cs m s) (store_of cs m r) → IsGrown h z
  grown_heaps g = subst (λ k. IsGrown k z) before_is (subst (λ k. IsGrown (store_of cs m s) k) after_is g)

  pub heaps_of_terms : IsGrown h z → IsGrown (store_of cs m s) (store_of cs m r)
  heaps_of_terms g = subst (λ k. IsGrown (store_of cs m s) k) (sym after_is) (subst (λ k. IsGrown k z) (sym before_is) g)

  pub two_stores : have_sorts cs (sort.Store ∷ sort.Store ∷ []) (s ∷ r ∷ []) ≡ true
  two_stores = one_more cs sort.Store (sort.Store ∷ []) s (r ∷ []) (sorted_store cs m s h is_before) (one_more cs sort.Store [] r [] (sorted_store cs m r z is_after) refl)
