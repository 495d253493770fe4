-- A new object of a heap is one more object of its list.
use Rattle.std.proofs.Common.{◌≡◌, ◌≢◌, ℕ, zero, suc, ◌+◌, ◌<◌, ℤ, pos, negsuc, List, [], ◌∷◌, ◌++◌, length, map, replicate, true, false, eqb, Some, ⊎_elim, refl, sym, ◌∙◌, ap, subst, arith}
use Rattle.std.specs.Prelude.{if◌then◌else◌, slice_get, nat_lt, flat_map, reverse, Ok}
use Rattle.std.proofs.lemmas.Bool.{cases_eq, eq-eqb, ne_eqb, ltb-true, lt-ltb}
use Rattle.std.proofs.lemmas.List.{length-replicate, map-append}
use Rattle.ss_core.specs.declared.names.Ty.{Ty}
use Rattle.ss_core.specs.declared.names.Ty.TheVariants as ty
use Rattle.ss_core.specs.Tree.{ClassTree}
use Rattle.ss_core.specs.Chain.{levels, DeclaredField, all_fields}
use Rattle.ss_store_rules.specs.declared.Value.{Value as ObjectValue}
use Rattle.ss_store_rules.specs.declared.Owner.{Owner}
use Rattle.ss_store_rules.specs.declared.Owner.TheVariants as owner
use Rattle.ss_store_rules.specs.Store.{Slot, Object, default_value}
use Rattle.ss_store_rules.specs.Numbers.{fits}
use Rattle.ss_store_rules.specs.Changes.{is_array, element_type, field_type, type_of_field, owned_by, slots_from, new_fields, new_object_of, new_array_of}
use Rattle.ss_store_rules.specs.Changes as store
use Rattle.ss_store_rules.specs.Good.{numbers}
use Rattle.ss_store_rules.proofs.Objects.{new_get, either_get, length-pushed}
use Rattle.ss_logic.specs.Values.{Thing, reference, class_name, group_number, owner_pair, Entry, Heap, Table, no_cells, IsNumbered}
use Rattle.ss_logic.specs.Changes.{with_new, new_object, new_array}
use Rattle.ss_logic.specs.Objects.{content, owner_of_thing, filled, elements_from, element_count, object_from, object_in, objects_from, objects_of, is_element_of}
use Rattle.ss_logic.proofs.Tabled.{count}
use Rattle.ss_sound_outcomes.specs.Points.{Fits}
use Rattle.ss_logic_tables.specs.Tabled.{IsStoreOf}
use Rattle.ss_logic_tables.proofs.Listing.{by_test, if_yes, if_no, objects_same, same_object, object_with}
use Rattle.ss_logic_tables.proofs.Staying.{IsGoodList, Grows, allocated_at, element_stays}
use Rattle.ss_logic_tables.proofs.Owning.{ok_same, new_numbered, array_numbered}

-- ---- defaults

default_content : {Place : Type 0} (t : Ty) (i : Place) → content t no_cells i ≡ default_value t
default_content ty.Int i = refl
default_content ty.Bool i = refl
default_content ty.Null i = refl
default_content (ty.Ref t n) i = refl

slot_with : ℕ → ObjectValue → Slot
slot_with f v = record { field = f; content = v }

default_slots : (cs : List ClassTree) (x : Entry) → x.fields ≡ no_cells → (t n : ℕ) (ds : List DeclaredField) → ((k : ℕ) (d : DeclaredField) → slice_get ds k ≡ Some d → slice_get (all_fields cs) (n + k) ≡ Some d) →
    map (filled cs x) (slots_from t n ds) ≡ slots_from t n ds
unfolding slot_with
default_slots cs x none t n [] there = refl
default_slots cs x none t n (d ∷ ds) there =
    let number : n + 0 ≡ n = omega arith in
    let here : slice_get (all_fields cs) n ≡ Some d = subst (λ i. slice_get (all_fields cs) i ≡ Some d) number (there 0 d refl) in
    let type : field_type cs n ≡ d.field.ty = ap type_of_field here in
    let rest : map (filled cs x) (slots_from t (n + 1) ds) ≡ slots_from t (n + 1) ds =
    default_slots cs x none t (n + 1) ds (λ k y e. let next : n + suc k ≡ n + 1 + k = omega arith in subst (λ i. slice_get (all_fields cs) i ≡ Some y) next (there (suc k) y e)) in
    ⊎_elim
    (λ it. rw (eq-eqb d.class t it)
    (ap (λ c. slot_with n (content (field_type cs n) c n) ∷ map (filled cs x) (slots_from t (n + 1) ds)) none
    ∙ ap (λ v. slot_with n v ∷ map (filled cs x) (slots_from t (n + 1) ds)) (default_content (field_type cs n) n ∙ ap default_value type)
    ∙ ap (λ xs. slot_with n (default_value d.field.ty) ∷ xs) rest))
    (λ other. rw (ne_eqb d.class t other) rest)
    (cases_eq d.class t)

default_levels : (cs : List ClassTree) (x : Entry) → x.fields ≡ no_cells → (ts : List ℕ) → map (filled cs x) (flat_map (λ t. slots_from t 0 (all_fields cs)) ts) ≡ flat_map (λ t. slots_from t 0 (all_fields cs)) ts
default_levels cs x none [] = refl
default_levels cs x none (t ∷ ts) =
    map-append (filled cs x) (slots_from t 0 (all_fields cs)) (flat_map (λ t. slots_from t 0 (all_fields cs)) ts)
    ∙ ap (λ ys. ys ++ map (filled cs x) (flat_map (λ t. slots_from t 0 (all_fields cs)) ts)) (default_slots cs x none t 0 (all_fields cs) (λ k d e. let number : k ≡ 0 + k = omega arith in subst (λ i. slice_get (all_fields cs) i ≡ Some d) number e))
    ∙ ap (λ ys. slots_from t 0 (all_fields cs) ++ ys) (default_levels cs x none ts)

default_elements : (t : Ty) (x : Entry) → x.elements ≡ no_cells → (k n : ℕ) → elements_from t x k n ≡ replicate n (default_value t)
default_elements t x none k zero = refl
default_elements t x none k (suc n) =
    ap (λ c. content t c (pos k) ∷ elements_from t x (k + 1) n) none
    ∙ ap (λ v. v ∷ elements_from t x (k + 1) n) (default_content t (pos k))
    ∙ ap (λ vs. default_value t ∷ vs) (default_elements t x none (k + 1) n)

no_slots : (xs : List Slot) → [] ≡ numbers xs → xs ≡ []
no_slots [] e = refl
no_slots (x ∷ xs) e = let no : ⊥ = cc in absurd no

-- ---- owners stay what they are

owner_stays : (n m : ℕ) (v : Thing) → (owner_of_thing n v ≡ owned_by n 0 → ⊥) → owner_of_thing m v ≡ owner_of_thing n v
owner_stays n m (group_number g) k = refl
owner_stays n m (owner_pair (reference o) (class_name t)) k = refl
owner_stays n m v k = absurd (k refl)

object_owned : Object → Owner → Object
object_owned x w = record x { owner = w }

module _ (cs : List ClassTree) (table : Table) (h : Heap) (s : List Object) (is : IsStoreOf cs table h s) where
  size : length s ≡ h.next
  size = ap length (sym is.objects) ∙ count cs table h

  fine : IsGoodList cs table s
  fine = subst (IsGoodList cs table) is.objects is.good.objects

  -- ---- one entry more

  module _ (new : Entry) where
    abbrev With : Heap
    With = with_new new h

    new_there : With.at (reference h.next) ≡ new
    new_there = if_yes (eqb h.next h.next) new (h.at (reference h.next)) (eq-eqb h.next h.next refl)

    old_there : (o : ℕ) → o < h.next → With.at (reference o) ≡ h.at (reference o)
    old_there o l = if_no (eqb o h.next) new (h.at (reference o)) (ne_eqb o h.next (λ e. omega (arith, e, l)))

    old_object : (o : ℕ) (x : Object) → slice_get s o ≡ Some x → object_in cs table With o ≡ x
    unfolding object_owned
    old_object o x e =
        let a = allocated_at cs table h s is.objects o x e in
        let owner_is : owner_of_thing h.next (h.at (reference o)).owner ≡ x.owner = ap (λ y. y.owner) a.1 in
        ap (object_from cs table With o) (old_there o (ltb-true o h.next a.0))
        ∙ ap (object_owned (object_in cs table h o)) (owner_stays h.next (suc h.next) (h.at (reference o)).owner (λ p.
        let low : h.next < length s = (fine o x e).owner_allocated h.next 0 (sym owner_is ∙ p) in omega (arith, low, size)))
        ∙ a.1

    -- where the new entry is that of the object
    pushed : (z : Object) → object_from cs table With h.next new ≡ z → objects_of cs table With ≡ s ++ z ∷ []
    unfolding objects_of
    pushed z object =
        let longer : suc h.next ≡ length (s ++ z ∷ []) = let l = length-pushed s z in omega (arith, l, size) in
        ap (objects_from cs table With 0) longer
        ∙ objects_same cs table With 0 (s ++ z ∷ []) (λ k x e. let number : k ≡ 0 + k = omega arith in subst (λ i. object_in cs table With i ≡ x) number (each k x e))
      where
        each : (k : ℕ) (x : Object) → slice_get (s ++ z ∷ []) k ≡ Some x → object_in cs table With k ≡ x
        each k x e =
            ⊎_elim
            (λ old. old_object k x old)
            (λ last. let at : h.next ≡ k = let p = last.0 in omega (arith, p, size) in
            subst (λ i. object_in cs table With i ≡ x) at (ap (object_from cs table With h.next) new_there ∙ object ∙ last.1))
            (either_get s z k x e)

    grows : Grows cs table h With
    grows = record { next = omega arith; ready = λ o l r. ap (λ x. x.ready) (old_there o (ltb-true o h.next l)) ∙ r }

    module _ (none : new.elements ≡ no_cells) where
      whole_now : (o : ℕ) (i : ℤ) → nat_lt o (suc h.next) ≡ true → fits ((With.at (reference o)).elements.wholes i) ≡ true
      whole_now o i l =
          ⊎_elim
          (λ e. subst (λ q. fits ((With.at (reference q)).elements.wholes i) ≡ true) (sym e)
          (subst (λ x. fits (x.elements.wholes i) ≡ true) (sym new_there) (subst (λ c. fits (c.wholes i) ≡ true) (sym none) refl)))
          (λ n. let k : o < h.next = below o l n in
          subst (λ x. fits (x.elements.wholes i) ≡ true) (sym (old_there o k)) (is.good.whole_elements o i (lt-ltb o h.next k)))
          (cases_eq o h.next)
        where
          below : (o : ℕ) → nat_lt o (suc h.next) ≡ true → o ≢ h.next → o < h.next
          below o l n = let k = ltb-true o (suc h.next) l in omega (arith, k, n)

      thing_now : (o : ℕ) (i : ℤ) → nat_lt o (suc h.next) ≡ true → is_element_of cs table With (table.class_of (reference o)) ((With.at (reference o)).elements.things i) ≡ true
      thing_now o i l =
          ⊎_elim
          (λ e. subst (λ q. is_element_of cs table With (table.class_of (reference q)) ((With.at (reference q)).elements.things i) ≡ true) (sym e)
          (subst (λ x. is_element_of cs table With (table.class_of (reference h.next)) (x.elements.things i) ≡ true) (sym new_there)
          (subst (λ c. is_element_of cs table With (table.class_of (reference h.next)) (c.things i) ≡ true) (sym none) refl)))
          (λ n. let k : o < h.next = below o l n in
          subst (λ x. is_element_of cs table With (table.class_of (reference o)) (x.elements.things i) ≡ true) (sym (old_there o k))
          (element_stays cs table h With grows (table.class_of (reference o)) ((h.at (reference o)).elements.things i) (is.good.elements o i (lt-ltb o h.next k))))
          (cases_eq o h.next)
        where
          below : (o : ℕ) → nat_lt o (suc h.next) ≡ true → o ≢ h.next → o < h.next
          below o l n = let k = ltb-true o (suc h.next) l in omega (arith, k, n)

      pushed_store : (z : List Object) → objects_of cs table With ≡ z → IsGoodList cs table z → IsNumbered With → IsStoreOf cs table With z
      pushed_store z objects good numbered = record {
        objects = objects;
        good = record { objects = subst (IsGoodList cs table) (sym objects) good; whole_elements = whole_now; elements = thing_now };
        numbered = numbered;
      }

  -- ---- a new object

  -- what the table has of the last object of a list
  last_class : (z : Object) → Fits cs table (s ++ z ∷ []) → table.class_of (reference h.next) ≡ z.class
  last_class z fits = subst (λ n. table.class_of (reference n) ≡ z.class) size (fits.class (length s) z (new_get s z))

  last_size : (z : Object) → Fits cs table (s ++ z ∷ []) → is_array cs z.class ≡ true → table.length_of (reference h.next) ≡ length z.elements
  last_size z fits a = subst (λ n. table.length_of (reference n) ≡ length z.elements) size (fits.size (length s) z (new_get s z) a)

  last_count : (z : Object) → Fits cs table (s ++ z ∷ []) → (is_array cs z.class ≡ false → length z.elements ≡ 0) → element_count cs table h.next ≡ length z.elements
  last_count z fits plain =
      ap (λ t. if is_array cs t then table.length_of (reference h.next) else 0) (last_class z fits)
      ∙ by_test (is_array cs z.class)
      (λ a. if_yes (is_array cs z.class) (table.length_of (reference h.next)) 0 a ∙ last_size z fits a)
      (λ n. if_no (is_array cs z.class) (table.length_of (reference h.next)) 0 n ∙ sym (plain n))

  new_object_is : (c : ℕ) → Fits cs table (new_object_of cs s c) → object_from cs table (with_new (new_object h.next) h) h.next (new_object h.next) ≡ store.new_object cs c (length s)
  unfolding object_with
  new_object_is c fits =
      let z : Object = store.new_object cs c (length s) in
      let y : Entry = new_object h.next in
      let t : ℕ = table.class_of (reference h.next) in
      same_object z t (map (filled cs y) (new_fields cs t)) (elements_from (element_type t) y 0 (element_count cs table h.next)) (owner.Group h.next) (last_class z fits)
      (ap (λ u. map (filled cs y) (new_fields cs u)) (last_class z fits) ∙ default_levels cs y refl (reverse (levels cs c)))
      (ap (elements_from (element_type t) y 0) (last_count z fits (λ _. refl)))
      (ap owner.Group (sym size))

  pub new_store : (c : ℕ) → Fits cs table (new_object_of cs s c) → IsGoodList cs table (new_object_of cs s c) → IsStoreOf cs table (with_new (new_object h.next) h) (new_object_of cs s c)
  new_store c fits good =
      pushed_store (new_object h.next) refl (new_object_of cs s c) (pushed (new_object h.next) (store.new_object cs c (length s)) (new_object_is c fits)) good (new_numbered cs table h is.numbered)

  -- ---- a new array

  new_array_is : (c n : ℕ) → Fits cs table (s ++ store.new_array c n (length s) ∷ []) → IsGoodList cs table (s ++ store.new_array c n (length s) ∷ []) →
      object_from cs table (with_new (new_array c h.next) h) h.next (new_array c h.next) ≡ store.new_array c n (length s)
  unfolding object_with
  new_array_is c n fits good =
      let z : Object = store.new_array c n (length s) in
      let y : Entry = new_array c h.next in
      let t : ℕ = table.class_of (reference h.next) in
      let are = (good (length s) z (new_get s z)).values in
      let class : t ≡ c = last_class z fits in
      same_object z t (map (filled cs y) (new_fields cs t)) (elements_from (element_type t) y 0 (element_count cs table h.next)) (owner.Group h.next) class
      (ap (λ u. map (filled cs y) (new_fields cs u)) class ∙ ap (map (filled cs y)) (no_slots (new_fields cs c) are.slots))
      (ap (λ u. elements_from (element_type u) y 0 (element_count cs table h.next)) class
      ∙ ap (elements_from (element_type c) y 0) (last_count z fits are.plain ∙ length-replicate n (default_value (element_type c)))
      ∙ default_elements (element_type c) y refl 0 n)
      (ap owner.Group (sym size))

  pub array_store : (c : ℕ) (n : ℤ) (z : List Object) → new_array_of s c n ≡ Ok z → Fits cs table z → IsGoodList cs table z → IsStoreOf cs table (with_new (new_array c h.next) h) z
  array_store c (negsuc n) z e fits good = absurd (let no : ⊥ = cc in no)
  array_store c (pos n) z e fits good =
      let same : s ++ store.new_array c n (length s) ∷ [] ≡ z = ok_same (s ++ store.new_array c n (length s) ∷ []) z e in
      let fits' : Fits cs table (s ++ store.new_array c n (length s) ∷ []) = subst (λ y. Fits cs table y) (sym same) fits in
      let good' : IsGoodList cs table (s ++ store.new_array c n (length s) ∷ []) = subst (IsGoodList cs table) (sym same) good in
      pushed_store (new_array c h.next) refl z (pushed (new_array c h.next) (store.new_array c n (length s)) (new_array_is c n fits' good') ∙ same) good (array_numbered cs table h is.numbered c)
