-- The objects that a store of a structure tables.
use Rattle.std.proofs.Common.{◌≡◌, ◌≢◌, ℕ, zero, suc, ◌+◌, ◌<◌, ◌≤◌, List, [], ◌∷◌, ◌++◌, length, map, true, eqb, Some, None, refl, sym, ◌∙◌, ap, subst, arith, ⊎_elim}
use Rattle.std.specs.Prelude.{slice_get, nat_lt, flat_map, reverse}
use Rattle.std.specs.List.{list_any}
use Rattle.std.proofs.lemmas.Bool.{false≢true, cases_eq, eq-eqb, ne_eqb, eqb-true, or_cases, ltb-true, lt-ltb}
use Rattle.std.proofs.lemmas.List.Sorted.{list_any-IsPermutation, IsPermutation-reverse}
use Rattle.ss_core.specs.Tree.{ClassTree}
use Rattle.ss_core.specs.Chain.{levels, below, DeclaredField, all_fields}
use Rattle.ss_store_rules.specs.declared.Value.{Value as ObjectValue}
use Rattle.ss_store_rules.specs.Store.{Slot, slot_value, field_value, default_value}
use Rattle.ss_store_rules.specs.Changes.{field_class, field_type, class_of_field, slots_from, new_fields}
use Rattle.ss_logic.specs.Values.{reference, Entry, Heap, Table}
use Rattle.ss_logic.specs.Terms.{has_field}
use Rattle.ss_logic.specs.Objects.{content, filled, object_in, objects_from, objects_of}

module _ (cs : List ClassTree) (table : Table) (h : Heap) where
  object_at : (o n k : ℕ) → k < n → slice_get (objects_from cs table h o n) k ≡ Some (object_in cs table h (o + k))
  object_at o zero k l = absurd (omega (arith, l))
  object_at o (suc n) zero l = let e : o ≡ o + 0 = omega arith in ap (λ i. Some (object_in cs table h i)) e
  object_at o (suc n) (suc k) l =
      let e : o + 1 + k ≡ o + suc k = omega arith in
      object_at (o + 1) n k (omega (arith, l)) ∙ ap (λ i. Some (object_in cs table h i)) e

  object_past : (o n k : ℕ) → n ≤ k → slice_get (objects_from cs table h o n) k ≡ None
  object_past o zero k l = refl
  object_past o (suc n) zero l = absurd (omega (arith, l))
  object_past o (suc n) (suc k) l = object_past (o + 1) n k (omega (arith, l))

  object_count : (o n : ℕ) → length (objects_from cs table h o n) ≡ n
  object_count o zero = refl
  object_count o (suc n) = ap suc (object_count (o + 1) n)

  -- each reference below `next` has its object, and no other has one
  pub there : (o : ℕ) → nat_lt o h.next ≡ true → slice_get (objects_of cs table h) o ≡ Some (object_in cs table h o)
  unfolding objects_of
  there o l =
      let e : 0 + o ≡ o = omega arith in
      object_at 0 h.next o (ltb-true o h.next l) ∙ ap (λ i. Some (object_in cs table h i)) e

  pub not_there : (o : ℕ) → h.next ≤ o → slice_get (objects_of cs table h) o ≡ None
  unfolding objects_of
  not_there o l = object_past 0 h.next o l

  pub count : length (objects_of cs table h) ≡ h.next
  unfolding objects_of
  count = object_count 0 h.next

-- ---- fields

-- there is a slot of the field
abbrev HasSlot : List Slot → ℕ → Type 0
HasSlot xs f = (v : ObjectValue) × (slot_value xs f ≡ Some v)

slot_front : (xs ys : List Slot) (f : ℕ) → HasSlot xs f → HasSlot (xs ++ ys) f
slot_front [] ys f h = let none : None ≡ Some h.0 = h.1 in absurd (let no : ⊥ = cc in no)
slot_front (x ∷ xs) ys f h =
    ⊎_elim
    (λ e. (x.content, rw (eq-eqb x.field f e) refl))
    (λ n. let r = slot_front xs ys f (h.0, rw (ne_eqb x.field f n) at h.1) in (r.0, rw (ne_eqb x.field f n) r.1))
    (cases_eq x.field f)

slot_after : (xs ys : List Slot) (f : ℕ) → HasSlot ys f → HasSlot (xs ++ ys) f
slot_after [] ys f h = h
slot_after (x ∷ xs) ys f h =
    ⊎_elim
    (λ e. (x.content, rw (eq-eqb x.field f e) refl))
    (λ n. let r = slot_after xs ys f h in (r.0, rw (ne_eqb x.field f n) r.1))
    (cases_eq x.field f)

-- a class has slots of its own fields
slot_of_class : (t n : ℕ) (ds : List DeclaredField) (k : ℕ) (d : DeclaredField) → slice_get ds k ≡ Some d → d.class ≡ t → HasSlot (slots_from t n ds) (n + k)
slot_of_class t n [] k d e is = absurd (let no : ⊥ = cc in no)
slot_of_class t n (x ∷ ds) zero d e is =
    let same : x ≡ d = cc in
    let own : x.class ≡ t = ap (λ y. y.class) same ∙ is in
    let number : n ≡ n + 0 = omega arith in
    (default_value x.field.ty, rw (eq-eqb x.class t own, eq-eqb n (n + 0) number) refl)
slot_of_class t n (x ∷ ds) (suc k) d e is =
    let r = slot_of_class t (n + 1) ds k d e is in
    let number : n + 1 + k ≡ n + suc k = omega arith in
    let r' : HasSlot (slots_from t (n + 1) ds) (n + suc k) = subst (λ i. HasSlot (slots_from t (n + 1) ds) i) number r in
    let other : n ≢ n + suc k = λ q. omega (arith, q) in
    ⊎_elim
    (λ own. (r'.0, rw (eq-eqb x.class t own, ne_eqb n (n + suc k) other) r'.1))
    (λ others. (r'.0, rw (ne_eqb x.class t others) r'.1))
    (cases_eq x.class t)

slot_among : (cs : List ClassTree) (ts : List ℕ) (f : ℕ) (d : DeclaredField) → slice_get (all_fields cs) f ≡ Some d → list_any (λ level. eqb level d.class) ts ≡ true →
    HasSlot (flat_map (λ t. slots_from t 0 (all_fields cs)) ts) f
slot_among cs [] f d e l = absurd (false≢true l)
slot_among cs (t ∷ ts) f d e l =
    let number : 0 + f ≡ f = omega arith in
    ⊎_elim
    (λ here. slot_front (slots_from t 0 (all_fields cs)) (flat_map (λ u. slots_from u 0 (all_fields cs)) ts) f
    (subst (λ i. HasSlot (slots_from t 0 (all_fields cs)) i) number (slot_of_class t 0 (all_fields cs) f d e (sym (eqb-true t d.class here)))))
    (λ later. slot_after (slots_from t 0 (all_fields cs)) (flat_map (λ u. slots_from u 0 (all_fields cs)) ts) f (slot_among cs ts f d e later))
    (or_cases (eqb t d.class) (list_any (λ level. eqb level d.class) ts) l)

filled_slot : (cs : List ClassTree) (x : Entry) (xs : List Slot) (f : ℕ) (v : ObjectValue) → slot_value xs f ≡ Some v → slot_value (map (filled cs x) xs) f ≡ Some (content (field_type cs f) x.fields f)
filled_slot cs x [] f v e = absurd (let no : ⊥ = cc in no)
filled_slot cs x (y ∷ xs) f v e =
    ⊎_elim
    (λ same. rw (eq-eqb y.field f same) (ap (λ g. Some (content (field_type cs g) x.fields g)) same))
    (λ other. rw (ne_eqb y.field f other) (filled_slot cs x xs f v (rw (ne_eqb y.field f other) at e)))
    (cases_eq y.field f)

found_field : (ds : List DeclaredField) (f : ℕ) → nat_lt f (length ds) ≡ true → (d : DeclaredField) × (slice_get ds f ≡ Some d)
found_field [] f l = absurd (let k = ltb-true f 0 l in omega (arith, k))
found_field (d ∷ ds) zero l = (d, refl)
found_field (d ∷ ds) (suc f) l = found_field ds f (let k = ltb-true (suc f) (suc (length ds)) l in lt-ltb f (length ds) (omega (arith, k)))

-- an object has what the entry has for each field that a level of its class declares
pub field_there : (cs : List ClassTree) (table : Table) (h : Heap) (o f : ℕ) → has_field cs f ≡ true → below cs (table.class_of (reference o)) (field_class cs f) ≡ true →
    field_value (object_in cs table h o) f ≡ Some (content (field_type cs f) (h.at (reference o)).fields f)
unfolding below
field_there cs table h o f has l =
    let ts = levels cs (table.class_of (reference o)) in
    let d = found_field (all_fields cs) f has in
    let declared_by : field_class cs f ≡ d.0.class = ap class_of_field d.1 in
    let declares : list_any (λ level. eqb level d.0.class) ts ≡ true = subst (λ c. list_any (λ level. eqb level c) ts ≡ true) declared_by l in
    let from_the_top = sym (list_any-IsPermutation (λ level. eqb level d.0.class) ts (reverse ts) (IsPermutation-reverse ts)) ∙ declares in
    let s = slot_among cs (reverse ts) f d.0 d.1 from_the_top in
    filled_slot cs (h.at (reference o)) (new_fields cs (table.class_of (reference o))) f s.0 s.1
