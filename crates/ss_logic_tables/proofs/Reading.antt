-- What is read of a heap is what its objects have.
use Rattle.std.proofs.Common.{◌≡◌, ℕ, zero, suc, ◌+◌, ◌-◌, ◌<◌, pos, List, [], ◌∷◌, length, map, Bool, true, false, eqb, Some, ⊎_elim, refl, sym, ◌∙◌, ap, subst, arith}
use Rattle.std.specs.Prelude.{if◌then◌else◌, slice_get}
use Rattle.std.proofs.lemmas.Bool.{cases_eq, eq-eqb, ne_eqb}
use Rattle.ss_core.specs.declared.names.Ty.{Ty}
use Rattle.ss_core.specs.declared.names.Ty.TheVariants as ty
use Rattle.ss_core.specs.Tree.{ClassTree}
use Rattle.ss_store_rules.specs.declared.Value.{Value as ObjectValue}
use Rattle.ss_store_rules.specs.Store.{Slot, Object, slot_value, field_value}
use Rattle.ss_store_rules.specs.Changes.{is_array, element_type, field_type, owned_by, new_fields}
use Rattle.ss_store_rules.specs.Good.{has_type}
use Rattle.ss_logic.specs.Values.{Thing, reference, class_name, group_number, owner_pair, Entry, Heap, Table}
use Rattle.ss_logic.specs.Objects.{content, owner_of_thing, filled, elements_from, element_count, object_in}
use Rattle.ss_logic.proofs.Tabled.{count}
use Rattle.ss_logic_means.specs.Means.{standing}
use Rattle.ss_logic_means.proofs.Reading.{content_stands}
use Rattle.ss_sound_outcomes.specs.Points.{Fits}
use Rattle.ss_logic_tables.specs.Tabled.{IsStoreOf, thing_of_owner}
use Rattle.ss_logic_tables.specs.Read.{HasObject}
use Rattle.ss_logic_tables.proofs.Slots.{some_same}
use Rattle.ss_logic_tables.proofs.Listing.{if_yes}
use Rattle.ss_logic_tables.proofs.Staying.{IsGoodList, allocated_at}

filled_value : (cs : List ClassTree) (y : Entry) (xs : List Slot) (f : ℕ) (v : ObjectValue) → slot_value (map (filled cs y) xs) f ≡ Some v → content (field_type cs f) y.fields f ≡ v
filled_value cs y [] f v e = absurd (let no : ⊥ = cc in no)
filled_value cs y (x ∷ xs) f v e =
    ⊎_elim
    (λ here. ap (λ g. content (field_type cs g) y.fields g) (sym here) ∙ some_same (content (field_type cs x.field) y.fields x.field) v (rw (eq-eqb x.field f here) at e))
    (λ past. filled_value cs y xs f v (rw (ne_eqb x.field f past) at e))
    (cases_eq x.field f)

element_value_at : (t : Ty) (y : Entry) (k n i : ℕ) (v : ObjectValue) → slice_get (elements_from t y k n) i ≡ Some v → content t y.elements (pos (k + i)) ≡ v
element_value_at t y k zero i v e = absurd (let no : ⊥ = cc in no)
element_value_at t y k (suc n) zero v e = let number : k + 0 ≡ k = omega arith in ap (λ i. content t y.elements (pos i)) number ∙ some_same (content t y.elements (pos k)) v e
element_value_at t y k (suc n) (suc i) v e = let number : k + suc i ≡ k + 1 + i = omega arith in ap (λ i. content t y.elements (pos i)) number ∙ element_value_at t y (k + 1) n i v e

elements_count : (t : Ty) (y : Entry) (k n : ℕ) → length (elements_from t y k n) ≡ n
elements_count t y k zero = refl
elements_count t y k (suc n) = ap suc (elements_count t y (k + 1) n)

element_known : (t : ℕ) → element_type t ≡ ty.Null → ⊥
element_known t e = by (eqb t 1) (eqb t 2) (eqb t 3) e
  where
    by : (a b c : Bool) → (if a then ty.Int else if b then ty.Bool else if c then ty.Ref (record { 0 = 0 }) false else ty.Ref (record { 0 = t - 1 }) false) ≡ ty.Null → ⊥
    by true b c e = cc
    by false true c e = cc
    by false false true e = cc
    by false false false e = cc

owner_read : (n : ℕ) (v : Thing) → (owner_of_thing n v ≡ owned_by n 0 → ⊥) → v ≡ thing_of_owner (owner_of_thing n v)
owner_read n (group_number g) k = refl
owner_read n (owner_pair (reference o) (class_name t)) k = refl
owner_read n v k = absurd (k refl)

module _ (cs : List ClassTree) (table : Table) (h : Heap) (s : List Object) (is : IsStoreOf cs table h s) where
  pub next_is : h.next ≡ length s
  next_is = sym (ap length (sym is.objects) ∙ count cs table h)

  good : IsGoodList cs table s
  good = subst (IsGoodList cs table) is.objects is.good.objects

  module _ (o : ℕ) (x : Object) (there : slice_get s o ≡ Some x) where
    same : object_in cs table h o ≡ x
    same = (allocated_at cs table h s is.objects o x there).1

    class_is : table.class_of (reference o) ≡ x.class
    class_is = ap (λ z. z.class) same

    size_is : is_array cs x.class ≡ true → table.length_of (reference o) ≡ length x.elements
    size_is a =
        sym (if_yes (is_array cs (table.class_of (reference o))) (table.length_of (reference o)) 0 (ap (is_array cs) class_is ∙ a))
        ∙ sym (elements_count (element_type (table.class_of (reference o))) (h.at (reference o)) 0 (element_count cs table o))
        ∙ ap (λ z. length z.elements) same

    field_is : (f : ℕ) (v : ObjectValue) → field_value x f ≡ Some v → content (field_type cs f) (h.at (reference o)).fields f ≡ v
    field_is f v e = filled_value cs (h.at (reference o)) (new_fields cs (table.class_of (reference o))) f v (ap (λ z. field_value z f) same ∙ e)

    element_is : (i : ℕ) (v : ObjectValue) → slice_get x.elements i ≡ Some v → content (element_type x.class) (h.at (reference o)).elements (pos i) ≡ v
    element_is i v e =
        let number : i ≡ 0 + i = omega arith in
        ap (λ j. content (element_type x.class) (h.at (reference o)).elements (pos j)) number
        ∙ ap (λ c. content (element_type c) (h.at (reference o)).elements (pos (0 + i))) (sym class_is)
        ∙ element_value_at (element_type (table.class_of (reference o))) (h.at (reference o)) 0 (element_count cs table o) i v (ap (λ z. slice_get z.elements i) same ∙ e)

    pub object_is_read : HasObject cs table h o x
    object_is_read = record {
      allocated = (allocated_at cs table h s is.objects o x there).0;
      class = class_is;
      size = size_is;
      level = ap (λ z. z.level) same;
      committed = ap (λ z. z.committed) same;
      owner = owner_read h.next (h.at (reference o)).owner (λ p. let l : h.next < length s = (good o x there).owner_allocated h.next 0 (sym (ap (λ z. z.owner) same) ∙ p) in let n = next_is in omega (arith, l, n))
          ∙ ap (λ z. thing_of_owner z.owner) same;
      ready = ap (λ z. z.ready) same;
      fields = λ f v known e. let q = field_is f v e in
          content_stands cs s (field_type cs f) (h.at (reference o)).fields f known (subst (λ u. has_type cs s (field_type cs f) u ≡ true) (sym q) ((good o x there).values.fields f v e)) ∙ ap standing q;
      elements = λ i v e. let q = element_is i v e in
          content_stands cs s (element_type x.class) (h.at (reference o)).elements (pos i) (element_known x.class) (subst (λ u. has_type cs s (element_type x.class) u ≡ true) (sym q) ((good o x there).values.elements i v e)) ∙ ap standing q;
    }

  pub heap_fits : Fits cs table s
  heap_fits = record { class = class_is; size = size_is }
