-- The heap of a list has its objects, is good, and is like the heap of before elsewhere.
use Rattle.std.proofs.Common.{◌≡◌, ℕ, zero, suc, ◌+◌, ◌<◌, ◌≤◌, ℤ, pos, negsuc, List, length, true, false, ◌&&◌, Option, Some, None, refl, sym, ◌∙◌, ap, subst, arith}
use Rattle.std.specs.Prelude.{slice_get, nat_lt}
use Rattle.std.proofs.lemmas.Bool.{false≢true, and_from, ltb-true, lt-ltb}
use Rattle.std.proofs.lemmas.Option.{slice_get_within}
use Rattle.ss_core.specs.declared.names.Ty.{Ty}
use Rattle.ss_core.specs.declared.names.Ty.TheVariants as ty
use Rattle.ss_core.specs.Tree.{ClassTree}
use Rattle.ss_core.specs.Chain.{below, IsChain}
use Rattle.ss_store_rules.specs.declared.Value.{Value as ObjectValue}
use Rattle.ss_store_rules.specs.declared.Value.TheVariants as value
use Rattle.ss_store_rules.specs.declared.Owner.{Owner}
use Rattle.ss_store_rules.specs.declared.Owner.TheVariants as owner
use Rattle.ss_store_rules.specs.Store.{Object, field_value}
use Rattle.ss_store_rules.specs.Numbers.{fits}
use Rattle.ss_store_rules.specs.Changes.{is_array, element_type, field_class}
use Rattle.ss_store_rules.specs.Good.{has_type}
use Rattle.ss_machine_typed.specs.Older.{IsOlder}
use Rattle.ss_logic.specs.declared.Sort.{Sort}
use Rattle.ss_logic.specs.declared.Sort.TheVariants as sort
use Rattle.ss_logic.specs.Values.{Thing, null, reference, class_name, group_number, owner_pair, Cells, Entry, Heap, Table, no_entry, no_heap, is_allocated, IsNumbered}
use Rattle.ss_logic.specs.Terms.{field_sort, sort_of_type, same_sort, cell}
use Rattle.ss_logic.specs.Objects.{object_from, object_in, objects_of, is_element_of, IsGoodStore}
use Rattle.ss_logic.proofs.Tabled.{there, not_there}
use Rattle.ss_sound_outcomes.specs.Points.{Fits}
use Rattle.ss_logic_tables.specs.Tabled.{IsStoreOf, whole_or, thing_or, overlaid, thing_of_owner, element_value, entry_of, entry_or_none, entry_before, tabled}
use Rattle.ss_logic_tables.specs.Elsewhere.{is_index, has_element, SameElsewhere}
use Rattle.ss_logic_tables.proofs.Slots.{some_none, field_of_class}
use Rattle.ss_logic_tables.proofs.Listing.{found, by_test, if_yes, if_no, objects_same, object_back}
use Rattle.ss_logic_tables.proofs.Staying.{IsGoodList, reference_good, whole_good, Grows, element_stays}

-- the element at an index is one of the list
pub element_listed : (x : Object) (i : ℤ) (v : ObjectValue) → element_value x i ≡ Some v → (k : ℕ) × (i ≡ pos k) × (slice_get x.elements k ≡ Some v)
element_listed x (pos k) v e = (k, refl, e)
element_listed x (negsuc k) v e = let no : ⊥ = cc in absurd no

owner_group : (w : Owner) (g : ℕ) → thing_of_owner w ≡ group_number g → w ≡ owner.Group g
owner_group (owner.Group k) g e = let same : k ≡ g = cc in ap owner.Group same
owner_group (owner.Owned o t) g e = let no : ⊥ = cc in absurd no

module _ (cs : List ClassTree) (chain : IsChain cs) (table : Table) (h : Heap) (s : List Object) (good : IsGoodList cs table s) (fit : Fits cs table s) where
  abbrev Old : ℕ → Entry
  Old o = entry_before h (reference o)

  entry_there : (o : ℕ) (x : Object) → slice_get s o ≡ Some x → (tabled h s).at (reference o) ≡ entry_of x (Old o)
  entry_there o x e = ap (λ r. entry_or_none r (Old o)) e

  object_there : (o : ℕ) (x : Object) → slice_get s o ≡ Some x → object_in cs table (tabled h s) o ≡ x
  object_there o x e = ap (object_from cs table (tabled h s) o) (entry_there o x e) ∙ object_back cs s chain table fit (tabled h s) o x e (good o x e).values (Old o)

  pub objects_back : objects_of cs table (tabled h s) ≡ s
  unfolding objects_of
  objects_back = objects_same cs table (tabled h s) 0 s (λ k x e. let number : k ≡ 0 + k = omega arith in subst (λ i. object_in cs table (tabled h s) i ≡ x) number (object_there k x e))

  -- ---- groups

  numbered_there : (o g : ℕ) (r : Option Object) → slice_get s o ≡ r → (entry_or_none r (Old o)).owner ≡ group_number g → (nat_lt o (length s) ≡ true) × (nat_lt g (length s) ≡ true)
  numbered_there o g None e is = let no : ⊥ = cc in absurd no
  numbered_there o g (Some x) e is = (
    lt-ltb o (length s) (slice_get_within s o x e),
    lt-ltb g (length s) ((good o x e).group_number g (owner_group x.owner g is)),
  )

  pub tabled_numbered : IsNumbered (tabled h s)
  tabled_numbered (reference o) g e = numbered_there o g (slice_get s o) refl e
  tabled_numbered null g e = let no : ⊥ = cc in absurd no
  tabled_numbered (class_name c) g e = let no : ⊥ = cc in absurd no
  tabled_numbered (group_number c) g e = let no : ⊥ = cc in absurd no
  tabled_numbered (owner_pair v w) g e = let no : ⊥ = cc in absurd no

  -- ---- over a heap of before

  module _ (older : IsOlder (objects_of cs table h) s) where
    remaining : (o : ℕ) → nat_lt o h.next ≡ true → (x : Object) × (slice_get s o ≡ Some x) × ((h.at (reference o)).ready ≡ true → x.ready ≡ true)
    remaining o l = let r = older o (object_in cs table h o) (there cs table h o l) in (r.object, r.there, r.ready)

    old_there : (o : ℕ) → nat_lt o h.next ≡ true → Old o ≡ h.at (reference o)
    old_there o l = if_yes (nat_lt o h.next) (h.at (reference o)) no_entry l

    not_fewer : h.next ≤ length s
    not_fewer = by h.next refl
      where
        by : (n : ℕ) → h.next ≡ n → n ≤ length s
        by zero e = omega arith
        by (suc n) e =
            let r = remaining n (lt-ltb n h.next (omega (arith, e))) in
            let l = slice_get_within s n r.0 r.1 in
            omega (arith, l)

    grows : Grows cs table h (tabled h s)
    grows = record {
      next = not_fewer;
      ready = λ o l is. let r = remaining o l in ap (λ x. x.ready) (entry_there o r.0 r.1) ∙ r.2 is;
    }

    -- ---- elements

    module _ (before : IsGoodStore cs table h) where
      whole_before : (o : ℕ) (i : ℤ) → fits ((Old o).elements.wholes i) ≡ true
      whole_before o i =
          by_test (nat_lt o h.next)
          (λ l. subst (λ x. fits (x.elements.wholes i) ≡ true) (sym (old_there o l)) (before.whole_elements o i l))
          (λ n. subst (λ x. fits (x.elements.wholes i) ≡ true) (sym (if_no (nat_lt o h.next) (h.at (reference o)) no_entry n)) refl)

      thing_before : (o : ℕ) (i : ℤ) → is_element_of cs table (tabled h s) (table.class_of (reference o)) ((Old o).elements.things i) ≡ true
      thing_before o i =
          by_test (nat_lt o h.next)
          (λ l. subst (λ x. is_element_of cs table (tabled h s) (table.class_of (reference o)) (x.elements.things i) ≡ true) (sym (old_there o l))
          (element_stays cs table h (tabled h s) grows (table.class_of (reference o)) ((h.at (reference o)).elements.things i) (before.elements o i l)))
          (λ n. subst (λ x. is_element_of cs table (tabled h s) (table.class_of (reference o)) (x.elements.things i) ≡ true) (sym (if_no (nat_lt o h.next) (h.at (reference o)) no_entry n)) refl)

      module _ (o : ℕ) (x : Object) (at : slice_get s o ≡ Some x) (i : ℤ) where
        whole_now : (r : Option ObjectValue) → element_value x i ≡ r → fits (whole_or ((Old o).elements.wholes i) r) ≡ true
        whole_now (Some (value.Int n)) e = let k = element_listed x i (value.Int n) e in whole_good cs table (tabled h s) s objects_back good o x k.0 n at k.2
        whole_now (Some (value.Bool b)) e = whole_before o i
        whole_now (Some (value.Obj q)) e = whole_before o i
        whole_now (Some value.Null) e = whole_before o i
        whole_now None e = whole_before o i

        thing_now : (r : Option ObjectValue) → element_value x i ≡ r → is_element_of cs table (tabled h s) (table.class_of (reference o)) (thing_or ((Old o).elements.things i) r) ≡ true
        thing_now (Some (value.Obj q)) e = let k = element_listed x i (value.Obj q) e in reference_good cs table (tabled h s) s objects_back good o x k.0 q at k.2
        thing_now (Some value.Null) e = refl
        thing_now (Some (value.Int n)) e = thing_before o i
        thing_now (Some (value.Bool b)) e = thing_before o i
        thing_now None e = thing_before o i

      pub tabled_good : IsGoodStore cs table (tabled h s)
      tabled_good = record {
        objects = subst (IsGoodList cs table) (sym objects_back) good;
        whole_elements = λ o i l. let f = found s o (ltb-true o (length s) l) in
            subst (λ x. fits (x.elements.wholes i) ≡ true) (sym (entry_there o f.0 f.1)) (whole_now o f.0 f.1 i (element_value f.0 i) refl);
        elements = λ o i l. let f = found s o (ltb-true o (length s) l) in
            subst (λ x. is_element_of cs table (tabled h s) (table.class_of (reference o)) (x.elements.things i) ≡ true) (sym (entry_there o f.0 f.1)) (thing_now o f.0 f.1 i (element_value f.0 i) refl);
      }

      pub list_has_its_heap : IsStoreOf cs table (tabled h s) s
      list_has_its_heap = record { objects = objects_back; good = tabled_good; numbered = tabled_numbered }

    -- ---- elsewhere

    field_same : (o f : ℕ) (x : Object) → slice_get s o ≡ Some x → nat_lt o h.next ≡ true → below cs (table.class_of (reference o)) (field_class cs f) ≡ false →
        (r : Option ObjectValue) → field_value x f ≡ r → cell (field_sort cs f) (overlaid (field_value x) (Old o).fields) f ≡ cell (field_sort cs f) (h.at (reference o)).fields f
    field_same o f x at l out (Some v) e =
        absurd (false≢true (sym out ∙ ap (λ c. below cs c (field_class cs f)) (fit.class o x at) ∙ field_of_class cs chain x.fields x.class f v (good o x at).values.slots e))
    field_same o f x at l out None e = by (field_sort cs f) ∙ ap (λ y. cell (field_sort cs f) y.fields f) (old_there o l)
      where
        by : (r : Sort) → cell r (overlaid (field_value x) (Old o).fields) f ≡ cell r (Old o).fields f
        by sort.Whole = ap (λ v. cell sort.Whole (overlaid (λ _. v) (Old o).fields) f) e
        by sort.Truth = ap (λ v. cell sort.Truth (overlaid (λ _. v) (Old o).fields) f) e
        by sort.Rest = ap (λ v. cell sort.Rest (overlaid (λ _. v) (Old o).fields) f) e
        by sort.Store = refl

    -- a value at an index is of an array, within its length
    at_index : (o k : ℕ) (x : Object) (v : ObjectValue) → slice_get s o ≡ Some x → slice_get x.elements k ≡ Some v → (is_array cs (table.class_of (reference o)) ≡ true) × (nat_lt k (table.length_of (reference o)) ≡ true)
    at_index o k x v at is =
        let l : k < length x.elements = slice_get_within x.elements k v is in
        let a : is_array cs x.class ≡ true = by_test (is_array cs x.class) (λ a. a) (λ n. absurd (let none = (good o x at).values.plain n in omega (arith, none, l))) in
        let size : table.length_of (reference o) ≡ length x.elements = fit.size o x at a in
        (ap (is_array cs) (fit.class o x at) ∙ a, lt-ltb k (table.length_of (reference o)) (omega (arith, l, size)))

    -- a value of a type stands in the cells of its sort
    in_cells : {Place : Type 0} (t : Ty) (r : Sort) (v : ObjectValue) (c : Cells Place) (i : Place) → has_type cs s t v ≡ true → (same_sort r (sort_of_type t) ≡ true → ⊥) → cell r (overlaid (λ _. Some v) c) i ≡ cell r c i
    in_cells t sort.Store v c i h n = refl
    in_cells t sort.Whole (value.Bool b) c i h n = refl
    in_cells t sort.Whole (value.Obj o) c i h n = refl
    in_cells t sort.Whole value.Null c i h n = refl
    in_cells ty.Int sort.Whole (value.Int m) c i h n = absurd (n refl)
    in_cells ty.Bool sort.Whole (value.Int m) c i h n = absurd (false≢true h)
    in_cells ty.Null sort.Whole (value.Int m) c i h n = absurd (false≢true h)
    in_cells (ty.Ref u k) sort.Whole (value.Int m) c i h n = absurd (false≢true h)
    in_cells t sort.Truth (value.Int m) c i h n = refl
    in_cells t sort.Truth (value.Obj o) c i h n = refl
    in_cells t sort.Truth value.Null c i h n = refl
    in_cells ty.Bool sort.Truth (value.Bool b) c i h n = absurd (n refl)
    in_cells ty.Int sort.Truth (value.Bool b) c i h n = absurd (false≢true h)
    in_cells ty.Null sort.Truth (value.Bool b) c i h n = absurd (false≢true h)
    in_cells (ty.Ref u k) sort.Truth (value.Bool b) c i h n = absurd (false≢true h)
    in_cells t sort.Rest (value.Int m) c i h n = refl
    in_cells t sort.Rest (value.Bool b) c i h n = refl
    in_cells (ty.Ref u k) sort.Rest (value.Obj o) c i h n = absurd (n refl)
    in_cells ty.Int sort.Rest (value.Obj o) c i h n = absurd (false≢true h)
    in_cells ty.Bool sort.Rest (value.Obj o) c i h n = absurd (false≢true h)
    in_cells ty.Null sort.Rest (value.Obj o) c i h n = absurd (false≢true h)
    in_cells (ty.Ref u k) sort.Rest value.Null c i h n = absurd (n refl)
    in_cells ty.Null sort.Rest value.Null c i h n = absurd (n refl)
    in_cells ty.Int sort.Rest value.Null c i h n = absurd (false≢true h)
    in_cells ty.Bool sort.Rest value.Null c i h n = absurd (false≢true h)

    overlaid_at : {Place : Type 0} (r : Sort) (values : Place → Option ObjectValue) (c : Cells Place) (i : Place) (v : Option ObjectValue) → values i ≡ v → cell r (overlaid values c) i ≡ cell r (overlaid (λ _. v) c) i
    overlaid_at sort.Whole values c i v e = ap (λ u. cell sort.Whole (overlaid (λ _. u) c) i) e
    overlaid_at sort.Truth values c i v e = ap (λ u. cell sort.Truth (overlaid (λ _. u) c) i) e
    overlaid_at sort.Rest values c i v e = ap (λ u. cell sort.Rest (overlaid (λ _. u) c) i) e
    overlaid_at sort.Store values c i v e = refl

    none_at : {Place : Type 0} (r : Sort) (c : Cells Place) (i : Place) → cell r (overlaid (λ _. None) c) i ≡ cell r c i
    none_at sort.Whole c i = refl
    none_at sort.Truth c i = refl
    none_at sort.Rest c i = refl
    none_at sort.Store c i = refl

    element_same : (o : ℕ) (r : Sort) (i : ℤ) (x : Object) → slice_get s o ≡ Some x → nat_lt o h.next ≡ true → has_element cs table (reference o) r i ≡ false →
        (v : Option ObjectValue) → element_value x i ≡ v → cell r (overlaid (element_value x) (Old o).elements) i ≡ cell r (h.at (reference o)).elements i
    element_same o r i x at l out None e = overlaid_at r (element_value x) (Old o).elements i None e ∙ none_at r (Old o).elements i ∙ ap (λ y. cell r y.elements i) (old_there o l)
    element_same o r i x at l out (Some v) e =
        let k = element_listed x i v e in
        let p = at_index o k.0 x v at k.2 in
        let typed : has_type cs s (element_type (table.class_of (reference o))) v ≡ true = subst (λ c. has_type cs s (element_type c) v ≡ true) (sym (fit.class o x at)) ((good o x at).values.elements k.0 v k.2) in
        let t : Ty = element_type (table.class_of (reference o)) in
        let within : is_index (table.length_of (reference o)) i ≡ true = subst (λ j. is_index (table.length_of (reference o)) j ≡ true) (sym k.1) p.1 in
        overlaid_at r (element_value x) (Old o).elements i (Some v) e
        ∙ in_cells t r v (Old o).elements i typed (λ q. false≢true (sym out ∙ and_from (is_array cs (table.class_of (reference o)) && is_index (table.length_of (reference o)) i) (same_sort r (sort_of_type t)) (and_from (is_array cs (table.class_of (reference o))) (is_index (table.length_of (reference o)) i) p.0 within) q))
        ∙ ap (λ y. cell r y.elements i) (old_there o l)

    fields_elsewhere : (w : Thing) (f : ℕ) → is_allocated h w ≡ true → below cs (table.class_of w) (field_class cs f) ≡ false → cell (field_sort cs f) ((tabled h s).at w).fields f ≡ cell (field_sort cs f) (h.at w).fields f
    fields_elsewhere (reference o) f l out =
        let r = remaining o l in
        ap (λ y. cell (field_sort cs f) y.fields f) (entry_there o r.0 r.1) ∙ field_same o f r.0 r.1 l out (field_value r.0 f) refl
    fields_elsewhere null f l out = absurd (false≢true l)
    fields_elsewhere (class_name c) f l out = absurd (false≢true l)
    fields_elsewhere (group_number c) f l out = absurd (false≢true l)
    fields_elsewhere (owner_pair v w) f l out = absurd (false≢true l)

    elements_elsewhere : (w : Thing) (r : Sort) (i : ℤ) → is_allocated h w ≡ true → has_element cs table w r i ≡ false → cell r ((tabled h s).at w).elements i ≡ cell r (h.at w).elements i
    elements_elsewhere (reference o) r i l out =
        let q = remaining o l in
        ap (λ y. cell r y.elements i) (entry_there o q.0 q.1) ∙ element_same o r i q.0 q.1 l out (element_value q.0 i) refl
    elements_elsewhere null r i l out = absurd (false≢true l)
    elements_elsewhere (class_name c) r i l out = absurd (false≢true l)
    elements_elsewhere (group_number c) r i l out = absurd (false≢true l)
    elements_elsewhere (owner_pair v w) r i l out = absurd (false≢true l)

    pub heap_is_as_before : SameElsewhere cs table h (tabled h s)
    heap_is_as_before = record { fields = fields_elsewhere; elements = elements_elsewhere }

-- ---- over the heap without objects

none_there : (cs : List ClassTree) (table : Table) (o : ℕ) (x : Object) → slice_get (objects_of cs table no_heap) o ≡ Some x → ⊥
none_there cs table o x e = some_none x (sym e ∙ not_there cs table no_heap o (omega arith))

no_objects_good : (cs : List ClassTree) (table : Table) → IsGoodStore cs table no_heap
no_objects_good cs table = record {
  objects = λ o x e. absurd (none_there cs table o x e);
  whole_elements = λ o i l. refl;
  elements = λ o i l. refl;
}

pub list_has_a_heap : (cs : List ClassTree) → IsChain cs → (table : Table) (s : List Object) → IsGoodList cs table s → Fits cs table s → IsStoreOf cs table (tabled no_heap s) s
list_has_a_heap cs chain table s good fit =
    list_has_its_heap cs chain table no_heap s good fit (λ o x e. absurd (none_there cs table o x e)) (no_objects_good cs table)
