-- Heaps keep to a frame condition where their objects do.
use Rattle.std.proofs.Common.{◌≡◌, ℕ, ◌+◌, ◌<◌, ℤ, pos, negsuc, List, [], length, Bool, true, false, not, ◌&&◌, ◌||◌, eqb, Some, refl, sym, ◌∙◌, ap, subst, arith}
use Rattle.std.specs.Prelude.{if◌then◌else◌, slice_get, unwrap_or, nat_lt}
use Rattle.std.specs.List.{list_any}
use Rattle.std.proofs.lemmas.Bool.{false≢true, true≢false, and_parts, and_from, eqb-true, eq-eqb, ltb-true, lt-ltb}
use Rattle.std.proofs.lemmas.Option.{slice_get_within}
use Rattle.ss_core.specs.Tree.{ClassTree, BodyTree}
use Rattle.ss_core.specs.Chain.{below, all_fields}
use Rattle.ss_store_rules.specs.declared.Value.TheVariants as value
use Rattle.ss_store_rules.specs.Store.{Slot, Object}
use Rattle.ss_store_rules.specs.Reads.{same_value, same_owner, object_at, field_read, element_read, is_full}
use Rattle.ss_store_rules.specs.Reads as reads
use Rattle.ss_store_rules.specs.Changes.{is_array, element_type, field_class, field_type, new_fields}
use Rattle.ss_machine_rules.specs.Frame as frame
use Rattle.ss_machine_rules.specs.Frame.{Span, is_outside, is_old, is_kept}
use Rattle.ss_logic.specs.declared.Sort.{Sort}
use Rattle.ss_logic.specs.declared.Sort.TheVariants as sort
use Rattle.ss_logic.specs.Values.{Thing, null, reference, class_name, group_number, owner_pair, Cells, Entry, Heap, whole, truth, thing, as_thing, as_whole, as_truth, as_store, is_allocated, Structure}
use Rattle.ss_logic.specs.Terms.{sort_of_type, field_sort, has_field, same_sort, cell}
use Rattle.ss_logic.specs.Objects.{content, element_count, owner_of_thing, object_in, objects_of}
use Rattle.ss_logic.proofs.Tabled.{there, count, field_there}
use Rattle.ss_logic.proofs.Truth.{equal_sorts}
use Rattle.ss_logic.specs.Frames.{CallTerms}
use Rattle.ss_logic.specs.FrameMeans.{Each, store_of, NamesNoField, NamesNoLevel, NamesNoElement, IsBound, IsInside, IsKept}
use Rattle.ss_logic_means.specs.Means.{standing}
use Rattle.ss_logic_means.proofs.Classes.{object_known}
use Rattle.ss_logic_means.proofs.Reading.{content_stands}
use Rattle.ss_logic_means.proofs.Typed.{good_values, good_owners, still_allocated, field_not_null}
use Rattle.ss_logic_means.proofs.Standing.{get_found}
use Rattle.ss_logic_tables.specs.Elsewhere.{has_element, SameElsewhere}
use Rattle.ss_logic_tables.specs.Spans.{SpanTerms, SpanValues, IsSpan, span_of, terms_of}
use Rattle.ss_logic_tables.proofs.Facts.{IsOldKept, IsKeptAt, kept_from, kept_to}
use Rattle.ss_logic_tables.proofs.Objects.{same_value_self, same_value_equal, bools_same, beq_equal, same_content, slot_filled, filled_first, slot_of_value, new_listed, element_there, element_within, element_not_null, IsLow, owner_steady, same_back, same_owner_self}
use Rattle.ss_logic_tables.proofs.Naming.{fields_speak, levels_speak, elements_speak, asks_field, asks_level, asks_elements, named_to, named_from}
use Rattle.ss_logic_tables.proofs.Freeing.{not_true, store_is, bound_to, bound_from, inside_to, inside_from}

-- ---- tests

either_true : (a b : Bool) → (b ≡ false → a ≡ true) → (a || b) ≡ true
either_true true b h = refl
either_true false true h = refl
either_true false false h = h refl

one_of_three : (a b c : Bool) → (b ≡ false → c ≡ false → a ≡ true) → ((a || b) || c) ≡ true
one_of_three true b c h = refl
one_of_three false true c h = refl
one_of_three false false true h = refl
one_of_three false false false h = h refl refl

first_true : (a b : Bool) → (a || b) ≡ true → b ≡ false → a ≡ true
first_true true b h f = refl
first_true false b h f = absurd (true≢false (sym h ∙ f))

first_of_three : (a b c : Bool) → ((a || b) || c) ≡ true → b ≡ false → c ≡ false → a ≡ true
first_of_three a b c h f g = first_true a b (first_true (a || b) c h g) f

not_false : (b : Bool) → not b ≡ true → b ≡ false
not_false true h = absurd (false≢true h)
not_false false h = refl

false_not : (b : Bool) → b ≡ false → not b ≡ true
false_not true h = absurd (true≢false h)
false_not false h = refl

-- ---- cells

three_cells : (s : Sort) (c d : Cells ℤ) (i : ℤ) → (c.things i ≡ d.things i) × (c.wholes i ≡ d.wholes i) × (c.truths i ≡ d.truths i) → cell s c i ≡ cell s d i
three_cells sort.Rest c d i h = ap thing h.0
three_cells sort.Whole c d i h = ap whole h.1
three_cells sort.Truth c d i h = ap truth h.2
three_cells sort.Store c d i h = refl

-- ---- what is kept between two heaps, of references alone

record IsKeptBetween (cs : List ClassTree) (m : Structure) (c : CallTerms) (h z : Heap) : Type 0 where
  level : (o : ℕ) → nat_lt o h.next ≡ true → IsBound cs m c (reference o) → IsInside cs m c (reference o) → Each (NamesNoLevel cs m (reference o)) c.named → (z.at (reference o)).level ≡ (h.at (reference o)).level
  committed : (o : ℕ) → nat_lt o h.next ≡ true → IsBound cs m c (reference o) → (z.at (reference o)).committed ≡ (h.at (reference o)).committed
  owner : (o : ℕ) → nat_lt o h.next ≡ true → IsBound cs m c (reference o) → (z.at (reference o)).owner ≡ (h.at (reference o)).owner
  fields : (o f : ℕ) → nat_lt o h.next ≡ true → IsBound cs m c (reference o) → has_field cs f ≡ true → Each (NamesNoField cs m f (reference o)) c.named →
      cell (field_sort cs f) (z.at (reference o)).fields f ≡ cell (field_sort cs f) (h.at (reference o)).fields f
  elements : (o : ℕ) (i : ℤ) → nat_lt o h.next ≡ true → IsBound cs m c (reference o) → Each (NamesNoElement cs m (reference o)) c.named →
      ((z.at (reference o)).elements.things i ≡ (h.at (reference o)).elements.things i)
      × ((z.at (reference o)).elements.wholes i ≡ (h.at (reference o)).elements.wholes i)
      × ((z.at (reference o)).elements.truths i ≡ (h.at (reference o)).elements.truths i)
  full : (o : ℕ) → nat_lt o z.next ≡ true → (nat_lt o h.next ≡ true → IsBound cs m c (reference o) → ⊥) → IsInside cs m c (reference o) → (z.at (reference o)).level ≡ m.table.class_of (reference o)

module _ (cs : List ClassTree) (m : Structure) (c : CallTerms) where
  of_references : IsKept cs m c → IsKeptBetween cs m c (store_of cs m c.before) (store_of cs m c.after)
  of_references k = record {
    level = λ o l w i n. k.level (reference o) l w i n;
    committed = λ o l w. k.committed (reference o) l w;
    owner = λ o l w. k.owner (reference o) l w;
    fields = λ o f l w h n. k.fields (reference o) f l w h n;
    elements = λ o i l w n. k.elements (reference o) i l w n;
    full = λ o l w i. k.full (reference o) l w i;
  }

  -- no other thing is allocated
  each_thing : (h : Heap) (P : Thing → Type 0) → ((o : ℕ) → nat_lt o h.next ≡ true → P (reference o)) → (w : Thing) → is_allocated h w ≡ true → P w
  each_thing h P f (reference o) a = f o a
  each_thing h P f null a = absurd (false≢true a)
  each_thing h P f (class_name t) a = absurd (false≢true a)
  each_thing h P f (group_number g) a = absurd (false≢true a)
  each_thing h P f (owner_pair x y) a = absurd (false≢true a)

  to_things : IsKeptBetween cs m c (store_of cs m c.before) (store_of cs m c.after) → IsKept cs m c
  to_things k =
      let h = store_of cs m c.before in
      let z = store_of cs m c.after in
      record {
        level = λ w a. each_thing h (λ w. IsBound cs m c w → IsInside cs m c w → Each (NamesNoLevel cs m w) c.named → (z.at w).level ≡ (h.at w).level) (λ o l. k.level o l) w a;
        committed = λ w a. each_thing h (λ w. IsBound cs m c w → (z.at w).committed ≡ (h.at w).committed) (λ o l. k.committed o l) w a;
        owner = λ w a. each_thing h (λ w. IsBound cs m c w → (z.at w).owner ≡ (h.at w).owner) (λ o l. k.owner o l) w a;
        fields = λ w f a. each_thing h (λ w. IsBound cs m c w → has_field cs f ≡ true → Each (NamesNoField cs m f w) c.named → cell (field_sort cs f) (z.at w).fields f ≡ cell (field_sort cs f) (h.at w).fields f) (λ o l. k.fields o f l) w a;
        elements = λ w i a. each_thing h
            (λ w. IsBound cs m c w → Each (NamesNoElement cs m w) c.named → ((z.at w).elements.things i ≡ (h.at w).elements.things i) × ((z.at w).elements.wholes i ≡ (h.at w).elements.wholes i) × ((z.at w).elements.truths i ≡ (h.at w).elements.truths i))
            (λ o l. k.elements o i l) w a;
        full = λ w a. each_thing z (λ w. (is_allocated h w ≡ true → IsBound cs m c w → ⊥) → IsInside cs m c w → (z.at w).level ≡ m.table.class_of w) (λ o l. k.full o l) w a;
      }

-- ---- spans

module _ (cs : List ClassTree) (m : Structure) (b : BodyTree) (t : SpanTerms) (v : SpanValues) (sp : IsSpan cs m b t v) where
  abbrev C : CallTerms
  C = terms_of cs b t

  abbrev S : Span
  S = span_of cs m b v

  abbrev Given : List Object
  Given = objects_of cs m.table v.before

  abbrev Now : List Object
  Now = objects_of cs m.table v.after

  after_is : store_of cs m t.after ≡ v.after
  after_is = ap as_store sp.after.1

  between : IsKept cs m C → IsKeptBetween cs m C v.before v.after
  between k = subst (λ h. IsKeptBetween cs m C h v.after) (store_is cs m b t v sp) (subst (λ z. IsKeptBetween cs m C (store_of cs m t.before) z) after_is (of_references cs m C k))

  back : IsKeptBetween cs m C v.before v.after → IsKept cs m C
  back k = to_things cs m C (subst (λ z. IsKeptBetween cs m C (store_of cs m t.before) z) (sym after_is) (subst (λ h. IsKeptBetween cs m C h v.after) (sym (store_is cs m b t v sp)) k))

  later : (o : ℕ) → nat_lt o v.before.next ≡ true → nat_lt o v.after.next ≡ true
  later o l = still_allocated cs m.table v.after v.before sp.older o l

  module _ (o : ℕ) where
    abbrev E : Entry
    E = v.before.at (reference o)

    abbrev F : Entry
    F = v.after.at (reference o)

    abbrev X : Object
    X = object_in cs m.table v.before o

    abbrev Y : Object
    Y = object_in cs m.table v.after o

    abbrev Class : ℕ
    Class = m.table.class_of (reference o)

    low_after : nat_lt o v.after.next ≡ true → IsLow v.after.next F.owner
    low_after k = good_owners cs m.table v.after sp.good_after o k

    low_before : nat_lt o v.before.next ≡ true → IsLow v.before.next E.owner
    low_before l = good_owners cs m.table v.before sp.good_before o l

    -- the owner as the object has it, by what the store before allocates next
    owner_after : nat_lt o v.after.next ≡ true → Y.owner ≡ owner_of_thing v.before.next F.owner
    owner_after k = sym (owner_steady v.after.next v.before.next F.owner (low_after k))

    known : nat_lt o v.before.next ≡ true → object_at Given o ≡ X
    known l = object_known cs m [] v.before o l

    -- ---- old objects
    old_parts : is_old S o ≡ true → (l : nat_lt o v.before.next ≡ true) × (frame.is_free S X ≡ false)
    old_parts e =
        let p = and_parts (reads.is_allocated Given o) (not (frame.is_free S (object_at Given o))) e in
        let l : nat_lt o v.before.next ≡ true = ap (nat_lt o) (sym (count cs m.table v.before)) ∙ p.0 in
        (l, ap (frame.is_free S) (sym (known l)) ∙ not_false (frame.is_free S (object_at Given o)) p.1)

    parts_old : nat_lt o v.before.next ≡ true → frame.is_free S X ≡ false → is_old S o ≡ true
    parts_old l f =
        and_from (reads.is_allocated Given o) (not (frame.is_free S (object_at Given o))) (ap (nat_lt o) (count cs m.table v.before) ∙ l)
        (false_not (frame.is_free S (object_at Given o)) (ap (frame.is_free S) (known l) ∙ f))

    -- ---- from heaps to objects
    module _ (k : IsKeptBetween cs m C v.before v.after) (is : nat_lt o v.after.next ≡ true) where
      module _ (l : nat_lt o v.before.next ≡ true) (w : IsBound cs m C (reference o)) where
        slot_kept : (j : ℕ) (r : Slot) → slice_get (new_fields cs Class) j ≡ Some r →
            (same_value (content (field_type cs r.field) F.fields r.field) (field_read (object_at Given o) r.field) || list_any (frame.names_field cs o r.field) (frame.all_named S)) ≡ true
        slot_kept j r at = either_true _ _ (λ n.
            let f = r.field in
            let cells = k.fields o f l w (new_listed cs Class j r at) (named_from cs m b t v sp o (NamesNoField cs m f (reference o)) (asks_field cs m v.after o f) (frame.names_field cs o f) (fields_speak cs m v.after o sp.beside f) n) in
            let same : content (field_type cs f) F.fields f ≡ content (field_type cs f) E.fields f = same_content (field_type cs f) F.fields E.fields f cells in
            let had : field_read (object_at Given o) f ≡ content (field_type cs f) E.fields f = ap (λ x. field_read x f) (known l) ∙ ap (λ u. unwrap_or u value.Null) (filled_first cs E (new_fields cs Class) j r at) in
            ap (same_value (content (field_type cs f) F.fields f)) (had ∙ sym same) ∙ same_value_self (content (field_type cs f) F.fields f))

        old_kept : IsOldKept S o Y
        old_kept = record {
          fields = λ j s at.
              let r = slot_filled cs F (new_fields cs Class) j s at in
              subst (λ (u : Slot). (same_value u.content (field_read (object_at Given o) u.field) || list_any (frame.names_field cs o u.field) (frame.all_named S)) ≡ true) (sym r.2) (slot_kept j r.0 r.1);
          elements = λ i u at n.
              let T = element_type Class in
              let number = element_count cs m.table o in
              let inside = element_within T F 0 number i u at in
              let zero_more : 0 + i ≡ i = omega arith in
              let now_there = element_there T F 0 number i inside ∙ ap (λ q. Some (content T F.elements (pos q))) zero_more in
              let was_there = element_there T E 0 number i inside ∙ ap (λ q. Some (content T E.elements (pos q))) zero_more in
              let now_is : content T F.elements (pos i) ≡ u = ap (λ q. unwrap_or q value.Null) (sym now_there ∙ at) in
              let three = k.elements o (pos i) l w (named_from cs m b t v sp o (NamesNoElement cs m (reference o)) (asks_elements cs m v.after o) (frame.names_elements o) (elements_speak cs m v.after o) n) in
              let same : content T F.elements (pos i) ≡ content T E.elements (pos i) = same_content T F.elements E.elements (pos i) (three_cells (sort_of_type T) F.elements E.elements (pos i) three) in
              let had : element_read (object_at Given o) i ≡ content T E.elements (pos i) = ap (λ x. element_read x i) (known l) ∙ ap (λ q. unwrap_or q value.Null) was_there in
              ap (same_value u) (had ∙ sym same ∙ now_is) ∙ same_value_self u;
          level = one_of_three _ _ _ (λ n i.
              eq-eqb Y.level (object_at Given o).level
              (k.level o l w (inside_from cs m b t v sp o i) (named_from cs m b t v sp o (NamesNoLevel cs m (reference o)) (asks_level cs m v.after o) (frame.names_level o) (levels_speak cs m v.after o) n)
              ∙ ap (λ x. x.level) (sym (known l))));
          committed = bools_same Y.committed (object_at Given o).committed (k.committed o l w ∙ ap (λ x. x.committed) (sym (known l)));
          owner =
              let same : Y.owner ≡ (object_at Given o).owner = owner_after is ∙ ap (owner_of_thing v.before.next) (k.owner o l w) ∙ ap (λ x. x.owner) (sym (known l)) in
              ap (same_owner Y.owner) (sym same) ∙ same_owner_self Y.owner;
        }

      object_kept : IsKeptAt S o Y
      object_kept = record {
        old = λ e. let p = old_parts e in old_kept p.0 (bound_from cs m b t v sp o p.0 p.1);
        new = λ e. either_true _ _ (λ i. eq-eqb Y.level Y.class (new_level e i));
      }
        where
          new_level : is_old S o ≡ false → is_outside S o ≡ false → Y.level ≡ Y.class
          new_level e i = k.full o is (λ l w. true≢false (sym (parts_old l (bound_to cs m b t v sp o l w)) ∙ e)) (inside_from cs m b t v sp o i)

    -- ---- from objects to heaps
    module _ (is : (q : ℕ) (y : Object) → slice_get Now q ≡ Some y → IsKeptAt S q y) (l : nat_lt o v.before.next ≡ true) (w : IsBound cs m C (reference o)) where
      here : nat_lt o v.after.next ≡ true
      here = later o l

      kept_old : IsOldKept S o Y
      kept_old = (is o Y (there cs m.table v.after o here)).old (parts_old l (bound_to cs m b t v sp o l w))

      level_back : IsInside cs m C (reference o) → Each (NamesNoLevel cs m (reference o)) C.named → F.level ≡ E.level
      level_back i n =
          eqb-true F.level E.level
          (ap (λ x. eqb F.level x.level) (sym (known l))
          ∙ first_of_three _ _ _ kept_old.level (named_to cs m b t v sp o (NamesNoLevel cs m (reference o)) (asks_level cs m v.after o) (frame.names_level o) (levels_speak cs m v.after o) n) (inside_to cs m b t v sp o i))

      committed_back : F.committed ≡ E.committed
      committed_back = beq_equal F.committed (object_at Given o).committed kept_old.committed ∙ ap (λ x. x.committed) (known l)

      owner_back : F.owner ≡ E.owner
      owner_back = same_back v.before.next F.owner E.owner (low_before l) (ap (λ x. same_owner x (owner_of_thing v.before.next E.owner)) (sym (owner_after here)) ∙ ap (λ x. same_owner Y.owner x.owner) (sym (known l)) ∙ kept_old.owner)

      field_back : (f : ℕ) → has_field cs f ≡ true → below cs Class (field_class cs f) ≡ true → Each (NamesNoField cs m f (reference o)) C.named → cell (field_sort cs f) F.fields f ≡ cell (field_sort cs f) E.fields f
      field_back f has up n =
          let T = field_type cs f in
          let now_there = field_there cs m.table v.after o f has up in
          let was_there = field_there cs m.table v.before o f has up in
          let at = slot_of_value Y.fields f (content T F.fields f) now_there in
          let either = subst (λ g. (same_value at.1.content (field_read (object_at Given o) g) || list_any (frame.names_field cs o g) (frame.all_named S)) ≡ true) at.3 (kept_old.fields at.0 at.1 at.2) in
          let equal = first_true _ _ either (named_to cs m b t v sp o (NamesNoField cs m f (reference o)) (asks_field cs m v.after o f) (frame.names_field cs o f) (fields_speak cs m v.after o sp.beside f) n) in
          let read : field_read (object_at Given o) f ≡ content T E.fields f = ap (λ x. field_read x f) (known l) ∙ ap (λ u. unwrap_or u value.Null) was_there in
          let same : content T F.fields f ≡ content T E.fields f = sym at.4 ∙ same_value_equal at.1.content (field_read (object_at Given o) f) equal ∙ read in
          let d = get_found (all_fields cs) f (ltb-true f (length (all_fields cs)) has) in
          let typed = field_not_null cs sp.chain f d.0 d.1 in
          content_stands cs Now T F.fields f typed ((good_values cs m.table v.after sp.good_after o here).fields f (content T F.fields f) now_there)
          ∙ ap standing same
          ∙ sym (content_stands cs Given T E.fields f typed ((good_values cs m.table v.before sp.good_before o l).fields f (content T E.fields f) was_there))

      counted : (q : Bool) (n : ℕ) → q ≡ true → n ≡ (if q then n else 0)
      counted true n e = refl
      counted false n e = absurd (false≢true e)

      element_back : (i : ℕ) → is_array cs Class ≡ true → i < m.table.length_of (reference o) → Each (NamesNoElement cs m (reference o)) C.named → cell (sort_of_type (element_type Class)) F.elements (pos i) ≡ cell (sort_of_type (element_type Class)) E.elements (pos i)
      element_back i array low n =
          let T = element_type Class in
          let number = element_count cs m.table o in
          let inside : i < number = subst (λ q. i < q) (counted (is_array cs Class) (m.table.length_of (reference o)) array) low in
          let zero_more : 0 + i ≡ i = omega arith in
          let now_there = element_there T F 0 number i inside ∙ ap (λ q. Some (content T F.elements (pos q))) zero_more in
          let was_there = element_there T E 0 number i inside ∙ ap (λ q. Some (content T E.elements (pos q))) zero_more in
          let equal = kept_old.elements i (content T F.elements (pos i)) now_there (named_to cs m b t v sp o (NamesNoElement cs m (reference o)) (asks_elements cs m v.after o) (frame.names_elements o) (elements_speak cs m v.after o) n) in
          let read : element_read (object_at Given o) i ≡ content T E.elements (pos i) = ap (λ x. element_read x i) (known l) ∙ ap (λ q. unwrap_or q value.Null) was_there in
          let same : content T F.elements (pos i) ≡ content T E.elements (pos i) = same_value_equal (content T F.elements (pos i)) (element_read (object_at Given o) i) equal ∙ read in
          content_stands cs Now T F.elements (pos i) (element_not_null Class) ((good_values cs m.table v.after sp.good_after o here).elements i (content T F.elements (pos i)) now_there)
          ∙ ap standing same
          ∙ sym (content_stands cs Given T E.elements (pos i) (element_not_null Class) ((good_values cs m.table v.before sp.good_before o l).elements i (content T E.elements (pos i)) was_there))

      module _ (elsewhere : SameElsewhere cs m.table v.before v.after) where
        any_field : (f : ℕ) → has_field cs f ≡ true → Each (NamesNoField cs m f (reference o)) C.named → cell (field_sort cs f) F.fields f ≡ cell (field_sort cs f) E.fields f
        any_field f has n = by (below cs Class (field_class cs f)) refl
          where
            by : (q : Bool) → below cs Class (field_class cs f) ≡ q → cell (field_sort cs f) F.fields f ≡ cell (field_sort cs f) E.fields f
            by true e = field_back f has e n
            by false e = elsewhere.fields (reference o) f l e

        any_element : (s : Sort) (i : ℤ) → Each (NamesNoElement cs m (reference o)) C.named → cell s F.elements i ≡ cell s E.elements i
        any_element s (negsuc i) n = elsewhere.elements (reference o) s (negsuc i) l (never (is_array cs Class) (same_sort s (sort_of_type (element_type Class))))
          where
            never : (p q : Bool) → ((p && false) && q) ≡ false
            never true q = refl
            never false q = refl
        any_element s (pos i) n = by (has_element cs m.table (reference o) s (pos i)) refl
          where
            by : (q : Bool) → has_element cs m.table (reference o) s (pos i) ≡ q → cell s F.elements (pos i) ≡ cell s E.elements (pos i)
            by true e =
                let p = and_parts (is_array cs Class && nat_lt i (m.table.length_of (reference o))) (same_sort s (sort_of_type (element_type Class))) e in
                let q = and_parts (is_array cs Class) (nat_lt i (m.table.length_of (reference o))) p.0 in
                subst (λ r. cell r F.elements (pos i) ≡ cell r E.elements (pos i)) (sym (equal_sorts s (sort_of_type (element_type Class)) p.1)) (element_back i q.0 (ltb-true i (m.table.length_of (reference o)) q.1) n)
            by false e = elsewhere.elements (reference o) s (pos i) l e

    -- a new or a free object
    full_back : ((q : ℕ) (y : Object) → slice_get Now q ≡ Some y → IsKeptAt S q y) → nat_lt o v.after.next ≡ true → (nat_lt o v.before.next ≡ true → IsBound cs m C (reference o) → ⊥) → IsInside cs m C (reference o) → F.level ≡ Class
    full_back is k n i =
        let new : is_old S o ≡ false = not_true (is_old S o) (λ e. let p = old_parts e in n p.0 (bound_from cs m b t v sp o p.0 p.1)) in
        eqb-true Y.level Y.class (first_true (is_full Y) (is_outside S o) ((is o Y (there cs m.table v.after o k)).new new) (inside_to cs m b t v sp o i))

  -- ---- both ways

  pub objects_kept : IsKept cs m C → is_kept S ≡ true
  objects_kept k = kept_to S (λ o y at.
      let within = slice_get_within Now o y at in
      let here : nat_lt o v.after.next ≡ true = lt-ltb o v.after.next (subst (λ n. o < n) (count cs m.table v.after) within) in
      let same : Some (object_in cs m.table v.after o) ≡ Some y = sym (there cs m.table v.after o here) ∙ at in
      let is : object_in cs m.table v.after o ≡ y = ap (λ q. unwrap_or q y) same in
      subst (IsKeptAt S o) is (object_kept o (between k) here))

  pub heaps_kept : SameElsewhere cs m.table v.before v.after → is_kept S ≡ true → IsKept cs m C
  heaps_kept elsewhere e =
      let is = kept_from S e in
      back (record {
        level = λ o l w i n. level_back o is l w i n;
        committed = λ o l w. committed_back o is l w;
        owner = λ o l w. owner_back o is l w;
        fields = λ o f l w has n. any_field o is l w elsewhere f has n;
        elements = λ o i l w n. (
          ap as_thing (any_element o is l w elsewhere sort.Rest i n),
          ap as_whole (any_element o is l w elsewhere sort.Whole i n),
          ap as_truth (any_element o is l w elsewhere sort.Truth i n),
        );
        full = λ o k n i. full_back o is k n i;
      })
