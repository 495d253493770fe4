-- Each change of a heap is that change of its objects, and what it leaves is a good heap.
use Rattle.std.proofs.Common.{◌≡◌, ℕ, zero, suc, ◌<◌, ℤ, pos, negsuc, List, [], ◌∷◌, length, Bool, true, false, not, ◌&&◌, ◌||◌, ◌==◌, eqb, Some, refl, sym, ◌∙◌, ap, subst, arith}
use Rattle.std.specs.Prelude.{slice_get, slice_set, nat_lt, Result, Ok, Err}
use Rattle.std.specs.List.{list_all}
use Rattle.std.specs.Ordering.{int_eq}
use Rattle.std.proofs.lemmas.Bool.{false≢true, and_parts, eqb-true, eq-eqb, ltb-true, or_left}
use Rattle.ss_core.specs.declared.names.Kind.{Kind}
use Rattle.ss_core.specs.declared.names.Kind.TheVariants as kind
use Rattle.ss_core.specs.declared.names.Mark.{Mark}
use Rattle.ss_core.specs.declared.names.Mark.TheVariants as mark
use Rattle.ss_core.specs.declared.names.Ty.{Ty}
use Rattle.ss_core.specs.declared.names.Ty.TheVariants as ty
use Rattle.ss_core.specs.Tree.{ClassTree}
use Rattle.ss_core.specs.Chain.{above}
use Rattle.ss_store_rules.specs.declared.Value.{Value as ObjectValue}
use Rattle.ss_store_rules.specs.declared.Value.TheVariants as value
use Rattle.ss_store_rules.specs.Store.{Object}
use Rattle.ss_store_rules.specs.Numbers.{fits}
use Rattle.ss_store_rules.specs.Changes.{element_type, field_class, field_mark, field_type}
use Rattle.ss_store_rules.specs.Changes as store
use Rattle.ss_store_rules.specs.Good.{has_type, Invariants}
use Rattle.ss_store_rules.proofs.Owners.{check_ok, on_object_ok}
use Rattle.ss_store_rules.proofs.Objects.{becomes}
use Rattle.ss_machine_rules.specs.Steps.{with_ready}
use Rattle.ss_logic.specs.Values.{Thing, null, reference, same_thing, Entry, Heap, Table, Value, as_thing, sort_of_value}
use Rattle.ss_logic.specs.Changes.{put_cell, changed, field_set, element_put, unpacked, packed, made_ready}
use Rattle.ss_logic.specs.Terms.{sort_of_type}
use Rattle.ss_logic.specs.Objects.{object_value, objects_of, is_element_of}
use Rattle.ss_logic.proofs.Changing.{unpacked_same, packed_same, ready_same}
use Rattle.ss_logic.proofs.Writing.{written_same}
use Rattle.ss_logic.proofs.Elements.{put_same}
use Rattle.ss_logic_means.specs.Means.{standing}
use Rattle.ss_logic_tables.specs.Tabled.{IsStoreOf}
use Rattle.ss_logic_tables.specs.Owned.{owned_heap}
use Rattle.ss_logic_tables.proofs.Listing.{by_test, if_yes, if_no}
use Rattle.ss_logic_tables.proofs.Staying.{IsGoodList, Grows, allocated_at, reference_good, whole_good, element_stays, same_elements_good, numbered_changed}
use Rattle.ss_logic_tables.proofs.Owning.{ok_same, objects_unchanged, owned_objects, owned_numbered}

-- ---- values of terms

pub value_back : (w : ObjectValue) → object_value (standing w) ≡ w
value_back (value.Int n) = refl
value_back (value.Bool b) = refl
value_back (value.Obj o) = refl
value_back value.Null = refl

pub typed_sort : (cs : List ClassTree) (s : List Object) (t : Ty) (w : ObjectValue) → has_type cs s t w ≡ true → sort_of_value (standing w) ≡ sort_of_type t
typed_sort cs s ty.Int (value.Int n) h = refl
typed_sort cs s ty.Int (value.Bool b) h = absurd (false≢true h)
typed_sort cs s ty.Int (value.Obj o) h = absurd (false≢true h)
typed_sort cs s ty.Int value.Null h = absurd (false≢true h)
typed_sort cs s ty.Bool (value.Bool b) h = refl
typed_sort cs s ty.Bool (value.Int n) h = absurd (false≢true h)
typed_sort cs s ty.Bool (value.Obj o) h = absurd (false≢true h)
typed_sort cs s ty.Bool value.Null h = absurd (false≢true h)
typed_sort cs s ty.Null value.Null h = refl
typed_sort cs s ty.Null (value.Int n) h = absurd (false≢true h)
typed_sort cs s ty.Null (value.Bool b) h = absurd (false≢true h)
typed_sort cs s ty.Null (value.Obj o) h = absurd (false≢true h)
typed_sort cs s (ty.Ref t n) (value.Obj o) h = refl
typed_sort cs s (ty.Ref t n) value.Null h = refl
typed_sort cs s (ty.Ref t n) (value.Int m) h = absurd (false≢true h)
typed_sort cs s (ty.Ref t n) (value.Bool b) h = absurd (false≢true h)

set_get : (xs : List ObjectValue) (i : ℕ) (v : ObjectValue) → i < length xs → slice_get (slice_set xs i v) i ≡ Some v
set_get [] i v l = absurd (omega (arith, l))
set_get (x ∷ xs) zero v l = refl
set_get (x ∷ xs) (suc i) v l = set_get xs i v (omega (arith, l))

or_false : (b : Bool) → (b || false) ≡ b
or_false true = refl
or_false false = refl

then_ok : (o f : ℕ) (v : ObjectValue) (q : Result (List Object) Kind) (z : List Object) → store.then_written o f v q ≡ Ok z → (r : List Object) × (q ≡ Ok r) × (store.changed (store.written o f v) r ≡ z)
then_ok o f v (Ok r) z e = (r, refl, ok_same (store.changed (store.written o f v) r) z e)
then_ok o f v (Err k) z e = absurd (let no : ⊥ = cc in no)

entry_with : Entry → Bool → Entry
entry_with x b = record x { ready = b }

module _ (cs : List ClassTree) (table : Table) (h : Heap) (s : List Object) (is : IsStoreOf cs table h s) where
  -- ---- a change that leaves elements and owners, and what is ready

  left : (change : Thing → Entry → Entry) (z : List Object) → objects_of cs table (changed change h) ≡ z → IsGoodList cs table z → ((w : Thing) (x : Entry) → (change w x).elements ≡ x.elements) → ((w : Thing) (x : Entry) → (change w x).owner ≡ x.owner) →
      ((w : Thing) (x : Entry) → x.ready ≡ true → (change w x).ready ≡ true) → IsStoreOf cs table (changed change h) z
  left change z objects good elements owners ready = record {
    objects = objects;
    good = same_elements_good cs table h (changed change h) is.good (subst (IsGoodList cs table) (sym objects) good) (record { next = omega arith; ready = λ o l r. ready (reference o) (h.at (reference o)) r }) refl (λ o. elements (reference o) (h.at (reference o)));
    numbered = numbered_changed change h owners is.numbered;
  }

  low : (o : ℕ) (x : Object) → slice_get s o ≡ Some x → o < h.next
  low o x e = ltb-true o h.next (allocated_at cs table h s is.objects o x e).0

  -- ---- ready

  none_ready : objects_of cs table (changed (made_ready null) h) ≡ s
  unfolding entry_with
  none_ready = objects_unchanged cs table h (made_ready null) (λ q x. ap (entry_with x) (or_false x.ready)) ∙ is.objects

  ready_left : (w : Thing) (z : List Object) → objects_of cs table (changed (made_ready w) h) ≡ z → IsGoodList cs table z → IsStoreOf cs table (changed (made_ready w) h) z
  ready_left w z objects good = left (made_ready w) z objects good (λ u x. refl) (λ u x. refl) (λ u x r. or_left x.ready (same_thing u w) r)

  pub made_ready_store : (v : ObjectValue) → IsGoodList cs table (with_ready s v) → IsStoreOf cs table (changed (made_ready (as_thing (standing v))) h) (with_ready s v)
  made_ready_store (value.Obj o) good = ready_left (reference o) (store.ready_of s o) (ready_same cs table h o ∙ ap (store.changed (store.made_ready o)) is.objects) good
  made_ready_store (value.Int n) good = ready_left null s none_ready good
  made_ready_store (value.Bool b) good = ready_left null s none_ready good
  made_ready_store value.Null good = ready_left null s none_ready good

  -- ---- levels

  pub unpacked_store : (v : ObjectValue) (t : ℕ) (z : List Object) → store.unpack_of cs s v t ≡ Ok z → IsGoodList cs table z → IsStoreOf cs table (changed (unpacked cs (as_thing (standing v)) t) h) z
  unpacked_store v t z e good =
      let r = on_object_ok s v (store.unpacking cs s t) z e in
      let o : ℕ = r.0 in
      let x : Object = r.2.0 in
      let a = check_ok (x.level == t) kind.UnpackLevel (store.check (not x.committed) kind.UnpackCommitted (Ok (store.changed (store.unpacked cs o t) s))) z r.2.2 in
      let b = check_ok (not x.committed) kind.UnpackCommitted (Ok (store.changed (store.unpacked cs o t) s)) z a.1 in
      subst (λ u. IsStoreOf cs table (changed (unpacked cs (as_thing (standing u)) t) h) z) (sym r.1)
      (left (unpacked cs (reference o) t) z
      (unpacked_same cs table h o t (low o x r.2.1) ∙ ap (store.changed (store.unpacked cs o t)) is.objects ∙ ok_same (store.changed (store.unpacked cs o t) s) z b.1)
      good (λ w y. refl) (λ w y. refl) (λ w y q. q))

  pub packed_store : (holds : Invariants) (v : ObjectValue) (t : ℕ) (z : List Object) → store.pack_of cs holds s v t ≡ Ok z → IsGoodList cs table z → IsStoreOf cs table (changed (packed (as_thing (standing v)) t) h) z
  packed_store holds v t z e good =
      let r = on_object_ok s v (store.packing cs holds s t) z e in
      let o : ℕ = r.0 in
      let x : Object = r.2.0 in
      let c = check_ok (list_all (store.may_be_committed o t) s) kind.PackOwned (Ok (store.changed (store.repacked o t) s)) z
      (check_ok (holds s o t) kind.Invariant (store.check (list_all (store.may_be_committed o t) s) kind.PackOwned (Ok (store.changed (store.repacked o t) s))) z
      (check_ok (x.level == above cs t) kind.PackLevel (store.check (holds s o t) kind.Invariant (store.check (list_all (store.may_be_committed o t) s) kind.PackOwned (Ok (store.changed (store.repacked o t) s)))) z r.2.2).1).1 in
      subst (λ u. IsStoreOf cs table (changed (packed (as_thing (standing u)) t) h) z) (sym r.1)
      (left (packed (reference o) t) z
      (packed_same cs table h o t (low o x r.2.1) ∙ ap (store.changed (store.repacked o t)) is.objects ∙ ok_same (store.changed (store.repacked o t) s) z c.1)
      good (λ w y. refl) (λ w y. refl) (λ w y q. q))

  -- ---- fields

  -- owners alone change
  owned_next : (m : Mark) (o : Thing) (t : ℕ) (e : Thing) → (owned_heap m h o t e).next ≡ h.next
  owned_next mark.Plain o t e = refl
  owned_next mark.Rep o t e = refl
  owned_next mark.Peer o t e = refl

  owned_elements : (m : Mark) (o : Thing) (t : ℕ) (e w : Thing) → ((owned_heap m h o t e).at w).elements ≡ (h.at w).elements
  owned_elements mark.Plain o t e w = refl
  owned_elements mark.Rep o t e w = refl
  owned_elements mark.Peer o t e w = refl

  owned_ready : (m : Mark) (o : Thing) (t : ℕ) (e w : Thing) → ((owned_heap m h o t e).at w).ready ≡ (h.at w).ready
  owned_ready mark.Plain o t e w = refl
  owned_ready mark.Rep o t e w = refl
  owned_ready mark.Peer o t e w = refl

  field_elements : (o : Thing) (f : ℕ) (v : Value) (w : Thing) (x : Entry) → (field_set o f v w x).elements ≡ x.elements
  field_elements o f v w x = refl

  written_heap : (m : Mark) (o t f : ℕ) (w : ObjectValue) → Heap
  written_heap m o t f w = changed (field_set (reference o) f (standing w)) (owned_heap m h (reference o) t (as_thing (standing w)))

  written_at : (o f : ℕ) (w : ObjectValue) (r z : List Object) → store.with_owners (field_mark cs f) s o (field_class cs f) w ≡ Ok r → store.changed (store.written o f w) r ≡ z → (field_type cs f ≡ ty.Null → ⊥) → has_type cs s (field_type cs f) w ≡ true → IsGoodList cs table z →
      IsStoreOf cs table (changed (field_set (reference o) f (standing w)) (owned_heap (field_mark cs f) h (reference o) (field_class cs f) (as_thing (standing w)))) z
  written_at o f w r z owners same known typed good =
      let m : Mark = field_mark cs f in
      let t : ℕ = field_class cs f in
      let e : Thing = as_thing (standing w) in
      let i : Heap = owned_heap m h (reference o) t e in
      let next : i.next ≡ h.next = owned_next m (reference o) t e in
      let objects : objects_of cs table (changed (field_set (reference o) f (standing w)) i) ≡ z =
      written_same cs table i o f (standing w) known (typed_sort cs s (field_type cs f) w typed)
      ∙ ap (λ v. store.changed (store.written o f v) (objects_of cs table i)) (value_back w)
      ∙ ap (store.changed (store.written o f w)) (owned_objects s r cs table h is.objects m o t w owners)
      ∙ same in
      record {
        objects = objects;
        good = same_elements_good cs table h (changed (field_set (reference o) f (standing w)) i) is.good (subst (IsGoodList cs table) (sym objects) good)
            (record { next = omega (arith, next); ready = λ q l x. owned_ready m (reference o) t e (reference q) ∙ x }) next (λ q. owned_elements m (reference o) t e (reference q));
        numbered = numbered_changed (field_set (reference o) f (standing w)) i (λ u x. refl) (owned_numbered cs table h is.numbered m (reference o) t e);
      }

  pub written_store : (v : ObjectValue) (f : ℕ) (w : ObjectValue) (z : List Object) → store.write_of cs s v f w ≡ Ok z → (field_type cs f ≡ ty.Null → ⊥) → has_type cs s (field_type cs f) w ≡ true → IsGoodList cs table z →
      IsStoreOf cs table (changed (field_set (as_thing (standing v)) f (standing w)) (owned_heap (field_mark cs f) h (as_thing (standing v)) (field_class cs f) (as_thing (standing w)))) z
  written_store v f w z e known typed good =
      let r = on_object_ok s v (store.writing cs s f w) z e in
      let o : ℕ = r.0 in
      let x : Object = r.2.0 in
      let a = check_ok (not (store.packed cs x (field_class cs f))) kind.WriteLevel (store.then_written o f w (store.with_owners (field_mark cs f) s o (field_class cs f) w)) z r.2.2 in
      let b = then_ok o f w (store.with_owners (field_mark cs f) s o (field_class cs f) w) z a.1 in
      subst (λ u. IsStoreOf cs table (changed (field_set (as_thing (standing u)) f (standing w)) (owned_heap (field_mark cs f) h (as_thing (standing u)) (field_class cs f) (as_thing (standing w)))) z) (sym r.1)
      (written_at o f w b.0 z b.1 b.2 known typed good)

  -- ---- elements

  -- the written element, where it is written, and else the one of before
  module _ (o n : ℕ) (w : ObjectValue) (x : Object) (there : slice_get s o ≡ Some x) (within : n < length x.elements) (z : List Object) (same : store.changed (store.element_written o n w) s ≡ z) (good : IsGoodList cs table z) where
    abbrev After : Heap
    After = changed (element_put (reference o) (pos n) (standing w)) h

    abbrev Put : ℕ → ℤ → Bool
    Put q j = same_thing (reference q) (reference o) && int_eq j (pos n)

    object_now : slice_get z o ≡ Some (store.element_written o n w o x)
    object_now = subst (λ y. slice_get y o ≡ Some (store.element_written o n w o x)) same (becomes (store.element_written o n w) s o x there)

    element_now : slice_get (store.element_written o n w o x).elements n ≡ Some w
    element_now = ap (λ ys. slice_get ys n) (if_yes (eqb o o) (slice_set x.elements n w) x.elements (eq-eqb o o refl)) ∙ set_get x.elements n w within

    sorted : sort_of_value (standing w) ≡ sort_of_type (element_type (table.class_of (reference o)))
    sorted =
        let class : table.class_of (reference o) ≡ x.class = ap (λ y. y.class) (allocated_at cs table h s is.objects o x there).1 in
        typed_sort cs z (element_type (table.class_of (reference o))) w
        (subst (λ c. has_type cs z (element_type c) w ≡ true) (sym class) ((good o (store.element_written o n w o x) object_now).values.elements n w element_now))

    objects_now : objects_of cs table After ≡ z
    objects_now =
        put_same cs table h o n (standing w) sorted
        ∙ ap (λ v. store.changed (store.element_written o n v) (objects_of cs table h)) (value_back w)
        ∙ ap (store.changed (store.element_written o n w)) is.objects
        ∙ same

    grows : Grows cs table h After
    grows = record { next = omega arith; ready = λ q l r. r }

    whole_now : (q : ℕ) (j : ℤ) → nat_lt q h.next ≡ true → (u : ObjectValue) → w ≡ u → fits ((put_cell (Put q) (standing u) (h.at (reference q)).elements).wholes j) ≡ true
    whole_now q j l (value.Int m) e =
        by_test (Put q j)
        (λ t. subst (λ k. fits k ≡ true) (sym (if_yes (Put q j) m ((h.at (reference q)).elements.wholes j) t)) (whole_good cs table After z objects_now good o (store.element_written o n w o x) n m object_now (element_now ∙ ap Some e)))
        (λ f. subst (λ k. fits k ≡ true) (sym (if_no (Put q j) m ((h.at (reference q)).elements.wholes j) f)) (is.good.whole_elements q j l))
    whole_now q j l (value.Bool b) e = is.good.whole_elements q j l
    whole_now q j l (value.Obj a) e = is.good.whole_elements q j l
    whole_now q j l value.Null e = is.good.whole_elements q j l

    stays : (q : ℕ) (j : ℤ) → nat_lt q h.next ≡ true → is_element_of cs table After (table.class_of (reference q)) ((h.at (reference q)).elements.things j) ≡ true
    stays q j l = element_stays cs table h After grows (table.class_of (reference q)) ((h.at (reference q)).elements.things j) (is.good.elements q j l)

    thing_now : (q : ℕ) (j : ℤ) → nat_lt q h.next ≡ true → (u : ObjectValue) → w ≡ u → is_element_of cs table After (table.class_of (reference q)) ((put_cell (Put q) (standing u) (h.at (reference q)).elements).things j) ≡ true
    thing_now q j l (value.Obj a) e =
        by_test (Put q j)
        (λ t. let same_q : q ≡ o = eqb-true q o (and_parts (eqb q o) (int_eq j (pos n)) t).0 in
        subst (λ k. is_element_of cs table After (table.class_of (reference q)) k ≡ true) (sym (if_yes (Put q j) (reference a) ((h.at (reference q)).elements.things j) t))
        (subst (λ k. is_element_of cs table After (table.class_of (reference k)) (reference a) ≡ true) (sym same_q) (reference_good cs table After z objects_now good o (store.element_written o n w o x) n a object_now (element_now ∙ ap Some e))))
        (λ f. subst (λ k. is_element_of cs table After (table.class_of (reference q)) k ≡ true) (sym (if_no (Put q j) (reference a) ((h.at (reference q)).elements.things j) f)) (stays q j l))
    thing_now q j l value.Null e =
        by_test (Put q j)
        (λ t. subst (λ k. is_element_of cs table After (table.class_of (reference q)) k ≡ true) (sym (if_yes (Put q j) null ((h.at (reference q)).elements.things j) t)) refl)
        (λ f. subst (λ k. is_element_of cs table After (table.class_of (reference q)) k ≡ true) (sym (if_no (Put q j) null ((h.at (reference q)).elements.things j) f)) (stays q j l))
    thing_now q j l (value.Int m) e = stays q j l
    thing_now q j l (value.Bool b) e = stays q j l

    put_store : IsStoreOf cs table After z
    put_store = record {
      objects = objects_now;
      good = record {
        objects = subst (IsGoodList cs table) (sym objects_now) good;
        whole_elements = λ q j l. whole_now q j l w refl;
        elements = λ q j l. thing_now q j l w refl;
      };
      numbered = numbered_changed (element_put (reference o) (pos n) (standing w)) h (λ u y. refl) is.numbered;
    }

  put_at : (o : ℕ) (x : Object) → slice_get s o ≡ Some x → (i : ℤ) (w : ObjectValue) (z : List Object) → store.writing_element s i w o x ≡ Ok z → IsGoodList cs table z → IsStoreOf cs table (changed (element_put (reference o) i (standing w)) h) z
  put_at o x there (pos n) w z e good =
      let a = check_ok (nat_lt n (length x.elements)) kind.Index (store.check (not x.committed) kind.WriteCommitted (Ok (store.changed (store.element_written o n w) s))) z e in
      let b = check_ok (not x.committed) kind.WriteCommitted (Ok (store.changed (store.element_written o n w) s)) z a.1 in
      put_store o n w x there (ltb-true n (length x.elements) a.0) z (ok_same (store.changed (store.element_written o n w) s) z b.1) good
  put_at o x there (negsuc n) w z e good = absurd (let no : ⊥ = cc in no)

  pub element_store : (v : ObjectValue) (i : ℤ) (w : ObjectValue) (z : List Object) → store.write_element_of s v i w ≡ Ok z → IsGoodList cs table z → IsStoreOf cs table (changed (element_put (as_thing (standing v)) i (standing w)) h) z
  element_store v i w z e good =
      let r = on_object_ok s v (store.writing_element s i w) z e in
      subst (λ u. IsStoreOf cs table (changed (element_put (as_thing (standing u)) i (standing w)) h) z) (sym r.1) (put_at r.0 r.2.0 r.2.1 i w z r.2.2 good)
