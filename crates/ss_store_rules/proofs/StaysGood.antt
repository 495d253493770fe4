-- Each change of a store keeps it good, where the conditions on the call hold.
use Rattle.std.proofs.Common.{◌≡◌, ℕ, ℤ, pos, negsuc, List, [], length, true, false, not, ◌==◌, Some, refl, sym, ◌∙◌, subst}
use Rattle.std.specs.Prelude.{slice_get, nat_lt, Result, Ok, Err}
use Rattle.std.specs.List.{list_all}
use Rattle.std.proofs.lemmas.Bool.{eqb-true}
use Rattle.ss_core.specs.declared.names.Kind.{Kind}
use Rattle.ss_core.specs.declared.names.Kind.TheVariants as kind
use Rattle.ss_core.specs.declared.names.Mark.{Mark}
use Rattle.ss_core.specs.declared.names.Mark.TheVariants as mark
use Rattle.ss_core.specs.Tree.{ClassTree}
use Rattle.ss_core.specs.Chain.{is_declared, above, below, IsChain}
use Rattle.ss_store_rules.specs.declared.Refused.{Refused}
use Rattle.ss_store_rules.specs.declared.Value.{Value}
use Rattle.ss_store_rules.specs.declared.Value.TheVariants as value
use Rattle.ss_store_rules.specs.Store.{Object, field_value}
use Rattle.ss_store_rules.specs.Changes.{is_array, element_type, field_class, field_mark, field_type, owned_by, packed, check, changed, unpacked, unpacking, unpack_of, repacked, may_be_committed, packing, pack_of, capture_of, join_of, written, owners_for, with_owners, then_written, writing, write_of, element_written, writing_element, write_element_of, new_object_of, new_array_of, ready_of, IsChange}
use Rattle.ss_store_rules.specs.Numbers.{fits}
use Rattle.ss_store_rules.specs.Good.{has_type, is_non_null, IsReady, Invariants, IsGood, IsLocal, IsFree}
use Rattle.ss_store_rules.proofs.Looks.{not_committed}
use Rattle.ss_store_rules.proofs.Unpack.{IsGood-unpacked}
use Rattle.ss_store_rules.proofs.Pack.{IsGood-packed}
use Rattle.ss_store_rules.proofs.Write.{IsGood-written}
use Rattle.ss_store_rules.proofs.Element.{IsGood-element_written}
use Rattle.ss_store_rules.proofs.New.{IsGood-new, IsGood-array}
use Rattle.ss_store_rules.proofs.Ready.{IsGood-made_ready}
use Rattle.ss_store_rules.proofs.Owners.{check_ok, not_true, on_object_ok, HasOwners, HasOwners-same, capture_ok, join_ok}

-- what a call keeps: P holds of the store of before, and of each that a change makes
kept_by : (P : List Object → Type 0) (s s' : List Object) (r : Result (Unit {0}) Refused) (change : Result (List Object) Kind) → IsChange s s' r change → P s → ((z : List Object) → change ≡ Ok z → P z) → P s'
kept_by P s s' (Ok u) change is now h = h s' is
kept_by P s s' (Err e) change is now h = subst P (sym is.1) now

module _ (cs : List ClassTree) (chain : IsChain cs) (holds : Invariants) (local : IsLocal cs holds) (s : List Object) (good : IsGood cs holds s) where
  -- ---- unpack: t is a declared class
  good_unpack : (v : Value) (t : ℕ) → is_declared cs t ≡ true → (z : List Object) → unpack_of cs s v t ≡ Ok z → IsGood cs holds z
  good_unpack v t declared z h =
      let r = on_object_ok s v (unpacking cs s t) z h in
      let o = r.0 in
      let x = r.2.0 in
      let a = check_ok (x.level == t) kind.UnpackLevel (check (not x.committed) kind.UnpackCommitted (Ok (changed (unpacked cs o t) s))) z r.2.2 in
      let b = check_ok (not x.committed) kind.UnpackCommitted (Ok (changed (unpacked cs o t) s)) z a.1 in
      let same : changed (unpacked cs o t) s ≡ z = cc in
      subst (IsGood cs holds) same (IsGood-unpacked cs chain holds local s good o t x r.2.1 (eqb-true x.level t a.0) (not_true x.committed b.0) declared)

  pub IsGood-unpack : (v : Value) (t : ℕ) → is_declared cs t ≡ true → (r : Result (Unit {0}) Refused) (s' : List Object) → IsChange s s' r (unpack_of cs s v t) → IsGood cs holds s'
  IsGood-unpack v t declared r s' is = kept_by (IsGood cs holds) s s' r (unpack_of cs s v t) is good (good_unpack v t declared)

  -- ---- pack: t is a declared class, and the object is of it
  good_pack : (v : Value) (t : ℕ) → is_declared cs t ≡ true → ((o : ℕ) (x : Object) → v ≡ value.Obj o → slice_get s o ≡ Some x → below cs x.class t ≡ true) → (z : List Object) → pack_of cs holds s v t ≡ Ok z → IsGood cs holds z
  good_pack v t declared has z h =
      let r = on_object_ok s v (packing cs holds s t) z h in
      let o = r.0 in
      let x = r.2.0 in
      let a = check_ok (x.level == above cs t) kind.PackLevel (check (holds s o t) kind.Invariant (check (list_all (may_be_committed o t) s) kind.PackOwned (Ok (changed (repacked o t) s)))) z r.2.2 in
      let b = check_ok (holds s o t) kind.Invariant (check (list_all (may_be_committed o t) s) kind.PackOwned (Ok (changed (repacked o t) s))) z a.1 in
      let c = check_ok (list_all (may_be_committed o t) s) kind.PackOwned (Ok (changed (repacked o t) s)) z b.1 in
      let same : changed (repacked o t) s ≡ z = cc in
      subst (IsGood cs holds) same (IsGood-packed cs chain holds local s good o t x r.2.1 (eqb-true x.level (above cs t) a.0) declared (has o x r.1 r.2.1) b.0 c.0)

  pub IsGood-pack : (v : Value) (t : ℕ) → is_declared cs t ≡ true → ((o : ℕ) (x : Object) → v ≡ value.Obj o → slice_get s o ≡ Some x → below cs x.class t ≡ true) →
      (r : Result (Unit {0}) Refused) (s' : List Object) → IsChange s s' r (pack_of cs holds s v t) → IsGood cs holds s'
  IsGood-pack v t declared has r s' is = kept_by (IsGood cs holds) s s' r (pack_of cs holds s v t) is good (good_pack v t declared has)

  -- ---- capture: the object is allocated, and isn't packed at t
  pub IsGood-capture : (o t e : ℕ) (x : Object) → slice_get s o ≡ Some x → packed cs x t ≡ false → (r : Result (Unit {0}) Refused) (s' : List Object) → IsChange s s' r (capture_of s o t e) → IsGood cs holds s'
  IsGood-capture o t e x ex unpacked_ r s' is = kept_by (IsGood cs holds) s s' r (capture_of s o t e) is good (λ z h. (capture_ok cs holds local s good o t x ex unpacked_ e z h).0.good)

  -- ---- join: the object is allocated, and isn't committed
  pub IsGood-join : (o e : ℕ) (x : Object) → slice_get s o ≡ Some x → x.committed ≡ false → (r : Result (Unit {0}) Refused) (s' : List Object) → IsChange s s' r (join_of s o e) → IsGood cs holds s'
  IsGood-join o e x ex uncommitted r s' is = kept_by (IsGood cs holds) s s' r (join_of s o e) is good (λ z h. (join_ok cs holds local s good o e x ex uncommitted z h).0.good)

  -- ---- write: the object is of the class that declares the field, and the value is of the field's type, ready, and not null
  -- where the type is non-null
  module _ (o f : ℕ) (x : Object) (ex : slice_get s o ≡ Some x) (unpacked_ : packed cs x (field_class cs f) ≡ false) (has : below cs x.class (field_class cs f) ≡ true) where
    may_be_written : (v : Value) → has_type cs s (field_type cs f) v ≡ true → IsReady s v → (v ≡ value.Null → is_non_null (field_type cs f) ≡ false) → (s1 : List Object) (w : HasOwners cs holds s s1) →
        ((e : ℕ) (y : Object) → v ≡ value.Obj e → field_mark cs f ≡ mark.Rep → slice_get s1 e ≡ Some y → y.owner ≡ owned_by o (field_class cs f)) →
        ((e : ℕ) (x' y : Object) → v ≡ value.Obj e → field_mark cs f ≡ mark.Peer → slice_get s1 o ≡ Some x' → slice_get s1 e ≡ Some y → y.owner ≡ x'.owner) →
        IsGood cs holds (changed (written o f v) s1)
    may_be_written v typed ready non_null s1 w rep peer =
        let n = w.object o x ex in
        IsGood-written cs chain holds local s1 w.good o f v n.0 n.1 (record {
          unpacked = rw n.3 unpacked_;
          has = rw n.2 has;
          typed = w.typed (field_type cs f) v ∙ typed;
          ready = w.ready v ready;
          non_null = non_null;
          rep = rep;
          peer = λ e y is marked ey. peer e n.0 y is marked n.1 ey;
        })

    -- a value that refers to nothing has no owner
    good_plain : (v : Value) → ((e : ℕ) → v ≡ value.Obj e → ⊥) → has_type cs s (field_type cs f) v ≡ true → IsReady s v → (v ≡ value.Null → is_non_null (field_type cs f) ≡ false) → IsGood cs holds (changed (written o f v) s)
    good_plain v none typed ready non_null = may_be_written v typed ready non_null s (HasOwners-same cs holds local s good) (λ e y is _ _. absurd (none e is)) (λ e x' y is _ _ _. absurd (none e is))

    good_marked : (e : ℕ) → has_type cs s (field_type cs f) (value.Obj e) ≡ true → IsReady s (value.Obj e) → (m : Mark) → field_mark cs f ≡ m → (q : Result (List Object) Kind) → owners_for m s o (field_class cs f) e ≡ q →
        (z : List Object) → then_written o f (value.Obj e) q ≡ Ok z → IsGood cs holds z
    good_marked e typed ready m is (Err k) w z h = cc
    good_marked e typed ready mark.Plain is (Ok s1) w z h =
        let same : changed (written o f (value.Obj e)) s ≡ z = cc in
        subst (IsGood cs holds) same
        (may_be_written (value.Obj e) typed ready (λ no. cc) s (HasOwners-same cs holds local s good)
        (λ i y _ marked _. let no : mark.Plain ≡ mark.Rep = sym is ∙ marked in cc)
        (λ i x' y _ marked _ _. let no : mark.Plain ≡ mark.Peer = sym is ∙ marked in cc))
    good_marked e typed ready mark.Rep is (Ok s1) w z h =
        let same : changed (written o f (value.Obj e)) s1 ≡ z = cc in
        let r = capture_ok cs holds local s good o (field_class cs f) x ex unpacked_ e s1 w in
        subst (IsGood cs holds) same
        (may_be_written (value.Obj e) typed ready (λ no. cc) s1 r.0
        (λ i y at _ ey. let ei : i ≡ e = cc in r.1 y (subst (λ n. slice_get s1 n ≡ Some y) ei ey))
        (λ i x' y _ marked _ _. let no : mark.Rep ≡ mark.Peer = sym is ∙ marked in cc))
    good_marked e typed ready mark.Peer is (Ok s1) w z h =
        let same : changed (written o f (value.Obj e)) s1 ≡ z = cc in
        let r = join_ok cs holds local s good o e x ex (not_committed cs holds s good o (field_class cs f) x ex unpacked_ has x.committed refl) s1 w in
        subst (IsGood cs holds) same
        (may_be_written (value.Obj e) typed ready (λ no. cc) s1 r.0
        (λ i y _ marked _. let no : mark.Peer ≡ mark.Rep = sym is ∙ marked in cc)
        (λ i x' y at _ ex' ey. let ei : i ≡ e = cc in r.1 x' y ex' (subst (λ n. slice_get s1 n ≡ Some y) ei ey)))

    good_value : (v : Value) → has_type cs s (field_type cs f) v ≡ true → IsReady s v → (v ≡ value.Null → is_non_null (field_type cs f) ≡ false) → (z : List Object) →
        then_written o f v (with_owners (field_mark cs f) s o (field_class cs f) v) ≡ Ok z → IsGood cs holds z
    good_value (value.Obj e) typed ready non_null z h = good_marked e typed ready (field_mark cs f) refl (owners_for (field_mark cs f) s o (field_class cs f) e) refl z h
    good_value (value.Int n) typed ready non_null z h = let same : changed (written o f (value.Int n)) s ≡ z = cc in subst (IsGood cs holds) same (good_plain (value.Int n) (λ e is. cc) typed ready non_null)
    good_value (value.Bool b) typed ready non_null z h = let same : changed (written o f (value.Bool b)) s ≡ z = cc in subst (IsGood cs holds) same (good_plain (value.Bool b) (λ e is. cc) typed ready non_null)
    good_value value.Null typed ready non_null z h = let same : changed (written o f value.Null) s ≡ z = cc in subst (IsGood cs holds) same (good_plain value.Null (λ e is. cc) typed ready non_null)

  good_write : (w : Value) (f : ℕ) (v : Value) → ((o : ℕ) (x : Object) → w ≡ value.Obj o → slice_get s o ≡ Some x → below cs x.class (field_class cs f) ≡ true) →
      has_type cs s (field_type cs f) v ≡ true → IsReady s v → (v ≡ value.Null → is_non_null (field_type cs f) ≡ false) → (z : List Object) → write_of cs s w f v ≡ Ok z → IsGood cs holds z
  good_write w f v has typed ready non_null z h =
      let r = on_object_ok s w (writing cs s f v) z h in
      let o = r.0 in
      let x = r.2.0 in
      let a = check_ok (not (packed cs x (field_class cs f))) kind.WriteLevel (then_written o f v (with_owners (field_mark cs f) s o (field_class cs f) v)) z r.2.2 in
      good_value o f x r.2.1 (not_true (packed cs x (field_class cs f)) a.0) (has o x r.1 r.2.1) v typed ready non_null z a.1

  pub IsGood-write : (w : Value) (f : ℕ) (v : Value) → ((o : ℕ) (x : Object) → w ≡ value.Obj o → slice_get s o ≡ Some x → below cs x.class (field_class cs f) ≡ true) →
      has_type cs s (field_type cs f) v ≡ true → IsReady s v → (v ≡ value.Null → is_non_null (field_type cs f) ≡ false) →
      (r : Result (Unit {0}) Refused) (s' : List Object) → IsChange s s' r (write_of cs s w f v) → IsGood cs holds s'
  IsGood-write w f v has typed ready non_null r s' is = kept_by (IsGood cs holds) s s' r (write_of cs s w f v) is good (good_write w f v has typed ready non_null)

  -- ---- write of an element: the value is of the elements' type, and ready
  good_element : (i : ℤ) (v : Value) (a : ℕ) (x : Object) → slice_get s a ≡ Some x → has_type cs s (element_type x.class) v ≡ true → IsReady s v → (z : List Object) → writing_element s i v a x ≡ Ok z → IsGood cs holds z
  good_element (pos i) v a x ex typed ready z h =
      let p = check_ok (nat_lt i (length x.elements)) kind.Index (check (not x.committed) kind.WriteCommitted (Ok (changed (element_written a i v) s))) z h in
      let q = check_ok (not x.committed) kind.WriteCommitted (Ok (changed (element_written a i v) s)) z p.1 in
      let same : changed (element_written a i v) s ≡ z = cc in
      subst (IsGood cs holds) same (IsGood-element_written cs chain holds local s good a i v x ex (not_true x.committed q.0) typed ready)
  good_element (negsuc i) v a x ex typed ready z h = cc

  good_write_element : (w : Value) (i : ℤ) (v : Value) → ((o : ℕ) (x : Object) → w ≡ value.Obj o → slice_get s o ≡ Some x → has_type cs s (element_type x.class) v ≡ true) → IsReady s v →
      (z : List Object) → write_element_of s w i v ≡ Ok z → IsGood cs holds z
  good_write_element w i v typed ready z h =
      let r = on_object_ok s w (writing_element s i v) z h in good_element i v r.0 r.2.0 r.2.1 (typed r.0 r.2.0 r.1 r.2.1) ready z r.2.2

  pub IsGood-write_element : (w : Value) (i : ℤ) (v : Value) → ((o : ℕ) (x : Object) → w ≡ value.Obj o → slice_get s o ≡ Some x → has_type cs s (element_type x.class) v ≡ true) → IsReady s v →
      (r : Result (Unit {0}) Refused) (s' : List Object) → IsChange s s' r (write_element_of s w i v) → IsGood cs holds s'
  IsGood-write_element w i v typed ready r s' is = kept_by (IsGood cs holds) s s' r (write_element_of s w i v) is good (good_write_element w i v typed ready)

  -- ---- a new object of a declared class
  pub IsGood-new_object : IsFree cs holds → (c : ℕ) → is_declared cs c ≡ true → IsGood cs holds (new_object_of cs s c)
  IsGood-new_object free c declared = IsGood-new cs chain holds local free s good c declared

  -- ---- a new array
  pub IsGood-new_array : IsFree cs holds → (t : ℕ) → is_array cs t ≡ true → (n : ℤ) → fits n ≡ true → (s' : List Object) → new_array_of s t n ≡ Ok s' → IsGood cs holds s'
  IsGood-new_array free t array (pos n) short s' h = let same : _ ≡ s' = cc in subst (IsGood cs holds) same (IsGood-array cs chain holds local free s good t n array short)
  IsGood-new_array free t array (negsuc n) short s' h = cc

  -- ---- ready: no non-null field of the object is null
  pub IsGood-ready : (o : ℕ) → ((x : Object) (f : ℕ) → slice_get s o ≡ Some x → field_value x f ≡ Some value.Null → is_non_null (field_type cs f) ≡ false) → IsGood cs holds (ready_of s o)
  IsGood-ready o whole = IsGood-made_ready cs holds local s good o whole

-- a store without objects is good
pub IsGood-empty : (cs : List ClassTree) (holds : Invariants) → IsGood cs holds []
IsGood-empty cs holds o x e = cc
