-- Each change of a store leads to a later one.
use Rattle.std.proofs.Common.{◌≡◌, ℕ, ℤ, pos, negsuc, ◌<◌, ◌≤◌, List, [], ◌∷◌, ◌++◌, length, Bool, true, false, not, ◌||◌, ◌==◌, Some, Ok, Err, refl, sym, ◌∙◌, subst, arith, ⊎_elim}
use Rattle.std.specs.Prelude.{if◌then◌else◌, Result, nat_lt}
use Rattle.std.specs.List.{list_all}
use Rattle.std.proofs.lemmas.Bool.{or_cases, eqb-true}
use Rattle.ss_core.specs.declared.names.Kind.{Kind}
use Rattle.ss_core.specs.declared.names.Kind.TheVariants as kind
use Rattle.ss_core.specs.declared.names.Mark.{Mark}
use Rattle.ss_core.specs.declared.names.Mark.TheVariants as mark
use Rattle.ss_core.specs.Tree.{ClassTree}
use Rattle.ss_core.specs.Chain.{above}
use Rattle.ss_store_rules.specs.declared.Value.{Value}
use Rattle.ss_store_rules.specs.declared.Value.TheVariants as value
use Rattle.ss_store_rules.specs.declared.Owner.{Owner}
use Rattle.ss_store_rules.specs.declared.Owner.TheVariants as owner
use Rattle.ss_store_rules.specs.Store.{Slot, Object, slot_value, field_value}
use Rattle.ss_store_rules.specs.Reads.{is_pair, same_owner}
use Rattle.ss_store_rules.specs.Changes.{packed, field_class, field_mark, field_type, check, at_object, changed, unpacked, unpacking, unpack_of, repacked, may_be_committed, packing, pack_of, regrouped, captured, joined, joined_apart, owned_by, with_field, written, owners_for, with_owners, then_written, writing, write_of, element_written, writing_element, write_element_of, new_object, new_object_of, new_array, new_array_of, made_ready, ready_of}
use Rattle.ss_store_rules.specs.Good.{Invariants, is_non_null}
use Rattle.ss_store_rules.proofs.Objects.{becomes, old_get, same_object}
use Rattle.ss_store_rules.proofs.Typed.{value_with_field}
use Rattle.ss_store_rules.proofs.Owners.{check_ok, at_object_ok, on_object_ok}
use Rattle.ss_machine_typed.specs.Older.{IsOlder}
use Rattle.ss_machine_typed.proofs.Older.{older_self, older_trans, older_unpack, older_pack, older_write_element, older_new_object, older_new_array, older_ready}
use Rattle.ss_machine_good.specs.Known.{IsNotNull}
use Rattle.ss_machine_good.specs.Later.{IsLater}

module _ (cs : List ClassTree) (n : ℕ) where
  -- ---- an order

  pub later_self : (s : List Object) → IsLater cs n s s
  later_self s = record {
    older = older_self s;
    fields = λ o f x y ex ey nn null. subst (λ (z : Object). field_value z f ≡ Some value.Null) (same_object s o y x ey ex) null;
    ready = λ o x y l ex ey r. subst (λ (z : Object). z.ready ≡ true) (same_object s o y x ey ex) r;
  }

  pub later_trans : (r s t : List Object) → IsLater cs n r s → IsLater cs n s t → IsLater cs n r t
  later_trans r s t h k = record {
    older = older_trans r s t h.older k.older;
    fields = λ o f x y ex ey nn null. let m = h.older o x ex in h.fields o f x m.object ex m.there nn (k.fields o f m.object y m.there ey nn null);
    ready = λ o x y l ex ey is. let m = h.older o x ex in h.ready o x m.object l ex m.there (k.ready o m.object y l m.there ey is);
  }

  later_is : (s a b : List Object) → IsLater cs n s a → a ≡ b → IsLater cs n s b
  later_is s a b h e = subst (IsLater cs n s) e h

  -- ---- objects changed one by one, and one more

  record Leaves (g : ℕ → Object → Object) : Type 0 where
    fields : (q f : ℕ) (x : Object) → is_non_null (field_type cs f) ≡ true → field_value (g q x) f ≡ Some value.Null → field_value x f ≡ Some value.Null
    ready : (q : ℕ) (x : Object) → q < n → (g q x).ready ≡ true → x.ready ≡ true

  later_changed : (g : ℕ → Object → Object) → Leaves g → (s : List Object) → IsOlder s (changed g s) → IsLater cs n s (changed g s)
  later_changed g h s older = record {
    older = older;
    fields = λ o f x y ex ey nn null. h.fields o f x nn (subst (λ (z : Object). field_value z f ≡ Some value.Null) (same_object (changed g s) o y (g o x) ey (becomes g s o x ex)) null);
    ready = λ o x y l ex ey r. h.ready o x l (subst (λ (z : Object). z.ready ≡ true) (same_object (changed g s) o y (g o x) ey (becomes g s o x ex)) r);
  }

  later_pushed : (s : List Object) (z : Object) → IsOlder s (s ++ z ∷ []) → IsLater cs n s (s ++ z ∷ [])
  later_pushed s z older = record {
    older = older;
    fields = λ o f x y ex ey nn null. subst (λ (u : Object). field_value u f ≡ Some value.Null) (same_object (s ++ z ∷ []) o y x ey (old_get s z o x ex)) null;
    ready = λ o x y l ex ey r. subst (λ (u : Object). u.ready ≡ true) (same_object (s ++ z ∷ []) o y x ey (old_get s z o x ex)) r;
  }

  -- ---- changes

  pub later_unpack : (s : List Object) (v : Value) (t : ℕ) (z : List Object) → unpack_of cs s v t ≡ Ok z → IsLater cs n s z
  later_unpack s v t z h =
      let r = on_object_ok s v (unpacking cs s t) z h in
      let o = r.0 in
      let x = r.2.0 in
      let a = check_ok (x.level == t) kind.UnpackLevel (check (not x.committed) kind.UnpackCommitted (Ok (changed (unpacked cs o t) s))) z r.2.2 in
      let b = check_ok (not x.committed) kind.UnpackCommitted (Ok (changed (unpacked cs o t) s)) z a.1 in
      let same : changed (unpacked cs o t) s ≡ z = let e = b.1 in cc in
      later_is s (changed (unpacked cs o t) s) z
      (later_changed (unpacked cs o t) (record { fields = λ q f y nn null. null; ready = λ q y l r. r }) s (subst (IsOlder s) (sym same) (older_unpack cs s v t z h))) same

  pub later_pack : (holds : Invariants) (s : List Object) (v : Value) (t : ℕ) (z : List Object) → pack_of cs holds s v t ≡ Ok z → IsLater cs n s z
  later_pack holds s v t z h =
      let r = on_object_ok s v (packing cs holds s t) z h in
      let o = r.0 in
      let x = r.2.0 in
      let a = check_ok (x.level == above cs t) kind.PackLevel (check (holds s o t) kind.Invariant (check (list_all (may_be_committed o t) s) kind.PackOwned (Ok (changed (repacked o t) s)))) z r.2.2 in
      let b = check_ok (holds s o t) kind.Invariant (check (list_all (may_be_committed o t) s) kind.PackOwned (Ok (changed (repacked o t) s))) z a.1 in
      let c = check_ok (list_all (may_be_committed o t) s) kind.PackOwned (Ok (changed (repacked o t) s)) z b.1 in
      let same : changed (repacked o t) s ≡ z = let e = c.1 in cc in
      later_is s (changed (repacked o t) s) z
      (later_changed (repacked o t) (record { fields = λ q f y nn null. null; ready = λ q y l r. r }) s (subst (IsOlder s) (sym same) (older_pack cs holds s v t z h))) same

  -- ---- owners

  later_regrouped : (s : List Object) (g : ℕ) (w : Owner) → IsLater cs n s (changed (regrouped g w) s)
  later_regrouped s g w = later_changed (regrouped g w) (record { fields = λ q f y nn null. null; ready = λ q y l r. r }) s older_
    where
      older_ : IsOlder s (changed (regrouped g w) s)
      older_ o x e = record { object = regrouped g w o x; there = becomes (regrouped g w) s o x e; class = refl; size = refl; ready = λ r. r }

  later_captured : (s : List Object) (o t : ℕ) (w : Owner) (z : List Object) → captured s o t w ≡ Ok z → IsLater cs n s z
  later_captured s o t (owner.Group g) z h = later_is s (changed (regrouped g (owned_by o t)) s) z (later_regrouped s g (owned_by o t)) cc
  later_captured s o t (owner.Owned p u) z h = let a = check_ok (is_pair o t (owner.Owned p u)) kind.RepOwner (Ok s) z h in let same = a.1 in later_is s s z (later_self s) cc

  later_apart : (s : List Object) (w v : Owner) (committed : Bool) (z : List Object) → joined_apart s w v committed ≡ Ok z → IsLater cs n s z
  later_apart s w (owner.Group g) committed z h = later_is s (changed (regrouped g w) s) z (later_regrouped s g w) cc
  later_apart s (owner.Group g) (owner.Owned p u) committed z h =
      let a = check_ok (not committed) kind.PeerOwner (Ok (changed (regrouped g (owner.Owned p u)) s)) z h in
      let same = a.1 in
      later_is s (changed (regrouped g (owner.Owned p u)) s) z (later_regrouped s g (owner.Owned p u)) cc
  later_apart s (owner.Owned o t) (owner.Owned p u) committed z h = cc

  later_joined : (s : List Object) (w v : Owner) (committed same : Bool) (z : List Object) → (if same then Ok s else joined_apart s w v committed) ≡ Ok z → IsLater cs n s z
  later_joined s w v committed true z h = later_is s s z (later_self s) cc
  later_joined s w v committed false z h = later_apart s w v committed z h

  later_owners : (m : Mark) (s : List Object) (o t e : ℕ) (z : List Object) → owners_for m s o t e ≡ Ok z → IsLater cs n s z
  later_owners mark.Plain s o t e z h = later_is s s z (later_self s) cc
  later_owners mark.Rep s o t e z h = let r = at_object_ok s e (λ _ y. captured s o t y.owner) z h in later_captured s o t r.0.owner z r.2
  later_owners mark.Peer s o t e z h =
      let a = at_object_ok s o (λ _ x. at_object s e (λ _ y. joined s x.owner y.owner y.committed)) z h in
      let b = at_object_ok s e (λ _ y. joined s a.0.owner y.owner y.committed) z a.2 in
      later_joined s a.0.owner b.0.owner b.0.committed (same_owner a.0.owner b.0.owner) z b.2

  later_with_owners : (m : Mark) (s : List Object) (o t : ℕ) (v : Value) (z : List Object) → with_owners m s o t v ≡ Ok z → IsLater cs n s z
  later_with_owners m s o t (value.Obj e) z h = later_owners m s o t e z h
  later_with_owners m s o t (value.Int i) z h = later_is s s z (later_self s) cc
  later_with_owners m s o t (value.Bool b) z h = later_is s s z (later_self s) cc
  later_with_owners m s o t value.Null z h = later_is s s z (later_self s) cc

  -- ---- writes

  -- a value that may stand in the field isn't null where that is non-null
  null_before : (f : ℕ) (v : Value) → (is_non_null (field_type cs f) ≡ true → IsNotNull v) → (b : Bool) (xs : List Slot) (g : ℕ) → is_non_null (field_type cs g) ≡ true → slot_value (if b then with_field xs f v else xs) g ≡ Some value.Null → slot_value xs g ≡ Some value.Null
  null_before f v not_null false xs g nn null = null
  null_before f v not_null true xs g nn null = ⊎_elim
      (λ old. sym old ∙ null)
      (λ new. absurd (not_null (subst (λ k. is_non_null (field_type cs k) ≡ true) new.0 nn) (sym (new.1 value.Null null))))
      (value_with_field xs f v g)

  later_written : (s : List Object) (o f : ℕ) (v : Value) → (is_non_null (field_type cs f) ≡ true → IsNotNull v) → IsLater cs n s (changed (written o f v) s)
  later_written s o f v not_null =
      later_changed (written o f v) (record { fields = λ q g x nn null. null_before f v not_null (q == o) x.fields g nn null; ready = λ q x l r. r }) s older_
    where
      older_ : IsOlder s (changed (written o f v) s)
      older_ q x e = record { object = written o f v q x; there = becomes (written o f v) s q x e; class = refl; size = refl; ready = λ r. r }

  later_then_written : (s : List Object) (o f : ℕ) (v : Value) → (is_non_null (field_type cs f) ≡ true → IsNotNull v) → (r : Result (List Object) Kind) → ((y : List Object) → r ≡ Ok y → IsLater cs n s y) → (z : List Object) → then_written o f v r ≡ Ok z → IsLater cs n s z
  later_then_written s o f v not_null (Ok y) k z h = later_is s (changed (written o f v) y) z (later_trans s y (changed (written o f v) y) (k y refl) (later_written y o f v not_null)) cc
  later_then_written s o f v not_null (Err e) k z h = cc

  pub later_write : (s : List Object) (w : Value) (f : ℕ) (v : Value) (z : List Object) → (is_non_null (field_type cs f) ≡ true → IsNotNull v) → write_of cs s w f v ≡ Ok z → IsLater cs n s z
  later_write s w f v z not_null h =
      let r = on_object_ok s w (writing cs s f v) z h in
      let o = r.0 in
      let x = r.2.0 in
      let owners = with_owners (field_mark cs f) s o (field_class cs f) v in
      let a = check_ok (not (packed cs x (field_class cs f))) kind.WriteLevel (then_written o f v owners) z r.2.2 in
      later_then_written s o f v not_null owners (later_with_owners (field_mark cs f) s o (field_class cs f) v) z a.1

  later_writing_element : (s : List Object) (i : ℤ) (v : Value) (a : ℕ) (x : Object) (z : List Object) → IsOlder s z → writing_element s i v a x ≡ Ok z → IsLater cs n s z
  later_writing_element s (pos i) v a x z older h =
      let p = check_ok (nat_lt i (length x.elements)) kind.Index (check (not x.committed) kind.WriteCommitted (Ok (changed (element_written a i v) s))) z h in
      let q = check_ok (not x.committed) kind.WriteCommitted (Ok (changed (element_written a i v) s)) z p.1 in
      let same : changed (element_written a i v) s ≡ z = let e = q.1 in cc in
      later_is s (changed (element_written a i v) s) z (later_changed (element_written a i v) (record { fields = λ q f y nn null. null; ready = λ q y l r. r }) s (subst (IsOlder s) (sym same) older)) same
  later_writing_element s (negsuc i) v a x z older h = cc

  pub later_write_element : (s : List Object) (w : Value) (i : ℤ) (v : Value) (z : List Object) → write_element_of s w i v ≡ Ok z → IsLater cs n s z
  later_write_element s w i v z h = let r = on_object_ok s w (writing_element s i v) z h in later_writing_element s i v r.0 r.2.0 z (older_write_element s w i v z h) r.2.2

  -- ---- new objects, and readiness

  pub later_new_object : (s : List Object) (t : ℕ) → IsLater cs n s (new_object_of cs s t)
  later_new_object s t = later_pushed s (new_object cs t (length s)) (older_new_object cs s t)

  pub later_new_array : (s : List Object) (t : ℕ) (i : ℤ) (z : List Object) → new_array_of s t i ≡ Ok z → IsLater cs n s z
  later_new_array s t (pos i) z h =
      let same : s ++ new_array t i (length s) ∷ [] ≡ z = cc in
      later_is s (s ++ new_array t i (length s) ∷ []) z (later_pushed s (new_array t i (length s)) (subst (IsOlder s) (sym same) (older_new_array s t (pos i) z h))) same
  later_new_array s t (negsuc i) z h = cc

  -- an object that stands at n or after it may become ready
  pub later_ready : (s : List Object) (o : ℕ) → n ≤ o → IsLater cs n s (ready_of s o)
  later_ready s o high = later_changed (made_ready o) (record { fields = λ q f y nn null. null; ready = ready_ }) s (older_ready s o)
    where
      ready_ : (q : ℕ) (x : Object) → q < n → (x.ready || q == o) ≡ true → x.ready ≡ true
      ready_ q x l r = ⊎_elim (λ was. was) (λ is. absurd (let same = eqb-true q o is in omega (arith, same, l, high))) (or_cases x.ready (q == o) r)

-- a store is later for fewer positions too
pub later_fewer : (cs : List ClassTree) (n m : ℕ) (s t : List Object) → m ≤ n → IsLater cs n s t → IsLater cs m s t
later_fewer cs n m s t le h = record { older = h.older; fields = h.fields; ready = λ o x y l ex ey r. h.ready o x y (omega (arith, l, le)) ex ey r }
