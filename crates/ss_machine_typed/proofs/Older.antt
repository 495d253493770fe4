-- Older stores: every change of a store leaves it older, and what holds of values in a store holds in later ones.
use Rattle.std.proofs.Common.{◌≡◌, ℕ, zero, suc, ℤ, pos, negsuc, ◌<◌, arith, List, [], ◌∷◌, ◌++◌, length, Bool, true, false, not, ◌==◌, Option, Some, None, Ok, Err, eqb, refl, ◌∙◌, subst, set}
use Rattle.std.specs.Prelude.{slice_get, if◌then◌else◌, Result, nat_lt}
use Rattle.std.specs.List.{list_all}
use Rattle.std.proofs.lemmas.Bool.{false≢true}
use Rattle.std.proofs.lemmas.List.{length-set}
use Rattle.std.proofs.lemmas.Option.{slice_get_within}
use Rattle.ss_core.specs.declared.names.Kind.{Kind}
use Rattle.ss_core.specs.declared.names.Kind.TheVariants as kind
use Rattle.ss_core.specs.declared.names.Mark.{Mark}
use Rattle.ss_core.specs.declared.names.Mark.TheVariants as mark
use Rattle.ss_core.specs.declared.names.Ty.{Ty}
use Rattle.ss_core.specs.declared.names.Ty.TheVariants as ty
use Rattle.ss_core.specs.Tree.{ClassTree, BodyTree}
use Rattle.ss_core.specs.Chain.{above}
use Rattle.ss_store_rules.specs.declared.Value.{Value}
use Rattle.ss_store_rules.specs.declared.Value.TheVariants as value
use Rattle.ss_store_rules.specs.declared.Owner.{Owner}
use Rattle.ss_store_rules.specs.declared.Owner.TheVariants as owner
use Rattle.ss_store_rules.specs.Store.{Object}
use Rattle.ss_store_rules.specs.Reads.{is_pair, same_owner}
use Rattle.ss_store_rules.specs.Changes.{packed, field_class, field_mark, check, at_object, changed, unpacked, unpacking, unpack_of, repacked, may_be_committed, packing, pack_of, regrouped, captured, capture_of, joined, joined_apart, join_of, owned_by, written, owners_for, with_owners, then_written, writing, write_of, element_written, writing_element, write_element_of, new_object, new_object_of, new_array, new_array_of, made_ready, ready_of}
use Rattle.ss_store_rules.specs.Good.{Invariants, is_of_class, has_type, IsReady}
use Rattle.ss_store_rules.specs.States.{AreGoodLocals}
use Rattle.ss_store_rules.specs.Locals.{local_types}
use Rattle.ss_store_rules.proofs.Objects.{becomes, old_get, same_object}
use Rattle.ss_store_rules.proofs.Typed.{allocated}
use Rattle.ss_store_rules.proofs.Owners.{check_ok, at_object_ok, on_object_ok}
use Rattle.ss_machine_typed.specs.Older.{IsOlder}

-- ---- an order

pub older_self : (s : List Object) → IsOlder s s
older_self s o x e = record { object = x; there = e; class = refl; size = refl; ready = λ r. r }

pub older_trans : (r s t : List Object) → IsOlder r s → IsOlder s t → IsOlder r t
older_trans r s t h k o x e =
    let a = h o x e in
    let b = k o a.object a.there in
    record { object = b.object; there = b.there; class = b.class ∙ a.class; size = b.size ∙ a.size; ready = λ is. b.ready (a.ready is) }

-- ---- changes

-- each object keeps its class and its length, and stays ready
record Leaves (f : ℕ → Object → Object) : Type 0 where
  class : (q : ℕ) (x : Object) → (f q x).class ≡ x.class
  size : (q : ℕ) (x : Object) → length (f q x).elements ≡ length x.elements
  ready : (q : ℕ) (x : Object) → x.ready ≡ true → (f q x).ready ≡ true

older_changed : (f : ℕ → Object → Object) → Leaves f → (s : List Object) → IsOlder s (changed f s)
older_changed f h s o x e = record { object = f o x; there = becomes f s o x e; class = h.class o x; size = h.size o x; ready = h.ready o x }

older_pushed : (s : List Object) (z : Object) → IsOlder s (s ++ z ∷ [])
older_pushed s z o x e = record { object = x; there = old_get s z o x e; class = refl; size = refl; ready = λ r. r }

-- what a change that comes out leaves older
older_ok : (s a b : List Object) → IsOlder s a → a ≡ b → IsOlder s b
older_ok s a b h e = subst (IsOlder s) e h

pub older_unpack : (cs : List ClassTree) (s : List Object) (v : Value) (t : ℕ) (z : List Object) → unpack_of cs s v t ≡ Ok z → IsOlder s z
older_unpack cs s v t z h =
    let r = on_object_ok s v (unpacking cs s t) z h in
    let o = r.0 in
    let x = r.2.0 in
    let a = check_ok (x.level == t) kind.UnpackLevel (check (not x.committed) kind.UnpackCommitted (Ok (changed (unpacked cs o t) s))) z r.2.2 in
    let b = check_ok (not x.committed) kind.UnpackCommitted (Ok (changed (unpacked cs o t) s)) z a.1 in
    older_ok s (changed (unpacked cs o t) s) z (older_changed (unpacked cs o t) (record { class = λ q y. refl; size = λ q y. refl; ready = λ q y e. e }) s) cc

pub older_pack : (cs : List ClassTree) (holds : Invariants) (s : List Object) (v : Value) (t : ℕ) (z : List Object) → pack_of cs holds s v t ≡ Ok z → IsOlder s z
older_pack cs holds s v t z h =
    let r = on_object_ok s v (packing cs holds s t) z h in
    let o = r.0 in
    let x = r.2.0 in
    let a = check_ok (x.level == above cs t) kind.PackLevel (check (holds s o t) kind.Invariant (check (list_all (may_be_committed o t) s) kind.PackOwned (Ok (changed (repacked o t) s)))) z r.2.2 in
    let b = check_ok (holds s o t) kind.Invariant (check (list_all (may_be_committed o t) s) kind.PackOwned (Ok (changed (repacked o t) s))) z a.1 in
    let c = check_ok (list_all (may_be_committed o t) s) kind.PackOwned (Ok (changed (repacked o t) s)) z b.1 in
    older_ok s (changed (repacked o t) s) z (older_changed (repacked o t) (record { class = λ q y. refl; size = λ q y. refl; ready = λ q y e. e }) s) cc

-- ---- owners

older_regrouped : (s : List Object) (g : ℕ) (w : Owner) → IsOlder s (changed (regrouped g w) s)
older_regrouped s g w = older_changed (regrouped g w) (record { class = λ q y. refl; size = λ q y. refl; ready = λ q y e. e }) s

older_captured : (s : List Object) (o t : ℕ) (w : Owner) (z : List Object) → captured s o t w ≡ Ok z → IsOlder s z
older_captured s o t (owner.Group g) z h = older_ok s (changed (regrouped g (owned_by o t)) s) z (older_regrouped s g (owned_by o t)) cc
older_captured s o t (owner.Owned p u) z h = let a = check_ok (is_pair o t (owner.Owned p u)) kind.RepOwner (Ok s) z h in let same = a.1 in older_ok s s z (older_self s) cc

pub older_capture : (s : List Object) (o t e : ℕ) (z : List Object) → capture_of s o t e ≡ Ok z → IsOlder s z
older_capture s o t e z h = let r = at_object_ok s e (λ _ y. captured s o t y.owner) z h in older_captured s o t r.0.owner z r.2

older_apart : (s : List Object) (w v : Owner) (committed : Bool) (z : List Object) → joined_apart s w v committed ≡ Ok z → IsOlder s z
older_apart s w (owner.Group g) committed z h = older_ok s (changed (regrouped g w) s) z (older_regrouped s g w) cc
older_apart s (owner.Group g) (owner.Owned p u) committed z h =
    let a = check_ok (not committed) kind.PeerOwner (Ok (changed (regrouped g (owner.Owned p u)) s)) z h in
    let same = a.1 in
    older_ok s (changed (regrouped g (owner.Owned p u)) s) z (older_regrouped s g (owner.Owned p u)) cc
older_apart s (owner.Owned o t) (owner.Owned p u) committed z h = cc

older_joined : (s : List Object) (w v : Owner) (committed same : Bool) (z : List Object) → (if same then Ok s else joined_apart s w v committed) ≡ Ok z → IsOlder s z
older_joined s w v committed true z h = older_ok s s z (older_self s) cc
older_joined s w v committed false z h = older_apart s w v committed z h

pub older_join : (s : List Object) (o e : ℕ) (z : List Object) → join_of s o e ≡ Ok z → IsOlder s z
older_join s o e z h =
    let a = at_object_ok s o (λ _ x. at_object s e (λ _ y. joined s x.owner y.owner y.committed)) z h in
    let b = at_object_ok s e (λ _ y. joined s a.0.owner y.owner y.committed) z a.2 in
    older_joined s a.0.owner b.0.owner b.0.committed (same_owner a.0.owner b.0.owner) z b.2

older_owners : (m : Mark) (s : List Object) (o t e : ℕ) (z : List Object) → owners_for m s o t e ≡ Ok z → IsOlder s z
older_owners mark.Plain s o t e z h = older_ok s s z (older_self s) cc
older_owners mark.Rep s o t e z h = older_capture s o t e z h
older_owners mark.Peer s o t e z h = older_join s o e z h

older_with_owners : (m : Mark) (s : List Object) (o t : ℕ) (v : Value) (z : List Object) → with_owners m s o t v ≡ Ok z → IsOlder s z
older_with_owners m s o t (value.Obj e) z h = older_owners m s o t e z h
older_with_owners m s o t (value.Int n) z h = older_ok s s z (older_self s) cc
older_with_owners m s o t (value.Bool b) z h = older_ok s s z (older_self s) cc
older_with_owners m s o t value.Null z h = older_ok s s z (older_self s) cc

-- ---- writes

older_then_written : (s : List Object) (o f : ℕ) (v : Value) (r : Result (List Object) Kind) → ((y : List Object) → r ≡ Ok y → IsOlder s y) → (z : List Object) → then_written o f v r ≡ Ok z → IsOlder s z
older_then_written s o f v (Ok y) k z h =
    older_ok s (changed (written o f v) y) z
    (older_trans s y (changed (written o f v) y) (k y refl) (older_changed (written o f v) (record { class = λ q x. refl; size = λ q x. refl; ready = λ q x e. e }) y)) cc
older_then_written s o f v (Err k) h z e = cc

pub older_write : (cs : List ClassTree) (s : List Object) (w : Value) (f : ℕ) (v : Value) (z : List Object) → write_of cs s w f v ≡ Ok z → IsOlder s z
older_write cs s w f v z h =
    let r = on_object_ok s w (writing cs s f v) z h in
    let o = r.0 in
    let x = r.2.0 in
    let owners = with_owners (field_mark cs f) s o (field_class cs f) v in
    let a = check_ok (not (packed cs x (field_class cs f))) kind.WriteLevel (then_written o f v owners) z r.2.2 in
    older_then_written s o f v owners (older_with_owners (field_mark cs f) s o (field_class cs f) v) z a.1

length-if_set : (b : Bool) (xs : List Value) (i : ℕ) (v : Value) → length (if b then set xs i v else xs) ≡ length xs
length-if_set true xs i v = length-set xs i v
length-if_set false xs i v = refl

older_writing_element : (s : List Object) (i : ℤ) (v : Value) (a : ℕ) (x : Object) (z : List Object) → writing_element s i v a x ≡ Ok z → IsOlder s z
older_writing_element s (pos i) v a x z h =
    let p = check_ok (nat_lt i (length x.elements)) kind.Index (check (not x.committed) kind.WriteCommitted (Ok (changed (element_written a i v) s))) z h in
    let q = check_ok (not x.committed) kind.WriteCommitted (Ok (changed (element_written a i v) s)) z p.1 in
    older_ok s (changed (element_written a i v) s) z (older_changed (element_written a i v) (record { class = λ q y. refl; size = λ q y. length-if_set (eqb q a) y.elements i v; ready = λ q y e. e }) s) cc
older_writing_element s (negsuc i) v a x z h = cc

pub older_write_element : (s : List Object) (w : Value) (i : ℤ) (v : Value) (z : List Object) → write_element_of s w i v ≡ Ok z → IsOlder s z
older_write_element s w i v z h = let r = on_object_ok s w (writing_element s i v) z h in older_writing_element s i v r.0 r.2.0 z r.2.2

-- ---- new objects, and readiness

pub older_new_object : (cs : List ClassTree) (s : List Object) (t : ℕ) → IsOlder s (new_object_of cs s t)
older_new_object cs s t = older_pushed s (new_object cs t (length s))

pub older_new_array : (s : List Object) (t : ℕ) (n : ℤ) (z : List Object) → new_array_of s t n ≡ Ok z → IsOlder s z
older_new_array s t (pos n) z h = older_ok s (s ++ new_array t n (length s) ∷ []) z (older_pushed s (new_array t n (length s))) cc
older_new_array s t (negsuc n) z h = cc

stays_ready : (a b : Bool) → a ≡ true → (if a then true else b) ≡ true
stays_ready a b e = rw e refl

pub older_ready : (s : List Object) (o : ℕ) → IsOlder s (ready_of s o)
older_ready s o = older_changed (made_ready o) (record { class = λ q y. refl; size = λ q y. refl; ready = λ q y e. rw e refl }) s

-- ---- values

is_of_class-older : (cs : List ClassTree) (s s' : List Object) → IsOlder s s' → (t o : ℕ) (x : Option Object) → slice_get s o ≡ x → is_of_class cs t x ≡ true → is_of_class cs t (slice_get s' o) ≡ true
is_of_class-older cs s s' h t o None e is = absurd (false≢true is)
is_of_class-older cs s s' h t o (Some x) e is = let r = h o x e in rw (r.there, r.class) is

-- a value is of its type in each later store
pub has_type-older : (cs : List ClassTree) (s s' : List Object) → IsOlder s s' → (t : Ty) (v : Value) → has_type cs s t v ≡ true → has_type cs s' t v ≡ true
has_type-older cs s s' h (ty.Ref t n) (value.Obj o) is = is_of_class-older cs s s' h t.0 o (slice_get s o) refl is
has_type-older cs s s' h (ty.Ref t n) (value.Int i) is = is
has_type-older cs s s' h (ty.Ref t n) (value.Bool b) is = is
has_type-older cs s s' h (ty.Ref t n) value.Null is = is
has_type-older cs s s' h ty.Int (value.Int i) is = is
has_type-older cs s s' h ty.Int (value.Bool i) is = is
has_type-older cs s s' h ty.Int (value.Obj i) is = is
has_type-older cs s s' h ty.Int value.Null is = is
has_type-older cs s s' h ty.Bool (value.Int i) is = is
has_type-older cs s s' h ty.Bool (value.Bool i) is = is
has_type-older cs s s' h ty.Bool (value.Obj i) is = is
has_type-older cs s s' h ty.Bool value.Null is = is
has_type-older cs s s' h ty.Null (value.Int i) is = is
has_type-older cs s s' h ty.Null (value.Bool i) is = is
has_type-older cs s s' h ty.Null (value.Obj i) is = is
has_type-older cs s s' h ty.Null value.Null is = is

-- what is allocated and ready is so in each later store
pub ready-older : (cs : List ClassTree) (s s' : List Object) → IsOlder s s' → (t : Ty) (v : Value) → has_type cs s t v ≡ true → IsReady s v → IsReady s' v
ready-older cs s s' h t v typed ready o y is e =
    let a = allocated cs s t o (subst (λ w. has_type cs s t w ≡ true) is typed) in
    let r = h o a.0 a.1 in
    subst (λ (z : Object). z.ready ≡ true) (same_object s' o r.object y r.there e) (r.ready (ready o a.0 is a.1))

-- ---- locals

-- there is something at each position below the length
pub there_is : {X : Type 0} (xs : List X) (k : ℕ) → k < length xs → (x : X) × (slice_get xs k ≡ Some x)
there_is [] k l = absurd (omega (arith, l))
there_is (x ∷ xs) zero l = (x, refl)
there_is (x ∷ xs) (suc k) l = there_is xs k (omega (arith, l))

-- good locals stay so
pub locals-older : (cs : List ClassTree) (s s' : List Object) → IsOlder s s' → (b : BodyTree) (locals : List Value) → AreGoodLocals cs s b locals → AreGoodLocals cs s' b locals
locals-older cs s s' h b locals good = record {
  count = good.count;
  types = λ x t v et ev. has_type-older cs s s' h t v (good.types x t v et ev);
  ready = λ x v no ev.
      let count = good.count in
      let within = slice_get_within locals x v ev in
      let t = there_is (local_types b) x (omega (arith, count, within)) in
      ready-older cs s s' h t.0 v (good.types x t.0 v t.1 ev) (good.ready x v no ev);
}
