-- What a write of a field names, asks of owners, and leaves known.
use Rattle.std.proofs.Common.{◌≡◌, ℕ, List, [], ◌∷◌, Bool, true, false, ◌&&◌, ◌||◌, not, ⊎_elim, refl, sym, ◌∙◌, ap, subst}
use Rattle.std.specs.Prelude.{Option, Some, None, Result, Ok, Err, slice_get, if◌then◌else◌, ◌==◌}
use Rattle.std.specs.List.{list_all}
use Rattle.std.proofs.lemmas.Bool.{false≢true, true≢false, and_parts, or_cases, cases_Bool, eqb-true, eq-eqb}
use Rattle.ss_core.specs.declared.names.Kind.{Kind}
use Rattle.ss_core.specs.declared.names.Kind.TheVariants as kind
use Rattle.ss_core.specs.declared.names.Mark.{Mark}
use Rattle.ss_core.specs.declared.names.Mark.TheVariants as mark
use Rattle.ss_core.specs.declared.names.Place.{Place}
use Rattle.ss_core.specs.declared.names.Ty.{Ty}
use Rattle.ss_core.specs.declared.names.Ty.TheVariants as ty
use Rattle.ss_core.specs.Tree.{ClassTree, ExprTree, LocalExpr, BodyTree}
use Rattle.ss_core.specs.Chain.{is_type, DeclaredField, all_fields}
use Rattle.ss_core.proofs.Declared.{declared_place}
use Rattle.ss_core.proofs.Fields.{field_declared}
use Rattle.ss_core.specs.Types.{is_class_type}
use Rattle.ss_store_rules.specs.declared.Value.{Value as ObjectValue}
use Rattle.ss_store_rules.specs.declared.Value.TheVariants as value
use Rattle.ss_store_rules.specs.Store.{Slot, Object, slot_value, field_value}
use Rattle.ss_store_rules.specs.Admissible.{is_this}
use Rattle.ss_store_rules.specs.Changes.{below, packed, class_of_field, mark_of_field, type_of_field, field_class, field_mark, field_type, changed, with_field, written, with_owners, then_written, writing, write_of}
use Rattle.ss_store_rules.specs.Good.{is_non_null}
use Rattle.ss_store_rules.specs.NonNull.{Known}
use Rattle.ss_store_rules.specs.Typed.{is_plain, is_field, has_type_in, same_mark, is_write_of}
use Rattle.ss_store_rules.specs.Types.{has_class, code_type}
use Rattle.ss_store_rules.specs.Values.{Setting, local_value}
use Rattle.ss_store_rules.specs.Values as run
use Rattle.ss_store_rules.proofs.Objects.{was}
use Rattle.ss_store_rules.proofs.Owners.{check_ok, on_object_ok}
use Rattle.ss_machine_typed.proofs.Outcomes.{ok_same}
use Rattle.ss_machine_typed.proofs.Slots.{all_at}
use Rattle.ss_machine_typed.proofs.Sound.{class_of_type}
use Rattle.ss_machine_good.specs.Known.{IsNotNull, IsTrueOf}
use Rattle.ss_logic.specs.declared.Sort.TheVariants as sort
use Rattle.ss_logic.specs.Values.{Table, Structure}
use Rattle.ss_logic.specs.Terms.{Set, Capture, Join, Term, app, sort_of_type, field_sort, has_field}
use Rattle.ss_logic.proofs.Truth.{same_sort_refl}
use Rattle.ss_logic_means.specs.Means.{standing}
use Rattle.ss_logic_means.specs.Sorts.{HasSort}
use Rattle.ss_vcgen_heaps.specs.Positions.{Counters, Position, Walk}
use Rattle.ss_vcgen_heaps.specs.Obligations.{AreValid, may_be_owned, may_be_joined, check_owners, owned_store}
use Rattle.ss_vcgen_safe.specs.Done.{IsDone}
use Rattle.ss_vcgen_safe.proofs.Checked.{rep_done, peer_done}
use Rattle.ss_sound_outcomes.specs.Points.{Activation, Point, scene}
use Rattle.ss_sound_outcomes.specs.Outcomes.{with_store}
use Rattle.ss_vcgen_safe.specs.At.{Stays, HasValue, Agrees}
use Rattle.ss_vcgen_safe.proofs.Alike.{alike_self}
use Rattle.ss_vcgen_safe.proofs.Keeps.{checked}
use Rattle.ss_vcgen_safe.proofs.Stored.{IsSteady, steady_three, store_there}

-- ---- the field

mark_is : (m n : Mark) → same_mark m n ≡ true → n ≡ m
mark_is mark.Plain mark.Plain h = refl
mark_is mark.Rep mark.Rep h = refl
mark_is mark.Peer mark.Peer h = refl
mark_is m n h = absurd (false≢true h)

-- The write has the field's own mark, and the class that declares it. Its object is of a class, and its value fits the field's type.
pub record IsFieldWrite (cs : List ClassTree) (b : BodyTree) (e : ExprTree) (m : Mark) (t : ℕ) (u : ExprTree) (f : ℕ) : Type 0 where
  pub field : DeclaredField
  pub there : slice_get (all_fields cs) f ≡ Some field
  pub mark_is : field_mark cs f ≡ m
  pub class_is : field_class cs f ≡ t
  pub of : ℕ
  pub non_null : Bool
  pub object : code_type cs b e ≡ Some (ty.Ref (record { 0 = of }) non_null)
  pub fits : has_type_in cs b u (field_type cs f) ≡ true

pub field_write : (cs : List ClassTree) (b : BodyTree) (e : ExprTree) (m : Mark) (t : ℕ) (u : ExprTree) (f : ℕ) → is_write_of cs b e m t u (slice_get (all_fields cs) f) ≡ true → IsFieldWrite cs b e m t u f
field_write cs b e m t u f h = one_of (slice_get (all_fields cs) f) refl h
  where
    one_of : (d : Option DeclaredField) → slice_get (all_fields cs) f ≡ d → is_write_of cs b e m t u d ≡ true → IsFieldWrite cs b e m t u f
    one_of None there typed = absurd (false≢true typed)
    one_of (Some d) there typed =
        let p = and_parts (same_mark m d.field.mark && t == d.class && has_class (λ c. below cs c t) (code_type cs b e)) (has_type_in cs b u d.field.ty) typed in
        let q = and_parts (same_mark m d.field.mark && t == d.class) (has_class (λ c. below cs c t) (code_type cs b e)) p.0 in
        let r = and_parts (same_mark m d.field.mark) (t == d.class) q.0 in
        let c = class_of_type (λ c. below cs c t) (code_type cs b e) q.1 in
        record {
          field = d;
          there = there;
          mark_is = ap mark_of_field there ∙ mark_is m d.field.mark r.0;
          class_is = ap class_of_field there ∙ sym (eqb-true t d.class r.1);
          of = c.0;
          non_null = c.1;
          object = c.2;
          fits = subst (λ y. has_type_in cs b u y ≡ true) (sym (ap type_of_field there)) p.1;
        }

-- fields of references alone are marked
pub marked_sort : (cs : List ClassTree) → list_all (λ (c : ClassTree). list_all (is_field cs) c.fields) cs ≡ true → (f : ℕ) (d : DeclaredField) → slice_get (all_fields cs) f ≡ Some d → is_plain (field_mark cs f) ≡ false → field_sort cs f ≡ sort.Rest
marked_sort cs fields f d there marked =
    let by = field_declared cs f d there in
    let at = declared_place cs d.class by.by by.is_class in
    let is = all_at (is_field cs) by.by.fields by.place d.field (all_at (λ (c : ClassTree). list_all (is_field cs) c.fields) cs at.0 by.by fields at.2) by.is_there in
    ⊎_elim
    (λ plain. absurd (true≢false (sym plain ∙ sym (ap (λ o. is_plain (mark_of_field o)) there) ∙ marked)))
    (λ class. ap (λ o. sort_of_type (type_of_field o)) there ∙ class_sort d.field.ty class)
    (or_cases (is_plain d.field.mark) (is_class_type d.field.ty) (and_parts (is_type cs d.field.ty) (is_plain d.field.mark || is_class_type d.field.ty) is).1)
  where
    class_sort : (y : Ty) → is_class_type y ≡ true → sort_of_type y ≡ sort.Rest
    class_sort ty.Int h = absurd (false≢true h)
    class_sort ty.Bool h = absurd (false≢true h)
    class_sort ty.Null h = absurd (false≢true h)
    class_sort (ty.Ref c n) h = refl

-- ---- terms

owned_sorted : (cs : List ClassTree) (m : Mark) (t : ℕ) (s o v : Term) → HasSort cs [] sort.Store s → HasSort cs [] sort.Rest o → (is_plain m ≡ false → HasSort cs [] sort.Rest v) → HasSort cs [] sort.Store (owned_store m s o t v)
owned_sorted cs mark.Plain t s o v x y h = x
owned_sorted cs mark.Rep t s o v x y h = let z = h refl in (refl, rw (x.0, x.1, y.0, y.1, z.0, z.1) refl)
owned_sorted cs mark.Peer t s o v x y h = let z = h refl in (refl, rw (x.0, x.1, y.0, y.1, z.0, z.1) refl)

set_sorted : (cs : List ClassTree) (f : ℕ) (s o v : Term) → has_field cs f ≡ true → HasSort cs [] sort.Store s → HasSort cs [] sort.Rest o → HasSort cs [] (field_sort cs f) v → HasSort cs [] sort.Store (app (Set f) (s ∷ o ∷ v ∷ []))
set_sorted cs f s o v h x y z = (refl, rw (h, x.0, x.1, y.0, y.1, z.0, z.1, same_sort_refl (field_sort cs f)) refl)

pub write_sorted : (cs : List ClassTree) (f : ℕ) (m : Mark) (t : ℕ) (s o v : Term) → has_field cs f ≡ true → (is_plain m ≡ false → field_sort cs f ≡ sort.Rest) → HasSort cs [] sort.Store s → HasSort cs [] sort.Rest o → HasSort cs [] (field_sort cs f) v →
    HasSort cs [] sort.Store (app (Set f) (owned_store m s o t v ∷ o ∷ v ∷ []))
write_sorted cs f m t s o v h marked x y z = set_sorted cs f (owned_store m s o t v) o v h (owned_sorted cs m t s o v x y (λ no. subst (λ r. HasSort cs [] r v) (marked no) z)) y z

steady_owned : (cs : List ClassTree) (next : Counters) (m : Structure) (k : Mark) (t : ℕ) (s o v : Term) → IsSteady cs next m s → IsSteady cs next m o → IsSteady cs next m v → IsSteady cs next m (owned_store k s o t v)
steady_owned cs next m mark.Plain t s o v x y z = x
steady_owned cs next m mark.Rep t s o v x y z = steady_three cs next m (Capture t) s o v (λ m m' vs. refl) x y z
steady_owned cs next m mark.Peer t s o v x y z = steady_three cs next m Join s o v (λ m m' vs. refl) x y z

pub steady_write : (cs : List ClassTree) (next : Counters) (m : Structure) (f : ℕ) (k : Mark) (t : ℕ) (s o v : Term) → IsSteady cs next m s → IsSteady cs next m o → IsSteady cs next m v → IsSteady cs next m (app (Set f) (owned_store k s o t v ∷ o ∷ v ∷ []))
steady_write cs next m f k t s o v x y z = steady_three cs next m (Set f) (owned_store k s o t v) o v (λ m m' vs. refl) (steady_owned cs next m k t s o v x y z) y z

-- ---- owners

plain_done : (s : List Object) (q t : ℕ) (v : ObjectValue) → IsDone (with_owners mark.Plain s q t v)
plain_done s q t (value.Int n) = (s, refl)
plain_done s q t (value.Bool b) = (s, refl)
plain_done s q t (value.Obj o) = (s, refl)
plain_done s q t value.Null = (s, refl)

module _ (w : Walk) (before : List Object) (table : Table) (m : Structure) (p : Point) where
  -- The value may be owned, or joined, as the mark asks.
  pub record OwnersChecked (k : Mark) (at : Place) (o : Term) (t : ℕ) (u : Term) (k' : Position) (q : ℕ) (v : ObjectValue) : Type 0 where
    pub done : IsDone (with_owners k p.store q t v)
    pub agrees : Agrees w before table m (check_owners k w at o t u k') p

  pub owners_checked : (k : Mark) (at : Place) (o : Term) (t : ℕ) (u : Term) (k' : Position) (q : ℕ) (x : Object) (v : ObjectValue) → slice_get p.store q ≡ Some x → Stays k'.next m (HasValue w.program.classes o (standing (value.Obj q))) →
      Stays k'.next m (HasValue w.program.classes u (standing v)) → ((i : ℕ) → v ≡ value.Obj i → (y : Object) × (slice_get p.store i ≡ Some y)) → Agrees w before table m k' p → AreValid w.program.classes (check_owners k w at o t u k').listed → OwnersChecked k at o t u k' q v
  owners_checked mark.Plain at o t u k' q x v there is_o is_u allocated g valid = record { done = plain_done p.store q t v; agrees = g }
  owners_checked mark.Rep at o t u k' q x v there is_o is_u allocated g valid =
      let c = checked w before table m p kind.RepOwner at (may_be_owned k'.store o t u) k' valid g in
      let self = alike_self k'.next m in
      let has = store_there w.program.classes table k'.next m k'.store p.store g.table_is g.store_is m self in
      record { done = rep_done w.program.classes m k'.store p.store has o q x there (is_o m self) u t v allocated (is_u m self) (c.0 m self); agrees = c.1 }
  owners_checked mark.Peer at o t u k' q x v there is_o is_u allocated g valid =
      let c = checked w before table m p kind.PeerOwner at (may_be_joined k'.store o u) k' valid g in
      let self = alike_self k'.next m in
      let has = store_there w.program.classes table k'.next m k'.store p.store g.table_is g.store_is m self in
      record { done = peer_done w.program.classes m k'.store p.store has o q x there (is_o m self) u t v allocated (is_u m self) (c.0 m self); agrees = c.1 }

-- ---- what is known of the fields of `this`

slot_written : (xs : List Slot) (f : ℕ) (v u : ObjectValue) → slot_value (with_field xs f v) f ≡ Some u → u ≡ v
slot_written [] f v u e = absurd (let none : ⊥ = cc in none)
slot_written (x ∷ xs) f v u e = ⊎_elim
    (λ here. let is : Some v ≡ Some u = rw here at e in cc)
    (λ past. slot_written xs f v u (rw past at e))
    (cases_Bool (x.field == f))

field_after : (o f : ℕ) (v : ObjectValue) (r : Result (List Object) Kind) (z : List Object) → then_written o f v r ≡ Ok z → (x : Object) → slice_get z o ≡ Some x → (u : ObjectValue) → field_value x f ≡ Some u → u ≡ v
field_after o f v (Err k) z h x ex u eu = absurd (let none : ⊥ = cc in none)
field_after o f v (Ok y) z h x ex u eu =
    let same : changed (written o f v) y ≡ z = cc in
    let old = was (written o f v) y o x (subst (λ n. slice_get n o ≡ Some x) (sym same) ex) in
    let is : slot_value (if o == o then with_field old.0.fields f v else old.0.fields) f ≡ Some u = subst (λ (n : Object). field_value n f ≡ Some u) (sym old.2) eu in
    slot_written old.0.fields f v u (rw (eq-eqb o o refl) at is)

-- a field that is written has the value
field_written : (cs : List ClassTree) (s : List Object) (o f : ℕ) (v : ObjectValue) (z : List Object) → write_of cs s (value.Obj o) f v ≡ Ok z → (x : Object) → slice_get z o ≡ Some x → (u : ObjectValue) → field_value x f ≡ Some u → u ≡ v
field_written cs s o f v z h x ex u eu =
    let r = on_object_ok s (value.Obj o) (writing cs s f v) z h in
    let same : r.0 ≡ o = let e = r.1 in cc in
    let c = check_ok (not (packed cs r.2.0 (field_class cs f))) kind.WriteLevel (then_written r.0 f v (with_owners (field_mark cs f) s r.0 (field_class cs f) v)) z r.2.2 in
    field_after r.0 f v (with_owners (field_mark cs f) s r.0 (field_class cs f) v) z c.1 x (subst (λ n. slice_get z n ≡ Some x) (sym same) ex) u eu

this_value : (e : ExprTree) (s : Setting) (v : ObjectValue) → is_this e ≡ true → run.value_of e s ≡ Ok v → local_value s 0 ≡ v
this_value (LocalExpr p y) s v h e = let zero_ = eqb-true y 0 h in subst (λ n. local_value s n ≡ v) zero_ (ok_same (local_value s y) v e)
this_value e s v h is = absurd (false≢true h)

-- the field of `this` that is written has a value where none that is null is wanted
pub known_written : (a : Activation) (p : Point) (e : ExprTree) (f : ℕ) (v w : ObjectValue) (z : List Object) (k : Known) → run.value_of e (scene a p) ≡ Ok v → write_of a.program.classes p.store v f w ≡ Ok z → (is_non_null (field_type a.program.classes f) ≡ true → IsNotNull w) →
    IsTrueOf a.body.flags.ctor k (scene a (with_store z p)) → IsTrueOf a.body.flags.ctor (record k { fields = λ g. k.fields g || is_this e && g == f }) (scene a (with_store z p))
known_written a p e f v w z k ev h not_null so = record {
  facts = so.facts;
  sides = λ x u eu. let side = so.sides x u eu in record { facts = side.facts; there = side.there; so = side.so };
  fields = λ ctor g asked o x iso ex null. ⊎_elim
      (λ old. so.fields ctor g old o x iso ex null)
      (λ new.
      let cs = a.program.classes in
      let r = and_parts (is_this e) (g == f) new in
      let same : g ≡ f = eqb-true g f r.1 in
      let v_is : v ≡ value.Obj o = sym (this_value e (scene a p) v r.0 ev) ∙ iso in
      let h2 = subst (λ u. write_of cs p.store u f w ≡ Ok z) v_is h in
      let w_null : value.Null ≡ w = field_written cs p.store o f w z h2 x ex value.Null (subst (λ n. field_value x n ≡ Some value.Null) same null) in
      subst (λ n. is_non_null (field_type cs n) ≡ false) (sym same) (⊎_elim (λ nn. absurd (not_null nn (sym w_null))) (λ other. other) (cases_Bool (is_non_null (field_type cs f)))))
      (or_cases (k.fields g) (is_this e && g == f) asked);
}
