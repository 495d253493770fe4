-- What a good store of a structure gives, of things.
use Rattle.std.proofs.Common.{◌≡◌, ℕ, suc, ◌+◌, ◌*◌, ◌-◌, ◌%◌, ◌<◌, ◌≤◌, ℤ, List, [], ◌∷◌, length, Bool, true, false, not, ◌&&◌, ◌||◌, eqb, leb, Some, refl, sym, ◌∙◌, ap, subst, arith}
use Rattle.std.specs.Prelude.{slice_get, nat_lt}
use Rattle.std.specs.List.{list_all}
use Rattle.std.proofs.lemmas.Bool.{false≢true, and_parts, and_from, or_right, ltb-true, ltb-false, lt-ltb, le-leb, eq-eqb, ne_eqb}
use Rattle.ss_core.specs.declared.names.Mark.TheVariants as mark
use Rattle.ss_core.specs.declared.names.ClassId.{ClassId}
use Rattle.ss_core.specs.declared.names.Ty.{Ty}
use Rattle.ss_core.specs.declared.names.Ty.TheVariants as ty
use Rattle.ss_core.specs.Tree.{ClassTree}
use Rattle.ss_core.specs.Chain.{is_declared, sub, below, NoAlso}
use Rattle.ss_core.proofs.Chains.{sub-below, sub_if_below}
use Rattle.ss_store_rules.specs.declared.Value.TheVariants as value
use Rattle.ss_store_rules.specs.declared.Value.{Value as ObjectValue}
use Rattle.ss_store_rules.specs.declared.Owner.{Owner}
use Rattle.ss_store_rules.specs.declared.Owner.TheVariants as owner
use Rattle.ss_store_rules.specs.Store.{Object, field_value}
use Rattle.ss_store_rules.specs.Numbers.{fits}
use Rattle.ss_store_rules.specs.Changes.{is_array, field_class, field_mark, field_type, owned_by}
use Rattle.ss_store_rules.specs.Good.{has_type, is_of_class, is_non_null, IsFine}
use Rattle.ss_store_rules.specs.Admissible.{invariants_hold}
use Rattle.ss_logic.specs.Values.{Thing, null, reference, class_name, group_number, owner_pair, is_group, Heap, Table, is_allocated}
use Rattle.ss_logic.specs.Terms.{has_field}
use Rattle.ss_logic.specs.Objects.{value_of_thing, content, owner_of_thing, object_in, objects_of, is_array_of_references, element_class, is_element_of, IsGoodStore}
use Rattle.ss_logic.specs.Formulas.{is_below}
use Rattle.ss_logic.proofs.Tabled.{there, not_there, count, field_there}
use Rattle.ss_logic.specs.Good.{arrays_from, arrays_of_references}

-- ---- owners

-- an owner is the pair of an object and a class, or counts as that of the object at `next`
by_pair : {P : Type 0} (next : ℕ) (v u : Thing) → ((p t : ℕ) → v ≡ reference p → u ≡ class_name t → P) → (owner_of_thing next (owner_pair v u) ≡ owned_by next 0 → P) → P
by_pair next (reference p) (class_name t) real other = real p t refl refl
by_pair next v u real other = other refl

owned_first : (p t q c : ℕ) → owned_by p t ≡ owned_by q c → p ≡ q
owned_first p t q c e = ap first e
  where
    first : Owner → ℕ
    first (owner.Owned o t) = o
    first (owner.Group g) = 0

owned_second : (p t q c : ℕ) → owned_by p t ≡ owned_by q c → t ≡ c
owned_second p t q c e = ap second e
  where
    second : Owner → ℕ
    second (owner.Owned o t) = t.0
    second (owner.Group g) = 0

-- a pair of an allocated object comes from the pair alone
owner_back : (next : ℕ) (w : Thing) (q c : ℕ) → q < next → owner_of_thing next w ≡ owned_by q c → w ≡ owner_pair (reference q) (class_name c)
owner_back next (owner_pair (reference p) (class_name t)) q c l e = ap (λ x. owner_pair (reference x) (class_name t)) (owned_first p t q c e) ∙ ap (λ x. owner_pair (reference q) (class_name x)) (owned_second p t q c e)
owner_back next (group_number g) q c l e = absurd (let no : ⊥ = cc in no)
owner_back next w q c l e = absurd (let same = owned_first next 0 q c e in omega (arith, same, l))

owner_group : (next : ℕ) (w : Thing) (g : ℕ) → owner_of_thing next w ≡ owner.Group g → w ≡ group_number g
owner_group next (group_number k) g e = let same : k ≡ g = cc in ap group_number same
owner_group next (owner_pair (reference p) (class_name t)) g e = absurd (let no : ⊥ = cc in no)
owner_group next w g e = absurd (let no : ⊥ = cc in no)

-- equal owners, of which the second is that of no object that isn't allocated, come from one thing
owner_same : (next : ℕ) (v w : Thing) → ((p t : ℕ) → owner_of_thing next w ≡ owned_by p t → p < next) → owner_of_thing next v ≡ owner_of_thing next w → v ≡ w
owner_same next v (group_number g) low e = owner_group next v g e
owner_same next v (owner_pair (reference p) (class_name t)) low e = owner_back next v p t (low p t refl) e
owner_same next v w low e = absurd (let l = low next 0 refl in omega (arith, l))

-- ---- arrays of references

array_number : (cs : List ClassTree) (k : ℕ) → k < length cs → is_array_of_references cs (5 + 2 * k) ≡ true
array_number cs k l =
    let declared_ : is_declared cs (5 + 2 * k - 1) ≡ true =
    and_from (leb 4 (5 + 2 * k - 1) && eqb ((5 + 2 * k - 1) % 2) 0) (leb (5 + 2 * k - 1 + 1) (4 + 2 * length cs))
    (and_from (leb 4 (5 + 2 * k - 1)) (eqb ((5 + 2 * k - 1) % 2) 0) (le-leb 4 (5 + 2 * k - 1) (omega arith)) (eq-eqb ((5 + 2 * k - 1) % 2) 0 (omega arith)))
    (le-leb (5 + 2 * k - 1 + 1) (4 + 2 * length cs) (omega (arith, l))) in
    and_from (is_array cs (5 + 2 * k) && not (eqb (5 + 2 * k) 1)) (not (eqb (5 + 2 * k) 2))
    (and_from (is_array cs (5 + 2 * k)) (not (eqb (5 + 2 * k) 1))
    (or_right (eqb (5 + 2 * k) 1 || eqb (5 + 2 * k) 2 || eqb (5 + 2 * k) 3) (is_declared cs (5 + 2 * k - 1)) declared_)
    (ap not (ne_eqb (5 + 2 * k) 1 (λ e. omega (arith, e)))))
    (ap not (ne_eqb (5 + 2 * k) 2 (λ e. omega (arith, e))))

arrays_from_are : (cs : List ClassTree) (k : ℕ) (left : List ClassTree) → k + length left ≤ length cs → list_all (is_array_of_references cs) (arrays_from (5 + 2 * k) left) ≡ true
arrays_from_are cs k [] l = refl
arrays_from_are cs k (c ∷ left) l =
    let next : 5 + 2 * suc k ≡ 5 + 2 * k + 2 = omega arith in
    and_from (is_array_of_references cs (5 + 2 * k)) (list_all (is_array_of_references cs) (arrays_from (5 + 2 * k + 2) left)) (array_number cs k (omega (arith, l)))
    (subst (λ t. list_all (is_array_of_references cs) (arrays_from t left) ≡ true) next (arrays_from_are cs (suc k) left (omega (arith, l))))

pub arrays_are : (cs : List ClassTree) → list_all (is_array_of_references cs) (arrays_of_references cs) ≡ true
arrays_are cs =
    let number : 5 + 2 * 0 ≡ 5 = omega arith in
    and_from (is_array_of_references cs 3) (list_all (is_array_of_references cs) (arrays_from 5 cs)) refl
    (subst (λ t. list_all (is_array_of_references cs) (arrays_from t cs) ≡ true) number (arrays_from_are cs 0 cs (omega arith)))

-- ---- a good store

module _ (cs : List ClassTree) (none : NoAlso cs) (table : Table) (h : Heap) (good : IsGoodStore cs table h) where
  abbrev Objects : List Object
  Objects = objects_of cs table h

  fine : (q : ℕ) → nat_lt q h.next ≡ true → IsFine cs (invariants_hold cs) Objects q (object_in cs table h q)
  fine q l = good.objects q (object_in cs table h q) (there cs table h q l)

  low_owner : (q : ℕ) → nat_lt q h.next ≡ true → (p t : ℕ) → owner_of_thing h.next (h.at (reference q)).owner ≡ owned_by p t → p < h.next
  low_owner q l p t e = subst (λ n. p < n) (count cs table h) ((fine q l).owner_allocated p t e)

  sub_below : (c t : ℕ) → below cs c t ≡ sub cs c t
  sub_below c t = sym (sub-below cs none c t)

  pub full_at : (w : Thing) → is_allocated h w ≡ true → (h.at w).committed ≡ true → (h.at w).level ≡ table.class_of w
  full_at (reference q) a c = (fine q a).full c
  full_at w a c = absurd (false≢true a)

  -- the pair that owns an allocated object is that of an allocated object and a class
  pub pair_at : {P : Type 0} (w v u : Thing) → is_allocated h w ≡ true → (h.at w).owner ≡ owner_pair v u → ((p t : ℕ) → v ≡ reference p → u ≡ class_name t → nat_lt p h.next ≡ true → P) → P
  pair_at (reference q) v u a e k =
      by_pair h.next v u
      (λ p t ep et. k p t ep et (lt-ltb p h.next (low_owner q a p t (ap (owner_of_thing h.next) (e ∙ ap (λ x. owner_pair x u) ep ∙ ap (owner_pair (reference p)) et)))))
      (λ o. absurd (let l = low_owner q a h.next 0 (ap (owner_of_thing h.next) e ∙ o) in omega (arith, l)))
  pair_at w v u a e k = absurd (false≢true a)

  pub committed_at : (w v u : Thing) → is_allocated h w ≡ true → (h.at w).owner ≡ owner_pair v u → (h.at w).committed ≡ is_below cs (class_name (h.at v).level) u
  committed_at (reference q) v u a e =
      pair_at (reference q) v u a e (λ p t ep et l.
      (fine q a).owned p t (ap (owner_of_thing h.next) (e ∙ ap (λ x. owner_pair x u) ep ∙ ap (owner_pair (reference p)) et)) (object_in cs table h p) (there cs table h p l)
      ∙ sub_below (h.at (reference p)).level t
      ∙ ap (λ x. is_below cs (class_name (h.at (reference p)).level) x) (sym et)
      ∙ ap (λ x. is_below cs (class_name (h.at x).level) u) (sym ep))
  committed_at w v u a e = absurd (false≢true a)

  is_group_number : {P : Type 0} (w : Thing) → is_group w ≡ true → ((g : ℕ) → w ≡ group_number g → P) → P
  is_group_number (group_number g) e k = k g refl
  is_group_number w e k = absurd (false≢true e)

  pub grouped_at : (w : Thing) → is_allocated h w ≡ true → is_group (h.at w).owner ≡ true → (h.at w).committed ≡ false
  grouped_at (reference q) a g = is_group_number (h.at (reference q)).owner g (λ k e. (fine q a).grouped k (ap (owner_of_thing h.next) e))
  grouped_at w a g = absurd (false≢true a)

  pub level_at : (w : Thing) → is_allocated h w ≡ true → sub cs (table.class_of w) (h.at w).level ≡ true
  level_at (reference q) a = sub_if_below cs (table.class_of (reference q)) (h.at (reference q)).level (fine q a).level
  level_at w a = absurd (false≢true a)

  -- ---- fields

  module _ (q f : ℕ) (l : nat_lt q h.next ≡ true) (has : has_field cs f ≡ true) (of : sub cs (table.class_of (reference q)) (field_class cs f) ≡ true) where
    abbrev Held : Ty → ObjectValue
    Held t = content t (h.at (reference q)).fields f

    held : (t : Ty) → field_type cs f ≡ t → field_value (object_in cs table h q) f ≡ Some (Held t)
    held t e = field_there cs table h q f has (sub_below (table.class_of (reference q)) (field_class cs f) ∙ of) ∙ ap (λ y. Some (Held y)) e

    typed : (t : Ty) → field_type cs f ≡ t → has_type cs Objects t (Held t) ≡ true
    typed t e = subst (λ y. has_type cs Objects y (Held t) ≡ true) e ((fine q l).values.fields f (Held t) (held t e))

    pub whole_field : field_type cs f ≡ ty.Int → fits ((h.at (reference q)).fields.wholes f) ≡ true
    whole_field e = typed ty.Int e

  class_here : (b : Bool) (t v : ℕ) → nat_lt v h.next ≡ b → is_of_class cs t (slice_get Objects v) ≡ true → (nat_lt v h.next ≡ true) × (sub cs (table.class_of (reference v)) t ≡ true)
  class_here true t v l e = (l, sym (ap (is_of_class cs t) (there cs table h v l)) ∙ e)
  class_here false t v l e = absurd (false≢true (sym (ap (is_of_class cs t) (not_there cs table h v (ltb-false v h.next l))) ∙ e))

  class_held : (t v : ℕ) → is_of_class cs t (slice_get Objects v) ≡ true → (nat_lt v h.next ≡ true) × (sub cs (table.class_of (reference v)) t ≡ true)
  class_held t v e = class_here (nat_lt v h.next) t v refl e

  -- what a field refers to, where it isn't null
  pub record IsHeld (x : Thing) (t : ℕ) : Type 0 where
    pub at : ℕ
    pub is : x ≡ reference at
    pub allocated : nat_lt at h.next ≡ true
    pub class : sub cs (table.class_of (reference at)) t ≡ true

  held_at : (t : ClassId) (n : Bool) (x : Thing) → has_type cs Objects (ty.Ref t n) (value_of_thing x) ≡ true → (x ≡ null → ⊥) → IsHeld x t.0
  held_at t n (reference v) e k = let c = class_held t.0 v e in record { at = v; is = refl; allocated = c.0; class = c.1 }
  held_at t n null e k = absurd (k refl)
  held_at t n x e k = absurd (false≢true e)

  module _ (q f : ℕ) (l : nat_lt q h.next ≡ true) (has : has_field cs f ≡ true) (of : sub cs (table.class_of (reference q)) (field_class cs f) ≡ true) (t : ClassId) (n : Bool) (type : field_type cs f ≡ ty.Ref t n) where
    abbrev There : Thing
    There = (h.at (reference q)).fields.things f

    pub reference_field : (There ≡ null → ⊥) → IsHeld There t.0
    reference_field k = held_at t n There (typed q f l has of (ty.Ref t n) type) k

    value_is : (v : ℕ) → There ≡ reference v → field_value (object_in cs table h q) f ≡ Some (value.Obj v)
    value_is v e = held q f l has of (ty.Ref t n) type ∙ ap (λ x. Some (value_of_thing x)) e

    pub ready_field : (v : ℕ) → There ≡ reference v → nat_lt v h.next ≡ true → (h.at (reference v)).ready ≡ true
    ready_field v e k = (fine q l).values.ready_fields f (value.Obj v) (value_is v e) v (object_in cs table h v) refl (there cs table h v k)

    pub rep_field : (v : ℕ) → There ≡ reference v → nat_lt v h.next ≡ true → field_mark cs f ≡ mark.Rep → (h.at (reference v)).owner ≡ owner_pair (reference q) (class_name (field_class cs f))
    rep_field v e k r = owner_back h.next (h.at (reference v)).owner q (field_class cs f) (ltb-true q h.next l) ((fine q l).reps f v (value_is v e) r (object_in cs table h v) (there cs table h v k))

    pub peer_field : (v : ℕ) → There ≡ reference v → nat_lt v h.next ≡ true → field_mark cs f ≡ mark.Peer → (h.at (reference v)).owner ≡ (h.at (reference q)).owner
    peer_field v e k r = owner_same h.next (h.at (reference v)).owner (h.at (reference q)).owner (low_owner q l) ((fine q l).peers f v (value_is v e) r (object_in cs table h v) (there cs table h v k))

    pub non_null_field : n ≡ true → (h.at (reference q)).ready ≡ true → There ≡ null → ⊥
    non_null_field m r e =
        false≢true (sym ((fine q l).values.non_null r f (held q f l has of (ty.Ref t n) type ∙ ap (λ x. Some (value_of_thing x)) e)) ∙ ap is_non_null type ∙ m)

  -- ---- the same of each thing that is allocated

  abbrev pub HasField : Thing → ℕ → Type 0
  HasField w f = (is_allocated h w ≡ true) × (has_field cs f ≡ true) × (sub cs (table.class_of w) (field_class cs f) ≡ true)

  pub whole_at : (w : Thing) (f : ℕ) → HasField w f → field_type cs f ≡ ty.Int → fits ((h.at w).fields.wholes f) ≡ true
  whole_at (reference q) f a type = whole_field q f a.0 a.1 a.2 type
  whole_at w f a type = absurd (false≢true a.0)

  pub reference_at : (w : Thing) (f : ℕ) → HasField w f → (t : ClassId) (n : Bool) → field_type cs f ≡ ty.Ref t n → ((h.at w).fields.things f ≡ null → ⊥) → IsHeld ((h.at w).fields.things f) t.0
  reference_at (reference q) f a t n type k = reference_field q f a.0 a.1 a.2 t n type k
  reference_at w f a t n type k = absurd (false≢true a.0)

  pub ready_at : (w : Thing) (f : ℕ) → HasField w f → (t : ClassId) (n : Bool) → field_type cs f ≡ ty.Ref t n → (v : ℕ) → (h.at w).fields.things f ≡ reference v → nat_lt v h.next ≡ true → (h.at (reference v)).ready ≡ true
  ready_at (reference q) f a t n type v e k = ready_field q f a.0 a.1 a.2 t n type v e k
  ready_at w f a t n type v e k = absurd (false≢true a.0)

  pub rep_at : (w : Thing) (f : ℕ) → HasField w f → (t : ClassId) (n : Bool) → field_type cs f ≡ ty.Ref t n → (v : ℕ) → (h.at w).fields.things f ≡ reference v → nat_lt v h.next ≡ true → field_mark cs f ≡ mark.Rep →
      (h.at (reference v)).owner ≡ owner_pair w (class_name (field_class cs f))
  rep_at (reference q) f a t n type v e k r = rep_field q f a.0 a.1 a.2 t n type v e k r
  rep_at w f a t n type v e k r = absurd (false≢true a.0)

  pub peer_at : (w : Thing) (f : ℕ) → HasField w f → (t : ClassId) (n : Bool) → field_type cs f ≡ ty.Ref t n → (v : ℕ) → (h.at w).fields.things f ≡ reference v → nat_lt v h.next ≡ true → field_mark cs f ≡ mark.Peer →
      (h.at (reference v)).owner ≡ (h.at w).owner
  peer_at (reference q) f a t n type v e k r = peer_field q f a.0 a.1 a.2 t n type v e k r
  peer_at w f a t n type v e k r = absurd (false≢true a.0)

  pub non_null_at : (w : Thing) (f : ℕ) → HasField w f → (t : ClassId) (n : Bool) → field_type cs f ≡ ty.Ref t n → n ≡ true → (h.at w).ready ≡ true → (h.at w).fields.things f ≡ null → ⊥
  non_null_at (reference q) f a t n type b r e = non_null_field q f a.0 a.1 a.2 t n type b r e
  non_null_at w f a t n type b r e = absurd (false≢true a.0)

  -- ---- elements

  pub whole_element : (w : Thing) (i : ℤ) → is_allocated h w ≡ true → fits ((h.at w).elements.wholes i) ≡ true
  whole_element (reference q) i a = good.whole_elements q i a
  whole_element w i a = absurd (false≢true a)

  -- what an element refers to, where it isn't null: for each class of an array of references of the class that its elements are of
  pub record IsElement (x : Thing) (t : ℕ) : Type 0 where
    pub at : ℕ
    pub is : x ≡ reference at
    pub allocated : nat_lt at h.next ≡ true
    pub ready : (h.at (reference at)).ready ≡ true
    pub class : is_array_of_references cs t ≡ true → sub cs (table.class_of (reference at)) (element_class t) ≡ true

  implied : (b c : Bool) → (not b || c) ≡ true → b ≡ true → c ≡ true
  implied true c h e = h
  implied false c h e = absurd (false≢true e)

  element_held : (t : ℕ) (x : Thing) → is_element_of cs table h t x ≡ true → (x ≡ null → ⊥) → IsElement x t
  element_held t (reference v) e k =
      let p = and_parts (nat_lt v h.next && (h.at (reference v)).ready) (not (is_array_of_references cs t) || sub cs (table.class_of (reference v)) (element_class t)) e in
      let r = and_parts (nat_lt v h.next) (h.at (reference v)).ready p.0 in
      record { at = v; is = refl; allocated = r.0; ready = r.1; class = λ c. implied (is_array_of_references cs t) _ p.1 c }
  element_held t null e k = absurd (k refl)
  element_held t x e k = absurd (false≢true e)

  pub element_at : (w : Thing) (i : ℤ) → is_allocated h w ≡ true → ((h.at w).elements.things i ≡ null → ⊥) → IsElement ((h.at w).elements.things i) (table.class_of w)
  element_at (reference q) i a k = element_held (table.class_of (reference q)) ((h.at (reference q)).elements.things i) (good.elements q i a) k
  element_at w i a k = absurd (false≢true a)
