-- Elements of a good heap stay good where another heap has grown out of it.
use Rattle.std.proofs.Common.{◌≡◌, ℕ, ◌-◌, ◌<◌, ◌≤◌, ℤ, List, length, Bool, true, false, not, ◌&&◌, ◌||◌, Option, Some, None, eqb, refl, sym, ◌∙◌, ap, subst, arith}
use Rattle.std.specs.Prelude.{slice_get, nat_lt, if◌then◌else◌}
use Rattle.std.proofs.lemmas.Bool.{false≢true, and_parts, and_from, ltb-true, lt-ltb}
use Rattle.std.proofs.lemmas.Option.{slice_get_within}
use Rattle.ss_core.specs.declared.names.Ty.{Ty}
use Rattle.ss_core.specs.declared.names.Ty.TheVariants as ty
use Rattle.ss_core.specs.Tree.{ClassTree}
use Rattle.ss_core.specs.Chain.{sub}
use Rattle.ss_store_rules.specs.declared.Value.TheVariants as value
use Rattle.ss_store_rules.specs.Store.{Object}
use Rattle.ss_store_rules.specs.Numbers.{fits}
use Rattle.ss_store_rules.specs.Changes.{is_array, element_type}
use Rattle.ss_store_rules.specs.Good.{is_of_class, has_type, IsGood}
use Rattle.ss_store_rules.specs.Admissible.{invariants_hold}
use Rattle.ss_logic.specs.Values.{Thing, null, reference, class_name, group_number, owner_pair, Entry, Heap, Table, is_allocated, IsNumbered}
use Rattle.ss_logic.specs.Changes.{changed}
use Rattle.ss_logic.specs.Objects.{object_in, objects_of, is_array_of_references, element_class, is_element_of, IsGoodStore}
use Rattle.ss_logic.proofs.Tabled.{there, count}
use Rattle.ss_logic_tables.proofs.Slots.{some_same}

pub and_front : (a b : Bool) → (a && b) ≡ true → a ≡ true
and_front a b e = (and_parts a b e).0

pub and_last : (a b : Bool) → (a && b) ≡ true → b ≡ true
and_last a b e = (and_parts a b e).1

-- a whole number of a type has 32 bits
pub whole_fits : (cs : List ClassTree) (s : List Object) (t : Ty) (n : ℤ) → has_type cs s t (value.Int n) ≡ true → fits n ≡ true
whole_fits cs s ty.Int n h = h
whole_fits cs s ty.Bool n h = absurd (false≢true h)
whole_fits cs s ty.Null n h = absurd (false≢true h)
whole_fits cs s (ty.Ref t k) n h = absurd (false≢true h)

-- an element of an array of references is of their class
element_sub : (cs : List ClassTree) (s : List Object) (t e : ℕ) → has_type cs s (element_type t) (value.Obj e) ≡ true → (not (eqb t 1)) ≡ true → (not (eqb t 2)) ≡ true → is_of_class cs (element_class t) (slice_get s e) ≡ true
element_sub cs s t e h a b = by (eqb t 1) (eqb t 2) (eqb t 3) h a b
  where
    by : (p q r : Bool) → has_type cs s (if p then ty.Int else if q then ty.Bool else if r then ty.Ref (record { 0 = 0 }) false else ty.Ref (record { 0 = t - 1 }) false) (value.Obj e) ≡ true → not p ≡ true → not q ≡ true →
        is_of_class cs (if r then 0 else t - 1) (slice_get s e) ≡ true
    by true q r h a b = absurd (false≢true a)
    by false true r h a b = absurd (false≢true b)
    by false false true h a b = h
    by false false false h a b = h

-- what refers to an object of a type is allocated
of_type : (cs : List ClassTree) (s : List Object) (t : Ty) (e : ℕ) → has_type cs s t (value.Obj e) ≡ true → (x : Object) × (slice_get s e ≡ Some x)
of_type cs s ty.Int e h = absurd (false≢true h)
of_type cs s ty.Bool e h = absurd (false≢true h)
of_type cs s ty.Null e h = absurd (false≢true h)
of_type cs s (ty.Ref t n) e h = look (slice_get s e) refl h
  where
    look : (r : Option Object) → slice_get s e ≡ r → is_of_class cs t.0 r ≡ true → (x : Object) × (slice_get s e ≡ Some x)
    look None i k = absurd (false≢true k)
    look (Some x) i k = (x, i)

module _ (cs : List ClassTree) (table : Table) where
  abbrev pub IsGoodList : List Object → Type 0
  IsGoodList s = IsGood cs (invariants_hold cs) s

  -- the position of an object of a heap is allocated, and that is the object
  pub allocated_at : (h : Heap) (s : List Object) → objects_of cs table h ≡ s → (o : ℕ) (x : Object) → slice_get s o ≡ Some x → (nat_lt o h.next ≡ true) × (object_in cs table h o ≡ x)
  allocated_at h s same o x e =
      let size : length s ≡ h.next = ap length (sym same) ∙ count cs table h in
      let low : o < length s = slice_get_within s o x e in
      let l : nat_lt o h.next ≡ true = lt-ltb o h.next (omega (arith, low, size)) in
      (l, some_same (object_in cs table h o) x (sym (there cs table h o l) ∙ ap (λ z. slice_get z o) same ∙ e))

  -- and what is allocated is the position of one
  pub object_found : (h : Heap) (s : List Object) → objects_of cs table h ≡ s → (o : ℕ) → nat_lt o h.next ≡ true → slice_get s o ≡ Some (object_in cs table h o)
  object_found h s same o l = ap (λ z. slice_get z o) (sym same) ∙ there cs table h o l

  -- ---- an element of an object is a good one

  module _ (h : Heap) (s : List Object) (same : objects_of cs table h ≡ s) (good : IsGoodList s) where
    pub reference_good : (o : ℕ) (x : Object) (k e : ℕ) → slice_get s o ≡ Some x → slice_get x.elements k ≡ Some (value.Obj e) → is_element_of cs table h (table.class_of (reference o)) (reference e) ≡ true
    reference_good o x k e at is =
        let are = (good o x at).values in
        let typed : has_type cs s (element_type x.class) (value.Obj e) ≡ true = are.elements k (value.Obj e) is in
        let held = of_type cs s (element_type x.class) e typed in
        let y : Object = held.0 in
        let a = allocated_at h s same e y held.1 in
        let class : table.class_of (reference o) ≡ x.class = ap (λ z. z.class) (allocated_at h s same o x at).1 in
        let t : ℕ = table.class_of (reference o) in
        and_from (nat_lt e h.next && (h.at (reference e)).ready) (not (is_array_of_references cs t) || sub cs (table.class_of (reference e)) (element_class t))
        (and_from (nat_lt e h.next) ((h.at (reference e)).ready) a.0 (ap (λ z. z.ready) a.1 ∙ are.ready_elements k (value.Obj e) is e y refl held.1))
        (by (is_array_of_references cs t) refl class y held.1 a.1 typed)
      where
        by : (b : Bool) → is_array_of_references cs (table.class_of (reference o)) ≡ b → table.class_of (reference o) ≡ x.class → (y : Object) → slice_get s e ≡ Some y → object_in cs table h e ≡ y → has_type cs s (element_type x.class) (value.Obj e) ≡ true →
            (not b || sub cs (table.class_of (reference e)) (element_class (table.class_of (reference o)))) ≡ true
        by false i class y ey iy typed = refl
        by true i class y ey iy typed =
            let t : ℕ = table.class_of (reference o) in
            let p = and_parts (is_array cs t && not (eqb t 1)) (not (eqb t 2)) i in
            let q = and_parts (is_array cs t) (not (eqb t 1)) p.0 in
            let k : is_of_class cs (element_class t) (slice_get s e) ≡ true = element_sub cs s t e (subst (λ c. has_type cs s (element_type c) (value.Obj e) ≡ true) (sym class) typed) q.1 p.1 in
            ap (λ c. sub cs c (element_class t)) (ap (λ z. z.class) iy) ∙ sym (ap (is_of_class cs (element_class t)) ey) ∙ k

    pub whole_good : (o : ℕ) (x : Object) (k : ℕ) (n : ℤ) → slice_get s o ≡ Some x → slice_get x.elements k ≡ Some (value.Int n) → fits n ≡ true
    whole_good o x k n at is = whole_fits cs s (element_type x.class) n ((good o x at).values.elements k (value.Int n) is)

  -- ---- in a heap that has grown

  -- what was allocated is, and what was ready is
  pub record Grows (h i : Heap) : Type 0 where
    pub next : h.next ≤ i.next
    pub ready : (o : ℕ) → nat_lt o h.next ≡ true → (h.at (reference o)).ready ≡ true → (i.at (reference o)).ready ≡ true

  pub still_allocated : (h i : Heap) → Grows h i → (o : ℕ) → nat_lt o h.next ≡ true → nat_lt o i.next ≡ true
  still_allocated h i g o l = let n = g.next in let k = ltb-true o h.next l in lt-ltb o i.next (omega (arith, n, k))

  pub element_stays : (h i : Heap) → Grows h i → (t : ℕ) (w : Thing) → is_element_of cs table h t w ≡ true → is_element_of cs table i t w ≡ true
  element_stays h i g t null e = refl
  element_stays h i g t (reference o) e =
      let p = and_parts (nat_lt o h.next && (h.at (reference o)).ready) (not (is_array_of_references cs t) || sub cs (table.class_of (reference o)) (element_class t)) e in
      let q = and_parts (nat_lt o h.next) ((h.at (reference o)).ready) p.0 in
      and_from (nat_lt o i.next && (i.at (reference o)).ready) (not (is_array_of_references cs t) || sub cs (table.class_of (reference o)) (element_class t))
      (and_from (nat_lt o i.next) ((i.at (reference o)).ready) (still_allocated h i g o q.0) (g.ready o q.0 q.1)) p.1
  element_stays h i g t (class_name c) e = absurd (false≢true e)
  element_stays h i g t (group_number c) e = absurd (false≢true e)
  element_stays h i g t (owner_pair v w) e = absurd (false≢true e)

  -- a heap with the same elements stays good
  pub same_elements_good : (h i : Heap) → IsGoodStore cs table h → IsGoodList (objects_of cs table i) → Grows h i → i.next ≡ h.next → ((o : ℕ) → (i.at (reference o)).elements ≡ (h.at (reference o)).elements) → IsGoodStore cs table i
  same_elements_good h i good objects grows next same = record {
    objects = objects;
    whole_elements = λ o k l. subst (λ c. fits (c.wholes k) ≡ true) (sym (same o)) (good.whole_elements o k (sym (ap (nat_lt o) next) ∙ l));
    elements = λ o k l. element_stays h i grows (table.class_of (reference o)) ((i.at (reference o)).elements.things k)
        (subst (λ c. is_element_of cs table h (table.class_of (reference o)) (c.things k) ≡ true) (sym (same o)) (good.elements o k (sym (ap (nat_lt o) next) ∙ l)));
  }

-- ---- numbers of groups

pub alloc_equal : (h i : Heap) (w : Thing) → h.next ≡ i.next → is_allocated h w ≡ is_allocated i w
alloc_equal h i (reference o) e = ap (nat_lt o) e
alloc_equal h i null e = refl
alloc_equal h i (class_name c) e = refl
alloc_equal h i (group_number c) e = refl
alloc_equal h i (owner_pair v w) e = refl

-- a change that leaves the owners
pub numbered_changed : (change : Thing → Entry → Entry) (h : Heap) → ((w : Thing) (x : Entry) → (change w x).owner ≡ x.owner) → IsNumbered h → IsNumbered (changed change h)
numbered_changed change h keeps numbered w g e =
    let n = numbered w g (sym (keeps w (h.at w)) ∙ e) in
    (alloc_equal (changed change h) h w refl ∙ n.0, n.1)
