-- Lists of objects, one object at a time.
use Rattle.std.proofs.Common.{◌≡◌, ℕ, zero, suc, ◌+◌, ◌<◌, ℤ, pos, List, [], ◌∷◌, length, map, Bool, true, false, Option, Some, None, refl, sym, ◌∙◌, ap, subst, arith}
use Rattle.std.specs.Prelude.{slice_get, if◌then◌else◌}
use Rattle.std.proofs.lemmas.Bool.{eq-eqb, ne_eqb, false≢true, true≢false}
use Rattle.ss_core.specs.declared.names.Ty.{Ty}
use Rattle.ss_core.specs.declared.names.Ty.TheVariants as ty
use Rattle.ss_core.specs.Tree.{ClassTree}
use Rattle.ss_core.specs.Chain.{IsChain}
use Rattle.ss_store_rules.specs.declared.Value.{Value as ObjectValue}
use Rattle.ss_store_rules.specs.declared.Value.TheVariants as value
use Rattle.ss_store_rules.specs.declared.Owner.{Owner}
use Rattle.ss_store_rules.specs.declared.Owner.TheVariants as owner
use Rattle.ss_store_rules.specs.Store.{Slot, Object, slot_value}
use Rattle.ss_store_rules.specs.Changes.{is_array, element_type, field_type, new_fields}
use Rattle.ss_store_rules.specs.Good.{has_type, numbers, AreValues}
use Rattle.ss_logic.specs.Values.{reference, Cells, Entry, Heap, Table}
use Rattle.ss_logic.specs.Objects.{value_of_thing, content, owner_of_thing, filled, elements_from, element_count, object_from, object_in, objects_from}
use Rattle.ss_sound_outcomes.specs.Points.{Fits}
use Rattle.ss_logic_tables.specs.Tabled.{whole_or, truth_or, thing_or, overlaid, thing_of_owner, element_value, entry_of}
use Rattle.ss_logic_tables.proofs.Slots.{AreApart, heads, tails, some_none, fields_apart}

-- the object at a position below the length
pub found : (s : List Object) (o : ℕ) → o < length s → (x : Object) × (slice_get s o ≡ Some x)
found [] o l = absurd (omega (arith, l))
found (x ∷ s) zero l = (x, refl)
found (x ∷ s) (suc o) l = found s o (omega (arith, l))

pub by_test : {P : Type 0} (b : Bool) → (b ≡ true → P) → (b ≡ false → P) → P
by_test true t f = t refl
by_test false t f = f refl

pub if_yes : {A : Type 0} (b : Bool) (x y : A) → b ≡ true → (if b then x else y) ≡ x
if_yes true x y h = refl
if_yes false x y h = absurd (false≢true h)

pub if_no : {A : Type 0} (b : Bool) (x y : A) → b ≡ false → (if b then x else y) ≡ y
if_no true x y h = absurd (true≢false h)
if_no false x y h = refl

-- ---- a list that a heap has

-- the objects of a heap are these where each of them is
pub objects_same : (cs : List ClassTree) (table : Table) (h : Heap) (o : ℕ) (s : List Object) → ((k : ℕ) (x : Object) → slice_get s k ≡ Some x → object_in cs table h (o + k) ≡ x) → objects_from cs table h o (length s) ≡ s
objects_same cs table h o [] each = refl
objects_same cs table h o (x ∷ s) each =
    let first : o + 0 ≡ o = omega arith in
    ap (λ y. y ∷ objects_from cs table h (o + 1) (length s)) (subst (λ i. object_in cs table h i ≡ x) first (each 0 x refl))
    ∙ ap (λ ys. x ∷ ys) (objects_same cs table h (o + 1) s (λ k y e. let next : o + suc k ≡ o + 1 + k = omega arith in subst (λ i. object_in cs table h i ≡ y) next (each (suc k) y e)))

unfoldable pub object_with : Object → ℕ → List Slot → List ObjectValue → Owner → Object
object_with x c fs vs w = record x { class = c; fields = fs; elements = vs; owner = w }

pub same_object : (x : Object) (c : ℕ) (fs : List Slot) (vs : List ObjectValue) (w : Owner) → c ≡ x.class → fs ≡ x.fields → vs ≡ x.elements → w ≡ x.owner → object_with x c fs vs w ≡ x
unfolding object_with
same_object x c fs vs w ec ef ev ew =
    ap (λ i. object_with x i fs vs w) ec ∙ ap (λ i. object_with x x.class i vs w) ef ∙ ap (λ i. object_with x x.class x.fields i w) ev ∙ ap (λ i. object_with x x.class x.fields x.elements i) ew

-- ---- what stands in the cells is the value

module _ (cs : List ClassTree) (s : List Object) where
  pub content_back : {Place : Type 0} (t : Ty) (values : Place → Option ObjectValue) (c : Cells Place) (i : Place) (v : ObjectValue) → values i ≡ Some v → has_type cs s t v ≡ true → content t (overlaid values c) i ≡ v
  content_back ty.Int values c i (value.Int n) e h = ap (λ r. value.Int (whole_or (c.wholes i) r)) e
  content_back ty.Int values c i (value.Bool b) e h = absurd (false≢true h)
  content_back ty.Int values c i (value.Obj o) e h = absurd (false≢true h)
  content_back ty.Int values c i value.Null e h = absurd (false≢true h)
  content_back ty.Bool values c i (value.Bool b) e h = ap (λ r. value.Bool (truth_or (c.truths i) r)) e
  content_back ty.Bool values c i (value.Int n) e h = absurd (false≢true h)
  content_back ty.Bool values c i (value.Obj o) e h = absurd (false≢true h)
  content_back ty.Bool values c i value.Null e h = absurd (false≢true h)
  content_back ty.Null values c i value.Null e h = refl
  content_back ty.Null values c i (value.Int n) e h = absurd (false≢true h)
  content_back ty.Null values c i (value.Bool b) e h = absurd (false≢true h)
  content_back ty.Null values c i (value.Obj o) e h = absurd (false≢true h)
  content_back (ty.Ref t n) values c i (value.Obj o) e h = ap (λ r. value_of_thing (thing_or (c.things i) r)) e
  content_back (ty.Ref t n) values c i value.Null e h = ap (λ r. value_of_thing (thing_or (c.things i) r)) e
  content_back (ty.Ref t n) values c i (value.Int m) e h = absurd (false≢true h)
  content_back (ty.Ref t n) values c i (value.Bool b) e h = absurd (false≢true h)

  slot_with : ℕ → ObjectValue → Slot
  slot_with f v = record { field = f; content = v }

  -- the slots of a list, where they are those of the whole one
  fields_back : (whole : List Slot) (x : Entry) (c : Cells ℕ) → x.fields ≡ overlaid (slot_value whole) c → ((f : ℕ) (v : ObjectValue) → slot_value whole f ≡ Some v → has_type cs s (field_type cs f) v ≡ true) →
      (xs ys : List Slot) → AreApart xs → numbers xs ≡ numbers ys → ((f : ℕ) (v : ObjectValue) → slot_value xs f ≡ Some v → slot_value whole f ≡ Some v) → map (filled cs x) ys ≡ xs
  unfolding slot_with
  fields_back whole x c are typed [] [] apart e within = refl
  fields_back whole x c are typed [] (y ∷ ys) apart e within = let no : ⊥ = cc in absurd no
  fields_back whole x c are typed (z ∷ xs) [] apart e within = let no : ⊥ = cc in absurd no
  fields_back whole x c are typed (z ∷ xs) (y ∷ ys) apart e within =
      let same : y.field ≡ z.field = sym (heads z.field y.field (numbers xs) (numbers ys) e) in
      let there : slot_value whole z.field ≡ Some z.content = within z.field z.content (rw (eq-eqb z.field z.field refl) refl) in
      let rest : map (filled cs x) ys ≡ xs = fields_back whole x c are typed xs ys apart.1 (tails z.field y.field (numbers xs) (numbers ys) e) (λ f v i. within f v (behind z xs f v apart.0 i)) in
      ap (λ f. slot_with f (content (field_type cs f) x.fields f) ∷ map (filled cs x) ys) same
      ∙ ap (λ u. slot_with z.field (content (field_type cs z.field) u z.field) ∷ map (filled cs x) ys) are
      ∙ ap (λ v. slot_with z.field v ∷ map (filled cs x) ys) (content_back (field_type cs z.field) (slot_value whole) c z.field z.content there (typed z.field z.content there))
      ∙ ap (λ zs. z ∷ zs) rest
    where
      behind : (z : Slot) (xs : List Slot) (f : ℕ) (v : ObjectValue) → slot_value xs z.field ≡ None → slot_value xs f ≡ Some v → slot_value (z ∷ xs) f ≡ Some v
      behind z xs f v n i = rw (ne_eqb z.field f (λ p. some_none v (sym i ∙ subst (λ g. slot_value xs g ≡ None) p n))) i

  -- n elements from the index k on
  elements_back : (x : Object) (y : Entry) (c : Cells ℤ) (t : Ty) → y.elements ≡ overlaid (element_value x) c → ((i : ℕ) (v : ObjectValue) → slice_get x.elements i ≡ Some v → has_type cs s t v ≡ true) →
      (k : ℕ) (vs : List ObjectValue) → ((i : ℕ) (v : ObjectValue) → slice_get vs i ≡ Some v → slice_get x.elements (k + i) ≡ Some v) → elements_from t y k (length vs) ≡ vs
  elements_back x y c t are typed k [] within = refl
  elements_back x y c t are typed k (v ∷ vs) within =
      let first : k + 0 ≡ k = omega arith in
      let here : slice_get x.elements k ≡ Some v = subst (λ i. slice_get x.elements i ≡ Some v) first (within 0 v refl) in
      ap (λ u. content t u (pos k) ∷ elements_from t y (k + 1) (length vs)) are
      ∙ ap (λ u. u ∷ elements_from t y (k + 1) (length vs)) (content_back t (element_value x) c (pos k) v here (typed k v here))
      ∙ ap (λ us. v ∷ us) (elements_back x y c t are typed (k + 1) vs (λ i u e. let next : k + suc i ≡ k + 1 + i = omega arith in subst (λ j. slice_get x.elements j ≡ Some u) next (within (suc i) u e)))

  owner_back : (next : ℕ) (w : Owner) → owner_of_thing next (thing_of_owner w) ≡ w
  owner_back next (owner.Group g) = refl
  owner_back next (owner.Owned o t) = refl

  -- ---- an object whose values are good is that of its entry

  module _ (chain : IsChain cs) (table : Table) (fits : Fits cs table s) (h : Heap) (o : ℕ) (x : Object) (there : slice_get s o ≡ Some x) (are : AreValues cs s x) where
    count_back : element_count cs table o ≡ length x.elements
    count_back =
        ap (λ t. if is_array cs t then table.length_of (reference o) else 0) (fits.class o x there)
        ∙ by_test (is_array cs x.class)
        (λ a. if_yes (is_array cs x.class) (table.length_of (reference o)) 0 a ∙ fits.size o x there a)
        (λ n. if_no (is_array cs x.class) (table.length_of (reference o)) 0 n ∙ sym (are.plain n))

    pub object_back : (old : Entry) → object_from cs table h o (entry_of x old) ≡ x
    unfolding object_with
    object_back old =
        let class : table.class_of (reference o) ≡ x.class = fits.class o x there in
        let y : Entry = entry_of x old in
        same_object x (table.class_of (reference o)) (map (filled cs y) (new_fields cs (table.class_of (reference o)))) (elements_from (element_type (table.class_of (reference o))) y 0 (element_count cs table o)) (owner_of_thing h.next (thing_of_owner x.owner)) class
        (ap (λ t. map (filled cs y) (new_fields cs t)) class
        ∙ fields_back x.fields y old.fields refl are.fields x.fields (new_fields cs x.class) (fields_apart cs chain x.fields x.class are.slots) are.slots (λ f v e. e))
        (ap (λ t. elements_from (element_type t) y 0 (element_count cs table o)) class
        ∙ ap (elements_from (element_type x.class) y 0) count_back
        ∙ elements_back x y old.elements (element_type x.class) refl are.elements 0 x.elements (λ i v e. let number : i ≡ 0 + i = omega arith in subst (λ j. slice_get x.elements j ≡ Some v) number e))
        (owner_back h.next x.owner)
