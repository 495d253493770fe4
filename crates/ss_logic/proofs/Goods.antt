-- What the rules on good stores say follows from the store's being good.
use Rattle.std.proofs.Common.{◌≡◌, ℕ, pos, negsuc, List, [], ◌∷◌, ◌++◌, Bool, true, false, ◌&&◌, map, Option, Some, None, refl, sym, ◌∙◌, ap, subst}
use Rattle.std.specs.Prelude.{if◌then◌else◌, int_le, ◌^◌, ◌-◌}
use Rattle.std.specs.List.{list_all}
use Rattle.std.proofs.lemmas.Bool.{false≢true, and_parts}
use Rattle.ss_core.specs.declared.names.ClassId.{ClassId}
use Rattle.ss_core.specs.declared.names.Mark.{Mark}
use Rattle.ss_core.specs.declared.names.Mark.TheVariants as mark
use Rattle.ss_core.specs.declared.names.Ty.{Ty}
use Rattle.ss_core.specs.declared.names.Ty.TheVariants as ty
use Rattle.ss_core.specs.Tree.{ClassTree}
use Rattle.ss_core.specs.Chain.{sub, NoAlso}
use Rattle.ss_core.specs.Types.{is_class_type}
use Rattle.ss_store_rules.specs.Changes.{field_class, field_mark, field_type}
use Rattle.ss_logic.specs.declared.Sort.{Sort}
use Rattle.ss_logic.specs.declared.Sort.TheVariants as sort
use Rattle.ss_logic.specs.Values.{Thing, null, reference, class_name, Heap, whole, thing, sort_of_value, as_thing, as_whole, as_store, is_allocated, Structure}
use Rattle.ss_logic.specs.Terms.{Element, Length, Term, no_terms, term_then, app, sort_of_type, has_field, have_sorts, cell}
use Rattle.ss_logic.specs.Formulas.{Good, Formula, Literal, is_below, True, Hold, neg}
use Rattle.ss_logic.specs.Objects.{is_array_of_references, element_class, IsGoodStore}
use Rattle.ss_logic.proofs.Truth.{AreOf-values, formula_stable}
use Rattle.ss_logic.specs.declared.GoodRule.{GoodRule}
use Rattle.ss_logic.specs.declared.GoodRule.TheVariants as rule
use Rattle.ss_logic.specs.Shapes.{when, number, null_term, class_term, level_of, owner_of, type_of, pair_of, equal, differ, at_most, sub_atom, allocated, committed, ready, group, given, natural_of, class_of_term}
use Rattle.ss_logic.specs.Reads.{Look, FieldLook, ElementLook, LevelLook, OwnerLook, NextLook, AllocatedLook, CommittedLook, ReadyLook, LengthLook, is_look, look_from}
use Rattle.ss_logic.specs.Good.{full_level, full_of, owned_committed, grouped_uncommitted, owned_by_number, owned_of, has_its_field, field_term, marked, marked_field, marks_of, in_range, arrays_of_references, element_typed, typed_field, typed_element, level_typed, length_typed, typed_look, typed_read, level_at, typed_level, owner_allocated, is_number, typed_of, not_null, ready_field, ready_look, ready_read, ready_of}
use Rattle.ss_logic.specs.GoodRules.{good_sentence, good_instance_of}
use Rattle.ss_logic.proofs.Options.{if_some, and_then_some}
use Rattle.ss_logic.proofs.Sentences.{T, V, given_true, all_true}
use Rattle.ss_logic.proofs.Numbers.{fits_low, fits_high, short_high, not_negative}
use Rattle.ss_logic.proofs.Stores as stores

none_some : {A P : Type 0} (y : A) → None ≡ Some y → P
none_some y e = absurd (let no : ⊥ = cc in no)

from_when : {A P : Type 0} (b : Bool) (a y : A) → when b a ≡ Some y → (b ≡ true → a ≡ y → P) → P
from_when true a y h k = k refl cc
from_when false a y h k = none_some y h

module _ (cs : List ClassTree) (none : NoAlso cs) (m : Structure) (s : Term) (good : IsGoodStore cs m.table (as_store (V cs m s))) where
  abbrev H : Heap
  H = as_store (V cs m s)

  abbrev W : Term → Thing
  W o = as_thing (V cs m o)

  is_true : (g f : Formula) → g ≡ f → T cs m g → T cs m f
  is_true g f e t = subst (λ x. T cs m x) e t

  some_is : (g f : Formula) → Some g ≡ Some f → T cs m g → T cs m f
  some_is g f e t = let same : g ≡ f = cc in subst (λ x. T cs m x) same t

  rest_of : (p : Term) → have_sorts cs (sort.Rest ∷ []) (p ∷ []) ≡ true → sort_of_value (V cs m p) ≡ sort.Rest
  rest_of p h = (AreOf-values cs m (sort.Rest ∷ []) (p ∷ []) h).0

  -- ---- levels and owners

  full_level_true : (o : Term) → T cs m (full_level s o)
  full_level_true o = given_true cs m (allocated s o ∷ committed s o ∷ []) (equal (level_of s o) (type_of o)) (λ h.
      ap (λ n. thing (class_name n)) (stores.full_at cs none m.table H good (W o) h.0 h.1.0))

  full_true : (ts : List Term) (f : Formula) → full_of cs s ts ≡ Some f → T cs m f
  full_true (o ∷ []) f e = from_when _ _ f e (λ _ same. is_true _ f same (full_level_true o))
  full_true [] f e = none_some f e
  full_true (o ∷ p ∷ ts) f e = none_some f e

  owned_committed_true : (p o t : Term) → T cs m (owned_committed s p o t)
  owned_committed_true p o t =
      let premises = allocated s p ∷ equal (owner_of s p) (pair_of o t) ∷ [] in
      let packed = sub_atom (level_of s o) t in
      let same = λ (a : is_allocated H (W p) ≡ true) (e : V cs m (owner_of s p) ≡ V cs m (pair_of o t)). stores.committed_at cs none m.table H good (W p) (W o) (W t) a (ap as_thing e) in
      all_true cs m (given (premises ++ committed s p ∷ []) packed ∷ given (premises ++ neg (committed s p) ∷ []) (neg packed) ∷ []) (
        given_true cs m (allocated s p ∷ equal (owner_of s p) (pair_of o t) ∷ committed s p ∷ []) packed (λ h. sym (same h.0 h.1.0) ∙ h.1.1.0),
        (given_true cs m (allocated s p ∷ equal (owner_of s p) (pair_of o t) ∷ neg (committed s p) ∷ []) (neg packed) (λ h k. h.1.1.0 (same h.0 h.1.0 ∙ k)), tt),
      )

  grouped_true : (p : Term) → T cs m (grouped_uncommitted s p)
  grouped_true p = given_true cs m (allocated s p ∷ group (owner_of s p) ∷ []) (neg (committed s p)) (λ h k.
      false≢true (sym (stores.grouped_at cs none m.table H good (W p) h.0 h.1.0) ∙ k))

  owned_number_true : (n : ℕ) (ts : List Term) (f : Formula) → owned_by_number cs s n ts ≡ Some f → T cs m f
  owned_number_true n (p ∷ []) f e = from_when _ _ f e (λ _ same. is_true _ f same (grouped_true p))
  owned_number_true n (p ∷ o ∷ t ∷ []) f e = from_when _ _ f e (λ _ same. is_true _ f same (owned_committed_true p o t))
  owned_number_true n [] f e = none_some f e
  owned_number_true n (p ∷ o ∷ []) f e = none_some f e
  owned_number_true n (p ∷ o ∷ t ∷ u ∷ ts) f e = none_some f e

  owned_true : (ts : List Term) (f : Formula) → owned_of cs s ts ≡ Some f → T cs m f
  owned_true [] f e = none_some f e
  owned_true (n ∷ ts) f e = let p = and_then_some _ (natural_of n) f e in owned_number_true p.0 ts f p.2

  -- ---- fields

  -- the value of a field that refers to objects
  reference_value : (o : Term) (f : ℕ) (t : ClassId) (n : Bool) → field_type cs f ≡ ty.Ref t n → V cs m (field_term s o f) ≡ thing ((H.at (W o)).fields.things f)
  reference_value o f t n e = ap (λ y. cell (sort_of_type y) (H.at (W o)).fields f) e

  whole_field_value : (o : Term) (f : ℕ) → field_type cs f ≡ ty.Int → V cs m (field_term s o f) ≡ whole ((H.at (W o)).fields.wholes f)
  whole_field_value o f e = ap (λ y. cell (sort_of_type y) (H.at (W o)).fields f) e

  not_null_field : (o : Term) (f : ℕ) (t : ClassId) (n : Bool) → field_type cs f ≡ ty.Ref t n → T cs m (differ (field_term s o f) null_term) → (H.at (W o)).fields.things f ≡ null → ⊥
  not_null_field o f t n e d k = d (reference_value o f t n e ∙ ap thing k)

  -- an object of the class that declares the field
  has_field_at : (o : Term) (f : ℕ) → has_field cs f ≡ true → is_allocated H (W o) ≡ true → is_below cs (class_name (m.table.class_of (W o))) (class_name (field_class cs f)) ≡ true → stores.HasField cs none m.table H good (W o) f
  has_field_at o f has a c = (a, has, c)

  -- what a field holds where it isn't null
  holding : (o : Term) (f : ℕ) → stores.HasField cs none m.table H good (W o) f → (t : ClassId) (n : Bool) → field_type cs f ≡ ty.Ref t n → T cs m (differ (field_term s o f) null_term) → stores.IsHeld cs none m.table H good ((H.at (W o)).fields.things f) t.0
  holding o f a t n e d = stores.reference_at cs none m.table H good (W o) f a t n e (not_null_field o f t n e d)

  held_value : (o : Term) (f : ℕ) (t : ClassId) (n : Bool) → field_type cs f ≡ ty.Ref t n → (v : ℕ) → (H.at (W o)).fields.things f ≡ reference v → V cs m (field_term s o f) ≡ thing (reference v)
  held_value o f t n e v is = reference_value o f t n e ∙ ap thing is

  marked_true : (o : Term) (f : ℕ) (t : ClassId) (n : Bool) → has_field cs f ≡ true → field_type cs f ≡ ty.Ref t n → (k : Mark) → field_mark cs f ≡ k → (g : Formula) → marked cs s o f k ≡ Some g → T cs m g
  marked_true o f t n has e mark.Plain r g i = none_some g i
  marked_true o f t n has e mark.Rep r g i =
      some_is _ g i (given_true cs m (allocated s o ∷ sub_atom (type_of o) (class_term (field_class cs f)) ∷ differ (field_term s o f) null_term ∷ []) (equal (owner_of s (field_term s o f)) (pair_of o (class_term (field_class cs f)))) (λ h.
      let a = has_field_at o f has h.0 h.1.0 in
      let x = holding o f a t n e h.1.1.0 in
      ap (λ v. thing (H.at (as_thing v)).owner) (held_value o f t n e x.at x.is) ∙ ap thing (stores.rep_at cs none m.table H good (W o) f a t n e x.at x.is x.allocated r)))
  marked_true o f t n has e mark.Peer r g i =
      some_is _ g i (given_true cs m (allocated s o ∷ sub_atom (type_of o) (class_term (field_class cs f)) ∷ differ (field_term s o f) null_term ∷ []) (equal (owner_of s (field_term s o f)) (owner_of s o)) (λ h.
      let a = has_field_at o f has h.0 h.1.0 in
      let x = holding o f a t n e h.1.1.0 in
      ap (λ v. thing (H.at (as_thing v)).owner) (held_value o f t n e x.at x.is) ∙ ap thing (stores.peer_at cs none m.table H good (W o) f a t n e x.at x.is x.allocated r)))

  by_type : {P : Type 0} (y : Ty) → is_class_type y ≡ true → ((t : ClassId) (n : Bool) → y ≡ ty.Ref t n → P) → P
  by_type (ty.Ref t n) e k = k t n refl
  by_type y e k = absurd (false≢true e)

  marked_field_true : (o : Term) (j : Option ℕ) (g : Formula) → marked_field cs s o j ≡ Some g → T cs m g
  marked_field_true o (Some f) g e =
      let p = if_some _ (marked cs s o f (field_mark cs f)) g e in
      let q = and_parts (has_field cs f && is_class_type (field_type cs f)) (have_sorts cs (sort.Rest ∷ []) (o ∷ [])) p.0 in
      let r = and_parts (has_field cs f) (is_class_type (field_type cs f)) q.0 in
      by_type (field_type cs f) r.1 (λ t n type. marked_true o f t n r.0 type (field_mark cs f) refl g p.1)
  marked_field_true o None g e = none_some g e

  marks_true : (ts : List Term) (f : Formula) → marks_of cs s ts ≡ Some f → T cs m f
  marks_true (o ∷ j ∷ []) f e = marked_field_true o (natural_of j) f e
  marks_true [] f e = none_some f e
  marks_true (o ∷ []) f e = none_some f e
  marks_true (o ∷ j ∷ k ∷ ts) f e = none_some f e

  -- ---- types

  range_true : (ps : List Formula) (x : Term) → ((h : Hold cs m ps) → int_le (negsuc (2 ^ 31 - 1)) (as_whole (V cs m x)) ≡ true) → ((h : Hold cs m ps) → int_le (as_whole (V cs m x)) (pos (2 ^ 31 - 1)) ≡ true) → Hold cs m (in_range ps x)
  range_true ps x low high = (given_true cs m ps (at_most (number (negsuc (2 ^ 31 - 1))) x) low, (given_true cs m ps (at_most x (number (pos (2 ^ 31 - 1)))) high, tt))

  typed_field_true : (o : Term) (f : ℕ) (y : Ty) → has_field cs f ≡ true → field_type cs f ≡ y → (g : Formula) → typed_field cs s o f y ≡ Some g → T cs m g
  typed_field_true o f ty.Int has e g i =
      let x = field_term s o f in
      let fit = λ (h : Hold cs m (has_its_field cs s o f)). stores.whole_at cs none m.table H good (W o) f (has_field_at o f has h.0 h.1.0) e in
      let value = ap as_whole (whole_field_value o f e) in
      some_is _ g i (all_true cs m (in_range (has_its_field cs s o f) x) (range_true (has_its_field cs s o f) x
      (λ h. ap (λ z. int_le (negsuc (2 ^ 31 - 1)) z) value ∙ fits_low ((H.at (W o)).fields.wholes f) (fit h))
      (λ h. ap (λ z. int_le z (pos (2 ^ 31 - 1))) value ∙ fits_high ((H.at (W o)).fields.wholes f) (fit h))))
  typed_field_true o f ty.Bool has e g i = none_some g i
  typed_field_true o f ty.Null has e g i = none_some g i
  typed_field_true o f (ty.Ref t n) has e g i =
      let x = field_term s o f in
      let premises = allocated s o ∷ sub_atom (type_of o) (class_term (field_class cs f)) ∷ differ x null_term ∷ [] in
      some_is _ g i (all_true cs m (given premises (allocated s x) ∷ given premises (sub_atom (type_of x) (class_term t.0)) ∷ []) (
        given_true cs m premises (allocated s x) (λ h.
            let z = holding o f (has_field_at o f has h.0 h.1.0) t n e h.1.1.0 in
            ap (λ v. is_allocated H (as_thing v)) (held_value o f t n e z.at z.is) ∙ z.allocated),
        (
          given_true cs m premises (sub_atom (type_of x) (class_term t.0)) (λ h.
              let z = holding o f (has_field_at o f has h.0 h.1.0) t n e h.1.1.0 in
              ap (λ v. sub cs (m.table.class_of (as_thing v)) t.0) (held_value o f t n e z.at z.is) ∙ z.class),
          tt,
        ),
      ))

  elements_true : (a i : Term) (ts : List ℕ) → list_all (is_array_of_references cs) ts ≡ true → Hold cs m (map (element_typed s a (app (Element sort.Rest) (s ∷ a ∷ i ∷ []))) ts)
  elements_true a i [] h = tt
  elements_true a i (t ∷ ts) h =
      let x = app (Element sort.Rest) (s ∷ a ∷ i ∷ []) in
      let p = and_parts (is_array_of_references cs t) (list_all (is_array_of_references cs) ts) h in (
        given_true cs m (allocated s a ∷ equal (type_of a) (class_term t) ∷ differ x null_term ∷ []) (sub_atom (type_of x) (class_term (element_class t))) (λ k.
            let z = stores.element_at cs none m.table H good (W a) (as_whole (V cs m i)) k.0 (λ n. k.1.1.0 (ap thing n)) in
            let same : m.table.class_of (W a) ≡ t = class_number _ _ k.1.0 in
            ap (λ v. sub cs (m.table.class_of v) (element_class t)) z.is ∙ subst (λ c. sub cs (m.table.class_of (reference z.at)) (element_class c) ≡ true) same (z.class (subst (λ c. is_array_of_references cs c ≡ true) (sym same) p.0))),
        elements_true a i ts p.1,
      )
    where
      class_number : (c t : ℕ) → thing (class_name c) ≡ thing (class_name t) → c ≡ t
      class_number c t e = cc

  typed_element_true : (a i : Term) (r : Sort) (g : Formula) → typed_element cs s a i r ≡ Some g → T cs m g
  typed_element_true a i sort.Whole g e =
      let x = app (Element sort.Whole) (s ∷ a ∷ i ∷ []) in
      some_is _ g e (all_true cs m (in_range (allocated s a ∷ []) x) (range_true (allocated s a ∷ []) x
      (λ h. fits_low ((H.at (W a)).elements.wholes (as_whole (V cs m i))) (stores.whole_element cs none m.table H good (W a) (as_whole (V cs m i)) h.0))
      (λ h. fits_high ((H.at (W a)).elements.wholes (as_whole (V cs m i))) (stores.whole_element cs none m.table H good (W a) (as_whole (V cs m i)) h.0))))
  typed_element_true a i sort.Truth g e = none_some g e
  typed_element_true a i sort.Store g e = none_some g e
  typed_element_true a i sort.Rest g e =
      let x = app (Element sort.Rest) (s ∷ a ∷ i ∷ []) in
      some_is _ g e (all_true cs m (given (allocated s a ∷ differ x null_term ∷ []) (allocated s x) ∷ map (element_typed s a x) (arrays_of_references cs)) (
        given_true cs m (allocated s a ∷ differ x null_term ∷ []) (allocated s x) (λ k.
            let z = stores.element_at cs none m.table H good (W a) (as_whole (V cs m i)) k.0 (λ n. k.1.0 (ap thing n)) in
            ap (λ v. is_allocated H v) z.is ∙ z.allocated),
        elements_true a i (arrays_of_references cs) (stores.arrays_are cs),
      ))

  level_typed_true : (o : Term) → T cs m (level_typed s o)
  level_typed_true o = given_true cs m (allocated s o ∷ []) (sub_atom (type_of o) (level_of s o)) (λ h. stores.level_at cs none m.table H good (W o) h.0)

  length_typed_true : (a : Term) → T cs m (length_typed s a)
  length_typed_true a =
      let x = app Length (a ∷ []) in
      all_true cs m (given (allocated s a ∷ []) (at_most (number (pos 0)) x) ∷ given (allocated s a ∷ []) (at_most x (number (pos (2 ^ 31 - 1)))) ∷ []) (
        given_true cs m (allocated s a ∷ []) (at_most (number (pos 0)) x) (λ h. not_negative (m.table.length_of (W a))),
        (given_true cs m (allocated s a ∷ []) (at_most x (number (pos (2 ^ 31 - 1)))) (λ h. short_high (m.table.length_of (W a)) (m.table.short (W a))), tt),
      )

  typed_look_true : (look : Look) (g : Formula) → is_look cs look ≡ true → typed_look cs s look ≡ Some g → T cs m g
  typed_look_true (FieldLook o f) g k e = typed_field_true o f (field_type cs f) (and_parts (has_field cs f) (have_sorts cs (sort.Rest ∷ []) (o ∷ [])) k).0 refl g e
  typed_look_true (ElementLook r a i) g k e = typed_element_true a i r g e
  typed_look_true (LevelLook o) g k e = some_is _ g e (level_typed_true o)
  typed_look_true (LengthLook a) g k e = some_is _ g e (length_typed_true a)
  typed_look_true (OwnerLook o) g k e = none_some g e
  typed_look_true NextLook g k e = none_some g e
  typed_look_true (AllocatedLook o) g k e = none_some g e
  typed_look_true (CommittedLook o) g k e = none_some g e
  typed_look_true (ReadyLook o) g k e = none_some g e

  typed_read_true : (j : Option Look) (g : Formula) → typed_read cs s j ≡ Some g → T cs m g
  typed_read_true (Some look) g e = let p = if_some _ (typed_look cs s look) g e in typed_look_true look g p.0 p.1
  typed_read_true None g e = none_some g e

  level_at_true : (o : Term) (t : ℕ) → T cs m (level_at s o t)
  level_at_true o t = given_true cs m (allocated s o ∷ equal (level_of s o) (class_term t) ∷ []) (sub_atom (type_of o) (class_term t)) (λ h.
      subst (λ c. sub cs (m.table.class_of (W o)) c ≡ true) (class_number _ _ h.1.0) (stores.level_at cs none m.table H good (W o) h.0))
    where
      class_number : (c t : ℕ) → thing (class_name c) ≡ thing (class_name t) → c ≡ t
      class_number c t e = cc

  owner_allocated_true : (p o t : Term) → T cs m (owner_allocated s p o t)
  owner_allocated_true p o t = given_true cs m (allocated s p ∷ equal (owner_of s p) (pair_of o t) ∷ []) (allocated s o) (λ h.
      stores.pair_at cs none m.table H good (W p) (W o) (W t) h.0 (ap as_thing h.1.0) (λ q c eq et l. ap (λ v. is_allocated H v) eq ∙ l))

  typed_level_true : (o : Term) (j : Option ℕ) (g : Formula) → typed_level s o j ≡ Some g → T cs m g
  typed_level_true o (Some t) g e = some_is _ g e (level_at_true o t)
  typed_level_true o None g e = none_some g e

  typed_two : (b : Bool) (kind o t : Term) (g : Formula) → (if b then typed_level s o (class_of_term t) else typed_read cs s (look_from kind (o ∷ t ∷ []))) ≡ Some g → T cs m g
  typed_two true kind o t g e = typed_level_true o (class_of_term t) g e
  typed_two false kind o t g e = typed_read_true (look_from kind (o ∷ t ∷ [])) g e

  typed_true : (ts : List Term) (g : Formula) → typed_of cs s ts ≡ Some g → T cs m g
  typed_true [] g e = none_some g e
  typed_true (kind ∷ o ∷ t ∷ []) g e = typed_two (is_number 2 kind && have_sorts cs (sort.Rest ∷ []) (o ∷ [])) kind o t g e
  typed_true (kind ∷ p ∷ o ∷ t ∷ []) g e = from_when _ _ g e (λ _ same. is_true _ g same (owner_allocated_true p o t))
  typed_true (kind ∷ []) g e = typed_read_true (look_from kind []) g e
  typed_true (kind ∷ o ∷ []) g e = typed_read_true (look_from kind (o ∷ [])) g e
  typed_true (kind ∷ o ∷ p ∷ t ∷ u ∷ ts) g e = typed_read_true (look_from kind (o ∷ p ∷ t ∷ u ∷ ts)) g e

  -- ---- ready

  not_null_true : (o : Term) (f : ℕ) (t : ClassId) (n : Bool) → has_field cs f ≡ true → field_type cs f ≡ ty.Ref t n → (b : Bool) → n ≡ b → Hold cs m (not_null b (has_its_field cs s o f) s o (field_term s o f))
  not_null_true o f t n has e true b = (
    given_true cs m (allocated s o ∷ sub_atom (type_of o) (class_term (field_class cs f)) ∷ ready s o ∷ []) (differ (field_term s o f) null_term) (λ h k.
        stores.non_null_at cs none m.table H good (W o) f (has_field_at o f has h.0 h.1.0) t n e b h.1.1.0 (ap as_thing (sym (reference_value o f t n e) ∙ k))),
    tt,
  )
  not_null_true o f t n has e false b = tt

  ready_field_true : (o : Term) (f : ℕ) (y : Ty) → has_field cs f ≡ true → field_type cs f ≡ y → (g : Formula) → ready_field cs s o f y ≡ Some g → T cs m g
  ready_field_true o f (ty.Ref t n) has e g i =
      let x = field_term s o f in
      some_is _ g i (all_true cs m (given (has_its_field cs s o f ++ differ x null_term ∷ []) (ready s x) ∷ not_null n (has_its_field cs s o f) s o x) (
        given_true cs m (allocated s o ∷ sub_atom (type_of o) (class_term (field_class cs f)) ∷ differ x null_term ∷ []) (ready s x) (λ h.
            let a = has_field_at o f has h.0 h.1.0 in
            let z = holding o f a t n e h.1.1.0 in
            ap (λ v. (H.at (as_thing v)).ready) (held_value o f t n e z.at z.is) ∙ stores.ready_at cs none m.table H good (W o) f a t n e z.at z.is z.allocated),
        not_null_true o f t n has e n refl,
      ))
  ready_field_true o f ty.Int has e g i = none_some g i
  ready_field_true o f ty.Bool has e g i = none_some g i
  ready_field_true o f ty.Null has e g i = none_some g i

  ready_element_true : (a i : Term) → T cs m (given (allocated s a ∷ differ (app (Element sort.Rest) (s ∷ a ∷ i ∷ [])) null_term ∷ []) (ready s (app (Element sort.Rest) (s ∷ a ∷ i ∷ []))))
  ready_element_true a i = given_true cs m (allocated s a ∷ differ (app (Element sort.Rest) (s ∷ a ∷ i ∷ [])) null_term ∷ []) (ready s (app (Element sort.Rest) (s ∷ a ∷ i ∷ []))) (λ k.
      let z = stores.element_at cs none m.table H good (W a) (as_whole (V cs m i)) k.0 (λ n. k.1.0 (ap thing n)) in
      ap (λ v. (H.at v).ready) z.is ∙ z.ready)

  ready_look_true : (look : Look) (g : Formula) → is_look cs look ≡ true → ready_look cs s look ≡ Some g → T cs m g
  ready_look_true (FieldLook o f) g k e = ready_field_true o f (field_type cs f) (and_parts (has_field cs f) (have_sorts cs (sort.Rest ∷ []) (o ∷ [])) k).0 refl g e
  ready_look_true (ElementLook sort.Rest a i) g k e = some_is _ g e (ready_element_true a i)
  ready_look_true (ElementLook sort.Whole a i) g k e = none_some g e
  ready_look_true (ElementLook sort.Truth a i) g k e = none_some g e
  ready_look_true (ElementLook sort.Store a i) g k e = none_some g e
  ready_look_true (LevelLook o) g k e = none_some g e
  ready_look_true (LengthLook a) g k e = none_some g e
  ready_look_true (OwnerLook o) g k e = none_some g e
  ready_look_true NextLook g k e = none_some g e
  ready_look_true (AllocatedLook o) g k e = none_some g e
  ready_look_true (CommittedLook o) g k e = none_some g e
  ready_look_true (ReadyLook o) g k e = none_some g e

  ready_read_true : (j : Option Look) (g : Formula) → ready_read cs s j ≡ Some g → T cs m g
  ready_read_true (Some look) g e = let p = if_some _ (ready_look cs s look) g e in ready_look_true look g p.0 p.1
  ready_read_true None g e = none_some g e

  ready_true : (ts : List Term) (g : Formula) → ready_of cs s ts ≡ Some g → T cs m g
  ready_true [] g e = none_some g e
  ready_true (kind ∷ ts) g e = ready_read_true (look_from kind ts) g e

  sentence_true : (name : GoodRule) (ts : List Term) (g : Formula) → good_sentence cs name s ts ≡ Some g → T cs m g
  sentence_true rule.Full ts g e = full_true ts g e
  sentence_true rule.Owned ts g e = owned_true ts g e
  sentence_true rule.Marks ts g e = marks_true ts g e
  sentence_true rule.Typed ts g e = typed_true ts g e
  sentence_true rule.Ready ts g e = ready_true ts g e

-- each instance follows from the store's being good
pub good_instance_true : (cs : List ClassTree) → NoAlso cs → (m : Structure) (name : GoodRule) (s : Term) (ts : List Term) (f : Formula) → good_instance_of cs name s ts ≡ Some f →
    True cs m [] (Literal true Good (term_then s no_terms)) → True cs m [] f
good_instance_true cs none m name s ts f e good =
    let p = if_some (have_sorts cs (sort.Store ∷ []) (s ∷ [])) (good_sentence cs name s ts) f e in
    formula_stable cs m [] f (λ n. good (λ g. n (sentence_true cs none m s g name ts f p.1)))
