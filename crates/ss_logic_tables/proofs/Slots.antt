-- The slots of an object: one for each field of its class.
use Rattle.std.proofs.Common.{◌≡◌, ◌≢◌, ℕ, suc, ◌+◌, ◌<◌, List, [], ◌∷◌, ◌++◌, true, Option, Some, None, eqb, refl, sym, ◌∙◌, ap, subst, arith, inl, inr, ◌⊎◌, ⊎_elim}
use Rattle.std.specs.Prelude.{slice_get, flat_map, reverse}
use Rattle.std.proofs.lemmas.Bool.{cases_eq, eq-eqb, ne_eqb, false≢true, or_left, or_right}
use Rattle.std.proofs.lemmas.List.{append-nil}
use Rattle.ss_core.specs.Tree.{ClassTree}
use Rattle.ss_core.specs.Chain.{above, below, DeclaredField, all_fields, IsChain}
use Rattle.ss_core.proofs.Chains.{levels_object, below_self, below_up, below_acyclic, induct_up}
use Rattle.ss_store_rules.specs.declared.Value.{Value}
use Rattle.ss_store_rules.specs.Store.{Slot, slot_value}
use Rattle.ss_store_rules.specs.Changes.{field_class, class_of_field, slots_from, new_fields}
use Rattle.ss_store_rules.specs.Good.{numbers}
use Rattle.ss_store_rules.proofs.FieldPlaces.{new_fields-above}

pub heads : {A : Type 0} (x y : A) (xs ys : List A) → x ∷ xs ≡ y ∷ ys → x ≡ y
heads x y xs ys e = cc

pub tails : {A : Type 0} (x y : A) (xs ys : List A) → x ∷ xs ≡ y ∷ ys → xs ≡ ys
tails x y xs ys e = cc

pub some_none : {A : Type 0} (x : A) → Some x ≡ None → ⊥
some_none x e = cc

pub some_same : {A : Type 0} (x y : A) → Some x ≡ Some y → x ≡ y
some_same x y e = cc

none_unless : {A : Type 0} (o : Option A) → ((x : A) → o ≡ Some x → ⊥) → o ≡ None
none_unless None n = refl
none_unless (Some x) n = absurd (n x refl)

-- no slot is of the field of one before it
abbrev pub AreApart : List Slot → Type 0
AreApart [] = Unit {0}
AreApart (x ∷ xs) = (slot_value xs x.field ≡ None) × AreApart xs

-- ---- lists with the same numbers

none_same : (xs ys : List Slot) (f : ℕ) → numbers xs ≡ numbers ys → slot_value ys f ≡ None → slot_value xs f ≡ None
none_same [] ys f e n = refl
none_same (x ∷ xs) [] f e n = let no : ⊥ = cc in absurd no
none_same (x ∷ xs) (y ∷ ys) f e n =
    let same : x.field ≡ y.field = heads x.field y.field (numbers xs) (numbers ys) e in
    ⊎_elim
    (λ here. absurd (some_none y.content (rw (eq-eqb y.field f here) at n)))
    (λ past. rw (ne_eqb x.field f (λ i. past (sym same ∙ i))) (none_same xs ys f (tails x.field y.field (numbers xs) (numbers ys) e) (rw (ne_eqb y.field f past) at n)))
    (cases_eq y.field f)

apart_same : (xs ys : List Slot) → numbers xs ≡ numbers ys → AreApart ys → AreApart xs
apart_same [] ys e a = tt
apart_same (x ∷ xs) [] e a = let no : ⊥ = cc in absurd no
apart_same (x ∷ xs) (y ∷ ys) e a =
    let same : x.field ≡ y.field = heads x.field y.field (numbers xs) (numbers ys) e in
    let rest : numbers xs ≡ numbers ys = tails x.field y.field (numbers xs) (numbers ys) e in
    (none_same xs ys x.field rest (subst (λ f. slot_value ys f ≡ None) (sym same) a.0), apart_same xs ys rest a.1)

-- ---- two lists, one after the other

slot_either : (xs ys : List Slot) (f : ℕ) (v : Value) → slot_value (xs ++ ys) f ≡ Some v → (slot_value xs f ≡ Some v) ⊎ (slot_value ys f ≡ Some v)
slot_either [] ys f v e = inr e
slot_either (x ∷ xs) ys f v e =
    ⊎_elim
    (λ here. inl (rw (eq-eqb x.field f here) (rw (eq-eqb x.field f here) at e)))
    (λ past. ⊎_elim (λ a. inl (rw (ne_eqb x.field f past) a)) inr (slot_either xs ys f v (rw (ne_eqb x.field f past) at e)))
    (cases_eq x.field f)

none_both : (xs ys : List Slot) (f : ℕ) → slot_value xs f ≡ None → slot_value ys f ≡ None → slot_value (xs ++ ys) f ≡ None
none_both [] ys f a b = b
none_both (x ∷ xs) ys f a b =
    ⊎_elim
    (λ here. absurd (some_none x.content (rw (eq-eqb x.field f here) at a)))
    (λ past. rw (ne_eqb x.field f past) (none_both xs ys f (rw (ne_eqb x.field f past) at a) b))
    (cases_eq x.field f)

apart_both : (xs ys : List Slot) → AreApart xs → AreApart ys → ((f : ℕ) (v : Value) → slot_value xs f ≡ Some v → slot_value ys f ≡ None) → AreApart (xs ++ ys)
apart_both [] ys a b n = b
apart_both (x ∷ xs) ys a b n = (
  none_both xs ys x.field a.0 (n x.field x.content (rw (eq-eqb x.field x.field refl) refl)),
  apart_both xs ys a.1 b (λ f v e. ⊎_elim (λ here. n f x.content (rw (eq-eqb x.field f here) refl)) (λ past. n f v (rw (ne_eqb x.field f past) e)) (cases_eq x.field f)),
)

-- ---- the fields that one class declares

slot_of : (t n : ℕ) (ds : List DeclaredField) (f : ℕ) (v : Value) → slot_value (slots_from t n ds) f ≡ Some v → (k : ℕ) × (f ≡ n + k) × ((d : DeclaredField) × (slice_get ds k ≡ Some d) × (d.class ≡ t))
slot_of t n [] f v e = absurd (let no : ⊥ = cc in no)
slot_of t n (d ∷ ds) f v e =
    ⊎_elim
    (λ it. ⊎_elim
    (λ here. (0, omega (arith, here), (d, refl, it)))
    (λ past. let r = slot_of t (n + 1) ds f v (rw (eq-eqb d.class t it, ne_eqb n f past) at e) in let l = r.1 in (suc r.0, omega (arith, l), r.2))
    (cases_eq n f))
    (λ other. let r = slot_of t (n + 1) ds f v (rw (ne_eqb d.class t other) at e) in let l = r.1 in (suc r.0, omega (arith, l), r.2))
    (cases_eq d.class t)

early : (t n : ℕ) (ds : List DeclaredField) (f : ℕ) → f < n → slot_value (slots_from t n ds) f ≡ None
early t n [] f l = refl
early t n (d ∷ ds) f l =
    ⊎_elim
    (λ it. rw (eq-eqb d.class t it, ne_eqb n f (λ e. omega (arith, e, l))) (early t (n + 1) ds f (omega (arith, l))))
    (λ other. rw (ne_eqb d.class t other) (early t (n + 1) ds f (omega (arith, l))))
    (cases_eq d.class t)

own_apart : (t n : ℕ) (ds : List DeclaredField) → AreApart (slots_from t n ds)
own_apart t n [] = tt
own_apart t n (d ∷ ds) =
    ⊎_elim
    (λ it. rw (eq-eqb d.class t it) (early t (n + 1) ds n (omega arith), own_apart t (n + 1) ds))
    (λ other. rw (ne_eqb d.class t other) (own_apart t (n + 1) ds))
    (cases_eq d.class t)

own_class : (cs : List ClassTree) (t f : ℕ) (v : Value) → slot_value (slots_from t 0 (all_fields cs)) f ≡ Some v → field_class cs f ≡ t
own_class cs t f v e =
    let r = slot_of t 0 (all_fields cs) f v e in
    let l = r.1 in
    let k : r.0 ≡ f = omega (arith, l) in
    ap class_of_field (subst (λ i. slice_get (all_fields cs) i ≡ Some r.2.0) k r.2.1) ∙ r.2.2

object_fields : (cs : List ClassTree) → new_fields cs 0 ≡ slots_from 0 0 (all_fields cs)
object_fields cs =
    let F : ℕ → List Slot = λ t. slots_from t 0 (all_fields cs) in
    ap (λ ls. flat_map F (reverse ls)) (levels_object cs) ∙ append-nil (F 0)

-- ---- those of a class and of the classes above it

module _ (cs : List ClassTree) (chain : IsChain cs) where
  abbrev AreOfClass : ℕ → Type 0
  AreOfClass c = AreApart (new_fields cs c) × ((f : ℕ) (v : Value) → slot_value (new_fields cs c) f ≡ Some v → below cs c (field_class cs f) ≡ true)

  of_object : AreOfClass 0
  of_object = (
    subst AreApart (sym (object_fields cs)) (own_apart 0 0 (all_fields cs)),
    λ f v e. subst (λ t. below cs 0 t ≡ true) (sym (own_class cs 0 f v (subst (λ xs. slot_value xs f ≡ Some v) (object_fields cs) e))) (below_self cs 0),
  )

  of_next : (c : ℕ) → c ≢ 0 → AreOfClass (above cs c) → AreOfClass c
  of_next c nz up =
      let higher : List Slot = new_fields cs (above cs c) in
      let own : List Slot = slots_from c 0 (all_fields cs) in
      let both : new_fields cs c ≡ higher ++ own = new_fields-above cs chain c nz in (
        subst AreApart (sym both) (apart_both higher own up.0 (own_apart c 0 (all_fields cs)) (λ f v e. none_unless (slot_value own f) (λ w i.
            false≢true (sym (below_acyclic cs chain c nz) ∙ subst (λ t. below cs (above cs c) t ≡ true) (own_class cs c f w i) (up.1 f v e))))),
        λ f v e. below_up cs chain c (field_class cs f) nz ∙ ⊎_elim
            (λ a. or_right (eqb c (field_class cs f)) (below cs (above cs c) (field_class cs f)) (up.1 f v a))
            (λ b. or_left (eqb c (field_class cs f)) (below cs (above cs c) (field_class cs f)) (eq-eqb c (field_class cs f) (sym (own_class cs c f v b))))
            (slot_either higher own f v (subst (λ xs. slot_value xs f ≡ Some v) both e)),
      )

  of_class : (c : ℕ) → AreOfClass c
  of_class c = induct_up cs chain (λ t. AreOfClass t) of_object of_next c

  pub fields_apart : (xs : List Slot) (c : ℕ) → numbers xs ≡ numbers (new_fields cs c) → AreApart xs
  fields_apart xs c e = apart_same xs (new_fields cs c) e (of_class c).0

  -- an object has no fields but those that its class and the classes above it declare
  pub field_of_class : (xs : List Slot) (c f : ℕ) (v : Value) → numbers xs ≡ numbers (new_fields cs c) → slot_value xs f ≡ Some v → below cs c (field_class cs f) ≡ true
  field_of_class xs c f v e is = look (slot_value (new_fields cs c) f) refl
    where
      look : (o : Option Value) → slot_value (new_fields cs c) f ≡ o → below cs c (field_class cs f) ≡ true
      look None n = absurd (some_none v (sym is ∙ none_same xs (new_fields cs c) f e n))
      look (Some w) i = (of_class c).1 f w i
