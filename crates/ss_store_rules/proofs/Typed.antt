-- The values of objects after a change.
use Rattle.std.proofs.Common.{◌≡◌, ℕ, zero, suc, List, [], ◌∷◌, ◌++◌, true, false, Option, Some, None, set, refl, sym, ◌∙◌, ap, subst, inl, inr, ◌⊎◌, ⊎_elim}
use Rattle.std.specs.Prelude.{option_map, slice_get}
use Rattle.std.proofs.lemmas.Bool.{cases_eq, eq-eqb, ne_eqb, false≢true}
use Rattle.ss_core.specs.declared.names.Ty.{Ty}
use Rattle.ss_core.specs.declared.names.Ty.TheVariants as ty
use Rattle.ss_core.specs.Tree.{ClassTree}
use Rattle.ss_core.specs.Chain.{sub}
use Rattle.ss_store_rules.specs.declared.Value.{Value}
use Rattle.ss_store_rules.specs.declared.Value.TheVariants as value
use Rattle.ss_store_rules.specs.Store.{Slot, Object, slot_value, field_value}
use Rattle.ss_store_rules.specs.Changes.{changed, element_type, field_type, with_field}
use Rattle.ss_store_rules.specs.Good.{is_of_class, has_type, is_non_null, IsReady, numbers, AreValues}
use Rattle.ss_store_rules.proofs.Objects.{get-changed, was, old_get}

-- ---- types and readiness in a changed store

-- a change that leaves classes
abbrev pub KeepsClass : (ℕ → Object → Object) → Type 0
KeepsClass f = (q : ℕ) (x : Object) → (f q x).class ≡ x.class

is_of_class-map : (cs : List ClassTree) (f : ℕ → Object → Object) → KeepsClass f → (t q : ℕ) (o : Option Object) → is_of_class cs t (option_map (f q) o) ≡ is_of_class cs t o
is_of_class-map cs f h t q None = refl
is_of_class-map cs f h t q (Some x) = ap (λ c. sub cs c t) (h q x)

pub has_type-changed : (cs : List ClassTree) (f : ℕ → Object → Object) → KeepsClass f → (s : List Object) (t : Ty) (v : Value) → has_type cs (changed f s) t v ≡ has_type cs s t v
has_type-changed cs f h s ty.Int v = elim v as (λ v. has_type cs (changed f s) ty.Int v ≡ has_type cs s ty.Int v) [ value.Int n ↦ refl | value.Bool b ↦ refl | value.Obj o ↦ refl | value.Null ↦ refl ]
has_type-changed cs f h s ty.Bool v = elim v as (λ v. has_type cs (changed f s) ty.Bool v ≡ has_type cs s ty.Bool v) [ value.Int n ↦ refl | value.Bool b ↦ refl | value.Obj o ↦ refl | value.Null ↦ refl ]
has_type-changed cs f h s ty.Null v = elim v as (λ v. has_type cs (changed f s) ty.Null v ≡ has_type cs s ty.Null v) [ value.Int n ↦ refl | value.Bool b ↦ refl | value.Obj o ↦ refl | value.Null ↦ refl ]
has_type-changed cs f h s (ty.Ref t n) (value.Int i) = refl
has_type-changed cs f h s (ty.Ref t n) (value.Bool b) = refl
has_type-changed cs f h s (ty.Ref t n) value.Null = refl
has_type-changed cs f h s (ty.Ref t n) (value.Obj o) = ap (is_of_class cs t.0) (get-changed f s o) ∙ is_of_class-map cs f h t.0 o (slice_get s o)

-- a change that takes readiness from no object
abbrev pub KeepsReady : (ℕ → Object → Object) → Type 0
KeepsReady f = (q : ℕ) (x : Object) → x.ready ≡ true → (f q x).ready ≡ true

pub IsReady-changed : (f : ℕ → Object → Object) → KeepsReady f → (s : List Object) (v : Value) → IsReady s v → IsReady (changed f s) v
IsReady-changed f h s v ready o x' is e = let w = was f s o x' e in subst (λ y. y.ready ≡ true) w.2 (h o w.0 (ready o w.0 is w.1))

-- an object after a change of the store that leaves its class and its values
pub AreValues-changed : (cs : List ClassTree) (f : ℕ → Object → Object) → KeepsClass f → KeepsReady f → (s : List Object) (x y : Object) → x.class ≡ y.class → x.fields ≡ y.fields → x.elements ≡ y.elements →
    (y.ready ≡ true → (g : ℕ) → field_value y g ≡ Some value.Null → is_non_null (field_type cs g) ≡ false) → AreValues cs s x → AreValues cs (changed f s) y
AreValues-changed cs f kc kr s x y class fields elements non_null are = record {
  class = rw (← class) are.class;
  slots = rw (← class, ← fields) are.slots;
  plain = rw (← class, ← elements) are.plain;
  short = rw (← elements) are.short;
  fields = λ g v e. has_type-changed cs f kc s (field_type cs g) v ∙ are.fields g v (ap (λ z. slot_value z g) fields ∙ e);
  elements = λ i v e. has_type-changed cs f kc s (element_type y.class) v ∙ ap (λ c. has_type cs s (element_type c) v) (sym class) ∙ are.elements i v (ap (λ z. slice_get z i) elements ∙ e);
  non_null = non_null;
  ready_fields = λ g v e. IsReady-changed f kr s v (are.ready_fields g v (ap (λ z. slot_value z g) fields ∙ e));
  ready_elements = λ i v e. IsReady-changed f kr s v (are.ready_elements i v (ap (λ z. slice_get z i) elements ∙ e));
}

-- ---- a written field

pub numbers-with_field : (xs : List Slot) (f : ℕ) (v : Value) → numbers (with_field xs f v) ≡ numbers xs
numbers-with_field [] f v = refl
numbers-with_field (x ∷ xs) f v = ap (λ ns. x.field ∷ ns) (numbers-with_field xs f v)

-- a field has its value of before, or it is the written one
pub value_with_field : (xs : List Slot) (f : ℕ) (v : Value) (g : ℕ) → (slot_value (with_field xs f v) g ≡ slot_value xs g) ⊎ ((g ≡ f) × ((u : Value) → slot_value (with_field xs f v) g ≡ Some u → u ≡ v))
value_with_field [] f v g = inl refl
value_with_field (x ∷ xs) f v g =
    ⊎_elim
    (λ here. ⊎_elim
    (λ it. inr (sym here ∙ it, λ u e. let e' : Some v ≡ Some u = rw (eq-eqb x.field g here, eq-eqb x.field f it) at e in cc))
    (λ other. inl (rw (eq-eqb x.field g here, ne_eqb x.field f other) refl))
    (cases_eq x.field f))
    (λ past. ⊎_elim
    (λ old. inl (rw (ne_eqb x.field g past) old))
    (λ new. inr (new.0, λ u e. new.1 u (rw (ne_eqb x.field g past) at e)))
    (value_with_field xs f v g))
    (cases_eq x.field g)

-- ---- a written element

pub element_set : (xs : List Value) (i : ℕ) (v : Value) (j : ℕ) (u : Value) → slice_get (set xs i v) j ≡ Some u → (slice_get xs j ≡ Some u) ⊎ (v ≡ u)
element_set [] i v j u e = inl e
element_set (x ∷ xs) zero v zero u e = inr cc
element_set (x ∷ xs) zero v (suc j) u e = inl e
element_set (x ∷ xs) (suc i) v zero u e = inl e
element_set (x ∷ xs) (suc i) v (suc j) u e = element_set xs i v j u e

-- ---- one object more

is_of_class-pushed : (cs : List ClassTree) (s : List Object) (z : Object) (t q : ℕ) (o : Option Object) → slice_get s q ≡ o → is_of_class cs t o ≡ true → is_of_class cs t (slice_get (s ++ z ∷ []) q) ≡ true
is_of_class-pushed cs s z t q None e h = absurd (false≢true h)
is_of_class-pushed cs s z t q (Some x) e h = rw (old_get s z q x e) h

pub has_type-pushed : (cs : List ClassTree) (s : List Object) (z : Object) (t : Ty) (v : Value) → has_type cs s t v ≡ true → has_type cs (s ++ z ∷ []) t v ≡ true
has_type-pushed cs s z (ty.Ref t n) (value.Obj o) h = is_of_class-pushed cs s z t.0 o (slice_get s o) refl h
has_type-pushed cs s z (ty.Ref t n) (value.Int i) h = h
has_type-pushed cs s z (ty.Ref t n) (value.Bool b) h = h
has_type-pushed cs s z (ty.Ref t n) value.Null h = h
has_type-pushed cs s z ty.Int (value.Int i) h = h
has_type-pushed cs s z ty.Int (value.Bool b) h = h
has_type-pushed cs s z ty.Int (value.Obj o) h = h
has_type-pushed cs s z ty.Int value.Null h = h
has_type-pushed cs s z ty.Bool (value.Int i) h = h
has_type-pushed cs s z ty.Bool (value.Bool b) h = h
has_type-pushed cs s z ty.Bool (value.Obj o) h = h
has_type-pushed cs s z ty.Bool value.Null h = h
has_type-pushed cs s z ty.Null (value.Int i) h = h
has_type-pushed cs s z ty.Null (value.Bool b) h = h
has_type-pushed cs s z ty.Null (value.Obj o) h = h
has_type-pushed cs s z ty.Null value.Null h = h

some_of_class : (cs : List ClassTree) (t : ℕ) (o : Option Object) → is_of_class cs t o ≡ true → (x : Object) × (o ≡ Some x)
some_of_class cs t None h = absurd (false≢true h)
some_of_class cs t (Some x) h = (x, refl)

-- a reference of a type is allocated
pub allocated : (cs : List ClassTree) (s : List Object) (t : Ty) (o : ℕ) → has_type cs s t (value.Obj o) ≡ true → (x : Object) × (slice_get s o ≡ Some x)
allocated cs s ty.Int o h = absurd (false≢true h)
allocated cs s ty.Bool o h = absurd (false≢true h)
allocated cs s ty.Null o h = absurd (false≢true h)
allocated cs s (ty.Ref t n) o h = some_of_class cs t.0 (slice_get s o) h
