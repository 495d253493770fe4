-- The fields and elements of new objects.
use Rattle.std.proofs.Common.{◌≡◌, ◌≢◌, ℕ, zero, suc, ◌+◌, ◌%◌, ◌<◌, ◌≤◌, List, [], ◌∷◌, ◌++◌, replicate, Bool, true, not, Some, eqb, refl, sym, ◌∙◌, ap, subst, arith, inl, inr, ◌⊎◌, ⊎_elim}
use Rattle.std.specs.Prelude.{slice_get, flat_map}
use Rattle.std.specs.List.{list_all}
use Rattle.std.proofs.lemmas.Bool.{cases_eq, eq-eqb, ne_eqb, false≢true}
use Rattle.std.proofs.lemmas.List.Folds.{list_all-append}
use Rattle.ss_core.specs.declared.names.Ty.{Ty}
use Rattle.ss_core.specs.declared.names.Ty.TheVariants as ty
use Rattle.ss_core.specs.Tree.{ClassTree, FieldTree}
use Rattle.ss_core.specs.Chain.{levels, most_levels, DeclaredField, fields_of_class, fields_from, all_fields}
use Rattle.ss_store_rules.specs.declared.Value.{Value}
use Rattle.ss_store_rules.specs.declared.Value.TheVariants as value
use Rattle.ss_store_rules.specs.Store.{Slot, Object, slot_value, default_value}
use Rattle.ss_store_rules.specs.Changes.{is_array, field_type, type_of_field, slots_from, new_fields}
use Rattle.ss_store_rules.specs.Good.{has_type, IsReady}
use Rattle.ss_store_rules.proofs.Arrays.{array_odd, above_array}

-- ---- defaults

pub default_typed : (cs : List ClassTree) (s : List Object) (t : Ty) → has_type cs s t (default_value t) ≡ true
default_typed cs s ty.Int = refl
default_typed cs s ty.Bool = refl
default_typed cs s ty.Null = refl
default_typed cs s (ty.Ref t n) = refl

-- a default refers to nothing
pub default_apart : (t : Ty) (o : ℕ) → default_value t ≡ value.Obj o → ⊥
default_apart ty.Int o e = cc
default_apart ty.Bool o e = cc
default_apart ty.Null o e = cc
default_apart (ty.Ref t n) o e = cc

pub default_ready : (s : List Object) (t : Ty) (v : Value) → v ≡ default_value t → IsReady s v
default_ready s t v e o x is ex = absurd (default_apart t o (sym e ∙ is))

pub element_default : (n : ℕ) (d : Value) (i : ℕ) (v : Value) → slice_get (replicate n d) i ≡ Some v → v ≡ d
element_default zero d i v e = cc
element_default (suc n) d zero v e = cc
element_default (suc n) d (suc i) v e = element_default n d i v e

-- ---- the fields of a new object have their defaults

slot_either : (xs ys : List Slot) (f : ℕ) (v : Value) → slot_value (xs ++ ys) f ≡ Some v → (slot_value xs f ≡ Some v) ⊎ (slot_value ys f ≡ Some v)
slot_either [] ys f v e = inr e
slot_either (x ∷ xs) ys f v e =
    ⊎_elim
    (λ here. inl (rw (eq-eqb x.field f here) (rw (eq-eqb x.field f here) at e)))
    (λ past. ⊎_elim (λ a. inl (rw (ne_eqb x.field f past) a)) inr (slot_either xs ys f v (rw (ne_eqb x.field f past) at e)))
    (cases_eq x.field f)

-- a slot is that of one of the fields
slot_field : (t n : ℕ) (ds : List DeclaredField) (f : ℕ) (v : Value) → slot_value (slots_from t n ds) f ≡ Some v →
    (k : ℕ) × (f ≡ n + k) × ((d : DeclaredField) × (slice_get ds k ≡ Some d) × (v ≡ default_value d.field.ty))
slot_field t n [] f v e = cc
slot_field t n (d ∷ ds) f v e =
    ⊎_elim
    (λ it. ⊎_elim
    (λ here. let e' : Some (default_value d.field.ty) ≡ Some v = rw (eq-eqb d.class t it, eq-eqb n f here) at e in (0, omega (arith, here), (d, refl, cc)))
    (λ past. let r = slot_field t (n + 1) ds f v (rw (eq-eqb d.class t it, ne_eqb n f past) at e) in let l = r.1 in (suc r.0, omega (arith, l), r.2))
    (cases_eq n f))
    (λ other. let r = slot_field t (n + 1) ds f v (rw (ne_eqb d.class t other) at e) in let l = r.1 in (suc r.0, omega (arith, l), r.2))
    (cases_eq d.class t)

pub field_default : (cs : List ClassTree) (ts : List ℕ) (f : ℕ) (v : Value) → slot_value (flat_map (λ t. slots_from t 0 (all_fields cs)) ts) f ≡ Some v → v ≡ default_value (field_type cs f)
field_default cs [] f v e = cc
field_default cs (t ∷ ts) f v e =
    ⊎_elim
    (λ here. let r = slot_field t 0 (all_fields cs) f v here in
    let l = r.1 in
    let k : r.0 ≡ f = omega (arith, l) in
    r.2.2 ∙ ap (λ o. default_value (type_of_field o)) (sym (subst (λ i. slice_get (all_fields cs) i ≡ Some r.2.0) k r.2.1)))
    (λ rest. field_default cs ts f v rest)
    (slot_either (slots_from t 0 (all_fields cs)) (flat_map (λ t. slots_from t 0 (all_fields cs)) ts) f v e)

-- ---- an array has no fields

-- the class declares none of the fields
declares_none : ℕ → DeclaredField → Bool
declares_none t d = not (eqb d.class t)

no_slots : (t n : ℕ) (ds : List DeclaredField) → list_all (declares_none t) ds ≡ true → slots_from t n ds ≡ []
unfolding declares_none
no_slots t n [] h = refl
no_slots t n (d ∷ ds) h =
    ⊎_elim
    (λ it. absurd (false≢true (rw (eq-eqb d.class t it) at h)))
    (λ other. rw (ne_eqb d.class t other) (no_slots t (n + 1) ds (rw (ne_eqb d.class t other) at h)))
    (cases_eq d.class t)

none_of_class : (t u : ℕ) (fs : List FieldTree) → u ≢ t → list_all (declares_none t) (fields_of_class u fs) ≡ true
unfolding declares_none
none_of_class t u [] h = refl
none_of_class t u (f ∷ fs) h = rw (ne_eqb u t h) (none_of_class t u fs h)

none_from : (t u : ℕ) (cs : List ClassTree) → 4 ≤ u → u % 2 ≡ 0 → (t < 4) ⊎ (t % 2 ≡ 1) → list_all (declares_none t) (fields_from u cs) ≡ true
none_from t u [] low even is = refl
none_from t u (c ∷ cs) low even is =
    let apart : u ≢ t = λ e. ⊎_elim (λ l. omega (arith, low, l, e)) (λ odd. let odd' : u % 2 ≡ 1 = rw e odd in omega (arith, even, odd')) is in
    rw (list_all-append (declares_none t) (fields_of_class u c.fields) (fields_from (u + 2) cs), none_of_class t u c.fields apart)
    (none_from t (u + 2) cs (omega (arith, low)) (omega (arith, even)) is)

pub no_fields : (cs : List ClassTree) (t : ℕ) → is_array cs t ≡ true → new_fields cs t ≡ []
unfolding levels most_levels
no_fields cs t a =
    let nz : t ≢ 0 = λ z. false≢true (subst (λ n. is_array cs n ≡ true) z a) in
    rw (ne_eqb t 0 nz, above_array cs t a, no_slots t 0 (all_fields cs) (none_from t 4 cs (omega arith) refl (array_odd cs t a)), no_slots 0 0 (all_fields cs) (none_from 0 4 cs (omega arith) refl (inl (omega arith)))) refl
