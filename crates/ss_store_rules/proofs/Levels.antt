-- The class that declares a field of an object is a level of the object's class.
use Rattle.std.proofs.Common.{◌≡◌, ℕ, zero, suc, ◌+◌, ◌<◌, List, [], ◌∷◌, ◌++◌, Bool, true, ◌||◌, Some, sym, ◌∙◌, ap, subst, ⊎_elim, arith}
use Rattle.std.specs.Prelude.{slice_get, reverse, ◌==◌}
use Rattle.std.specs.List.{list_any, flat_map}
use Rattle.std.proofs.lemmas.Bool.{cases_Bool, eqb-true, eq-eqb, or_left, or_right, or_cases, false≢true}
use Rattle.std.proofs.lemmas.List.Folds.{list_any-append}
use Rattle.std.proofs.lemmas.List.Sorted.{list_any-IsPermutation, IsPermutation-reverse}
use Rattle.std.proofs.lemmas.List.{map-append}
use Rattle.ss_core.specs.Tree.{ClassTree}
use Rattle.ss_core.specs.Chain.{DeclaredField, all_fields, levels}
use Rattle.ss_store_rules.specs.declared.Value.{Value}
use Rattle.ss_store_rules.specs.Store.{Slot, Object, slot_value, field_value}
use Rattle.ss_store_rules.specs.Changes.{below, class_of_field, field_class, slots_from}
use Rattle.ss_store_rules.specs.Good.{numbers, AreValues}

-- there is a slot of the field
abbrev has : ℕ → List Slot → Bool
has f xs = list_any (λ n. n == f) (numbers xs)

has_read : (xs : List Slot) (f : ℕ) (v : Value) → slot_value xs f ≡ Some v → has f xs ≡ true
has_read [] f v e = absurd (cc)
has_read (x ∷ xs) f v e =
    ⊎_elim
    (λ yes. or_left (x.field == f) (has f xs) yes)
    (λ no. or_right (x.field == f) (has f xs) (has_read xs f v (rw no at e)))
    (cases_Bool (x.field == f))

-- slots from n on have no number below n
has_below : (t n m : ℕ) (ds : List DeclaredField) → m < n → has m (slots_from t n ds) ≡ true → ⊥
has_below t n m [] l h = false≢true h
has_below t n m (d ∷ ds) l h =
    ⊎_elim
    (λ yes. ⊎_elim
    (λ e. let same = eqb-true n m e in omega arith)
    (λ r. has_below t (n + 1) m ds (omega arith) r)
    (or_cases (n == m) (has m (slots_from t (n + 1) ds)) (rw yes at h)))
    (λ no. has_below t (n + 1) m ds (omega arith) (rw no at h))
    (cases_Bool (d.class == t))

-- a slot that t adds is of a field that t declares
has_slot : (t n k m : ℕ) (ds : List DeclaredField) → m ≡ n + k → has m (slots_from t n ds) ≡ true → class_of_field (slice_get ds k) ≡ t
has_slot t n k m [] e h = absurd (false≢true h)
has_slot t n zero m (d ∷ ds) e h =
    ⊎_elim
    (λ yes. eqb-true d.class t yes)
    (λ no. absurd (has_below t (n + 1) m ds (omega arith) (rw no at h)))
    (cases_Bool (d.class == t))
has_slot t n (suc k) m (d ∷ ds) e h =
    ⊎_elim
    (λ yes. ⊎_elim
    (λ first. let same = eqb-true n m first in absurd (omega arith))
    (λ r. has_slot t (n + 1) k m ds (omega arith) r)
    (or_cases (n == m) (has m (slots_from t (n + 1) ds)) (rw yes at h)))
    (λ no. has_slot t (n + 1) k m ds (omega arith) (rw no at h))
    (cases_Bool (d.class == t))

has_append : (f : ℕ) (xs ys : List Slot) → has f (xs ++ ys) ≡ (has f xs || has f ys)
has_append f xs ys = ap (λ ns. list_any (λ n. n == f) ns) (map-append (λ (x : Slot). x.field) xs ys) ∙ list_any-append (λ n. n == f) (numbers xs) (numbers ys)

has_level : (f : ℕ) (ds : List DeclaredField) (ls : List ℕ) → has f (flat_map (λ t. slots_from t 0 ds) ls) ≡ true → list_any (λ l. l == class_of_field (slice_get ds f)) ls ≡ true
has_level f ds [] h = absurd (false≢true h)
has_level f ds (t ∷ ts) h =
    ⊎_elim
    (λ first. or_left _ _ (eq-eqb t (class_of_field (slice_get ds f)) (sym (has_slot t 0 f f ds (omega arith) first))))
    (λ r. or_right _ _ (has_level f ds ts r))
    (or_cases (has f (slots_from t 0 ds)) (has f (flat_map (λ t. slots_from t 0 ds) ts)) (sym (has_append f (slots_from t 0 ds) (flat_map (λ t. slots_from t 0 ds) ts)) ∙ h))

pub declared_at_level : (cs : List ClassTree) (s : List Object) (x : Object) (f : ℕ) (v : Value) → AreValues cs s x → field_value x f ≡ Some v → below cs x.class (field_class cs f) ≡ true
unfolding below
declared_at_level cs s x f v a e =
    let here = has_level f (all_fields cs) (reverse (levels cs x.class)) (subst (λ ns. list_any (λ n. n == f) ns ≡ true) a.slots (has_read x.fields f v e)) in
    list_any-IsPermutation (λ l. l == field_class cs f) (levels cs x.class) (reverse (levels cs x.class)) (IsPermutation-reverse (levels cs x.class)) ∙ here
