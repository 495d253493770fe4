-- An object of a class has a value in each field that its class and those above it declare.
use Rattle.std.proofs.Common.{◌≡◌, ℕ, zero, suc, ◌+◌, List, [], ◌∷◌, ◌++◌, Bool, true, ◌||◌, ◌&&◌, Option, Some, None, eqb, refl, sym, ◌∙◌, ap, subst, arith, ⊎_elim}
use Rattle.std.specs.Prelude.{slice_get, is_some}
use Rattle.std.specs.List.{list_any, list_all}
use Rattle.std.proofs.lemmas.Bool.{cases_eq, eq-eqb, ne_eqb, or_cases, or_left, or_right, false≢true, and_parts}
use Rattle.std.proofs.lemmas.List.Folds.{list_any-append}
use Rattle.ss_core.specs.Tree.{ClassTree}
use Rattle.ss_core.specs.Chain.{is_declared, declared, above, above_of, below, is_class, is_superclass, has_numbers, DeclaredField, all_fields, IsChain}
use Rattle.ss_core.proofs.Chains.{below_up, induct_up, object_below}
use Rattle.ss_core.proofs.Fields.{field_declared}
use Rattle.ss_core.proofs.Declared.{is_declared-declared, declared_place}
use Rattle.ss_store_rules.specs.declared.Value.{Value}
use Rattle.ss_store_rules.specs.Store.{Slot, Object, slot_value, field_value}
use Rattle.ss_store_rules.specs.Changes.{is_array, slots_from, new_fields}
use Rattle.ss_store_rules.specs.Good.{numbers, AreValues}
use Rattle.ss_store_rules.proofs.FieldPlaces.{new_fields-above}
use Rattle.ss_store_rules.proofs.Arrays.{below_array, declared_not_object, not_both}

is_number : ℕ → ℕ → Bool
is_number f n = eqb n f

-- a slot of the field has a value
valued : (xs : List Slot) (f : ℕ) → list_any (is_number f) (numbers xs) ≡ true → (v : Value) × (slot_value xs f ≡ Some v)
unfolding is_number
valued [] f h = absurd (false≢true h)
valued (x ∷ xs) f h =
    ⊎_elim
    (λ here. (x.content, rw (eq-eqb x.field f here) refl))
    (λ past. let r = valued xs f (rw (ne_eqb x.field f past) at h) in (r.0, rw (ne_eqb x.field f past) r.1))
    (cases_eq x.field f)

numbers-append : (xs ys : List Slot) → numbers (xs ++ ys) ≡ numbers xs ++ numbers ys
numbers-append [] ys = refl
numbers-append (x ∷ xs) ys = ap (λ ns. x.field ∷ ns) (numbers-append xs ys)

-- the class that declares a field has a slot for it
declares_slot : (t n : ℕ) (ds : List DeclaredField) (k : ℕ) (d : DeclaredField) → slice_get ds k ≡ Some d → d.class ≡ t → list_any (is_number (n + k)) (numbers (slots_from t n ds)) ≡ true
unfolding is_number
declares_slot t n [] k d e is = absurd (let x : ⊥ = cc in x)
declares_slot t n (y ∷ ds) zero d e is =
    let yd : y ≡ d = cc in
    let same : y.class ≡ t = ap (λ (z : DeclaredField). z.class) yd ∙ is in
    let here : n ≡ n + 0 = omega arith in
    rw (eq-eqb y.class t same, eq-eqb n (n + 0) here) refl
declares_slot t n (y ∷ ds) (suc k) d e is =
    let on : n + suc k ≡ n + 1 + k = omega arith in
    let rest : list_any (is_number (n + suc k)) (numbers (slots_from t (n + 1) ds)) ≡ true = rw on (declares_slot t (n + 1) ds k d e is) in
    ⊎_elim
    (λ it. rw (eq-eqb y.class t it) (or_right (eqb n (n + suc k)) _ rest))
    (λ other. rw (ne_eqb y.class t other) rest)
    (cases_eq y.class t)

has_slot : (cs : List ClassTree) → IsChain cs → (f : ℕ) (d : DeclaredField) → slice_get (all_fields cs) f ≡ Some d → (c : ℕ) → below cs c d.class ≡ true → list_any (is_number f) (numbers (new_fields cs c)) ≡ true
has_slot cs chain f d e = induct_up cs chain (λ c. below cs c d.class ≡ true → list_any (is_number f) (numbers (new_fields cs c)) ≡ true)
    (λ b. absurd (declared_not_object cs d.class (is_declared-declared cs d.class ∙ ap is_some (field_declared cs f d e).is_class) (object_below cs d.class b)))
    (λ c nz up b.
    let split = ap (λ xs. list_any (is_number f) (numbers xs)) (new_fields-above cs chain c nz)
    ∙ ap (list_any (is_number f)) (numbers-append (new_fields cs (above cs c)) (slots_from c 0 (all_fields cs)))
    ∙ list_any-append (is_number f) (numbers (new_fields cs (above cs c))) (numbers (slots_from c 0 (all_fields cs))) in
    split ∙ ⊎_elim
    (λ own. or_right _ _ (let zero_f : 0 + f ≡ f = omega arith in subst (λ n. list_any (is_number n) (numbers (slots_from c 0 (all_fields cs))) ≡ true) zero_f (declares_slot c 0 (all_fields cs) f d e (sym (own_class c d.class own)))))
    (λ higher. or_left _ _ (up higher))
    (or_cases (eqb c d.class) (below cs (above cs c) d.class) (sym (below_up cs chain c d.class nz) ∙ b)))
  where
    own_class : (c t : ℕ) → eqb c t ≡ true → c ≡ t
    own_class c t h = ⊎_elim (λ is. is) (λ no. absurd (false≢true (sym (ne_eqb c t no) ∙ h))) (cases_eq c t)

-- an object has a value in each field of its class
pub has_field : (cs : List ClassTree) → IsChain cs → (s : List Object) (x : Object) → AreValues cs s x → (f : ℕ) (d : DeclaredField) → slice_get (all_fields cs) f ≡ Some d → below cs x.class d.class ≡ true →
    (v : Value) × (field_value x f ≡ Some v)
has_field cs chain s x are f d e b = valued x.fields f (ap (list_any (is_number f)) are.slots ∙ has_slot cs chain f d e x.class b)

-- ---- arrays

-- what all elements are, each is
pub all_at : {X : Type 0} (p : X → Bool) (xs : List X) (k : ℕ) (x : X) → list_all p xs ≡ true → slice_get xs k ≡ Some x → p x ≡ true
all_at p [] k x h e = absurd (let no : ⊥ = cc in no)
all_at p (y ∷ xs) zero x h e = let is : y ≡ x = cc in subst (λ z. p z ≡ true) is (and_parts (p y) (list_all p xs) h).0
all_at p (y ∷ xs) (suc k) x h e = all_at p xs k x (and_parts (p y) (list_all p xs) h).1 e

-- above a declared class stand declared ones and `object`
above_some : (cs : List ClassTree) → IsChain cs → (c : ℕ) (o : Option ClassTree) → declared cs c ≡ o → is_some o ≡ true → is_superclass cs (above_of o) ≡ true
above_some cs chain c None e h = absurd (false≢true h)
above_some cs chain c (Some y) e h =
    let at = declared_place cs c y e in
    let has = all_at (has_numbers cs) cs at.0 y chain.numbers at.2 in
    (and_parts (is_superclass cs y.above) _ (and_parts (is_superclass cs y.above && list_all (is_class cs) y.also) _ has).0).0

above_superclass : (cs : List ClassTree) → IsChain cs → (c : ℕ) → is_declared cs c ≡ true → is_superclass cs (above cs c) ≡ true
above_superclass cs chain c h = above_some cs chain c (declared cs c) refl (sym (is_declared-declared cs c) ∙ h)

superclass_up : (cs : List ClassTree) → IsChain cs → (t c : ℕ) → is_superclass cs c ≡ true → below cs c t ≡ true → is_superclass cs t ≡ true
superclass_up cs chain t = induct_up cs chain (λ c. is_superclass cs c ≡ true → below cs c t ≡ true → is_superclass cs t ≡ true)
    (λ is b. rw (object_below cs t b) refl)
    (λ c nz up is b. ⊎_elim
    (λ own. subst (λ n. is_superclass cs n ≡ true) (same c t own) is)
    (λ higher. up (above_superclass cs chain c (⊎_elim (λ z. absurd (nz (same c 0 z))) (λ d. d) (or_cases (eqb c 0) (is_declared cs c) is))) higher)
    (or_cases (eqb c t) (below cs (above cs c) t) (sym (below_up cs chain c t nz) ∙ b)))
  where
    same : (a b : ℕ) → eqb a b ≡ true → a ≡ b
    same a b h = ⊎_elim (λ is. is) (λ no. absurd (false≢true (sym (ne_eqb a b no) ∙ h))) (cases_eq a b)

-- what is of an array's class has that class
pub of_array : (cs : List ClassTree) → IsChain cs → (c t : ℕ) → (is_declared cs c || is_array cs c) ≡ true → is_array cs t ≡ true → below cs c t ≡ true → c ≡ t
of_array cs chain c t has array b =
    ⊎_elim
    (λ declared. ⊎_elim
    (λ z. absurd (false≢true (subst (λ n. is_array cs n ≡ true) (zero_is z) array)))
    (λ d. absurd (not_both cs t d array))
    (or_cases (eqb t 0) (is_declared cs t) (superclass_up cs chain t c (or_right (eqb c 0) _ declared) b)))
    (λ it. ⊎_elim
    (λ same. sym same)
    (λ z. absurd (false≢true (subst (λ n. is_array cs n ≡ true) z array)))
    (below_array cs chain c t it b))
    (or_cases (is_declared cs c) (is_array cs c) has)
  where
    zero_is : {n : ℕ} → eqb n 0 ≡ true → n ≡ 0
    zero_is {n} h = ⊎_elim (λ is. is) (λ no. absurd (false≢true (sym (ne_eqb n 0 no) ∙ h))) (cases_eq n 0)
