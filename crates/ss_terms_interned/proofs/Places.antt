-- Where a form stands in a list, as a hash index tells it.
use Rattle.std.proofs.Common.{◌≡◌, ℕ, zero, suc, List, [], ◌∷◌, ◌++◌, map, Bool, true, false, ◌||◌, Option, Some, None, cond, is_some, slice_get, get_or, position, refl, sym, ◌∙◌, ap, subst, ⊎_elim}
use Rattle.std.proofs.lemmas.Bool.{true≢false, false≢true, cases_Bool}
use Rattle.std.proofs.lemmas.Option.{slice_get-get_or, slice_get-map}
use Rattle.std.proofs.lemmas.List.Quantifiers.{position-Some}
use Rattle.std.specs.Bool.{Decides}
use Rattle.std.specs.List.{list_any}
use Rattle.std.specs.Map.{lookup, keys_of}
use Rattle.std.specs.Prelude.{if◌then◌else◌, option_map, IfSome}
use Rattle.indexmap.specs.IndexSet.{insert_key}
use Rattle.indexmap.specs.IndexMap.{insert_entry}

pub none_is : {A : Type 0} (o : Option A) → is_some o ≡ false → o ≡ None
none_is None h = refl
none_is (Some x) h = absurd (true≢false h)

or_false : (a b : Bool) → (a || b) ≡ false → (a ≡ false) × (b ≡ false)
or_false true b h = absurd (true≢false h)
or_false false b h = (refl, h)

-- what a search by this test finds
module _ {K : Type 0} (test : K → Bool) where
  pub found : (xs : List K) (i : ℕ) → position test xs ≡ Some i → (x : K) × (slice_get xs i ≡ Some x) × (test x ≡ true)
  found [] i e = cc
  found (x ∷ xs) i e =
      let p = position-Some test (x ∷ xs) i x e in
      (get_or (x ∷ xs) i x, slice_get-get_or (x ∷ xs) i x p.0, p.1)

  pub none_any : (xs : List K) → list_any test xs ≡ false → (k : ℕ) (x : K) → slice_get xs k ≡ Some x → test x ≡ false
  none_any [] h k x e = cc
  none_any (y ∷ xs) h zero x e = let same : y ≡ x = cc in subst (λ z. test z ≡ false) same (or_false (test y) (list_any test xs) h).0
  none_any (y ∷ xs) h (suc k) x e = none_any xs (or_false (test y) (list_any test xs) h).1 k x e

  pub any_none : (xs : List K) → ((k : ℕ) (x : K) → slice_get xs k ≡ Some x → test x ≡ false) → list_any test xs ≡ false
  any_none [] h = refl
  any_none (y ∷ xs) h = ap (λ b. b || list_any test xs) (h 0 y refl) ∙ any_none xs (λ k x e. h (suc k) x e)

  pub none_looked_up : {X : Type 0} (es : List (K × X)) → lookup test es ≡ None → (k : ℕ) (x : K) → slice_get (keys_of es) k ≡ Some x → test x ≡ false
  none_looked_up [] h k x e = cc
  none_looked_up {X} (y ∷ es) h k x e = at (test y.0) refl (λ g. none_looked_up es g) k e
    where
      at : (b : Bool) → test y.0 ≡ b → (lookup test es ≡ None → (i : ℕ) (z : K) → slice_get (keys_of es) i ≡ Some z → test z ≡ false) →
          (k : ℕ) → slice_get (keys_of (y ∷ es)) k ≡ Some x → test x ≡ false
      at true t others k e = let no : Some y.1 ≡ None = sym (ap (λ b. cond b (Some y.1) (lookup test es)) t) ∙ h in cc
      at false t others zero e = let same : y.0 ≡ x = cc in subst (λ z. test z ≡ false) same t
      at false t others (suc k) e = others (sym (ap (λ b. cond b (Some y.1) (lookup test es)) t) ∙ h) k x e

pub key_added : {K : Type 0} (eq : K → K → Bool) (ks : List K) (k : K) → list_any (eq k) ks ≡ false → insert_key eq ks k ≡ ks ++ k ∷ []
key_added eq ks k h = ap (λ b. if b then ks else ks ++ k ∷ []) h

pub entry_added : {K X : Type 0} (eq : K → K → Bool) (es : List (K × X)) (k : K) (v : X) →
    ((i : ℕ) (x : K) → slice_get (keys_of es) i ≡ Some x → eq k x ≡ false) → insert_entry eq es k v ≡ es ++ (k, v) ∷ []
entry_added eq [] k v h = refl
entry_added eq (e ∷ es) k v h =
    ap (λ b. if b then (e.0, v) ∷ es else e ∷ insert_entry eq es k v) (h 0 e.0 refl)
    ∙ ap (λ fs. e ∷ fs) (entry_added eq es k v (λ i x g. h (suc i) x g))

-- where keys are compared by their forms
module _ {K N : Type 0} (form : K → N) (eq : K → K → Bool) (is : (a b : K) → Decides (eq a b) (form a ≡ form b)) where
  pub form_found : (xs : List K) (k : K) (i : ℕ) → position (eq k) xs ≡ Some i → slice_get (map form xs) i ≡ Some (form k)
  form_found xs k i e =
      let p = found (eq k) xs i e in
      slice_get-map form xs i ∙ ap (option_map form) p.1 ∙ ap Some (sym ((is k p.0).0 p.2))

  pub form_absent : (xs : List K) (k : K) → ((i : ℕ) (x : K) → slice_get xs i ≡ Some x → eq k x ≡ false) → (i : ℕ) → slice_get (map form xs) i ≡ Some (form k) → ⊥
  form_absent [] k h i e = cc
  form_absent (x ∷ xs) k h zero e = let same : form x ≡ form k = cc in false≢true (sym (h 0 x refl) ∙ (is k x).1 (sym same))
  form_absent (x ∷ xs) k h (suc i) e = form_absent xs k (λ j y g. h (suc j) y g) i e

  pub keys_differ : (xs : List K) (k : K) → ((i : ℕ) → slice_get (map form xs) i ≡ Some (form k) → ⊥) → (i : ℕ) (x : K) → slice_get xs i ≡ Some x → eq k x ≡ false
  keys_differ xs k h i x e =
      ⊎_elim
      (λ t. absurd (h i (slice_get-map form xs i ∙ ap (option_map form) e ∙ ap Some (sym ((is k x).0 t)))))
      (λ f. f)
      (cases_Bool (eq k x))

pub if_some : {A : Type 0} (P : A → Type 0) (o : Option A) → ((x : A) → o ≡ Some x → P x) → IfSome o P
if_some P None h = tt
if_some P (Some x) h = h x refl
