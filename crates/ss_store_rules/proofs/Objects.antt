-- A store after a change, object by object.
use Rattle.std.proofs.Common.{◌≡◌, ℕ, zero, suc, ◌+◌, ◌<◌, List, [], ◌∷◌, ◌++◌, length, Option, Some, None, refl, sym, ◌∙◌, ap, subst, arith, zero-add, inl, inr, ◌⊎◌, ⊎_elim}
use Rattle.std.specs.Prelude.{option_map, slice_get}
use Rattle.ss_store_rules.specs.Store.{Object}
use Rattle.ss_store_rules.specs.Changes.{changed_from, changed}

get-changed_from : (n : ℕ) (f : ℕ → Object → Object) (s : List Object) (q : ℕ) → slice_get (changed_from n f s) q ≡ option_map (f (n + q)) (slice_get s q)
get-changed_from n f [] q = refl
get-changed_from n f (x ∷ xs) zero = let e : n + 0 ≡ n = omega arith in rw e refl
get-changed_from n f (x ∷ xs) (suc q) = let e : n + suc q ≡ n + 1 + q = omega arith in rw e (get-changed_from (n + 1) f xs q)

pub get-changed : (f : ℕ → Object → Object) (s : List Object) (q : ℕ) → slice_get (changed f s) q ≡ option_map (f q) (slice_get s q)
get-changed f s q = rw zero-add at (get-changed_from 0 f s q)

length-changed_from : (n : ℕ) (f : ℕ → Object → Object) (s : List Object) → length (changed_from n f s) ≡ length s
length-changed_from n f [] = refl
length-changed_from n f (x ∷ xs) = ap suc (length-changed_from (n + 1) f xs)

pub length-changed : (f : ℕ → Object → Object) (s : List Object) → length (changed f s) ≡ length s
length-changed f s = length-changed_from 0 f s

map_some : {A B : Type 0} (f : A → B) (o : Option A) (y : B) → option_map f o ≡ Some y → (x : A) × (o ≡ Some x) × (f x ≡ y)
map_some f None y e = cc
map_some f (Some x) y e = (x, refl, cc)

-- the object that a changed one was
pub was : (f : ℕ → Object → Object) (s : List Object) (q : ℕ) (x' : Object) → slice_get (changed f s) q ≡ Some x' → (x : Object) × (slice_get s q ≡ Some x) × (f q x ≡ x')
was f s q x' e = map_some (f q) (slice_get s q) x' (sym (get-changed f s q) ∙ e)

-- what an object becomes
pub becomes : (f : ℕ → Object → Object) (s : List Object) (q : ℕ) (x : Object) → slice_get s q ≡ Some x → slice_get (changed f s) q ≡ Some (f q x)
becomes f s q x e = get-changed f s q ∙ ap (option_map (f q)) e

pub same_object : (s : List Object) (q : ℕ) (x y : Object) → slice_get s q ≡ Some x → slice_get s q ≡ Some y → x ≡ y
same_object s q x y e f = let both : Some x ≡ Some y = sym e ∙ f in cc

-- the same, where the positions are equal
pub same_at : (s : List Object) (q o : ℕ) (x y : Object) → q ≡ o → slice_get s q ≡ Some x → slice_get s o ≡ Some y → x ≡ y
same_at s q o x y is e f = same_object s o x y (subst (λ n. slice_get s n ≡ Some x) is e) f

-- what holds of each object as it is changed holds of the new store's objects
pub each_changed : (f : ℕ → Object → Object) (s : List Object) (P : ℕ → Object → Type 0) → ((q : ℕ) (x : Object) → slice_get s q ≡ Some x → P q (f q x)) → (q : ℕ) (y : Object) → slice_get (changed f s) q ≡ Some y → P q y
each_changed f s P h q y e = let w = was f s q y e in subst (λ z. P q z) w.2 (h q w.0 w.1)

-- ---- one object more

pub old_get : (s : List Object) (z : Object) (q : ℕ) (x : Object) → slice_get s q ≡ Some x → slice_get (s ++ z ∷ []) q ≡ Some x
old_get [] z q x e = cc
old_get (y ∷ s) z zero x e = e
old_get (y ∷ s) z (suc q) x e = old_get s z q x e

pub new_get : (s : List Object) (z : Object) → slice_get (s ++ z ∷ []) (length s) ≡ Some z
new_get [] z = refl
new_get (y ∷ s) z = new_get s z

-- it is an object of before or the new one
pub either_get : (s : List Object) (z : Object) (q : ℕ) (x : Object) → slice_get (s ++ z ∷ []) q ≡ Some x → (slice_get s q ≡ Some x) ⊎ ((q ≡ length s) × (z ≡ x))
either_get [] z zero x e = inr (refl, cc)
either_get [] z (suc q) x e = cc
either_get (y ∷ s) z zero x e = inl e
either_get (y ∷ s) z (suc q) x e = ⊎_elim (λ old. inl old) (λ new. inr (ap suc new.0, new.1)) (either_get s z q x e)

pub length-pushed : (s : List Object) (z : Object) → length (s ++ z ∷ []) ≡ length s + 1
length-pushed [] z = refl
length-pushed (y ∷ s) z = let h = length-pushed s z in omega (arith, h)

pub old_below : (s : List Object) (z : Object) (q : ℕ) (x : Object) → q < length s → slice_get (s ++ z ∷ []) q ≡ Some x → slice_get s q ≡ Some x
old_below s z q x l e = ⊎_elim (λ old. old) (λ new. let n = new.0 in absurd (omega (arith, l, n))) (either_get s z q x e)

pub each_pushed : (s : List Object) (z : Object) (P : ℕ → Object → Type 0) → ((q : ℕ) (x : Object) → slice_get s q ≡ Some x → P q x) → P (length s) z → (q : ℕ) (y : Object) → slice_get (s ++ z ∷ []) q ≡ Some y → P q y
each_pushed s z P old new q y e = ⊎_elim (λ o. old q y o) (λ n. subst (λ i. P i y) (sym n.0) (subst (λ w. P (length s) w) n.1 new)) (either_get s z q y e)
