-- What stands in a list.
use Rattle.std.proofs.Common.{◌≡◌, zero, suc, List, [], ◌∷◌, map, filter, Option, Some, None, Bool, true, false, cond, ◌||◌, refl, sym, ◌∙◌, ap, subst, inl, inr, ◌⊎◌, ⊎_elim, arith}
use Rattle.std.specs.Prelude.{flat_map, filter_map}
use Rattle.std.specs.List.{Contains, list_all, list_any, cons_option}
use Rattle.std.proofs.lemmas.Bool.{and_parts, and_from, or_cases, false≢true}
use Rattle.std.proofs.lemmas.List.Elements.{Contains-append_left, Contains-append_right, Contains-append_cases}
use Rattle.ss_logic.specs.Includes.{Includes}

pub contains_head : {A : Type 0} (x : A) (xs : List A) → Contains (x ∷ xs) x
contains_head x xs = (0, omega arith, refl)

pub contains_cons : {A : Type 0} (y : A) (xs : List A) (x : A) → Contains xs x → Contains (y ∷ xs) x
contains_cons y xs x (k, h, e) = (suc k, omega (arith, h), e)

-- what is in a list is its head or in the rest
pub contains_split : {A : Type 0} (y : A) (xs : List A) (x : A) → Contains (y ∷ xs) x → (y ≡ x) ⊎ Contains xs x
contains_split y xs x (zero, h, e) = inl e
contains_split y xs x (suc k, h, e) = inr (k, omega (arith, h), e)

pub contains_none : {A : Type 0} (x : A) → Contains [] x → ⊥
contains_none x (k, h, e) = omega (arith, h)

pub includes_cons : {A : Type 0} (y : A) (xs ys : List A) → Includes xs ys → Includes (y ∷ xs) (y ∷ ys)
includes_cons y xs ys i x h = ⊎_elim
    (λ e. subst (Contains (y ∷ xs)) e (contains_head y xs))
    (λ k. contains_cons y xs x (i x k))
    (contains_split y ys x h)

pub includes_all : {A : Type 0} (y : A) (xs ys : List A) → Contains xs y → Includes xs ys → Includes xs (y ∷ ys)
includes_all y xs ys h i x k = ⊎_elim (λ e. subst (Contains xs) e h) (λ l. i x l) (contains_split y ys x k)

-- ---- maps, filters, tests

pub map_from : {A B : Type 0} (h : A → B) (xs : List A) (y : B) → Contains (map h xs) y → (x : A) × Contains xs x × (h x ≡ y)
map_from h [] y c = absurd (contains_none y c)
map_from h (x ∷ xs) y c = ⊎_elim
    (λ e. (x, contains_head x xs, e))
    (λ k. let r = map_from h xs y k in (r.0, contains_cons x xs r.0 r.1, r.2))
    (contains_split (h x) (map h xs) y c)

pub map_to : {A B : Type 0} (h : A → B) (xs : List A) (x : A) → Contains xs x → Contains (map h xs) (h x)
map_to h [] x c = absurd (contains_none x c)
map_to h (y ∷ xs) x c = ⊎_elim
    (λ e. subst (λ z. Contains (h y ∷ map h xs) (h z)) e (contains_head (h y) (map h xs)))
    (λ k. contains_cons (h y) (map h xs) (h x) (map_to h xs x k))
    (contains_split y xs x c)

pub map_of_fewer : {A B : Type 0} (h : A → B) (xs ys : List A) → Includes xs ys → Includes (map h xs) (map h ys)
map_of_fewer h xs ys i y c = let r = map_from h ys y c in subst (Contains (map h xs)) r.2 (map_to h xs r.0 (i r.0 r.1))

pub contains_filter : {A : Type 0} (p : A → Bool) (xs : List A) (x : A) → Contains xs x → p x ≡ true → Contains (filter p xs) x
contains_filter p [] x h t = absurd (contains_none x h)
contains_filter {A} p (y ∷ xs) x h t = by (λ k. contains_filter p xs x k t) (p y) refl (contains_split y xs x h)
  where
    by : (Contains xs x → Contains (filter p xs) x) → (b : Bool) → p y ≡ b → (y ≡ x) ⊎ Contains xs x → Contains (cond b (y ∷ filter p xs) (filter p xs)) x
    by rest true e c = ⊎_elim (λ s. subst (Contains (y ∷ filter p xs)) s (contains_head y (filter p xs))) (λ k. contains_cons y (filter p xs) x (rest k)) c
    by rest false e c = ⊎_elim (λ s. absurd (false≢true (sym e ∙ ap p s ∙ t))) (λ k. rest k) c

pub from_filter : {A : Type 0} (p : A → Bool) (xs : List A) (x : A) → Contains (filter p xs) x → Contains xs x × (p x ≡ true)
from_filter p [] x h = absurd (contains_none x h)
from_filter {A} p (y ∷ xs) x h = by (λ k. from_filter p xs x k) (p y) refl h
  where
    by : (Contains (filter p xs) x → Contains xs x × (p x ≡ true)) → (b : Bool) → p y ≡ b → Contains (cond b (y ∷ filter p xs) (filter p xs)) x → Contains (y ∷ xs) x × (p x ≡ true)
    by rest true e k = ⊎_elim
        (λ s. (subst (Contains (y ∷ xs)) s (contains_head y xs), ap p (sym s) ∙ e))
        (λ l. let r = rest l in (contains_cons y xs x r.0, r.1))
        (contains_split y (filter p xs) x k)
    by rest false e k = let r = rest k in (contains_cons y xs x r.0, r.1)

pub from_filter_map : {A B : Type 0} (h : A → Option B) (xs : List A) (y : B) → Contains (filter_map h xs) y → (x : A) × Contains xs x × (h x ≡ Some y)
from_filter_map h [] y c = absurd (contains_none y c)
from_filter_map {A} {B} h (x ∷ xs) y c = by (h x) refl c (from_filter_map h xs y)
  where
    by : (o : Option B) → h x ≡ o → Contains (cons_option o (filter_map h xs)) y → (Contains (filter_map h xs) y → (z : A) × Contains xs z × (h z ≡ Some y)) → (z : A) × Contains (x ∷ xs) z × (h z ≡ Some y)
    by None e c later = let r = later c in (r.0, contains_cons x xs r.0 r.1, r.2)
    by (Some w) e c later = ⊎_elim
        (λ (s : w ≡ y). (x, contains_head x xs, e ∙ ap Some s))
        (λ (k : Contains (filter_map h xs) y). let r = later k in (r.0, contains_cons x xs r.0 r.1, r.2))
        (contains_split w (filter_map h xs) y c)

pub all_at : {A : Type 0} (p : A → Bool) (xs : List A) (x : A) → list_all p xs ≡ true → Contains xs x → p x ≡ true
all_at p [] x t h = absurd (contains_none x h)
all_at p (y ∷ xs) x t h =
    let r = and_parts (p y) (list_all p xs) t in
    ⊎_elim (λ e. ap p (sym e) ∙ r.0) (λ k. all_at p xs x r.1 k) (contains_split y xs x h)

pub all_from : {A : Type 0} (p : A → Bool) (xs : List A) → ((x : A) → Contains xs x → p x ≡ true) → list_all p xs ≡ true
all_from p [] h = refl
all_from p (x ∷ xs) h = and_from (p x) (list_all p xs) (h x (contains_head x xs)) (all_from p xs (λ y k. h y (contains_cons x xs y k)))

pub all_of_fewer : {A : Type 0} (p : A → Bool) (xs ys : List A) → Includes xs ys → list_all p xs ≡ true → list_all p ys ≡ true
all_of_fewer p xs ys i t = all_from p ys (λ y k. all_at p xs y t (i y k))

-- of each two
pub pairs_of_fewer : {A : Type 0} (p : A → A → Bool) (xs ys : List A) → Includes xs ys → list_all (λ x. list_all (p x) xs) xs ≡ true → list_all (λ y. list_all (p y) ys) ys ≡ true
pairs_of_fewer p xs ys i t = all_from (λ y. list_all (p y) ys) ys (λ y k. all_of_fewer (p y) xs ys i (all_at (λ x. list_all (p x) xs) xs y t (i y k)))

pub any_at : {A : Type 0} (p : A → Bool) (xs : List A) → list_any p xs ≡ true → (x : A) × Contains xs x × (p x ≡ true)
any_at p [] t = absurd (false≢true t)
any_at p (y ∷ xs) t = ⊎_elim
    (λ e. (y, contains_head y xs, e))
    (λ k. let r = any_at p xs k in (r.0, contains_cons y xs r.0 r.1, r.2))
    (or_cases (p y) (list_any p xs) t)

pub any_from : {A : Type 0} (p : A → Bool) (xs : List A) (x : A) → Contains xs x → p x ≡ true → list_any p xs ≡ true
any_from p [] x h e = absurd (contains_none x h)
any_from p (y ∷ xs) x h e = ⊎_elim
    (λ s. ap (λ b. b || list_any p xs) (ap p s ∙ e))
    (λ k. or_second (p y) (list_any p xs) (any_from p xs x k e))
    (contains_split y xs x h)
  where
    or_second : (a b : Bool) → b ≡ true → (a || b) ≡ true
    or_second true b t = refl
    or_second false b t = t

-- ---- lists of lists

pub flat_from : {A B : Type 0} (f : A → List B) (xs : List A) (y : B) → Contains (flat_map f xs) y → (x : A) × Contains xs x × Contains (f x) y
flat_from f [] y h = absurd (contains_none y h)
flat_from f (x ∷ xs) y h = ⊎_elim
    (λ a. (x, contains_head x xs, a))
    (λ k. let r = flat_from f xs y k in (r.0, contains_cons x xs r.0 r.1, r.2))
    (Contains-append_cases (f x) (flat_map f xs) y h)

pub flat_to : {A B : Type 0} (f : A → List B) (xs : List A) (x : A) (y : B) → Contains xs x → Contains (f x) y → Contains (flat_map f xs) y
flat_to f [] x y h k = absurd (contains_none x h)
flat_to f (z ∷ xs) x y h k = ⊎_elim
    (λ e. Contains-append_left (f z) (flat_map f xs) y (subst (λ w. Contains (f w) y) (sym e) k))
    (λ l. Contains-append_right (f z) (flat_map f xs) y (flat_to f xs x y l k))
    (contains_split z xs x h)
