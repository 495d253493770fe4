-- What is found in a list, and where.
use Rattle.std.proofs.Common.{◌≡◌, ℕ, zero, suc, ◌+◌, ◌<◌, List, [], ◌∷◌, ◌++◌, length, map, Bool, true, Option, Some, refl, sym, ◌∙◌, ap, arith, ⊎_elim}
use Rattle.std.specs.Prelude.{◌||◌, slice_get, unwrap_or, find, position, filter, filter_map}
use Rattle.std.specs.List.{list_any, position_or_len}
use Rattle.std.proofs.lemmas.Option.{same_Some, slice_get_within}
use Rattle.std.proofs.lemmas.Bool.{cases_Bool, or_left, or_right, false≢true, lt-ltb}
use Rattle.std.proofs.lemmas.List.Folds.{find_at}

-- ---- lists after one another

pub at_front : {X : Type 0} (xs ys : List X) (n : ℕ) → n < length xs → slice_get (xs ++ ys) n ≡ slice_get xs n
at_front [] ys n l = absurd (omega arith)
at_front (x ∷ xs) ys zero l = refl
at_front (x ∷ xs) ys (suc n) l = at_front xs ys n (omega arith)

pub at_back : {X : Type 0} (xs ys : List X) (n : ℕ) → slice_get (xs ++ ys) (length xs + n) ≡ slice_get ys n
at_back [] ys n = let e : 0 + n ≡ n = omega arith in rw e refl
at_back (x ∷ xs) ys n = let e : suc (length xs) + n ≡ suc (length xs + n) = omega arith in rw e (at_back xs ys n)

-- ---- a first element that passes

pub record Found {X : Type 0} (test : X → Bool) (xs : List X) (place : ℕ) : Type 0 where
  pub it : X
  pub there : slice_get xs place ≡ Some it
  pub passes : test it ≡ true

pub find_some : {X : Type 0} (test : X → Bool) (xs : List X) → list_any test xs ≡ true → (x : X) × (find test xs ≡ Some x) × (test x ≡ true)
find_some test [] h = absurd (false≢true h)
find_some test (x ∷ xs) h =
    ⊎_elim
    (λ yes. (x, rw yes refl, yes))
    (λ other. let r = find_some test xs (rw other at h) in (r.0, rw other r.1, r.2))
    (cases_Bool (test x))

pub place_found : {X : Type 0} (test : X → Bool) (xs : List X) → list_any test xs ≡ true → Found test xs (unwrap_or (position test xs) 0)
place_found test xs h =
    let f = find_some test xs h in
    let e : slice_get xs (position_or_len test xs) ≡ Some f.0 = sym (find_at test xs) ∙ f.1 in
    let l = slice_get_within xs (position_or_len test xs) f.0 e in
    record { it = f.0; there = rw (lt-ltb (position_or_len test xs) (length xs) l) e; passes = f.2 }

pub any_at : {X : Type 0} (test : X → Bool) (xs : List X) (n : ℕ) (x : X) → slice_get xs n ≡ Some x → test x ≡ true → list_any test xs ≡ true
any_at test [] n x e h = absurd (let z : ⊥ = cc in z)
any_at test (y ∷ ys) zero x e h = or_left (test y) (list_any test ys) (ap test (same_Some _ _ e) ∙ h)
any_at test (y ∷ ys) (suc n) x e h = or_right (test y) (list_any test ys) (any_at test ys n x e h)

pub any-map : {X Y : Type 0} (test : Y → Bool) (f : X → Y) (xs : List X) → list_any test (map f xs) ≡ list_any (λ x. test (f x)) xs
any-map test f [] = refl
any-map test f (x ∷ xs) = ap (λ b. test (f x) || b) (any-map test f xs)

-- ---- lists without some elements

filtered_here : {X : Type 0} (y : X) (ys zs : List X) (x : X) → ((n : ℕ) → slice_get zs n ≡ Some x → (k : ℕ) × (slice_get ys k ≡ Some x)) → (n : ℕ) → slice_get (y ∷ zs) n ≡ Some x → (k : ℕ) × (slice_get (y ∷ ys) k ≡ Some x)
filtered_here y ys zs x rest zero e = (0, e)
filtered_here y ys zs x rest (suc n) e = let r = rest n e in (suc r.0, r.1)

pub filtered_from : {X : Type 0} (test : X → Bool) (xs : List X) (n : ℕ) (x : X) → slice_get (filter test xs) n ≡ Some x → (k : ℕ) × (slice_get xs k ≡ Some x)
filtered_from test [] n x e = absurd (let z : ⊥ = cc in z)
filtered_from test (y ∷ ys) n x e =
    ⊎_elim
    (λ yes. filtered_here y ys (filter test ys) x (λ m h. filtered_from test ys m x h) n (rw yes at e))
    (λ other. let r = filtered_from test ys n x (rw other at e) in (suc r.0, r.1))
    (cases_Bool (test y))

pub filter_keeps : {X : Type 0} (test : X → Bool) (xs : List X) (k : ℕ) (x : X) → slice_get xs k ≡ Some x → test x ≡ true → (n : ℕ) × (slice_get (filter test xs) n ≡ Some x)
filter_keeps test [] k x e h = absurd (let z : ⊥ = cc in z)
filter_keeps test (y ∷ ys) zero x e h = let yes : test y ≡ true = ap test (same_Some _ _ e) ∙ h in (0, rw yes e)
filter_keeps test (y ∷ ys) (suc k) x e h =
    let r = filter_keeps test ys k x e h in
    ⊎_elim
    (λ yes. (suc r.0, rw yes r.1))
    (λ other. (r.0, rw other r.1))
    (cases_Bool (test y))

-- where each element becomes something, the places stay
pub filter_map_whole : {X Y : Type 0} (f : X → Option Y) (xs : List X) → ((n : ℕ) (x : X) → slice_get xs n ≡ Some x → (y : Y) × (f x ≡ Some y)) → (n : ℕ) (x : X) → slice_get xs n ≡ Some x → slice_get (filter_map f xs) n ≡ f x
filter_map_whole f [] all n x e = absurd (let z : ⊥ = cc in z)
filter_map_whole f (z ∷ xs) all zero x e = let y = all 0 z refl in rw y.1 (sym y.1 ∙ ap f (same_Some _ _ e))
filter_map_whole f (z ∷ xs) all (suc n) x e = let y = all 0 z refl in rw y.1 (filter_map_whole f xs (λ k w h. all (suc k) w h) n x e)
