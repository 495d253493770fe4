-- Elements of lists by their places.
use Rattle.std.proofs.Common.{◌≡◌, ℕ, zero, suc, ◌<◌, ◌≤◌, List, [], ◌∷◌, ◌++◌, length, map, take, Some, None, refl, sym, ◌∙◌, ap, inl, inr, ◌⊎◌, ⊎_elim, arith}
use Rattle.std.specs.Prelude.{slice_get}
use Rattle.ss_equality_rules.specs.Names.{Has}
use Rattle.ss_equality_rules.specs.Whole.{Signature, AreApart}

pub there : {A : Type 0} (xs : List A) (j : ℕ) → j < length xs → (x : A) × (slice_get xs j ≡ Some x)
there [] j h = absurd (omega arith)
there (x ∷ xs) zero h = (x, refl)
there (x ∷ xs) (suc j) h = there xs j (omega arith)

pub take_next : {A : Type 0} (xs : List A) (j : ℕ) (x : A) → slice_get xs j ≡ Some x → take (suc j) xs ≡ take j xs ++ x ∷ []
take_next [] j x e = cc
take_next (y ∷ xs) zero x e = let same : y ≡ x = cc in ap (λ z. z ∷ []) same
take_next (y ∷ xs) (suc j) x e = ap (λ zs. y ∷ zs) (take_next xs j x e)

pub in_front : {A : Type 0} (xs : List A) (k j : ℕ) (x : A) → slice_get (take k xs) j ≡ Some x → (slice_get xs j ≡ Some x) × (j < k)
in_front xs zero j x e = cc
in_front [] (suc k) j x e = cc
in_front (y ∷ xs) (suc k) zero x e = (e, omega arith)
in_front (y ∷ xs) (suc k) (suc j) x e = let p = in_front xs k j x e in (p.0, omega (arith, p.1))

pub at_front : {A : Type 0} (xs : List A) (k j : ℕ) (x : A) → slice_get xs j ≡ Some x → j < k → slice_get (take k xs) j ≡ Some x
at_front [] k j x e h = cc
at_front (y ∷ xs) zero j x e h = absurd (omega arith)
at_front (y ∷ xs) (suc k) zero x e h = e
at_front (y ∷ xs) (suc k) (suc j) x e h = at_front xs k j x e (omega arith)

pub at_left : {A : Type 0} (xs ys : List A) (j : ℕ) (x : A) → slice_get xs j ≡ Some x → slice_get (xs ++ ys) j ≡ Some x
at_left [] ys j x e = cc
at_left (y ∷ xs) ys zero x e = e
at_left (y ∷ xs) ys (suc j) x e = at_left xs ys j x e

pub at_last : {A : Type 0} (xs : List A) (x : A) → slice_get (xs ++ x ∷ []) (length xs) ≡ Some x
at_last [] x = refl
at_last (y ∷ xs) x = at_last xs x

pub pushed : {A : Type 0} (xs : List A) (y x : A) (j : ℕ) → slice_get (xs ++ y ∷ []) j ≡ Some x → (slice_get xs j ≡ Some x) ⊎ ((j ≡ length xs) × (y ≡ x))
pushed [] y x zero e = inr (refl, cc)
pushed [] y x (suc j) e = cc
pushed (z ∷ xs) y x zero e = inl e
pushed (z ∷ xs) y x (suc j) e = ⊎_elim (λ a. inl a) (λ a. inr (ap suc a.0, a.1)) (pushed xs y x j e)

pub front_pushed : {A : Type 0} (xs : List A) (y : A) (j : ℕ) → j ≤ length xs → take j (xs ++ y ∷ []) ≡ take j xs
front_pushed xs y zero h = refl
front_pushed [] y (suc j) h = absurd (omega arith)
front_pushed (x ∷ xs) y (suc j) h = ap (λ zs. x ∷ zs) (front_pushed xs y j (omega arith))

-- ---- what a list has

pub has_left : {A : Type 0} (xs ys : List A) (x : A) → Has xs x → Has (xs ++ ys) x
has_left xs ys x h = record { at = h.at; is = at_left xs ys h.at x h.is }

pub has_right : {A : Type 0} (xs ys : List A) (x : A) → Has ys x → Has (xs ++ ys) x
has_right [] ys x h = h
has_right (y ∷ xs) ys x h = let p = has_right xs ys x h in record { at = suc p.at; is = p.is }

pub has_last : {A : Type 0} (xs : List A) (x : A) → Has (xs ++ x ∷ []) x
has_last xs x = record { at = length xs; is = at_last xs x }

pub has_pushed : {A : Type 0} (xs : List A) (y x : A) → Has (xs ++ y ∷ []) x → Has xs x ⊎ (y ≡ x)
has_pushed xs y x h = ⊎_elim (λ a. inl (record { at = h.at; is = a })) (λ a. inr a.1) (pushed xs y x h.at h.is)

pub has_first : {A : Type 0} (x : A) (xs : List A) → Has (x ∷ xs) x
has_first x xs = record { at = 0; is = refl }

pub has_more : {A : Type 0} (y : A) (xs : List A) (x : A) → Has xs x → Has (y ∷ xs) x
has_more y xs x h = record { at = suc h.at; is = h.is }

pub has_cases : {A : Type 0} (y : A) (xs : List A) (x : A) → Has (y ∷ xs) x → Has xs x ⊎ (y ≡ x)
has_cases y xs x h = by h.at h.is
  where
    by : (k : ℕ) → slice_get (y ∷ xs) k ≡ Some x → Has xs x ⊎ (y ≡ x)
    by zero e = inr cc
    by (suc k) e = inl (record { at = k; is = e })

pub has_none : {A : Type 0} (x : A) → Has {A = A} [] x → ⊥
has_none x h = by h.is
  where
    by : None ≡ Some x → ⊥
    by e = cc

-- maps agree where their values do, place by place
pub maps_agree : {A B : Type 0} (f : A → B) (xs ys : List A) → length xs ≡ length ys →
    ((i : ℕ) (a b : A) → slice_get xs i ≡ Some a → slice_get ys i ≡ Some b → f a ≡ f b) → map f xs ≡ map f ys
maps_agree f [] [] l h = refl
maps_agree f [] (y ∷ ys) l h = absurd (omega arith)
maps_agree f (x ∷ xs) [] l h = absurd (omega arith)
maps_agree f (x ∷ xs) (y ∷ ys) l h =
    let first : f x ≡ f y = h 0 x y refl refl in
    let rest : map f xs ≡ map f ys = maps_agree f xs ys (omega arith) (λ i a b p q. h (suc i) a b p q) in
    cc

pub maps_length : {A B : Type 0} (f : A → B) (xs ys : List A) → map f xs ≡ map f ys → length xs ≡ length ys
maps_length f [] [] e = refl
maps_length f [] (y ∷ ys) e = cc
maps_length f (x ∷ xs) [] e = cc
maps_length f (x ∷ xs) (y ∷ ys) e = let rest : map f xs ≡ map f ys = cc in ap suc (maps_length f xs ys rest)

pub maps_at : {A B : Type 0} (f : A → B) (xs ys : List A) → map f xs ≡ map f ys → (i : ℕ) (a b : A) → slice_get xs i ≡ Some a → slice_get ys i ≡ Some b → f a ≡ f b
maps_at f [] ys e i a b p q = cc
maps_at f (x ∷ xs) [] e i a b p q = cc
maps_at f (x ∷ xs) (y ∷ ys) e zero a b p q = cc
maps_at f (x ∷ xs) (y ∷ ys) e (suc i) a b p q = let rest : map f xs ≡ map f ys = cc in maps_at f xs ys rest i a b p q

-- ---- signatures

pub front_apart : (k : ℕ) (sigs : List Signature) → AreApart sigs → AreApart (take k sigs)
front_apart k sigs a = record { apart = λ i j s t at_s at_t same. a.apart i j s t (in_front sigs k i s at_s).0 (in_front sigs k j t at_t).0 same }

pub more_apart : (sigs : List Signature) (x : Signature) → AreApart sigs → ((i v : ℕ) → slice_get sigs i ≡ Some (x.0, v) → ⊥) → AreApart (sigs ++ x ∷ [])
more_apart sigs x a absent = record {
  apart = λ i j s t at_s at_t same. ⊎_elim
      (λ old_s. ⊎_elim
      (λ old_t. a.apart i j s t old_s old_t same)
      (λ new_t. absurd (absent i s.1 (old_s ∙ ap (λ k. Some (k, s.1)) (same ∙ ap (λ z. z.0) (sym new_t.1)))))
      (pushed sigs x t j at_t))
      (λ new_s. ⊎_elim
      (λ old_t. absurd (absent j t.1 (old_t ∙ ap (λ k. Some (k, t.1)) (sym same ∙ ap (λ z. z.0) (sym new_s.1)))))
      (λ new_t. new_s.0 ∙ sym new_t.0)
      (pushed sigs x t j at_t))
      (pushed sigs x s i at_s);
}
