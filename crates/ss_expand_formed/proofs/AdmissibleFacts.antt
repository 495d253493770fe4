-- Truth values and lists, as the laws on admissible invariants ask.
use Rattle.std.proofs.Common.{◌≡◌, ℕ, zero, suc, List, [], ◌∷◌, ◌++◌, Bool, true, false, Some, refl, sym, ◌∙◌, ap, ⊎_elim}
use Rattle.std.specs.Prelude.{slice_get, find, position, unwrap_or, if◌then◌else◌}
use Rattle.std.specs.List.{position_or_len}
use Rattle.std.proofs.lemmas.Option.{same_Some, slice_get_within}
use Rattle.std.proofs.lemmas.Bool.{cases_Bool, lt-ltb}
use Rattle.std.proofs.lemmas.List.Folds.{find_at}

pub none_of : {A : Type 0} (xs ys : List A) → xs ++ ys ≡ [] → (xs ≡ []) × (ys ≡ [])
none_of [] ys h = (refl, h)
none_of (x ∷ xs) ys h = absurd (let x : ⊥ = cc in x)

-- what is listed under a condition isn't, where nothing is listed
pub not_listed : {A : Type 0} (b : Bool) (x : A) → (if b then x ∷ [] else []) ≡ [] → b ≡ false
not_listed true x h = absurd (let x : ⊥ = cc in x)
not_listed false x h = refl

find_some : {X : Type 0} (test : X → Bool) (xs : List X) (n : ℕ) (x : X) → slice_get xs n ≡ Some x → test x ≡ true → (y : X) × (find test xs ≡ Some y)
find_some test [] n x e h = absurd (let x : ⊥ = cc in x)
find_some test (z ∷ xs) zero x e h = (z, rw (ap test (same_Some _ _ e) ∙ h) refl)
find_some test (z ∷ xs) (suc n) x e h =
    ⊎_elim
    (λ yes. (z, rw yes refl))
    (λ other. let r = find_some test xs n x e h in (r.0, rw other r.1))
    (cases_Bool (test z))

-- the place of the first element that passes
pub first_place : {X : Type 0} (test : X → Bool) (xs : List X) (n : ℕ) (x : X) → slice_get xs n ≡ Some x → test x ≡ true → (y : X) × (slice_get xs (unwrap_or (position test xs) 0) ≡ Some y)
first_place test xs n x e h =
    let f = find_some test xs n x e h in
    let there : slice_get xs (position_or_len test xs) ≡ Some f.0 = sym (find_at test xs) ∙ f.1 in
    (f.0, rw (lt-ltb _ _ (slice_get_within xs (position_or_len test xs) f.0 there)) there)
