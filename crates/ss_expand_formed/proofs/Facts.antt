-- Truth values and lists.
use Rattle.std.proofs.Common.{◌≡◌, ℕ, zero, suc, List, [], ◌∷◌, ◌++◌, Bool, true, false, Some, refl, sym, ◌∙◌, ap, inl, inr, ◌⊎◌}
use Rattle.std.specs.Prelude.{not, ◌&&◌, ◌||◌, slice_get}
use Rattle.std.specs.List.{list_all}
use Rattle.std.proofs.lemmas.Option.{same_Some}
use Rattle.std.proofs.lemmas.Bool.{and_parts}

-- ---- truth values

pub and_false : (a b : Bool) → b ≡ false → (a && b) ≡ false
and_false true b h = h
and_false false b h = refl

pub or_false : (a b : Bool) → (a || b) ≡ false → (a ≡ false) × (b ≡ false)
or_false true b h = absurd (let x : ⊥ = cc in x)
or_false false b h = (refl, h)

pub and_is_false : (a b : Bool) → (a && b) ≡ false → (a ≡ false) ⊎ ((a ≡ true) × (b ≡ false))
and_is_false true b h = inr (refl, h)
and_is_false false b h = inl refl

pub not_false : (a : Bool) → not a ≡ false → a ≡ true
not_false true h = refl
not_false false h = absurd (let x : ⊥ = cc in x)

pub not_true : (a : Bool) → not a ≡ true → a ≡ false
not_true true e = absurd (let x : ⊥ = cc in x)
not_true false e = refl

-- ---- lists

pub none_left : {A : Type 0} (xs ys : List A) → xs ++ ys ≡ [] → (xs ≡ []) × (ys ≡ [])
none_left [] ys h = (refl, h)
none_left (x ∷ xs) ys h = absurd (let x : ⊥ = cc in x)

pub all_at : {A : Type 0} (test : A → Bool) (xs : List A) (n : ℕ) (x : A) → list_all test xs ≡ true → slice_get xs n ≡ Some x → test x ≡ true
all_at test [] n x h e = absurd (let x : ⊥ = cc in x)
all_at test (y ∷ ys) zero x h e = let both = and_parts (test y) (list_all test ys) h in ap test (sym (same_Some _ _ e)) ∙ both.0
all_at test (y ∷ ys) (suc n) x h e = let both = and_parts (test y) (list_all test ys) h in all_at test ys n x both.1 e
