-- What holds of both sides of a choice, and of all of a list.
use Rattle.std.proofs.Common.{◌≡◌, List, [], ◌∷◌, Bool, true, false, refl, ◌∙◌, ap}
use Rattle.std.specs.Prelude.{◌&&◌, reverse, if◌then◌else◌}
use Rattle.std.specs.List.{list_all}
use Rattle.std.proofs.lemmas.Bool.{and_parts, and_from, false≢true}
use Rattle.std.proofs.lemmas.List.{reverse-append}
use Rattle.std.proofs.lemmas.List.Folds.{list_all-append}

-- what holds of both sides
pub on_either : {X : Type 0} (P : X → Type 0) (b : Bool) (x y : X) → P x → P y → P (if b then x else y)
on_either P true x y h g = h
on_either P false x y h g = g

pub three_parts : (a b c : Bool) → (a && b && c) ≡ true → (a ≡ true) × (b ≡ true) × (c ≡ true)
three_parts true true true h = (refl, refl, refl)
three_parts true true false h = absurd (false≢true h)
three_parts true false c h = absurd (false≢true h)
three_parts false b c h = absurd (false≢true h)

-- ---- lists

pub all_more : {A : Type 0} (f g : A → Bool) → ((x : A) → f x ≡ true → g x ≡ true) → (xs : List A) → list_all f xs ≡ true → list_all g xs ≡ true
all_more f g more [] h = refl
all_more f g more (x ∷ xs) h = let both = and_parts (f x) (list_all f xs) h in and_from _ _ (more x both.0) (all_more f g more xs both.1)

pub all_both : {A : Type 0} (f g : A → Bool) (xs : List A) → list_all f xs ≡ true → list_all g xs ≡ true → list_all (λ x. f x && g x) xs ≡ true
all_both f g [] h i = refl
all_both f g (x ∷ xs) h i =
    let both = and_parts (f x) (list_all f xs) h in
    let too = and_parts (g x) (list_all g xs) i in
    and_from _ _ (and_from _ _ both.0 too.0) (all_both f g xs both.1 too.1)

pub all_five : (a b c d e : Bool) → a ≡ true → b ≡ true → c ≡ true → d ≡ true → e ≡ true → (a && b && c && d && e) ≡ true
all_five a b c d e h i j k l = rw (h, i, j, k, l) refl

pub all_three : (a b c : Bool) → a ≡ true → b ≡ true → c ≡ true → (a && b && c) ≡ true
all_three a b c h i j = rw (h, i, j) refl

pub all_reverse : {A : Type 0} (test : A → Bool) (xs : List A) → list_all test xs ≡ true → list_all test (reverse xs) ≡ true
all_reverse test [] h = refl
all_reverse test (x ∷ xs) h =
    let both = and_parts (test x) (list_all test xs) h in
    ap (list_all test) (reverse-append (x ∷ []) xs) ∙ list_all-append test (reverse xs) (x ∷ []) ∙ rw (all_reverse test xs both.1, both.0) refl
