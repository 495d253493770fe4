-- Sets of numbers, and those of the numbers of lists.
use Rattle.std.proofs.Common.{◌≡◌, ℕ, Bool, true, false, List, [], ◌∷◌, ◌++◌, refl, sym, ap, ◌∙◌}
use Rattle.std.specs.Prelude.{◌||◌}
use Rattle.std.proofs.Math.Bool.{or_assoc, or-false}
use Rattle.std.proofs.lemmas.Bool.{or_left, or_right, or_parts, eq-eqb}
use Rattle.ss_paths.specs.Sets.{Set, none, only, either, among}

-- sets with the same numbers are the same
pub same_sets : {f g : ℕ → Bool} → ((x : ℕ) → f x ≡ g x) → f ≡ g
same_sets h = λ i x. h x i

pub either_assoc : (f g h : Set) → either (either f g) h ≡ either f (either g h)
unfolding either
either_assoc f g h = same_sets (λ x. or_assoc (f x) (g x) (h x))

pub either_none : (f : Set) → either f none ≡ f
unfolding either none
either_none f = same_sets (λ x. or-false (f x))

pub none_either : (f : Set) → either none f ≡ f
unfolding either none
none_either f = refl

pub either_left : (f g : Set) (x : ℕ) → f x ≡ true → either f g x ≡ true
unfolding either
either_left f g x h = or_left (f x) (g x) h

pub either_right : (f g : Set) (x : ℕ) → g x ≡ true → either f g x ≡ true
unfolding either
either_right f g x h = or_right (f x) (g x) h

pub neither : (f g : Set) (x : ℕ) → either f g x ≡ false → (f x ≡ false) × (g x ≡ false)
unfolding either
neither f g x h = or_parts (f x) (g x) h

only_itself : (x : ℕ) → only x x ≡ true
unfolding only
only_itself x = eq-eqb x x refl

-- ---- the numbers of lists

pub among_append : (xs ys : List ℕ) → among (xs ++ ys) ≡ either (among xs) (among ys)
among_append [] ys = sym (none_either (among ys))
among_append (x ∷ xs) ys = ap (λ (f : Set). either (only x) f) (among_append xs ys) ∙ sym (either_assoc (only x) (among xs) (among ys))

pub among_left : (xs ys : List ℕ) (x : ℕ) → among xs x ≡ true → among (xs ++ ys) x ≡ true
among_left xs ys x h = ap (λ (f : Set). f x) (among_append xs ys) ∙ either_left (among xs) (among ys) x h

pub among_right : (xs ys : List ℕ) (x : ℕ) → among ys x ≡ true → among (xs ++ ys) x ≡ true
among_right xs ys x h = ap (λ (f : Set). f x) (among_append xs ys) ∙ either_right (among xs) (among ys) x h

pub among_neither : (xs ys : List ℕ) (x : ℕ) → among (xs ++ ys) x ≡ false → (among xs x ≡ false) × (among ys x ≡ false)
among_neither xs ys x h = neither (among xs) (among ys) x (sym (ap (λ (f : Set). f x) (among_append xs ys)) ∙ h)

pub among_itself : (x : ℕ) (xs : List ℕ) → among (x ∷ xs) x ≡ true
among_itself x xs = either_left (only x) (among xs) x (only_itself x)
