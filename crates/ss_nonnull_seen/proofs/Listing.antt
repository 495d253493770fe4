-- Lists of locals in which each stands once.
use Rattle.std.proofs.Common.{◌≡◌, ◌≢◌, ℕ, Bool, true, false, List, [], ◌∷◌, ◌++◌, refl, sym, ap, ◌∙◌, ⊎_elim}
use Rattle.std.specs.Prelude.{◌==◌, ◌||◌}
use Rattle.std.proofs.lemmas.Bool.{cases_eq, eq-eqb, ne_eqb}
use Rattle.ss_paths.specs.Sets.{Set, none, only, either, among}
use Rattle.ss_paths.proofs.Among.{same_sets, among_append, either_none, either_assoc}

-- the first of a list is the one that is looked for, or it isn't
pub first_is : (x y : ℕ) (xs ys : List ℕ) → xs ≡ y ∷ ys → y ≡ x → true ≡ among xs x
unfolding only either
first_is x y xs ys p q = sym (ap (λ (l : List ℕ). among l x) p ∙ rw (eq-eqb y x q) refl)

pub first_is_not : (x y : ℕ) (xs ys : List ℕ) → xs ≡ y ∷ ys → y ≢ x → among ys x ≡ among xs x
unfolding only either
first_is_not x y xs ys p q = sym (ap (λ (l : List ℕ). among l x) p ∙ rw (ne_eqb y x q) refl)

pub none_is : (x : ℕ) (xs : List ℕ) → xs ≡ [] → false ≡ among xs x
unfolding none
none_is x xs p = sym (ap (λ (l : List ℕ). among l x) p)

has_it : (f : Set) (x : ℕ) → f x ≡ true → f ≡ either f (only x)
unfolding only either
has_it f x is =
    same_sets
    (λ y. ⊎_elim
    (λ (e : x ≡ y). rw (eq-eqb x y e) (ap f (sym e) ∙ is ∙ sym (or_true (f y))))
    (λ (ne : x ≢ y). rw (ne_eqb x y ne) (sym (or_false (f y))))
    (cases_eq x y))
  where
    or_true : (a : Bool) → (a || true) ≡ true
    or_true true = refl
    or_true false = refl

    or_false : (a : Bool) → (a || false) ≡ a
    or_false true = refl
    or_false false = refl

-- it is no more with it
pub known_already : (xs : List ℕ) (x : ℕ) → among xs x ≡ true → among xs ≡ either (among xs) (only x)
known_already xs x is = has_it (among xs) x is

pub one_more : (xs : List ℕ) (x : ℕ) → among (xs ++ x ∷ []) ≡ either (among xs) (only x)
one_more xs x = among_append xs (x ∷ []) ∙ ap (λ (f : Set). either (among xs) f) (either_none (only x))

-- the next of the locals goes over to the list
pub one_moved : (f g : Set) (x : ℕ) (xs ys : List ℕ) → g ≡ either f (only x) → xs ≡ x ∷ ys → either g (among ys) ≡ either f (among xs)
one_moved f g x xs ys p q =
    ap (λ (h : Set). either h (among ys)) p ∙ either_assoc f (only x) (among ys) ∙ ap (λ (l : List ℕ). either f (among l)) (sym q)

-- none is left
pub all_moved : (f g : Set) (xs : List ℕ) → xs ≡ [] → either f (among xs) ≡ g → f ≡ g
all_moved f g xs p q = sym (either_none f) ∙ ap (λ (l : List ℕ). either f (among l)) (sym p) ∙ q
