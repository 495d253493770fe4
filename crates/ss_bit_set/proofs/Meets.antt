-- A set that is met with another one number by number.
use Rattle.std.proofs.Common.{◌≡◌, ◌≢◌, ℕ, ◌+◌, ◌<◌, ◌≤◌, Bool, true, false, List, length, refl, sym, ap, ◌∙◌, ⊎_elim, arith}
use Rattle.std.specs.Prelude.{if◌then◌else◌, ◌&&◌}
use Rattle.std.proofs.lemmas.Bool.{cases_eq, cases_lt, eq-eqb, ne_eqb, lt-ltb, le-ltb}
use Rattle.ss_paths.specs.Sets.{Set, put, both}
use Rattle.ss_bit_set.specs.Marked.{listed, met_below}
use Rattle.ss_paths.proofs.Among.{same_sets}
use Rattle.ss_bit_set.proofs.Lists.{listed_past}

and_false : (b : Bool) → (b && false) ≡ false
and_false true = refl
and_false false = refl

and_true : (b : Bool) → (b && true) ≡ b
and_true true = refl
and_true false = refl

strict : (n x : ℕ) → n ≤ x → n ≢ x → n + 1 ≤ x
strict n x l ne = omega arith

-- nothing is met yet
pub met_none : (f g : Set) → met_below 0 f g ≡ f
unfolding met_below
met_none f g = same_sets (λ x. rw (le-ltb x 0 (omega arith)) refl)

met_out : (n : ℕ) (f g : Set) → g n ≡ false → put n false (met_below n f g) ≡ met_below (n + 1) f g
unfolding put met_below
met_out n f g out =
    same_sets
    (λ x. ⊎_elim
    (λ (e : n ≡ x). rw (eq-eqb n x e, lt-ltb x (n + 1) (omega arith)) (sym (ap (λ (b : Bool). f x && b) (ap g (sym e) ∙ out) ∙ and_false (f x))))
    (λ (ne : n ≢ x). rw (ne_eqb n x ne)
    (⊎_elim
    (λ (l : x < n). rw (lt-ltb x n l, lt-ltb x (n + 1) (omega arith)) refl)
    (λ (l : n ≤ x). rw (le-ltb x n l, le-ltb x (n + 1) (strict n x l ne)) refl)
    (cases_lt x n)))
    (cases_eq n x))

met_in : (n : ℕ) (f g : Set) → g n ≡ true → met_below n f g ≡ met_below (n + 1) f g
unfolding met_below
met_in n f g in_it =
    same_sets
    (λ x. ⊎_elim
    (λ (l : x < n). rw (lt-ltb x n l, lt-ltb x (n + 1) (omega arith)) refl)
    (λ (l : n ≤ x). ⊎_elim
    (λ (e : n ≡ x). rw (le-ltb x n l, lt-ltb x (n + 1) (omega arith)) (sym (ap (λ (b : Bool). f x && b) (ap g (sym e) ∙ in_it) ∙ and_true (f x))))
    (λ (ne : n ≢ x). rw (le-ltb x n l, le-ltb x (n + 1) (strict n x l ne)) refl)
    (cases_eq n x))
    (cases_lt x n))

-- one number more
pub met_next : (n : ℕ) (f g : Set) (b : Bool) → b ≡ g n → (if b then met_below n f g else put n false (met_below n f g)) ≡ met_below (n + 1) f g
met_next n f g true e = met_in n f g (sym e)
met_next n f g false e = met_out n f g (sym e)

-- all are met
pub met_all : (bs : List Bool) (n : ℕ) (g : Set) → length bs ≤ n → met_below n (listed bs) g ≡ both (listed bs) g
unfolding met_below both
met_all bs n g l =
    same_sets
    (λ x. ⊎_elim
    (λ (b : x < n). rw (lt-ltb x n b) refl)
    (λ (a : n ≤ x). rw (le-ltb x n a, listed_past bs x (omega arith)) refl)
    (cases_lt x n))
