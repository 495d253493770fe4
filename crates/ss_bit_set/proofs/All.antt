-- Sets into which the numbers of a list are put, or from which they are taken.
use Rattle.std.proofs.Common.{◌≡◌, ◌≢◌, ℕ, Bool, true, false, List, [], ◌∷◌, refl, sym, ◌∙◌, ⊎_elim}
use Rattle.std.specs.Prelude.{◌&&◌, ◌||◌}
use Rattle.std.proofs.lemmas.Bool.{cases_eq, eq-eqb, ne_eqb}
use Rattle.ss_paths.specs.Sets.{Set, none, only, either, without, put, among}
use Rattle.ss_paths.proofs.Among.{same_sets, either_none}
use Rattle.ss_bit_set.specs.Marked.{with_all}

put_true : (x : ℕ) (f g : Set) → either (put x true f) g ≡ either f (either (only x) g)
unfolding either put only
put_true x f g =
    same_sets
    (λ y. ⊎_elim
    (λ (e : x ≡ y). rw (eq-eqb x y e) (sym (or_true (f y))))
    (λ (ne : x ≢ y). rw (ne_eqb x y ne) refl)
    (cases_eq x y))
  where
    or_true : (a : Bool) → (a || true) ≡ true
    or_true true = refl
    or_true false = refl

put_false : (x : ℕ) (f g : Set) → without (put x false f) g ≡ without f (either (only x) g)
unfolding either put only without
put_false x f g =
    same_sets
    (λ y. ⊎_elim
    (λ (e : x ≡ y). rw (eq-eqb x y e) (sym (and_false (f y))))
    (λ (ne : x ≢ y). rw (ne_eqb x y ne) refl)
    (cases_eq x y))
  where
    and_false : (a : Bool) → (a && false) ≡ false
    and_false true = refl
    and_false false = refl

and_true : (a : Bool) → (a && true) ≡ a
and_true true = refl
and_true false = refl

without_none : (f : Set) → without f none ≡ f
unfolding without none
without_none f = same_sets (λ x. and_true (f x))

-- all of them are put into the set, or taken out
pub all_in : (xs : List ℕ) (f : Set) → with_all xs true f ≡ either f (among xs)
all_in [] f = sym (either_none f)
all_in (x ∷ xs) f = all_in xs (put x true f) ∙ put_true x f (among xs)

pub all_out : (xs : List ℕ) (f : Set) → with_all xs false f ≡ without f (among xs)
all_out [] f = sym (without_none f)
all_out (x ∷ xs) f = all_out xs (put x false f) ∙ put_false x f (among xs)
