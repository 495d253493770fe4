-- Classes of terms by their numbers.
use Rattle.std.proofs.Common.{◌≡◌, ℕ, zero, suc, ◌+◌, ◌<◌, List, [], ◌∷◌, ◌++◌, length, map, Bool, true, false, refl, sym, ◌∙◌, ap, get_or, add-zero, arith}
use Rattle.std.specs.Prelude.{if◌then◌else◌}
use Rattle.std.proofs.lemmas.Bool.{eq-eqb, ne_eqb}
use Rattle.std.proofs.lemmas.List.{length_push}
use Rattle.ss_logic.specs.Terms.{terms_from}
use Rattle.ss_logic.specs.Equal.{same_term}
use Rattle.ss_logic_countermodels.specs.Refuting.{place_among}
use Rattle.ss_terms_interned.specs.Interned.{trees_from, tree_at}
use Rattle.ss_terms.specs.declared.forms.TermId.{TermId}
use Rattle.ss_terms.specs.Forms.{Forms, build_term, no_term, term_at, terms_at, HasTerm, HasTerms}
use Rattle.ss_terms.specs.Bank.{number}
use Rattle.ss_terms.specs.Apart.{AreApart}
use Rattle.ss_equality_rules.specs.Equal.{class_number}
use Rattle.ss_search_procedure_rules.specs.Clashes.{Classing, classes_in}
use Rattle.ss_search_clashes.specs.Numbered.{terms_of_bank, class_of, IsClassing}

-- ---- the terms of a bank

pub length_trees : {N T : Type 0} (junk : T) (build : (ℕ → T) → N → T) (ts : List T) (ns : List N) → length (trees_from junk build ts ns) ≡ length ts + length ns
length_trees junk build ts [] = sym (add-zero (length ts))
length_trees junk build ts (n ∷ ns) =
    let e = length_trees junk build (ts ++ build (λ t. get_or ts t junk) n ∷ []) ns in
    let l = length_push ts (build (λ t. get_or ts t junk) n) in
    omega (arith, e, l)

first_place : {X : Type 0} (is : X → Bool) (d : X) (xs : List X) (n : ℕ) → n < length xs → is (get_or xs n d) ≡ true → ((i : ℕ) → i < n → is (get_or xs i d) ≡ false) → place_among is xs ≡ n
first_place is d [] n h at before = absurd (omega (arith, h))
first_place is d (x ∷ xs) zero h at before = ap (λ b. if b then 0 else suc (place_among is xs)) at
first_place is d (x ∷ xs) (suc n) h at before =
    ap (λ b. if b then 0 else suc (place_among is xs)) (before 0 (omega arith)) ∙ ap suc (first_place is d xs n (omega (arith, h)) at (λ i l. before (suc i) (omega (arith, l))))

pub term_there : (b : Forms) (t : TermId) → get_or (terms_of_bank b) t.0 no_term ≡ term_at b t
unfolding tree_at
term_there b t = refl

place_there : (b : Forms) → AreApart b → (t : TermId) → HasTerm b t → place_among (same_term (term_at b t)) (terms_of_bank b) ≡ t.0
place_there b apart t h =
    let l : length (terms_of_bank b) ≡ length b.terms = length_trees no_term build_term [] b.terms ∙ omega arith in
    first_place (same_term (term_at b t)) no_term (terms_of_bank b) t.0 (omega (arith, l, h))
    (ap (same_term (term_at b t)) (term_there b t) ∙ sym (apart.terms t t h h) ∙ eq-eqb t.0 t.0 refl)
    (λ i s.
    ap (same_term (term_at b t)) (term_there b (number i)) ∙ sym (apart.terms t (number i) h (omega (arith, s, h))) ∙ ne_eqb t.0 i (λ e. omega (arith, e, s)))

pub is_classing : (b : Forms) (classes : List ℕ) → AreApart b → IsClassing b classes (class_of b classes)
unfolding class_of
is_classing b classes apart = record { at = λ t h. ap (λ n. class_number classes (number n)) (place_there b apart t h) }

-- ---- classes of terms

pub classes_numbered : (b : Forms) (classes : List ℕ) (class : Classing) → IsClassing b classes class → (ts : List TermId) → HasTerms b ts → classes_in class (terms_from (terms_at b ts)) ≡ map (class_number classes) ts
classes_numbered b classes class c [] h = refl
classes_numbered b classes class c (t ∷ ts) h =
    ap (λ n. n ∷ classes_in class (terms_from (terms_at b ts))) (c.at t h.0) ∙ ap (λ ns. class_number classes t ∷ ns) (classes_numbered b classes class c ts h.1)
