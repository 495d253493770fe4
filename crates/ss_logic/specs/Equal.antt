-- Tests of equality of terms and formulas.
use Rattle.std.specs.Prelude.{◌≡◌, Bool, true, false, List, [], ◌∷◌}
use Rattle.std.proofs.Common.{refl, subst, sym, ap, ◌∙◌}
use Rattle.std.proofs.lemmas.Bool.{false≢true}
use Rattle.std.proofs.Math.Decide.{ℕ_discrete}
use Rattle.std.proofs.Math.IntN.{ℤ_discrete}
use Rattle.std.proofs.Math.Bool.{Bool-discrete}
use Rattle.ss_logic.specs.declared.Sort.{Sort}
use Rattle.ss_logic.specs.declared.Sort.TheVariants as sort
use Rattle.ss_logic.specs.Terms.{Symbol, Symbol-discrete, Term, Term-discrete, Terms-discrete}
use Rattle.ss_logic.specs.Formulas.{Predicate, Predicate-discrete, Formula, Formula-discrete}

-- a sort and itself
abbrev Alike : Sort → Sort → Type 0
Alike sort.Store sort.Store = Unit {0}
Alike sort.Whole sort.Whole = Unit {0}
Alike sort.Truth sort.Truth = Unit {0}
Alike sort.Rest sort.Rest = Unit {0}
Alike s r = ⊥

pub Sort-discrete : Discrete Sort
Sort-discrete sort.Store sort.Store = yes refl
Sort-discrete sort.Whole sort.Whole = yes refl
Sort-discrete sort.Truth sort.Truth = yes refl
Sort-discrete sort.Rest sort.Rest = yes refl
Sort-discrete s r = no (λ e. subst (λ x. Alike s x) e tt)

abbrev pub answer : {A : Type 0} → Dec A → Bool
answer (yes a) = true
answer (no n) = false

abbrev IsEmpty : List Sort → Type 0
IsEmpty [] = Unit {0}
IsEmpty (s ∷ ss) = ⊥

abbrev head_or : Sort → List Sort → Sort
head_or other [] = other
head_or other (s ∷ ss) = s

abbrev tail_of : List Sort → List Sort
tail_of [] = []
tail_of (s ∷ ss) = ss

pub sorts_discrete : Discrete (List Sort)
sorts_discrete [] [] = yes refl
sorts_discrete [] (r ∷ rs) = no (λ e. subst IsEmpty e tt)
sorts_discrete (s ∷ ss) [] = no (λ e. subst IsEmpty (sym e) tt)
sorts_discrete (s ∷ ss) (r ∷ rs) = both (Sort-discrete s r) (sorts_discrete ss rs)
  where
    both : Dec (s ≡ r) → Dec (ss ≡ rs) → Dec (s ∷ ss ≡ r ∷ rs)
    both (yes a) (yes b) = yes (ap (λ x. x ∷ ss) a ∙ ap (λ xs. r ∷ xs) b)
    both (no n) b = no (λ e. n (ap (head_or s) e))
    both (yes a) (no n) = no (λ e. n (ap tail_of e))

pub symbols_discrete : Discrete Symbol
symbols_discrete = Symbol-discrete ℤ_discrete Bool-discrete ℕ_discrete Sort-discrete

-- the terms are equal
unfoldable pub same_term : Term → Term → Bool
same_term x y = answer (Term-discrete ℕ_discrete symbols_discrete x y)

-- the formulas are equal
unfoldable pub same_formula : Formula → Formula → Bool
same_formula f g = answer (Formula-discrete Bool-discrete Predicate-discrete (Terms-discrete ℕ_discrete symbols_discrete) sorts_discrete f g)

-- the functions are, and the predicates
unfoldable pub same_symbol : Symbol → Symbol → Bool
same_symbol f g = answer (symbols_discrete f g)

unfoldable pub same_predicate : Predicate → Predicate → Bool
same_predicate p q = answer (Predicate-discrete p q)

pub from_answer : {A : Type 0} (d : Dec A) → answer d ≡ true → A
from_answer (yes a) h = a
from_answer (no n) h = absurd (false≢true h)

pub answer_from : {A : Type 0} (d : Dec A) → A → answer d ≡ true
answer_from (yes a) x = refl
answer_from (no n) x = absurd (n x)

pub equal_terms : (x y : Term) → same_term x y ≡ true → x ≡ y
unfolding same_term
equal_terms x y h = from_answer _ h

pub same_term_equal : (x y : Term) → x ≡ y → same_term x y ≡ true
unfolding same_term
same_term_equal x y e = answer_from _ e

pub equal_formulas : (f g : Formula) → same_formula f g ≡ true → f ≡ g
unfolding same_formula
equal_formulas f g h = from_answer _ h

pub same_formula_equal : (f g : Formula) → f ≡ g → same_formula f g ≡ true
unfolding same_formula
same_formula_equal f g e = answer_from _ e

pub equal_symbols : (f g : Symbol) → same_symbol f g ≡ true → f ≡ g
unfolding same_symbol
equal_symbols f g h = from_answer _ h

pub equal_predicates : (p q : Predicate) → same_predicate p q ≡ true → p ≡ q
unfolding same_predicate
equal_predicates p q h = from_answer _ h
