-- The terms of what is told are those of the atoms.
use Rattle.std.proofs.Common.{◌≡◌, List, [], ◌∷◌, ◌++◌, Bool, true, false, ◌||◌, refl, ◌∙◌, ap, ⊎_elim, if◌then◌else◌}
use Rattle.std.specs.Prelude.{flat_map}
use Rattle.std.specs.List.{list_any}
use Rattle.std.proofs.lemmas.Bool.{cases_Bool}
use Rattle.ss_logic.specs.Terms.{Term, Terms}
use Rattle.ss_logic.specs.Formulas.{Predicate, Formula, Formulas, Literal, And, Or, Forall, Exists, no_formulas, formula_then}
use Rattle.ss_logic.specs.Equal.{same_formula, equal_formulas}
use Rattle.ss_logic.specs.Occurring.{with_formula, with_formulas, with_terms_of, with_terms_of_all, atoms_in, all_atoms_in, terms}
use Rattle.ss_logic_countermodels.specs.Refuting.{told_in, all_told_in, told}

abbrev literals : List Formula → List Formula
literals [] = []
literals (Literal s p ts ∷ fs) = Literal s p ts ∷ literals fs
literals (And gs ∷ fs) = literals fs
literals (Or gs ∷ fs) = literals fs
literals (Forall ss f ∷ fs) = literals fs
literals (Exists ss f ∷ fs) = literals fs

-- ---- terms

only_literals : (found : List Term) (fs : List Formula) → with_terms_of_all found fs ≡ with_terms_of_all found (literals fs)
only_literals found [] = refl
only_literals found (Literal s p ts ∷ fs) = only_literals (with_terms_of found (Literal s p ts)) fs
only_literals found (And gs ∷ fs) = only_literals found fs
only_literals found (Or gs ∷ fs) = only_literals found fs
only_literals found (Forall ss f ∷ fs) = only_literals found fs
only_literals found (Exists ss f ∷ fs) = only_literals found fs

-- ---- the literals of a list without repetition

literals-append : (fs gs : List Formula) → literals (fs ++ gs) ≡ literals fs ++ literals gs
literals-append [] gs = refl
literals-append (Literal s p ts ∷ fs) gs = ap (λ hs. Literal s p ts ∷ hs) (literals-append fs gs)
literals-append (And hs ∷ fs) gs = literals-append fs gs
literals-append (Or hs ∷ fs) gs = literals-append fs gs
literals-append (Forall ss f ∷ fs) gs = literals-append fs gs
literals-append (Exists ss f ∷ fs) gs = literals-append fs gs

differ : (f g : Formula) → (f ≡ g → ⊥) → same_formula f g ≡ false
differ f g n = ⊎_elim (λ (e : same_formula f g ≡ true). absurd (n (equal_formulas f g e))) (λ (e : same_formula f g ≡ false). e) (cases_Bool (same_formula f g))

module _ (s : Bool) (p : Predicate) (ts : Terms) where
  abbrev L : Formula
  L = Literal s p ts

  skipped : (g : Formula) (fs : List Formula) → (L ≡ g → ⊥) → list_any (same_formula L) fs ≡ list_any (same_formula L) (literals fs) → (same_formula L g || list_any (same_formula L) fs) ≡ list_any (same_formula L) (literals fs)
  skipped g fs n h = ap (λ v. v || list_any (same_formula L) fs) (differ L g n) ∙ h

  among_literals : (fs : List Formula) → list_any (same_formula L) fs ≡ list_any (same_formula L) (literals fs)
  among_literals [] = refl
  among_literals (Literal r q us ∷ fs) = ap (λ v. same_formula L (Literal r q us) || v) (among_literals fs)
  among_literals (And gs ∷ fs) = skipped (And gs) fs (λ e. cc) (among_literals fs)
  among_literals (Or gs ∷ fs) = skipped (Or gs) fs (λ e. cc) (among_literals fs)
  among_literals (Forall ss f ∷ fs) = skipped (Forall ss f) fs (λ e. cc) (among_literals fs)
  among_literals (Exists ss f ∷ fs) = skipped (Exists ss f) fs (λ e. cc) (among_literals fs)

  with_literal : (found : List Formula) → literals (with_formula found L) ≡ with_formula (literals found) L
  with_literal found = by (list_any (same_formula L) found) ∙ ap (λ v. if v then literals found else literals found ++ L ∷ []) (among_literals found)
    where
      by : (v : Bool) → literals (if v then found else found ++ L ∷ []) ≡ (if v then literals found else literals found ++ L ∷ [])
      by true = refl
      by false = literals-append found (L ∷ [])

none_more : (fs : List Formula) → fs ++ [] ≡ fs
none_more [] = refl
none_more (f ∷ fs) = ap (λ gs. f ∷ gs) (none_more fs)

without_literal : (found : List Formula) (f : Formula) → literals (f ∷ []) ≡ [] → literals (with_formula found f) ≡ literals found
without_literal found f e = by (list_any (same_formula f) found)
  where
    by : (v : Bool) → literals (if v then found else found ++ f ∷ []) ≡ literals found
    by true = refl
    by false = literals-append found (f ∷ []) ∙ ap (λ gs. literals found ++ gs) e ∙ none_more (literals found)

literals_with : (found fs : List Formula) → literals (with_formulas found fs) ≡ with_formulas (literals found) (literals fs)
literals_with found [] = refl
literals_with found (Literal s p ts ∷ fs) = literals_with (with_formula found (Literal s p ts)) fs ∙ ap (λ gs. with_formulas gs (literals fs)) (with_literal s p ts found)
literals_with found (And gs ∷ fs) = literals_with (with_formula found (And gs)) fs ∙ ap (λ hs. with_formulas hs (literals fs)) (without_literal found (And gs) refl)
literals_with found (Or gs ∷ fs) = literals_with (with_formula found (Or gs)) fs ∙ ap (λ hs. with_formulas hs (literals fs)) (without_literal found (Or gs) refl)
literals_with found (Forall ss f ∷ fs) = literals_with (with_formula found (Forall ss f)) fs ∙ ap (λ hs. with_formulas hs (literals fs)) (without_literal found (Forall ss f) refl)
literals_with found (Exists ss f ∷ fs) = literals_with (with_formula found (Exists ss f)) fs ∙ ap (λ hs. with_formulas hs (literals fs)) (without_literal found (Exists ss f) refl)

-- ---- what is told

mutual
  atoms_told : (f : Formula) → literals (told_in f) ≡ atoms_in f
  atoms_told (Literal s p ts) = refl
  atoms_told (And fs) = all_atoms_told fs
  atoms_told (Or fs) = all_atoms_told fs
  atoms_told (Forall ss f) = refl
  atoms_told (Exists ss f) = refl

  all_atoms_told : (fs : Formulas) → literals (all_told_in fs) ≡ all_atoms_in fs
  all_atoms_told no_formulas = refl
  all_atoms_told (formula_then f fs) =
      literals-append (told_in f) (all_told_in fs) ∙ ap (λ gs. gs ++ literals (all_told_in fs)) (atoms_told f) ∙ ap (λ gs. atoms_in f ++ gs) (all_atoms_told fs)

list_told : (fs : List Formula) → literals (flat_map told_in fs) ≡ flat_map atoms_in fs
list_told [] = refl
list_told (f ∷ fs) =
    literals-append (told_in f) (flat_map told_in fs) ∙ ap (λ gs. gs ++ literals (flat_map told_in fs)) (atoms_told f) ∙ ap (λ gs. atoms_in f ++ gs) (list_told fs)

pub terms_told : (fs : List Formula) → with_terms_of_all [] (told fs) ≡ terms fs
terms_told fs =
    only_literals [] (told fs)
    ∙ ap (with_terms_of_all []) (literals_with [] (flat_map told_in fs))
    ∙ ap (λ gs. with_terms_of_all [] (with_formulas [] gs)) (list_told fs)
