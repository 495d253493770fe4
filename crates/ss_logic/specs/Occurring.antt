-- What occurs in a list of formulas.
use Rattle.std.specs.Prelude.{List, [], ◌∷◌, ◌++◌, flat_map, true, if◌then◌else◌}
use Rattle.std.specs.List.{list_any}
use Rattle.ss_logic.specs.Terms.{Term, Bound, App, Terms, no_terms, term_then}
use Rattle.ss_logic.specs.Formulas.{Formula, Formulas, Literal, And, Or, Forall, Exists, no_formulas, formula_then}
use Rattle.ss_logic.specs.Equal.{same_term, same_formula}

-- ---- each once, at its first place

abbrev pub with_formula : List Formula → Formula → List Formula
with_formula found f = if list_any (same_formula f) found then found else found ++ f ∷ []

-- the list with these, each once
abbrev pub with_formulas : List Formula → List Formula → List Formula
with_formulas found [] = found
with_formulas found (f ∷ fs) = with_formulas (with_formula found f) fs

-- The list with a term, and then with its arguments. Where the term is in the list, its arguments are there too.
abbrev mutual
  pub with_term : List Term → Term → List Term
  with_term found (Bound k) = found
  with_term found (App f ts) = if list_any (same_term (App f ts)) found then found else with_arguments (found ++ App f ts ∷ []) ts

  pub with_arguments : List Term → Terms → List Term
  with_arguments found no_terms = found
  with_arguments found (term_then t ts) = with_arguments (with_term found t) ts

abbrev pub with_terms_of : List Term → Formula → List Term
with_terms_of found (Literal sign p ts) = with_arguments found ts
with_terms_of found f = found

abbrev pub with_terms_of_all : List Term → List Formula → List Term
with_terms_of_all found [] = found
with_terms_of_all found (f ∷ fs) = with_terms_of_all (with_terms_of found f) fs

-- ---- outside quantified formulas

abbrev mutual
  pub atoms_in : Formula → List Formula
  atoms_in (Literal sign p ts) = Literal true p ts ∷ []
  atoms_in (And fs) = all_atoms_in fs
  atoms_in (Or fs) = all_atoms_in fs
  atoms_in (Forall ss f) = []
  atoms_in (Exists ss f) = []

  pub all_atoms_in : Formulas → List Formula
  all_atoms_in no_formulas = []
  all_atoms_in (formula_then f fs) = atoms_in f ++ all_atoms_in fs

abbrev mutual
  pub quantified_in : Formula → List Formula
  quantified_in (Literal sign p ts) = []
  quantified_in (And fs) = all_quantified_in fs
  quantified_in (Or fs) = all_quantified_in fs
  quantified_in (Forall ss f) = Forall ss f ∷ []
  quantified_in (Exists ss f) = Exists ss f ∷ []

  pub all_quantified_in : Formulas → List Formula
  all_quantified_in no_formulas = []
  all_quantified_in (formula_then f fs) = quantified_in f ++ all_quantified_in fs

-- the atoms, the terms and the quantified formulas of a list
abbrev pub atoms : List Formula → List Formula
atoms fs = with_formulas [] (flat_map atoms_in fs)

abbrev pub terms : List Formula → List Term
terms fs = with_terms_of_all [] (atoms fs)

abbrev pub quantified : List Formula → List Formula
quantified fs = with_formulas [] (flat_map quantified_in fs)

-- ---- inside them too

abbrev mutual
  pub literals_in : Formula → List Formula
  literals_in (Literal sign p ts) = Literal true p ts ∷ []
  literals_in (And fs) = all_literals_in fs
  literals_in (Or fs) = all_literals_in fs
  literals_in (Forall ss f) = literals_in f
  literals_in (Exists ss f) = literals_in f

  pub all_literals_in : Formulas → List Formula
  all_literals_in no_formulas = []
  all_literals_in (formula_then f fs) = literals_in f ++ all_literals_in fs

abbrev pub all_atoms : List Formula → List Formula
all_atoms fs = with_formulas [] (flat_map literals_in fs)

abbrev pub all_terms : List Formula → List Term
all_terms fs = with_terms_of_all [] (all_atoms fs)
