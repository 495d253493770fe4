-- What occurs in well formed formulas is well formed.
use Rattle.std.proofs.Common.{◌≡◌, List, [], ◌∷◌, ◌++◌, Bool, true, false, refl, sym, subst, ⊎_elim, append-nil, append_assoc}
use Rattle.std.specs.Prelude.{if◌then◌else◌}
use Rattle.std.specs.List.{Contains}
use Rattle.std.proofs.lemmas.Bool.{and_parts, and_from}
use Rattle.std.proofs.lemmas.List.Elements.{Contains-append_cases}
use Rattle.ss_core.specs.Tree.{ClassTree}
use Rattle.ss_logic.specs.declared.Sort.{Sort}
use Rattle.ss_logic.specs.Terms.{Term, Bound, App, Terms, no_terms, term_then, takes, sorts_of, is_well_sorted, are_well_sorted}
use Rattle.ss_logic.specs.Formulas.{Formula, Formulas, Literal, And, Or, Forall, Exists, no_formulas, formula_then, takes_sorts, are_bound_sorts, is_well_formed, are_well_formed}
use Rattle.ss_logic.specs.Equal.{same_formula}
use Rattle.ss_logic_means.specs.Sorts.{AreWellFormed}
use Rattle.ss_logic.specs.Occurring.{atoms_in, all_atoms_in, quantified_in, all_quantified_in, literals_in, all_literals_in, atoms, terms, all_atoms, all_terms}
use Rattle.ss_logic.specs.Opened.{replaced, all_replaced}
use Rattle.ss_logic.proofs.Lists.{contains_head, contains_cons, contains_split, contains_none}
use Rattle.ss_logic.proofs.Occurring.{subterms, all_subterms, terms_in, from_collected, terms_come}

module _ (cs : List ClassTree) where
  -- each formula of the list is well formed
  abbrev pub EachFormed : List Sort → List Formula → Type 0
  EachFormed bound fs = (f : Formula) → Contains fs f → is_well_formed cs bound f ≡ true

  pub each_formed : (bound : List Sort) (fs : List Formula) → AreWellFormed cs bound fs → EachFormed bound fs
  each_formed bound [] h f c = absurd (contains_none f c)
  each_formed bound (g ∷ fs) h f c = ⊎_elim (λ e. subst (λ x. is_well_formed cs bound x ≡ true) e h.0) (λ k. each_formed bound fs h.1 f k) (contains_split g fs f c)

  pub all_formed : (bound : List Sort) (fs : List Formula) → EachFormed bound fs → AreWellFormed cs bound fs
  all_formed bound [] h = tt
  all_formed bound (f ∷ fs) h = (h f (contains_head f fs), all_formed bound fs (λ g c. h g (contains_cons f fs g c)))

  single : (f x : Formula) → Contains (f ∷ []) x → f ≡ x
  single f x c = ⊎_elim (λ e. e) (λ n. absurd (contains_none x n)) (contains_split f [] x c)

  -- ---- outside quantified formulas

  mutual
    pub quantified_formed : (bound : List Sort) (f x : Formula) → Contains (quantified_in f) x → is_well_formed cs bound f ≡ true → is_well_formed cs bound x ≡ true
    quantified_formed bound (Literal sign p ts) x c h = absurd (contains_none x c)
    quantified_formed bound (And fs) x c h = all_quantified_formed bound fs x c h
    quantified_formed bound (Or fs) x c h = all_quantified_formed bound fs x c h
    quantified_formed bound (Forall ss f) x c h = subst (λ y. is_well_formed cs bound y ≡ true) (single (Forall ss f) x c) h
    quantified_formed bound (Exists ss f) x c h = subst (λ y. is_well_formed cs bound y ≡ true) (single (Exists ss f) x c) h

    all_quantified_formed : (bound : List Sort) (fs : Formulas) (x : Formula) → Contains (all_quantified_in fs) x → are_well_formed cs bound fs ≡ true → is_well_formed cs bound x ≡ true
    all_quantified_formed bound no_formulas x c h = absurd (contains_none x c)
    all_quantified_formed bound (formula_then f fs) x c h =
        let p = and_parts (is_well_formed cs bound f) (are_well_formed cs bound fs) h in
        ⊎_elim (λ a. quantified_formed bound f x a p.0) (λ b. all_quantified_formed bound fs x b p.1) (Contains-append_cases (quantified_in f) (all_quantified_in fs) x c)

  mutual
    atom_formed : (bound : List Sort) (f x : Formula) → Contains (atoms_in f) x → is_well_formed cs bound f ≡ true → is_well_formed cs bound x ≡ true
    atom_formed bound (Literal sign p ts) x c h = subst (λ y. is_well_formed cs bound y ≡ true) (single (Literal true p ts) x c) h
    atom_formed bound (And fs) x c h = all_atoms_formed bound fs x c h
    atom_formed bound (Or fs) x c h = all_atoms_formed bound fs x c h
    atom_formed bound (Forall ss f) x c h = absurd (contains_none x c)
    atom_formed bound (Exists ss f) x c h = absurd (contains_none x c)

    all_atoms_formed : (bound : List Sort) (fs : Formulas) (x : Formula) → Contains (all_atoms_in fs) x → are_well_formed cs bound fs ≡ true → is_well_formed cs bound x ≡ true
    all_atoms_formed bound no_formulas x c h = absurd (contains_none x c)
    all_atoms_formed bound (formula_then f fs) x c h =
        let p = and_parts (is_well_formed cs bound f) (are_well_formed cs bound fs) h in
        ⊎_elim (λ a. atom_formed bound f x a p.0) (λ b. all_atoms_formed bound fs x b p.1) (Contains-append_cases (atoms_in f) (all_atoms_in fs) x c)

  -- ---- inside them, where more names are bound

  abbrev pub FormedBelow : List Sort → Formula → Type 0
  FormedBelow bound x = (more : List Sort) × (is_well_formed cs (bound ++ more) x ≡ true)

  inside : (bound ss : List Sort) (x : Formula) → FormedBelow (bound ++ ss) x → FormedBelow bound x
  inside bound ss x h = (ss ++ h.0, subst (λ w. is_well_formed cs w x ≡ true) (append_assoc bound ss h.0) h.1)

  mutual
    literal_formed : (bound : List Sort) (f x : Formula) → Contains (literals_in f) x → is_well_formed cs bound f ≡ true → FormedBelow bound x
    literal_formed bound (Literal sign p ts) x c h =
        ([], subst (λ w. is_well_formed cs w x ≡ true) (sym (append-nil bound)) (subst (λ y. is_well_formed cs bound y ≡ true) (single (Literal true p ts) x c) h))
    literal_formed bound (And fs) x c h = all_literals_formed bound fs x c h
    literal_formed bound (Or fs) x c h = all_literals_formed bound fs x c h
    literal_formed bound (Forall ss f) x c h = inside bound ss x (literal_formed (bound ++ ss) f x c (and_parts (are_bound_sorts ss) (is_well_formed cs (bound ++ ss) f) h).1)
    literal_formed bound (Exists ss f) x c h = inside bound ss x (literal_formed (bound ++ ss) f x c (and_parts (are_bound_sorts ss) (is_well_formed cs (bound ++ ss) f) h).1)

    all_literals_formed : (bound : List Sort) (fs : Formulas) (x : Formula) → Contains (all_literals_in fs) x → are_well_formed cs bound fs ≡ true → FormedBelow bound x
    all_literals_formed bound no_formulas x c h = absurd (contains_none x c)
    all_literals_formed bound (formula_then f fs) x c h =
        let p = and_parts (is_well_formed cs bound f) (are_well_formed cs bound fs) h in
        ⊎_elim (λ a. literal_formed bound f x a p.0) (λ b. all_literals_formed bound fs x b p.1) (Contains-append_cases (literals_in f) (all_literals_in fs) x c)

  -- ---- terms

  mutual
    subterm_sorted : (bound : List Sort) (t u : Term) → Contains (subterms t) u → is_well_sorted cs bound t ≡ true → is_well_sorted cs bound u ≡ true
    subterm_sorted bound (Bound k) u c h = absurd (contains_none u c)
    subterm_sorted bound (App f ts) u c h = ⊎_elim
        (λ e. subst (λ x. is_well_sorted cs bound x ≡ true) e h)
        (λ k. subterms_sorted bound ts u k (and_parts (takes cs f (sorts_of cs bound ts)) (are_well_sorted cs bound ts) h).1)
        (contains_split (App f ts) (all_subterms ts) u c)

    subterms_sorted : (bound : List Sort) (ts : Terms) (u : Term) → Contains (all_subterms ts) u → are_well_sorted cs bound ts ≡ true → is_well_sorted cs bound u ≡ true
    subterms_sorted bound no_terms u c h = absurd (contains_none u c)
    subterms_sorted bound (term_then t ts) u c h =
        let p = and_parts (is_well_sorted cs bound t) (are_well_sorted cs bound ts) h in
        ⊎_elim (λ a. subterm_sorted bound t u a p.0) (λ b. subterms_sorted bound ts u b p.1) (Contains-append_cases (subterms t) (all_subterms ts) u c)

  term_in_sorted : (bound : List Sort) (f : Formula) (u : Term) → Contains (terms_in f) u → is_well_formed cs bound f ≡ true → is_well_sorted cs bound u ≡ true
  term_in_sorted bound (Literal sign p ts) u c h = subterms_sorted bound ts u c (and_parts (takes_sorts p (sorts_of cs bound ts)) (are_well_sorted cs bound ts) h).1
  term_in_sorted bound (And fs) u c h = absurd (contains_none u c)
  term_in_sorted bound (Or fs) u c h = absurd (contains_none u c)
  term_in_sorted bound (Forall ss f) u c h = absurd (contains_none u c)
  term_in_sorted bound (Exists ss f) u c h = absurd (contains_none u c)

  -- ---- of a list

  pub atoms_formed : (fs : List Formula) → EachFormed [] fs → EachFormed [] (atoms fs)
  atoms_formed fs h x c = let r = from_collected atoms_in fs x c in atom_formed [] r.0 x r.2 (h r.0 r.1)

  pub terms_sorted : (fs : List Formula) → EachFormed [] fs → (t : Term) → Contains (terms fs) t → is_well_sorted cs [] t ≡ true
  terms_sorted fs h t c = let r = terms_come (atoms fs) t c in term_in_sorted [] r.0 t r.2 (atoms_formed fs h r.0 r.1)

  pub literals_formed : (bound : List Sort) (fs : List Formula) → EachFormed bound fs → (x : Formula) → Contains (all_atoms fs) x → FormedBelow bound x
  literals_formed bound fs h x c = let r = from_collected literals_in fs x c in literal_formed bound r.0 x r.2 (h r.0 r.1)

  pub all_terms_sorted : (bound : List Sort) (fs : List Formula) → EachFormed bound fs → (t : Term) → Contains (all_terms fs) t → (more : List Sort) × (is_well_sorted cs (bound ++ more) t ≡ true)
  all_terms_sorted bound fs h t c =
      let r = terms_come (all_atoms fs) t c in
      let l = literals_formed bound fs h r.0 r.1 in
      (l.0, term_in_sorted (bound ++ l.0) r.0 t r.2 l.1)

  -- ---- a formula in place of another

  module _ (x g : Formula) (instead : is_well_formed cs [] g ≡ true) where
    either : (b : Bool) (f : Formula) → is_well_formed cs [] f ≡ true → is_well_formed cs [] (if b then g else f) ≡ true
    either true f h = instead
    either false f h = h

    mutual
      pub replaced_formed : (f : Formula) → is_well_formed cs [] f ≡ true → is_well_formed cs [] (replaced x g f) ≡ true
      replaced_formed (Literal sign p ts) h = h
      replaced_formed (And fs) h = all_replaced_formed fs h
      replaced_formed (Or fs) h = all_replaced_formed fs h
      replaced_formed (Forall ss f) h = either (same_formula x (Forall ss f)) (Forall ss f) h
      replaced_formed (Exists ss f) h = either (same_formula x (Exists ss f)) (Exists ss f) h

      all_replaced_formed : (fs : Formulas) → are_well_formed cs [] fs ≡ true → are_well_formed cs [] (all_replaced x g fs) ≡ true
      all_replaced_formed no_formulas h = refl
      all_replaced_formed (formula_then f fs) h =
          let p = and_parts (is_well_formed cs [] f) (are_well_formed cs [] fs) h in
          and_from (is_well_formed cs [] (replaced x g f)) (are_well_formed cs [] (all_replaced x g fs)) (replaced_formed f p.0) (all_replaced_formed fs p.1)
