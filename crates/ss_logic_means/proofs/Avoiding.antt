-- Where a constant doesn't occur.
use Rattle.std.proofs.Common.{◌≡◌, ℕ, zero, suc, List, [], ◌∷◌, Bool, true, false, not, ◌&&◌, eqb, refl, sym, ◌∙◌, ap, subst, ⊎_elim}
use Rattle.std.specs.Prelude.{if◌then◌else◌}
use Rattle.std.specs.List.{Contains, list_all}
use Rattle.std.proofs.lemmas.Bool.{false≢true, and_parts, and_from, false_from_ne_true, not_from_false}
use Rattle.std.proofs.lemmas.List.Elements.{Contains-append_left, Contains-append_right, Contains-append_cases}
use Rattle.ss_logic.specs.declared.Sort.{Sort}
use Rattle.ss_logic.specs.Terms.{Symbol, Constant, Term, Bound, App, Terms, no_terms, term_then, same_sort}
use Rattle.ss_logic.specs.Formulas.{Predicate, Formula, Formulas, Literal, And, Or, Forall, Exists, no_formulas, formula_then, neg, neg_all, bound_in, put_term, put_terms, put, put_all, is_constant, term_avoids, terms_avoid, avoids, all_avoid}
use Rattle.ss_logic.specs.Equal.{same_formula}
use Rattle.ss_logic.specs.Occurring.{quantified_in, all_quantified_in, literals_in, all_literals_in, all_atoms, all_terms}
use Rattle.ss_logic.specs.Opened.{is_numbered, replaced, all_replaced}
use Rattle.ss_logic.proofs.Lists.{contains_head, contains_cons, contains_split, contains_none, any_from}
use Rattle.ss_logic.proofs.Occurring.{subterms, all_subterms, to_collected, terms_there}
use Rattle.ss_logic_means.specs.Starting.{Avoids}
use Rattle.ss_logic_means.proofs.Fresh.{same_sort_sym}

module _ (s : Sort) (k : ℕ) where
  -- ---- negations

  mutual
    pub neg_avoids : (f : Formula) → avoids s k f ≡ true → avoids s k (neg f) ≡ true
    neg_avoids (Literal sign p ts) h = h
    neg_avoids (And fs) h = negs_avoid fs h
    neg_avoids (Or fs) h = negs_avoid fs h
    neg_avoids (Forall ss f) h = neg_avoids f h
    neg_avoids (Exists ss f) h = neg_avoids f h

    negs_avoid : (fs : Formulas) → all_avoid s k fs ≡ true → all_avoid s k (neg_all fs) ≡ true
    negs_avoid no_formulas h = refl
    negs_avoid (formula_then f fs) h = let p = and_parts (avoids s k f) (all_avoid s k fs) h in and_from (avoids s k (neg f)) (all_avoid s k (neg_all fs)) (neg_avoids f p.0) (negs_avoid fs p.1)

  -- ---- terms in place of bound names

  bound_avoids : (ts : List Term) (i : ℕ) → list_all (term_avoids s k) ts ≡ true → term_avoids s k (bound_in ts i) ≡ true
  bound_avoids [] i h = refl
  bound_avoids (t ∷ ts) zero h = (and_parts (term_avoids s k t) (list_all (term_avoids s k) ts) h).0
  bound_avoids (t ∷ ts) (suc i) h = bound_avoids ts i (and_parts (term_avoids s k t) (list_all (term_avoids s k) ts) h).1

  module _ (ts : List Term) (all : list_all (term_avoids s k) ts ≡ true) where
    mutual
      put_term_avoids : (x : Term) → term_avoids s k x ≡ true → term_avoids s k (put_term ts x) ≡ true
      put_term_avoids (Bound i) h = bound_avoids ts i all
      put_term_avoids (App f xs) h = let p = and_parts (not (is_constant s k f)) (terms_avoid s k xs) h in and_from (not (is_constant s k f)) (terms_avoid s k (put_terms ts xs)) p.0 (put_terms_avoid xs p.1)

      put_terms_avoid : (xs : Terms) → terms_avoid s k xs ≡ true → terms_avoid s k (put_terms ts xs) ≡ true
      put_terms_avoid no_terms h = refl
      put_terms_avoid (term_then x xs) h =
          let p = and_parts (term_avoids s k x) (terms_avoid s k xs) h in
          and_from (term_avoids s k (put_term ts x)) (terms_avoid s k (put_terms ts xs)) (put_term_avoids x p.0) (put_terms_avoid xs p.1)

    mutual
      pub put_avoids : (f : Formula) → avoids s k f ≡ true → avoids s k (put ts f) ≡ true
      put_avoids (Literal sign p xs) h = put_terms_avoid xs h
      put_avoids (And fs) h = puts_avoid fs h
      put_avoids (Or fs) h = puts_avoid fs h
      put_avoids (Forall ss f) h = put_avoids f h
      put_avoids (Exists ss f) h = put_avoids f h

      puts_avoid : (fs : Formulas) → all_avoid s k fs ≡ true → all_avoid s k (put_all ts fs) ≡ true
      puts_avoid no_formulas h = refl
      puts_avoid (formula_then f fs) h = let p = and_parts (avoids s k f) (all_avoid s k fs) h in and_from (avoids s k (put ts f)) (all_avoid s k (put_all ts fs)) (put_avoids f p.0) (puts_avoid fs p.1)

  -- ---- a formula in place of another

  module _ (x g : Formula) (instead : avoids s k g ≡ true) where
    either : (b : Bool) (f : Formula) → avoids s k f ≡ true → avoids s k (if b then g else f) ≡ true
    either true f h = instead
    either false f h = h

    mutual
      pub replaced_avoids : (f : Formula) → avoids s k f ≡ true → avoids s k (replaced x g f) ≡ true
      replaced_avoids (Literal sign p ts) h = h
      replaced_avoids (And fs) h = all_replaced_avoid fs h
      replaced_avoids (Or fs) h = all_replaced_avoid fs h
      replaced_avoids (Forall ss f) h = either (same_formula x (Forall ss f)) (Forall ss f) h
      replaced_avoids (Exists ss f) h = either (same_formula x (Exists ss f)) (Exists ss f) h

      all_replaced_avoid : (fs : Formulas) → all_avoid s k fs ≡ true → all_avoid s k (all_replaced x g fs) ≡ true
      all_replaced_avoid no_formulas h = refl
      all_replaced_avoid (formula_then f fs) h =
          let p = and_parts (avoids s k f) (all_avoid s k fs) h in
          and_from (avoids s k (replaced x g f)) (all_avoid s k (all_replaced x g fs)) (replaced_avoids f p.0) (all_replaced_avoid fs p.1)

  -- ---- quantified formulas in it

  single : (f x : Formula) → Contains (f ∷ []) x → f ≡ x
  single f x c = ⊎_elim (λ e. e) (λ n. absurd (contains_none x n)) (contains_split f [] x c)

  mutual
    pub quantified_avoids : (f x : Formula) → Contains (quantified_in f) x → avoids s k f ≡ true → avoids s k x ≡ true
    quantified_avoids (Literal sign p ts) x c h = absurd (contains_none x c)
    quantified_avoids (And fs) x c h = all_quantified_avoid fs x c h
    quantified_avoids (Or fs) x c h = all_quantified_avoid fs x c h
    quantified_avoids (Forall ss f) x c h = subst (λ y. avoids s k y ≡ true) (single (Forall ss f) x c) h
    quantified_avoids (Exists ss f) x c h = subst (λ y. avoids s k y ≡ true) (single (Exists ss f) x c) h

    all_quantified_avoid : (fs : Formulas) (x : Formula) → Contains (all_quantified_in fs) x → all_avoid s k fs ≡ true → avoids s k x ≡ true
    all_quantified_avoid no_formulas x c h = absurd (contains_none x c)
    all_quantified_avoid (formula_then f fs) x c h =
        let p = and_parts (avoids s k f) (all_avoid s k fs) h in
        ⊎_elim (λ a. quantified_avoids f x a p.0) (λ b. all_quantified_avoid fs x b p.1) (Contains-append_cases (quantified_in f) (all_quantified_in fs) x c)

  -- ---- the terms of a formula

  symbol_apart : (f : Symbol) (ts : Terms) → is_numbered s k (App f ts) ≡ false → not (is_constant s k f) ≡ true
  symbol_apart (Constant r j) ts h = not_from_false (same_sort s r && eqb j k) (ap (λ b. b && eqb j k) (same_sort_sym s r) ∙ h)
  symbol_apart f ts h = refl

  mutual
    term_avoided : (t : Term) → ((u : Term) → Contains (subterms t) u → is_numbered s k u ≡ false) → term_avoids s k t ≡ true
    term_avoided (Bound i) h = refl
    term_avoided (App f ts) h =
        and_from (not (is_constant s k f)) (terms_avoid s k ts) (symbol_apart f ts (h (App f ts) (contains_head (App f ts) (all_subterms ts))))
        (terms_avoided ts (λ u c. h u (contains_cons (App f ts) (all_subterms ts) u c)))

    terms_avoided : (ts : Terms) → ((u : Term) → Contains (all_subterms ts) u → is_numbered s k u ≡ false) → terms_avoid s k ts ≡ true
    terms_avoided no_terms h = refl
    terms_avoided (term_then t ts) h =
        and_from (term_avoids s k t) (terms_avoid s k ts) (term_avoided t (λ u c. h u (Contains-append_left (subterms t) (all_subterms ts) u c)))
        (terms_avoided ts (λ u c. h u (Contains-append_right (subterms t) (all_subterms ts) u c)))

  mutual
    formula_avoided : (f : Formula) → ((p : Predicate) (ts : Terms) → Contains (literals_in f) (Literal true p ts) → terms_avoid s k ts ≡ true) → avoids s k f ≡ true
    formula_avoided (Literal sign p ts) h = h p ts (contains_head (Literal true p ts) [])
    formula_avoided (And fs) h = formulas_avoided fs h
    formula_avoided (Or fs) h = formulas_avoided fs h
    formula_avoided (Forall ss f) h = formula_avoided f h
    formula_avoided (Exists ss f) h = formula_avoided f h

    formulas_avoided : (fs : Formulas) → ((p : Predicate) (ts : Terms) → Contains (all_literals_in fs) (Literal true p ts) → terms_avoid s k ts ≡ true) → all_avoid s k fs ≡ true
    formulas_avoided no_formulas h = refl
    formulas_avoided (formula_then f fs) h =
        and_from (avoids s k f) (all_avoid s k fs) (formula_avoided f (λ p ts c. h p ts (Contains-append_left (literals_in f) (all_literals_in fs) (Literal true p ts) c)))
        (formulas_avoided fs (λ p ts c. h p ts (Contains-append_right (literals_in f) (all_literals_in fs) (Literal true p ts) c)))

-- where all terms of a list are in use, a constant that isn't among them occurs in none of it
pub terms_avoid_all : (fs : List Formula) (f : Formula) → Contains fs f → Avoids (all_terms fs) f
terms_avoid_all fs f c s k none =
    formula_avoided s k f (λ p ts l.
    terms_avoided s k ts (λ u m.
    let there = terms_there (all_atoms fs) (Literal true p ts) (to_collected literals_in fs f (Literal true p ts) c l) u m in
    false_from_ne_true (is_numbered s k u) (λ e. false≢true (sym none ∙ any_from (is_numbered s k) (all_terms fs) u there e))))
