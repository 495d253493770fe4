-- Terms put for bound names, number by number.
use Rattle.std.proofs.Common.{◌≡◌, ℕ, zero, suc, ◌+◌, ◌-◌, ◌*◌, ◌<◌, ◌≤◌, List, [], ◌∷◌, ◌++◌, length, map, take, true, refl, sym, ◌∙◌, ap, arith, get_or, Result, Ok, Err}
use Rattle.std.specs.Prelude.{IfOk}
use Rattle.std.proofs.lemmas.List.{map_push, take_more}
use Rattle.std.proofs.lemmas.Bool.{ltb-true, and_parts}
use Rattle.ss_core.specs.Tree.{ClassTree}
use Rattle.ss_logic.specs.Terms.{Term, Bound, App, Terms, no_terms, terms_from, term_then, takes, sorts_of, is_well_sorted, are_well_sorted}
use Rattle.ss_logic.specs.Formulas.{Formula, And, Or, formulas_from, formula_then, bound_in, put_term, put_terms, put, put_all}
use Rattle.ss_terms.specs.Lists.{SmallVec}
use Rattle.ss_terms.specs.declared.forms.TermId.{TermId}
use Rattle.ss_terms.specs.declared.forms.FormulaId.{FormulaId}
use Rattle.ss_terms.specs.declared.forms.Symbol.{Symbol}
use Rattle.ss_terms.specs.declared.forms.Term.TheVariants.{App as AppForm}
use Rattle.ss_terms.specs.declared.forms.Formula.TheVariants.{And as AndForm, Or as OrForm}
use Rattle.ss_terms.specs.Forms.{Forms, symbol_of, IsTermForm, IsFormulaForm, term_at, terms_at, formula_at, formulas_at, HasTerm, HasTerms, HasFormula, HasFormulas, AreTermsBelow, AreBelow, IsGrown}
use Rattle.ss_terms.proofs.Grown.{terms_at-grown, formulas_at-grown}
use Rattle.ss_terms.proofs.Tested.{AreTermsBelow-get, AreBelow-get}

-- ---- lists of numbers

pub AreTermsBelow-push : (n : ℕ) (ts : List TermId) (t : TermId) → AreTermsBelow n ts → t.0 < n → AreTermsBelow n (ts ++ t ∷ [])
AreTermsBelow-push n [] t h l = (l, tt)
AreTermsBelow-push n (u ∷ ts) t h l = (h.0, AreTermsBelow-push n ts t h.1 l)

pub AreBelow-push : (n : ℕ) (fs : List FormulaId) (f : FormulaId) → AreBelow n fs → f.0 < n → AreBelow n (fs ++ f ∷ [])
AreBelow-push n [] f h l = (l, tt)
AreBelow-push n (g ∷ fs) f h l = (h.0, AreBelow-push n fs f h.1 l)

-- ---- bound names

pub bound_in_within : (b : Forms) (ts : List TermId) (k : ℕ) (d : TermId) → HasTerms b ts → k < length ts → HasTerm b (get_or ts k d) × (term_at b (get_or ts k d) ≡ bound_in (terms_at b ts) k)
bound_in_within b [] k d h l = absurd (omega arith)
bound_in_within b (t ∷ ts) zero d h l = (h.0, refl)
bound_in_within b (t ∷ ts) (suc k) d h l = bound_in_within b ts k d h.1 (omega arith)

pub bound_in_past : (b : Forms) (ts : List TermId) (k : ℕ) → length ts ≤ k → bound_in (terms_at b ts) k ≡ Bound (k - length ts)
bound_in_past b [] k l = let e : k - 0 ≡ k = omega arith in ap Bound (sym e)
bound_in_past b (t ∷ ts) zero l = absurd (omega arith)
bound_in_past b (t ∷ ts) (suc k) l = let e : suc k - suc (length ts) ≡ k - length ts = omega arith in bound_in_past b ts k (omega arith) ∙ ap Bound (sym e)

-- ---- a term without bound names

module _ (cs : List ClassTree) (us : List Term) where
  mutual
    pub closed_put : (t : Term) → is_well_sorted cs [] t ≡ true → put_term us t ≡ t
    closed_put (Bound k) h = let small : k < 0 = ltb-true k 0 h in absurd (omega arith)
    closed_put (App f ts) h = ap (App f) (closed_puts ts (and_parts (takes cs f (sorts_of cs [] ts)) (are_well_sorted cs [] ts) h).1)

    closed_puts : (ts : Terms) → are_well_sorted cs [] ts ≡ true → put_terms us ts ≡ ts
    closed_puts no_terms h = refl
    closed_puts (term_then t ts) h =
        let p = and_parts (is_well_sorted cs [] t) (are_well_sorted cs [] ts) h in
        ap (λ x. term_then x (put_terms us ts)) (closed_put t p.0) ∙ ap (term_then t) (closed_puts ts p.1)

-- ---- one more is done

pub terms_more : (op : Term → Term) (a b c : Forms) (xs made : List TermId) (bound k : ℕ) (d y : TermId) → IsGrown a b → IsGrown b c →
    AreTermsBelow bound xs → bound ≤ length a.terms → k < length xs → HasTerms b made →
    terms_at b made ≡ map op (terms_at a (take k xs)) → term_at c y ≡ op (term_at b (get_or xs k d)) →
    terms_at c (made ++ y ∷ []) ≡ map op (terms_at a (take (k + 1) xs))
terms_more op a b c xs made bound k d y ab bc h l in_xs low e n =
    let x = get_or xs k d in
    let small = AreTermsBelow-get bound xs k d h in_xs in
    let same : term_at b x ≡ term_at a x = ab.same_terms x (omega (arith, small)) in
    map_push (term_at c) made y
    ∙ ap (λ zs. zs ++ term_at c y ∷ []) (terms_at-grown b c bc made low ∙ e)
    ∙ ap (λ z. map op (terms_at a (take k xs)) ++ z ∷ []) (n ∙ ap op same)
    ∙ sym (map_push op (terms_at a (take k xs)) (term_at a x))
    ∙ ap (map op) (sym (map_push (term_at a) (take k xs) x))
    ∙ ap (λ zs. map op (terms_at a zs)) (sym (take_more xs k d in_xs))

pub formulas_more : (op : Formula → Formula) (a b c : Forms) (fs made : List FormulaId) (bound k : ℕ) (d g : FormulaId) → IsGrown a b → IsGrown b c →
    AreBelow bound fs → bound ≤ length a.formulas * 2 → k < length fs → HasFormulas b made →
    formulas_at b made ≡ map op (formulas_at a (take k fs)) → formula_at c g ≡ op (formula_at b (get_or fs k d)) →
    formulas_at c (made ++ g ∷ []) ≡ map op (formulas_at a (take (k + 1) fs))
formulas_more op a b c fs made bound k d g ab bc h l in_fs low e n =
    let f = get_or fs k d in
    let small = AreBelow-get bound fs k d h in_fs in
    let same : formula_at b f ≡ formula_at a f = ab.same_formulas f (omega (arith, small)) in
    map_push (formula_at c) made g
    ∙ ap (λ zs. zs ++ formula_at c g ∷ []) (formulas_at-grown b c bc made low ∙ e)
    ∙ ap (λ z. map op (formulas_at a (take k fs)) ++ z ∷ []) (n ∙ ap op same)
    ∙ sym (map_push op (formulas_at a (take k fs)) (formula_at a f))
    ∙ ap (map op) (sym (map_push (formula_at a) (take k fs) f))
    ∙ ap (λ zs. map op (formulas_at a zs)) (sym (take_more fs k d in_fs))

-- ---- whole lists

pub put_terms-map : (ts xs : List Term) → put_terms ts (terms_from xs) ≡ terms_from (map (put_term ts) xs)
put_terms-map ts [] = refl
put_terms-map ts (x ∷ xs) = ap (term_then (put_term ts x)) (put_terms-map ts xs)

pub put_all-map : (ts : List Term) (fs : List Formula) → put_all ts (formulas_from fs) ≡ formulas_from (map (put ts) fs)
put_all-map ts [] = refl
put_all-map ts (f ∷ fs) = ap (formula_then (put ts f)) (put_all-map ts fs)

pub term_equal : {E : Type 0} (r : Result TermId E) (b : Forms) (x y : Term) → x ≡ y → IfOk r (λ u. HasTerm b u × (term_at b u ≡ x)) → IfOk r (λ u. HasTerm b u × (term_at b u ≡ y))
term_equal (Ok u) b x y e h = (h.0, h.1 ∙ e)
term_equal (Err z) b x y e h = tt

pub formula_equal : {E : Type 0} (r : Result FormulaId E) (b : Forms) (x y : Formula) → x ≡ y → IfOk r (λ g. HasFormula b g × (formula_at b g ≡ x)) → IfOk r (λ g. HasFormula b g × (formula_at b g ≡ y))
formula_equal (Ok g) b x y e h = (h.0, h.1 ∙ e)
formula_equal (Err z) b x y e h = tt

pub put_app : (ts : List Term) (a b : Forms) (t : TermId) (f : Symbol) (v : SmallVec TermId) (made : List TermId) → IsTermForm a t (AppForm f v) → terms_at b made ≡ map (put_term ts) (terms_at a v.items) →
    App (symbol_of f) (terms_from (terms_at b made)) ≡ put_term ts (term_at a t)
put_app ts a b t f v made n e = ap (λ xs. App (symbol_of f) (terms_from xs)) e ∙ sym (ap (App (symbol_of f)) (put_terms-map ts (terms_at a v.items))) ∙ sym (ap (put_term ts) n.built)

pub put_and : (ts : List Term) (a b : Forms) (f : FormulaId) (v : SmallVec FormulaId) (made : List FormulaId) → IsFormulaForm a f (AndForm v) → formulas_at b made ≡ map (put ts) (formulas_at a v.items) →
    And (formulas_from (formulas_at b made)) ≡ put ts (formula_at a f)
put_and ts a b f v made n e = ap (λ xs. And (formulas_from xs)) e ∙ sym (ap And (put_all-map ts (formulas_at a v.items))) ∙ sym (ap (put ts) n.built)

pub put_or : (ts : List Term) (a b : Forms) (f : FormulaId) (v : SmallVec FormulaId) (made : List FormulaId) → IsFormulaForm a f (OrForm v) → formulas_at b made ≡ map (put ts) (formulas_at a v.items) →
    Or (formulas_from (formulas_at b made)) ≡ put ts (formula_at a f)
put_or ts a b f v made n e = ap (λ xs. Or (formulas_from xs)) e ∙ sym (ap Or (put_all-map ts (formulas_at a v.items))) ∙ sym (ap (put ts) n.built)
