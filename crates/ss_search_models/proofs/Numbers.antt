-- What a candidate gives to a number is what its model gives to the term or the formula.
use Rattle.std.proofs.Common.{◌≡◌, ℕ, suc, ◌==◌, List, [], ◌∷◌, map, Bool, true, false, ◌||◌, refl, sym, ◌∙◌, ap, if◌then◌else◌}
use Rattle.std.specs.List.{list_any, slice_index_or}
use Rattle.std.proofs.lemmas.Bool.{eqb-true}
use Rattle.ss_bit_set.specs.Marked.{marked}
use Rattle.ss_logic.specs.Equal.{same_term, same_formula}
use Rattle.ss_logic_countermodels.specs.Refuting.{place_among}
use Rattle.ss_terms.specs.declared.forms.TermId.{TermId}
use Rattle.ss_terms.specs.declared.forms.FormulaId.{FormulaId}
use Rattle.ss_terms.specs.Forms.{Forms, term_at, terms_at, formula_at, formulas_at, HasTerm, HasTerms, HasFormula, HasFormulas}
use Rattle.ss_terms.specs.Apart.{AreApart}
use Rattle.ss_terms.proofs.Same.{term_id, formula_id}
use Rattle.ss_rules_occurring.specs.Found.{term_number, formula_number}
use Rattle.ss_search_models.specs.declared.candidate.Candidate.{Candidate}
use Rattle.ss_equality_rules.specs.Equal.{class_number}
use Rattle.ss_search_models.specs.Candidates.{truth_number, class_at, truth_at, HasCandidate}

one_more : {A : Type 0} (same any : Bool) (x y d : A) (xs : List A) (p : ℕ) → (same ≡ true → x ≡ y) → slice_index_or xs p d ≡ (if any then y else d) →
    slice_index_or (x ∷ xs) (if same then 0 else suc p) d ≡ (if same || any then y else d)
one_more true any x y d xs p e h = e refl
one_more false any x y d xs p e h = h

term_value : {A : Type 0} (b : Forms) → AreApart b → (g : TermId → A) (d : A) (t : TermId) → HasTerm b t → (ts : List TermId) → HasTerms b ts →
    slice_index_or (map g ts) (place_among (same_term (term_at b t)) (terms_at b ts)) d ≡ (if list_any (λ n. t.0 == n) (map term_number ts) then g t else d)
term_value b a g d t h [] hs = refl
term_value b a g d t h (u ∷ us) hs =
    ap (λ v. slice_index_or (g u ∷ map g us) (if v then 0 else suc (place_among (same_term (term_at b t)) (terms_at b us))) d) (sym (a.terms t u h hs.0))
    ∙ one_more (t.0 == u.0) (list_any (λ n. t.0 == n) (map term_number us)) (g u) (g t) d (map g us) (place_among (same_term (term_at b t)) (terms_at b us))
    (λ e. ap g (term_id u t (sym (eqb-true t.0 u.0 e)))) (term_value b a g d t h us hs.1)

formula_value : {A : Type 0} (b : Forms) → AreApart b → (g : FormulaId → A) (d : A) (f : FormulaId) → HasFormula b f → (fs : List FormulaId) → HasFormulas b fs →
    slice_index_or (map g fs) (place_among (same_formula (formula_at b f)) (formulas_at b fs)) d ≡ (if list_any (λ n. f.0 == n) (map formula_number fs) then g f else d)
formula_value b a g d f h [] hs = refl
formula_value b a g d f h (u ∷ us) hs =
    ap (λ v. slice_index_or (g u ∷ map g us) (if v then 0 else suc (place_among (same_formula (formula_at b f)) (formulas_at b us))) d) (sym (a.formulas f u h hs.0))
    ∙ one_more (f.0 == u.0) (list_any (λ n. f.0 == n) (map formula_number us)) (g u) (g f) d (map g us) (place_among (same_formula (formula_at b f)) (formulas_at b us))
    (λ e. ap g (formula_id u f (sym (eqb-true f.0 u.0 e)))) (formula_value b a g d f h us hs.1)

module _ (b : Forms) (c : Candidate) (h : HasCandidate b c) (a : AreApart b) where
  class_value : (t : TermId) → HasTerm b t → class_at b c (term_at b t) ≡ (if marked c.terms.now.numbers t.0 then class_number c.classes.now t else 0)
  unfolding class_at
  class_value t at = term_value b a (class_number c.classes.now) 0 t at c.terms.now.list.items h.terms.has ∙ ap (λ v. if v then class_number c.classes.now t else 0) (sym (h.terms.marked t.0))

  pub class_is : (t : TermId) (there : Bool) (n : ℕ) → HasTerm b t → there ≡ marked c.terms.now.numbers t.0 → n ≡ (if there then class_number c.classes.now t else 0) → n ≡ class_at b c (term_at b t)
  class_is t there n at m e = e ∙ ap (λ v. if v then class_number c.classes.now t else 0) m ∙ sym (class_value t at)

  truth_value : (f : FormulaId) → HasFormula b f → truth_at b c (formula_at b f) ≡ (if marked c.told.now.numbers f.0 then truth_number c f else false)
  unfolding truth_at
  truth_value f at = formula_value b a (truth_number c) false f at c.told.now.list.items h.told.has ∙ ap (λ v. if v then truth_number c f else false) (sym (h.told.marked f.0))

  pub truth_is : (f : FormulaId) (there : Bool) (v : Bool) → HasFormula b f → there ≡ marked c.told.now.numbers f.0 → v ≡ (if there then truth_number c f else false) → v ≡ truth_at b c (formula_at b f)
  truth_is f there v at m e = e ∙ ap (λ x. if x then truth_number c f else false) m ∙ sym (truth_value f at)
