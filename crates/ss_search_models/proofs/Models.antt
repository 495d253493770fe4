-- The model of a candidate refutes.
use Rattle.std.proofs.Common.{◌≡◌, ℕ, List, [], length, map, Bool, true, false, sym, ◌∙◌, ap, subst}
use Rattle.std.specs.List.{list_all, slice_index_or}
use Rattle.std.proofs.lemmas.List.{length-map}
use Rattle.ss_core.specs.Tree.{ClassTree}
use Rattle.ss_linear_rules.specs.Two.{Two}
use Rattle.ss_logic.specs.Terms.{Term}
use Rattle.ss_logic.specs.Formulas.{Formula}
use Rattle.ss_logic.specs.Equal.{same_term, same_formula}
use Rattle.ss_logic.specs.Occurring.{terms, with_terms_of_all}
use Rattle.ss_logic_countermodels.specs.Refuting.{Model, Agrees, Refutes, IsCountermodel, comes_out, model_of, place_among, told, is_equal_inside}
use Rattle.ss_logic_countermodels.specs.declared.Countermodel.{Countermodel}
use Rattle.ss_terms.specs.declared.forms.FormulaId.{FormulaId}
use Rattle.ss_terms.specs.Forms.{Forms, term_at, formula_at, formulas_at}
use Rattle.ss_rules_occurring.specs.Found.{terms_of, formulas_of, Holds, HoldsTerms}
use Rattle.ss_rules_occurring.proofs.Sought.{holds_itself}
use Rattle.ss_rules_occurring.proofs.Stacks.{holds_terms_itself}
use Rattle.ss_search_models.specs.declared.candidate.Candidate.{Candidate}
use Rattle.ss_equality_rules.specs.Equal.{class_number}
use Rattle.ss_search_models.specs.Candidates.{truth_number, class_at, truth_at, model_at, IsFor}
use Rattle.ss_search_models.specs.Facts.{facts_in}
use Rattle.ss_search_models.proofs.Terms.{terms_told}
use Rattle.ss_search_models.specs.Said.{are_functions_of_classes, are_atoms_of_classes, are_values_apart}

module _ (b : Forms) (c : Candidate) (fs : List Formula) (h : IsFor b c fs) where
  pub agreeing : (r : Bool) →
      true ≡ list_all (comes_out (model_at b c)) fs →
      are_functions_of_classes (model_at b c) (terms_of b c.terms.now) ≡ true →
      are_atoms_of_classes (model_at b c) (formulas_of b c.told.now) ≡ true →
      are_values_apart (model_at b c) (terms_of b c.terms.now) ≡ true →
      r ≡ list_all (is_equal_inside (model_at b c)) (formulas_of b c.told.now) → r ≡ true → Agrees (model_at b c) fs
  agreeing r true_ones congruent alike apart inside e = record {
    true_ones = sym true_ones;
    congruent = ap (are_functions_of_classes (model_at b c)) (sym h.terms) ∙ congruent;
    alike = ap (are_atoms_of_classes (model_at b c)) (sym h.told) ∙ alike;
    inside = ap (list_all (is_equal_inside (model_at b c))) (sym h.told) ∙ sym inside ∙ e;
    apart = ap (are_values_apart (model_at b c)) (sym h.terms) ∙ apart;
  }

  pub refuting : (cs : List ClassTree) → Agrees (model_at b c) fs → (Two cs (facts_in cs (model_at b c) (formulas_of b c.told.now) (terms_of b c.terms.now)) → ⊥) → Refutes cs (model_at b c) fs
  refuting cs agrees free = record {
    agrees = agrees;
    numbers = λ two.
        free (subst (λ (gs : List Formula). Two cs (facts_in cs (model_at b c) gs (terms_of b c.terms.now))) (sym h.told)
        (subst (λ (ts : List Term). Two cs (facts_in cs (model_at b c) (told fs) ts)) (sym h.terms) two));
  }

  pub same_model : (classes : List ℕ) (truths : List Bool) → classes ≡ map (class_number c.classes.now) c.terms.now.list.items → truths ≡ map (truth_number c) c.told.now.list.items → model_at b c ≡ model_of fs classes truths
  unfolding class_at truth_at
  same_model classes truths cs ts =
      ap (λ (ts : List Term). let m : Model = record { class = λ t. slice_index_or (map (class_number c.classes.now) c.terms.now.list.items) (place_among (same_term t) ts) 0; truth = truth_at b c } in m) h.terms
      ∙ ap (λ (gs : List Formula). let m : Model = record { class = λ t. slice_index_or (map (class_number c.classes.now) c.terms.now.list.items) (place_among (same_term t) (terms fs)) 0; truth = λ f. slice_index_or (map (truth_number c) c.told.now.list.items) (place_among (same_formula f) gs) false } in m) h.told
      ∙ ap (λ ns. model_of fs ns (map (truth_number c) c.told.now.list.items)) (sym cs)
      ∙ ap (λ vs. model_of fs classes vs) (sym ts)

  refuting_model : (cs : List ClassTree) (classes : List ℕ) (truths : List Bool) → classes ≡ map (class_number c.classes.now) c.terms.now.list.items → truths ≡ map (truth_number c) c.told.now.list.items → Refutes cs (model_at b c) fs → Refutes cs (model_of fs classes truths) fs
  refuting_model cs classes truths es ts r = subst (λ m. Refutes cs m fs) (same_model classes truths es ts) r

  -- as lists that have as many classes and truth values
  pub countered : (cs : List ClassTree) (m : Countermodel) → m.classes.items ≡ map (class_number c.classes.now) c.terms.now.list.items → m.truth.items ≡ map (truth_number c) c.told.now.list.items → Refutes cs (model_at b c) fs →
      IsCountermodel cs fs m
  countered cs m es ts r = record {
    classes = ap length es ∙ length-map c.terms.now.list.items (class_number c.classes.now) ∙ sym (length-map c.terms.now.list.items (term_at b)) ∙ ap length h.terms;
    truth = ap length ts ∙ length-map c.told.now.list.items (truth_number c) ∙ sym (length-map c.told.now.list.items (formula_at b)) ∙ ap length h.told;
    refutes = refuting_model cs m.classes.items m.truth.items es ts r;
  }

pub for_formulas : (b : Forms) (c : Candidate) (fs : List Formula) (gs : List FormulaId) → Holds b c.told.now (told fs) → gs ≡ c.told.now.list.items → HoldsTerms b c.terms.now (with_terms_of_all [] (formulas_at b gs)) → IsFor b c fs
for_formulas b c fs gs k e h = record {
  has = record { terms = holds_terms_itself b c.terms.now _ h; told = holds_itself b c.told.now _ k };
  terms = h.are ∙ ap (λ xs. with_terms_of_all [] (formulas_at b xs)) e ∙ ap (with_terms_of_all []) k.are ∙ terms_told fs;
  told = k.are;
}
