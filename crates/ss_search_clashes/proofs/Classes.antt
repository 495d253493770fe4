-- What is in one class is equal.
use Rattle.std.proofs.Common.{◌≡◌, ℕ, ◌*◌, ◌<◌, List, length, map, Some, sym, ◌∙◌, subst, arith}
use Rattle.std.specs.Prelude.{slice_get}
use Rattle.std.proofs.lemmas.Option.{slice_get_within, get_or_from_slice_get}
use Rattle.ss_logic.specs.Terms.{terms_from}
use Rattle.ss_terms.specs.declared.forms.TermId.{TermId}
use Rattle.ss_terms.specs.declared.forms.FormulaId.{FormulaId}
use Rattle.ss_terms.specs.Forms.{Forms, term_at, terms_at, HasTerm, HasTerms, HasFormula, HasFormulas}
use Rattle.ss_terms.specs.Apart.{AreApart}
use Rattle.ss_terms.proofs.Tested.{AreTermsBelow-get, AreBelow-get}
use Rattle.ss_equality_rules.specs.Equal.{Equations, IsEqual, AreFormsOf, class_number, AreClassesOf}
use Rattle.ss_equality_rules.proofs.Lists.{maps_length, maps_at}
use Rattle.ss_search_procedure_rules.specs.Clashes.{classes_in}
use Rattle.ss_search_clashes.specs.Numbered.{class_of, IsClassing}
use Rattle.ss_search_clashes.proofs.Numbers.{is_classing, classes_numbered}
use Rattle.ss_search_clashes.specs.Said.{AreEqual}

term_inside : (b : Forms) (xs : List TermId) (i : ℕ) (x : TermId) → HasTerms b xs → slice_get xs i ≡ Some x → HasTerm b x
term_inside b xs i x h at = subst (λ (t : TermId). t.0 < length b.terms) (get_or_from_slice_get xs i x x at) (AreTermsBelow-get (length b.terms) xs i x h (slice_get_within xs i x at))

pub formula_inside : (b : Forms) (fs : List FormulaId) (i : ℕ) (f : FormulaId) → HasFormulas b fs → slice_get fs i ≡ Some f → HasFormula b f
formula_inside b fs i f h at = subst (λ (g : FormulaId). g.0 < length b.formulas * 2) (get_or_from_slice_get fs i f f at) (AreBelow-get (length b.formulas * 2) fs i f h (slice_get_within fs i f at))

module _ (b : Forms) (apart : AreApart b) (c : Equations) (forms : AreFormsOf b c.terms) (classes : List ℕ) (are : AreClassesOf c.terms c.merges classes) where
  classing : IsClassing b classes (class_of b classes)
  classing = is_classing b classes apart

  one_number : (s t : TermId) → HasTerm b s → HasTerm b t → class_number classes s ≡ class_number classes t → IsEqual c.terms c.merges s.0 t.0
  one_number s t hs ht e = (are s.0 t.0 (omega (arith, hs, forms.all)) (omega (arith, ht, forms.all))).0 e

  pub equal_terms : (s t : TermId) → HasTerm b s → HasTerm b t → class_of b classes (term_at b s) ≡ class_of b classes (term_at b t) → IsEqual c.terms c.merges s.0 t.0
  equal_terms s t hs ht e = one_number s t hs ht (sym (classing.at s hs) ∙ e ∙ classing.at t ht)

  pub equal_lists : (xs ys : List TermId) → HasTerms b xs → HasTerms b ys →
      classes_in (class_of b classes) (terms_from (terms_at b xs)) ≡ classes_in (class_of b classes) (terms_from (terms_at b ys)) → AreEqual c xs ys
  equal_lists xs ys hx hy e =
      let same : map (class_number classes) xs ≡ map (class_number classes) ys =
      sym (classes_numbered b classes (class_of b classes) classing xs hx) ∙ e ∙ classes_numbered b classes (class_of b classes) classing ys hy in
      record {
        long = maps_length (class_number classes) xs ys same;
        equal = λ i x y p q. one_number x y (term_inside b xs i x hx p) (term_inside b ys i y hy q) (maps_at (class_number classes) xs ys same i x y p q);
      }
