-- Of which arguments a literal and its negation are, where they aren't one formula and its negation.
use Rattle.std.proofs.Common.{◌≡◌, ℕ, Bool, List, not, sym, ◌∙◌, ap}
use Rattle.ss_logic.specs.Terms.{terms_from}
use Rattle.ss_logic.specs.Formulas.{Predicate, Formula, Literal, neg}
use Rattle.ss_logic.proofs.Truth.{neg_neg}
use Rattle.ss_terms.specs.declared.forms.TermId.{TermId}
use Rattle.ss_terms.specs.Forms.{Forms, terms_at, HasTerms}
use Rattle.ss_terms.specs.Apart.{AreApart}
use Rattle.ss_equality_rules.specs.Equal.{Equations, AreFormsOf, AreClassesOf}
use Rattle.ss_search_procedure_rules.specs.Clashes.{classes_in}
use Rattle.ss_search_clashes.specs.Numbered.{class_of}
use Rattle.ss_search_clashes.specs.Said.{AreEqual}
use Rattle.ss_search_clashes.proofs.ClashingArguments.{AreArguments}
use Rattle.ss_search_clashes.proofs.Classes.{equal_lists}
use Rattle.ss_search_clashes.proofs.Saying.{AreDenied}

-- a literal of the first terms, and the negation of the other formula, which is the same of the others
pub record IsSwap (b : Forms) (c : Equations) (f g : Formula) (xs ys : List TermId) : Type 0 where
  pub sign : Bool
  pub predicate : Predicate
  pub left : f ≡ Literal sign predicate (terms_from (terms_at b xs))
  pub right : neg g ≡ Literal sign predicate (terms_from (terms_at b ys))
  pub equal : AreEqual c xs ys

module _ (b : Forms) (apart : AreApart b) (c : Equations) (forms : AreFormsOf b c.terms) (classes : List ℕ) (are : AreClassesOf c.terms c.merges classes) where
  pub is_swap : (f g : Formula) (xs ys : List TermId) → HasTerms b xs → HasTerms b ys → AreArguments b f xs → AreArguments b g ys → AreDenied (class_of b classes) f g → IsSwap b c f g xs ys
  is_swap f g xs ys hx hy of_f of_g d =
      let left : d.lefts ≡ terms_from (terms_at b xs) = of_f d.sign d.predicate d.lefts d.left in
      let right : d.rights ≡ terms_from (terms_at b ys) = of_g (not d.sign) d.predicate d.rights (sym (neg_neg g) ∙ ap neg d.right) in
      record {
        sign = d.sign;
        predicate = d.predicate;
        left = d.left ∙ ap (Literal d.sign d.predicate) left;
        right = d.right ∙ ap (Literal d.sign d.predicate) right;
        equal = equal_lists b apart c forms classes are xs ys hx hy (ap (classes_in (class_of b classes)) (sym left) ∙ d.same ∙ ap (classes_in (class_of b classes)) right);
      }
