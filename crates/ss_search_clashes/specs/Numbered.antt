-- Classes by the numbers of a bank's terms, and what contradicts them.
use Rattle.std.specs.Prelude.{◌≡◌, ℕ, List, [], Bool, true, false, ◌&&◌, ◌==◌}
use Rattle.std.specs.List.{Contains}
use Rattle.ss_logic.specs.Terms.{Term, Terms, term_then, no_terms}
use Rattle.ss_logic.specs.Formulas.{Predicate, Equal, Formula, Literal, And, Or, Forall, Exists, neg}
use Rattle.ss_logic.specs.Equal.{same_term, same_predicate, same_formula}
use Rattle.ss_logic_means.specs.Steps.{is_value}
use Rattle.ss_logic_countermodels.specs.Refuting.{same_classes, place_among}
use Rattle.ss_terms_interned.specs.Interned.{trees_from}
use Rattle.ss_terms.specs.declared.forms.TermId.{TermId}
use Rattle.ss_terms.specs.declared.forms.FormulaId.{FormulaId}
use Rattle.ss_terms.specs.Forms.{Forms, TermShape, build_term, no_term, term_at, formula_at, HasTerm}
use Rattle.ss_terms.specs.Bank.{number}
use Rattle.ss_equality_rules.specs.declared.Merge.{Merge}
use Rattle.ss_equality_rules.specs.Equal.{IsEqual, class_number}
use Rattle.ss_search_procedure_rules.specs.Clashes.{Classing, classes_in}

-- the terms of a bank, in the order of their numbers
abbrev pub terms_of_bank : Forms → List Term
terms_of_bank b = trees_from no_term build_term [] b.terms

-- the class of a term of the bank, by its number
unfoldable pub class_of : Forms → List ℕ → Classing
class_of b classes x = class_number classes (number (place_among (same_term x) (terms_of_bank b)))

-- the classes of the bank's terms are those of their numbers
pub record IsClassing (b : Forms) (classes : List ℕ) (class : Classing) : Type 0 where
  pub at : (t : TermId) → HasTerm b t → class (term_at b t) ≡ class_number classes t

-- ---- contradictions

-- a known literal that says that two terms of one class differ
abbrev pub differs : Classing → Formula → Bool
differs class (Literal false Equal (term_then x (term_then y no_terms))) = class x == class y
differs class f = false

-- a negated atom of this name at arguments in the same classes
abbrev pub is_denied : Classing → Predicate → Terms → Formula → Bool
is_denied class p ts (Literal false q us) = same_predicate p q && same_classes (classes_in class ts) (classes_in class us)
is_denied class p ts f = false

-- an atom and such a negated atom, or a quantified formula and its negation
abbrev pub is_opposed : Classing → Formula → Formula → Bool
is_opposed class (Literal true p ts) g = is_denied class p ts g
is_opposed class (Literal false p ts) g = false
is_opposed class (And fs) g = false
is_opposed class (Or fs) g = false
is_opposed class (Forall ss f) g = same_formula (neg (Forall ss f)) g
is_opposed class (Exists ss f) g = same_formula (neg (Exists ss f)) g

-- different values of the bank have different classes
abbrev pub AreValuesApart : Forms → Classing → Type 0
AreValuesApart b class = (s t : TermId) → HasTerm b s → HasTerm b t → is_value (term_at b s) ≡ true → is_value (term_at b t) ≡ true → class (term_at b s) ≡ class (term_at b t) → s.0 ≡ t.0

-- No known formula says that two terms of one class differ, no two are opposed, and no two different values are in one class.
pub record HasNoClash (b : Forms) (class : Classing) (known : List FormulaId) : Type 0 where
  pub different : (f : FormulaId) → Contains known f → differs class (formula_at b f) ≡ false
  pub unopposed : (f g : FormulaId) → Contains known f → Contains known g → is_opposed class (formula_at b f) (formula_at b g) ≡ false
  pub values : AreValuesApart b class

-- ---- known equalities

-- known equalities follow from the merges
abbrev pub AreMerged : Forms → List TermShape → List Merge → List FormulaId → Type 0
AreMerged b ts ms known = (f : FormulaId) → Contains known f → (x y : Term) → formula_at b f ≡ Literal true Equal (term_then x (term_then y no_terms)) →
    (s : TermId) × (t : TermId) × HasTerm b s × HasTerm b t × (term_at b s ≡ x) × (term_at b t ≡ y) × IsEqual ts ms s.0 t.0
