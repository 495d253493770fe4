-- What follows of known formulas.
use Rattle.std.specs.Prelude.{◌≡◌, ◌⊎◌, ℕ, List, ◌++◌, length, take, true}
use Rattle.std.specs.List.{Contains}
use Rattle.ss_core.specs.Tree.{ClassTree}
use Rattle.ss_logic.specs.Terms.{Term}
use Rattle.ss_logic.specs.Formulas.{Formula, Formulas, And, Or, formula_list}
use Rattle.ss_logic.specs.Shapes.{equal}
use Rattle.ss_linear_rules.specs.Two.{Two}
use Rattle.ss_logic.specs.Occurring.{terms}
use Rattle.ss_logic_countermodels.specs.Refuting.{is_whole}
use Rattle.ss_terms.specs.declared.forms.TermId.{TermId}
use Rattle.ss_terms.specs.declared.forms.FormulaId.{FormulaId}
use Rattle.ss_terms.specs.Forms.{Forms, term_at, formulas_at, HasTerm, HasFormulas}
use Rattle.ss_equality_rules.specs.Equal.{class_number}
use Rattle.ss_search_clashes.specs.Numbered.{class_of}
use Rattle.ss_logic.specs.Includes.{Includes}
use Rattle.ss_search_procedure_rules.specs.Closed.{basics, IsSatisfied, TwoMayHold, OccursIn}
use Rattle.ss_search_procedure_rules.specs.Clashes.{Classing, FitsClasses}
use Rattle.ss_search_reached.specs.declared.reached.Reached.{Reached}
use Rattle.ss_search_reached.specs.Known.{known_in, is_name, IsReached}

-- what occurs in the second list occurs in the first
abbrev pub Occur : List Formula → List Formula → Type 0
Occur known fs = (p : Formula) → OccursIn fs p → OccursIn known p

-- what is known stays, in front of what is added, and nothing new occurs
pub record Grows (b : Forms) (old new : Reached) : Type 0 where
  pub reached : IsReached b new
  pub front : take (length (known_in b old)) (known_in b new) ≡ known_in b old
  pub occurs : Occur (known_in b old) (known_in b new)

-- of an `and` the parts are known
abbrev pub IsSpread : List Formula → Formula → Type 0
IsSpread known f = (fs : Formulas) → f ≡ And fs → Includes known (formula_list fs)

abbrev pub AreSpread : List Formula → Type 0
AreSpread known = (f : Formula) → Contains known f → IsSpread known f

-- of an `or` a part is known, or two parts may hold beside the known literals
abbrev pub IsOpenBranch : List Formula → List Formula → Formula → Type 0
IsOpenBranch known more f = (fs : Formulas) → f ≡ Or fs → IsSatisfied more fs ⊎ TwoMayHold (basics known) fs

-- With these formulas each `or` among those that were seen has a part that is known or two that may hold.
pub record AreUnits (b : Forms) (known seen units : List FormulaId) : Type 0 where
  pub has : HasFormulas b units
  pub occur : Occur (formulas_at b known) (formulas_at b units)
  pub branches : (f : Formula) → Contains (formulas_at b seen) f → IsOpenBranch (formulas_at b known) (formulas_at b known ++ formulas_at b units) f

-- No sum contradicts the literals and the equalities of whole numbers of one class, in both orders.
pub record HasNoSum (cs : List ClassTree) (class : Classing) (known : List Formula) : Type 0 where
  pub facts : List Formula
  pub literals : Includes facts known
  pub equalities : (s t : Term) → Contains (terms known) s → Contains (terms known) t → is_whole cs s ≡ true → is_whole cs t ≡ true → class s ≡ class t → (s ≡ t) ⊎ Contains facts (equal s t)
  pub none : Two cs facts → ⊥

-- the names that nothing binds are in one class
abbrev pub AreOneClass : Forms → List ℕ → Type 0
AreOneClass b classes = (s t : TermId) → HasTerm b s → HasTerm b t → is_name (term_at b s) ≡ true → is_name (term_at b t) ≡ true → class_number classes s ≡ class_number classes t

-- Nothing more follows, and the kept classes are a model of the known literals.
pub record IsOpen (cs : List ClassTree) (b : Forms) (r : Reached) : Type 0 where
  pub spread : AreSpread (known_in b r)
  pub branches : (f : Formula) → Contains (known_in b r) f → IsOpenBranch (known_in b r) (known_in b r) f
  pub fits : FitsClasses (class_of b r.classes.items) (basics (known_in b r))
  pub sums : HasNoSum cs (class_of b r.classes.items) (basics (known_in b r))
  pub names : AreOneClass b r.classes.items
