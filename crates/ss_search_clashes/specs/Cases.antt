-- Lines that close cases.
use Rattle.std.specs.Prelude.{◌≡◌, ◌⊎◌, ℕ, List, [], true, Some, slice_get}
use Rattle.ss_core.specs.Tree.{ClassTree}
use Rattle.ss_logic.specs.Formulas.{Formula, is_well_formed}
use Rattle.ss_terms.specs.declared.forms.FormulaId.{FormulaId}
use Rattle.ss_terms.specs.Forms.{Forms, formula_at}
use Rattle.ss_deriv.specs.declared.line.Line.{Line}
use Rattle.ss_deriv.specs.Lines.{lines_of}
use Rattle.ss_equality_rules.specs.declared.Merge.{Merge}
use Rattle.ss_equality_rules.specs.Equal.{Equations, AreClassesOf}
use Rattle.ss_search_procedure_rules.specs.Closed.{is_basic}
use Rattle.ss_search_procedure_rules.specs.Clashes.{Classing}
use Rattle.ss_search_clashes.specs.Numbered.{class_of, is_opposed}
use Rattle.ss_search_clashes.specs.Closing.{Closes}
use Rattle.ss_search_clashes.specs.Said.{AreKnown}
use Rattle.ss_search_clashes.specs.declared.facts.Fact.{Fact}

-- two formulas are opposed, either of them first
abbrev pub AreOpposed : Classing → Formula → Formula → Type 0
AreOpposed class f g = (is_opposed class f g ≡ true) ⊎ (is_opposed class g f ≡ true)

-- this holds at the classes of the congruence
pub record AtClasses (b : Forms) (c : Equations) (P : Classing → Type 0) : Type 0 where
  pub classes : List ℕ
  pub are : AreClassesOf c.terms c.merges classes
  pub holds : P (class_of b classes)

-- the formula stands at its place among the known ones, and is well formed
pub record IsAt (cs : List ClassTree) (b : Forms) (known : List Formula) (fact : Fact) : Type 0 where
  pub at : slice_get known fact.place ≡ Some (formula_at b fact.formula)
  pub formed : is_well_formed cs [] (formula_at b fact.formula) ≡ true

-- each literal and each quantified formula stands at its place
pub record AreAt (cs : List ClassTree) (b : Forms) (known : List Formula) (formulas : List FormulaId) (places : List ℕ) : Type 0 where
  pub each : (i place : ℕ) (f : FormulaId) → slice_get formulas i ≡ Some f → slice_get places i ≡ Some place → is_basic (formula_at b f) ≡ true → IsAt cs b known (record { formula = f; place = place })

-- The lines close each case in which so many formulas are known, the equalities of the merges among them, and what is given besides.
pub record CloseCase (b : Forms) (ms : List Merge) (count : ℕ) (Given : List ClassTree → List Formula → Type 0) (lines : List Line) : Type 0 where
  pub closes : (cs : List ClassTree) (premises : List Formula) (goal : Formula) (known : List Formula) → AreKnown cs b ms count known → Given cs known → Closes cs premises goal known (lines_of b lines)
