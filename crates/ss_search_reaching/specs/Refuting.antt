-- What closes the case of a formula beside known ones, and what may hold where nothing does.
use Rattle.std.specs.Prelude.{◌≡◌, ℕ, List, [], ◌∷◌, ◌++◌, length, take, drop, Some, slice_get}
use Rattle.ss_core.specs.Tree.{ClassTree}
use Rattle.ss_logic.specs.Formulas.{Formula, Formulas, And, Or, formula_list, formulas_from}
use Rattle.ss_terms.specs.declared.forms.FormulaId.{FormulaId}
use Rattle.ss_terms.specs.Forms.{Forms, formula_at, formulas_at, HasFormulas}
use Rattle.ss_deriv.specs.declared.line.Line.{Line}
use Rattle.ss_deriv.specs.Lines.{lines_of}
use Rattle.ss_equality_rules.specs.declared.Merge.{Merge}
use Rattle.ss_equality_rules.specs.Equal.{Equations, AreFormsOf, AreClassesOf}
use Rattle.ss_search_procedure_rules.specs.Closed.{basics, MayHold}
use Rattle.ss_search_clashes.specs.Numbered.{AreMerged}
use Rattle.ss_search_clashes.specs.Tables.{IsTable}
use Rattle.ss_search_clashes.specs.Closing.{Closes}
use Rattle.ss_search_clashes.specs.Said.{AreKnown}
use Rattle.ss_search_path.specs.declared.path.Path.{Path}
use Rattle.ss_search_path.specs.Paths.{known_on, GoesOn, IsSame, AreCases}
use Rattle.ss_search_clashes.specs.declared.facts.Fact.{Fact}
use Rattle.ss_search_clashes.specs.Cases.{IsAt, AreAt, CloseCase}
use Rattle.ss_search_path.specs.Standing.{AreChosen, IsOpenedFact}
use Rattle.ss_search_reaching.specs.declared.basic.Refuting.{Refuting}

-- the bank
abbrev pub bank_of : Refuting → Forms
bank_of s = s.given.bank.now

-- the known formulas
abbrev pub known_beside : Refuting → List Formula
known_beside s = formulas_at (bank_of s) s.known.now

-- Each known formula has a place, and the table has them at the classes of the congruence, in which their equalities are merged.
pub record IsRefuting (s : Refuting) (c : Equations) : Type 0 where
  pub has : HasFormulas (bank_of s) s.known.now
  pub long : length s.places.now ≡ length s.known.now
  pub forms : AreFormsOf (bank_of s) c.terms
  pub merged : AreMerged (bank_of s) c.terms c.merges s.known.now
  pub table : IsTable (bank_of s) s.known.now s.table.now
  pub classes : AreClassesOf c.terms c.merges s.table.now.classes

-- the formula with this number may hold beside them
abbrev pub IsHolding : Refuting → FormulaId → Type 0
IsHolding s f = MayHold (basics (known_beside s)) (formula_at (bank_of s) f)

-- the lines close each case in which the known formulas stand at their places, and one more at its own
abbrev pub CloseBeside : Refuting → List Merge → ℕ → Fact → List Line → Type 0
CloseBeside s ms count fact lines = CloseCase (bank_of s) ms count (λ cs fs. AreAt cs (bank_of s) fs s.known.now s.places.now × IsAt cs (bank_of s) fs fact) lines

-- ---- facts

-- Among these facts the known formulas stand at their places, the equality of each merge at its reason, and the choices before all.
pub record AreShown (cs : List ClassTree) (s : Refuting) (ms : List Merge) (facts : List Formula) : Type 0 where
  pub chosen : AreChosen cs s.given facts
  pub at : AreAt cs (bank_of s) facts s.known.now s.places.now
  pub merges : AreKnown cs (bank_of s) ms (length facts) facts

-- the same, and the fact at this place, opened by the choices from one on, is the formula
pub record IsShown (cs : List ClassTree) (s : Refuting) (ms : List Merge) (facts : List Formula) (place from : ℕ) (f : Formula) : Type 0 where
  pub shown : AreShown cs s ms facts
  pub fact : IsOpenedFact cs s.given facts place from f

-- ---- paths, from one at whose end a formula is the fact at a place

abbrev pub and_of : Forms → List FormulaId → Formula
and_of b parts = And (formulas_from (formulas_at b parts))

abbrev pub or_of : Forms → List FormulaId → Formula
or_of b parts = Or (formulas_from (formulas_at b parts))

-- it goes on
abbrev pub GoesOnFrom : Refuting → List Merge → Path → ℕ → ℕ → Formula → Path → Type 0
GoesOnFrom s ms old place from f new = (cs : List ClassTree) (premises : List Formula) (goal : Formula) → IsShown cs s ms (known_on (bank_of s) old) place from f → GoesOn cs premises goal (bank_of s) old new

-- it stays
abbrev pub StaysFrom : Refuting → List Merge → Path → ℕ → ℕ → Formula → Path → Type 0
StaysFrom s ms old place from f new = (cs : List ClassTree) (premises : List Formula) (goal : Formula) → IsShown cs s ms (known_on (bank_of s) old) place from f → IsSame old new

-- the lines close the case at the end of the new one
abbrev pub ClosesFrom : Refuting → List Merge → Path → ℕ → ℕ → Formula → Path → List Line → Type 0
ClosesFrom s ms old place from f new lines = (cs : List ClassTree) (premises : List Formula) (goal : Formula) → IsShown cs s ms (known_on (bank_of s) old) place from f → Closes cs premises goal (known_on (bank_of s) new) (lines_of (bank_of s) lines)

-- the lines close the case of a part of the fact
abbrev pub ClosesPart : Refuting → List Merge → Path → ℕ → ℕ → Formula → ℕ → List Line → Type 0
ClosesPart s ms old place from f part lines = (cs : List ClassTree) (premises : List Formula) (goal : Formula) → IsShown cs s ms (known_on (bank_of s) old) place from f →
    (fs : Formulas) (g : Formula) → slice_get (known_on (bank_of s) old) place ≡ Some (Or fs) → slice_get (formula_list fs) part ≡ Some g → Closes cs premises goal (known_on (bank_of s) old ++ g ∷ []) (lines_of (bank_of s) lines)

-- the elements from one place on, before another
abbrev pub between : {A : Type 0} → ℕ → ℕ → List A → List A
between start stop xs = drop start (take stop xs)

-- the lines are closed cases of these parts of the fact
abbrev pub AreCasesFrom : Refuting → List Merge → Path → ℕ → ℕ → Formula → ℕ → ℕ → List Line → Type 0
AreCasesFrom s ms old place from f start stop lines = (cs : List ClassTree) (premises : List Formula) (goal : Formula) → IsShown cs s ms (known_on (bank_of s) old) place from f →
    (fs : Formulas) → slice_get (known_on (bank_of s) old) place ≡ Some (Or fs) → AreCases cs premises goal (known_on (bank_of s) old) (between start stop (formula_list fs)) (lines_of (bank_of s) lines)
