-- Known literals at their places, and lines that close a case with sums of them.
use Rattle.std.specs.Prelude.{ℕ, List, [], ◌∷◌, filter, if◌then◌else◌}
use Rattle.ss_core.specs.Tree.{ClassTree}
use Rattle.ss_logic.specs.Formulas.{Formula}
use Rattle.ss_terms.specs.declared.forms.FormulaId.{FormulaId}
use Rattle.ss_logic_means.specs.Sorts.{AreWellFormed}
use Rattle.ss_terms.specs.Forms.{Forms, formula_at, formulas_at}
use Rattle.ss_deriv.specs.declared.line.Line.{Line}
use Rattle.ss_deriv.specs.Lines.{lines_of}
use Rattle.ss_equality_rules.specs.declared.Merge.{Merge}
use Rattle.ss_search_procedure_rules.specs.Closed.{is_basic}
use Rattle.ss_search_clashes.specs.Closing.{Closes}
use Rattle.ss_search_clashes.specs.Said.{AreKnown}
use Rattle.ss_search_clashes.specs.Cases.{AreAt}
use Rattle.ss_search_whole_sums.specs.Contradicting.{AreAtPlaces}

-- the literals and quantified formulas among these
abbrev pub basic_ones : Forms → List FormulaId → List FormulaId
basic_ones b fs = filter (λ f. is_basic (formula_at b f)) fs

-- and of these places those of them
abbrev pub basic_places : Forms → List FormulaId → List ℕ → List ℕ
basic_places b [] ps = []
basic_places b (f ∷ fs) [] = []
basic_places b (f ∷ fs) (p ∷ ps) = if is_basic (formula_at b f) then p ∷ basic_places b fs ps else basic_places b fs ps

-- The lines close a case wherever so many formulas are known, the equalities of the merges among them and the literals at their places.
pub record CloseSums (cs : List ClassTree) (b : Forms) (ms : List Merge) (count : ℕ) (formulas : List FormulaId) (places : List ℕ) (lines : List Line) : Type 0 where
  pub closes : (premises : List Formula) (goal : Formula) (known : List Formula) → AreKnown cs b ms count known → AreAt cs b known formulas places → Closes cs premises goal known (lines_of b lines)

-- the same for facts that are all at their places, and well formed
pub record CloseFormed (cs : List ClassTree) (b : Forms) (ms : List Merge) (count : ℕ) (facts : List FormulaId) (places : List ℕ) (lines : List Line) : Type 0 where
  pub closes : (premises : List Formula) (goal : Formula) (known : List Formula) → AreKnown cs b ms count known → AreAtPlaces b known facts places → AreWellFormed cs [] (formulas_at b facts) →
      Closes cs premises goal known (lines_of b lines)
