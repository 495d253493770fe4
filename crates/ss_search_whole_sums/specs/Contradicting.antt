-- Lines that make the equalities known that sums use, and close a case with the sums.
use Rattle.std.specs.Prelude.{◌≡◌, ℕ, ◌+◌, List, [], ◌∷◌, ◌++◌, length, true, false, slice_get, Some}
use Rattle.ss_core.specs.Tree.{ClassTree}
use Rattle.ss_logic.specs.Terms.{is_well_sorted}
use Rattle.ss_logic.specs.Formulas.{Formula}
use Rattle.ss_logic_means.specs.Sorts.{AreWellFormed}
use Rattle.ss_linear_rules.specs.Two.{Refute}
use Rattle.ss_terms.specs.declared.forms.TermId.{TermId}
use Rattle.ss_terms.specs.declared.forms.FormulaId.{FormulaId}
use Rattle.ss_terms.specs.Forms.{Forms, term_at, formulas_at}
use Rattle.ss_deriv.specs.declared.line.Line.{Line}
use Rattle.ss_deriv.specs.Lines.{lines_of}
use Rattle.ss_linear.specs.Contradictions.{Pairs, equality_at, equalities_at}
use Rattle.ss_equality_rules.specs.declared.Merge.{Merge}
use Rattle.ss_equality_rules.specs.Equal.{Equations, IsEqual}
use Rattle.ss_search_clashes.specs.Closing.{Closes}
use Rattle.ss_search_clashes.specs.Leading.{Leads}
use Rattle.ss_search_clashes.specs.Said.{facts_said, AreKnown, MakeKnown}
use Rattle.ss_search_whole_sums.specs.Summing.{Sums, uses, StandAt}

-- the terms of each pair are equal by the merges
pub record ArePairsEqual (c : Equations) (ps : Pairs) : Type 0 where
  pub equal : (i : ℕ) (p : TermId × TermId) → slice_get ps i ≡ Some p → IsEqual c.terms c.merges p.0.0 p.1.0

-- the lines that make an equality known are added, and its place
pub record Adds (b : Forms) (ms : List Merge) (count : ℕ) (p : TermId × TermId) (old new : List Line) (before after : List ℕ) : Type 0 where
  pub more : List Line
  pub place : ℕ
  pub shown : MakeKnown b ms (count + length old) (λ cs fs. is_well_sorted cs [] (term_at b p.0) ≡ true) (equality_at b p) more place
  pub lines : new ≡ old ++ more
  pub places : after ≡ before ++ place ∷ []

-- the same where the sums use the equality; else no line, and any place
pub record AddsUsed (b : Forms) (ms : List Merge) (count : ℕ) (ss : Sums) (p : TermId × TermId) (old new : List Line) (before after : List ℕ) : Type 0 where
  pub used : uses ss (length before) ≡ true → Adds b ms count p old new before after
  pub unused : uses ss (length before) ≡ false → (new ≡ old) × ((place : ℕ) × (after ≡ before ++ place ∷ []))

-- What is written. The lines lead on to what they make known. Where the facts stand at the first places, the equalities that the sums use stand at
-- the others.
pub record AreWritten (b : Forms) (ms : List Merge) (count : ℕ) (ss : Sums) (places : List ℕ) (ps : Pairs) (own : List ℕ) (lines : List Line) : Type 0 where
  pub leads : (cs : List ClassTree) (premises : List Formula) (goal : Formula) (known : List Formula) → AreKnown cs b ms count known → AreWellFormed cs [] (equalities_at b ps) →
      Leads cs premises goal known (lines_of b lines) (known ++ facts_said (lines_of b lines)) []
  pub stand : (known facts : List Formula) → length known ≡ count → StandAt known facts places ss → StandAt (known ++ facts_said (lines_of b lines)) (facts ++ equalities_at b ps) own ss
  pub long : length own ≡ length places + length ps

-- The lines close a case in which so many formulas are known, among them the equalities of the merges. Sums of facts among them and of the equalities
-- of the pairs end in what is false.
pub record CloseWith (b : Forms) (ms : List Merge) (count : ℕ) (places : List ℕ) (ps : Pairs) (ss : Sums) (lines : List Line) : Type 0 where
  pub closes : (cs : List ClassTree) (premises : List Formula) (goal : Formula) (known facts : List Formula) → AreKnown cs b ms count known → StandAt known facts places ss → AreWellFormed cs [] (facts ++ equalities_at b ps) →
      Refute cs (facts ++ equalities_at b ps) ss → Closes cs premises goal known (lines_of b lines)

-- ---- facts by their numbers

-- Each fact stands among the known formulas, at its place: those that sums use do, whatever the sums.
abbrev pub AreAtPlaces : Forms → List Formula → List FormulaId → List ℕ → Type 0
AreAtPlaces b known facts places = (ss : Sums) → StandAt known (formulas_at b facts) places ss

-- The lines close a case wherever so many formulas are known, the equalities of the merges among them and the facts at their places.
pub record CloseFacts (cs : List ClassTree) (b : Forms) (ms : List Merge) (count : ℕ) (facts : List FormulaId) (places : List ℕ) (ps : Pairs) (lines : List Line) : Type 0 where
  pub closes : (premises : List Formula) (goal : Formula) (known : List Formula) → AreKnown cs b ms count known → AreAtPlaces b known facts places → AreWellFormed cs [] (formulas_at b facts ++ equalities_at b ps) →
      Closes cs premises goal known (lines_of b lines)
