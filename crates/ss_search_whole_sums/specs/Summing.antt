-- Weighted sums as lines of a derivation, where the facts stand at other places.
use Rattle.std.specs.Prelude.{◌≡◌, ℕ, ◌+◌, ◌-◌, ◌==◌, nat_lt, ℤ, List, [], length, map, Bool, true, Some, slice_get, slice_index, if◌then◌else◌}
use Rattle.std.specs.List.{list_any}
use Rattle.ss_core.specs.Tree.{ClassTree}
use Rattle.ss_logic.specs.Formulas.{Formula}
use Rattle.ss_logic_means.specs.Sorts.{AreWellFormed}
use Rattle.ss_logic_means.specs.Steps as tree
use Rattle.ss_linear_rules.specs.Two.{Refute}
use Rattle.ss_terms.specs.Forms.{Forms}
use Rattle.ss_deriv.specs.declared.line.Line.{Line}
use Rattle.ss_deriv.specs.Lines.{lines_of}
use Rattle.ss_search_clashes.specs.Closing.{Closes}

-- divisors, each with weights for places
abbrev pub Sums : Type 0
Sums = List (ℤ × List (ℕ × ℤ))

-- one of the sums has a weight for this place
abbrev pub uses : Sums → ℕ → Bool
uses ss i = list_any (λ s. list_any (λ p. p.0 == i) s.1) ss

-- Where what stood at a place stands now. A fact stands at its place in the list. What sums give, which stood after the facts, stands after so many
-- known formulas.
abbrev pub moved : List ℕ → ℕ → ℕ → ℕ
moved places known i = if nat_lt i (length places) then slice_index places i else known + (i - length places)

abbrev pub moved_part : List ℕ → ℕ → ℕ × ℤ → ℕ × ℤ
moved_part places known p = (moved places known p.0, p.1)

abbrev pub sum_line : List ℕ → ℕ → ℤ × List (ℕ × ℤ) → tree.Line
sum_line places known s = tree.Sum s.0 (map (moved_part places known) s.1)

-- the facts that the sums use stand among the known formulas, each at its place
pub record StandAt (known facts : List Formula) (places : List ℕ) (ss : Sums) : Type 0 where
  pub long : length places ≡ length facts
  pub at : (i : ℕ) (f : Formula) → uses ss i ≡ true → slice_get facts i ≡ Some f → slice_get known (slice_index places i) ≡ Some f

-- The lines close a case wherever so many formulas are known, and the sums of facts among them end in what is false.
pub record CloseBySums (places : List ℕ) (count : ℕ) (ss : Sums) (lines : List Line) : Type 0 where
  pub closes : (b : Forms) (cs : List ClassTree) (premises : List Formula) (goal : Formula) (known facts : List Formula) → length known ≡ count → StandAt known facts places ss → AreWellFormed cs [] facts → Refute cs facts ss →
      Closes cs premises goal known (lines_of b lines)
