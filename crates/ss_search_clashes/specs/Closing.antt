-- Lines that close a case, alone.
use Rattle.std.specs.Prelude.{◌≡◌, List, [], ◌∷◌, ◌++◌, Some}
use Rattle.ss_core.specs.Tree.{ClassTree}
use Rattle.ss_logic.specs.Formulas.{Formula}
use Rattle.ss_logic_means.specs.Steps.{Line, Case, Open, Between, run}

-- The lines end the case in which these are known, and all cases that they open.
abbrev pub Closes : List ClassTree → List Formula → Formula → List Formula → List Line → Type 0
Closes cs premises goal known lines = run cs premises goal (Open known []) lines ≡ Some (Between [])

-- the lines of cases, one case after the other
abbrev pub cases_in_turn : List (List Line) → List Line
cases_in_turn [] = []
cases_in_turn (lines ∷ others) = Case ∷ lines ++ cases_in_turn others

-- each formula has lines that close the case in which it is known too
abbrev pub CloseEach : List ClassTree → List Formula → Formula → List Formula → List Formula → List (List Line) → Type 0
CloseEach cs premises goal known [] [] = Unit {0}
CloseEach cs premises goal known [] (lines ∷ others) = ⊥
CloseEach cs premises goal known (f ∷ fs) [] = ⊥
CloseEach cs premises goal known (f ∷ fs) (lines ∷ others) = Closes cs premises goal (known ++ f ∷ []) lines × CloseEach cs premises goal known fs others
