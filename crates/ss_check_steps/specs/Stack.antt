-- The cases that wait, as the code keeps them: each is a front of what is known on the path, and one formula more.
use Rattle.std.specs.Prelude.{◌≡◌, ℕ, ◌≤◌, List, [], ◌∷◌, ◌++◌, length, take, reverse, Bool, true, false}
use Rattle.ss_logic.specs.Formulas.{Formula}
use Rattle.ss_logic_means.specs.Steps.{State, Open, Between}
use Rattle.ss_terms.specs.declared.forms.FormulaId.{FormulaId}
use Rattle.ss_terms.specs.Forms.{Forms, formula_at, formulas_at, HasFormula, HasFormulas}

-- the cases of a stack, the next one first
abbrev pub cases_from : Forms → List FormulaId → List (ℕ × FormulaId) → List (List Formula)
cases_from b known [] = []
cases_from b known (c ∷ rest) = (formulas_at b (take c.0 known) ++ formula_at b c.1 ∷ []) ∷ cases_from b known rest

-- the cases that wait, of which the last one pushed is the next
abbrev pub waiting_of : Forms → List FormulaId → List (ℕ × FormulaId) → List (List Formula)
waiting_of b known waiting = cases_from b known (reverse waiting)

-- the fronts are no longer than this, each no longer than the one above it, and the formulas are of the bank
abbrev pub IsStack : Forms → ℕ → List (ℕ × FormulaId) → Type 0
IsStack b n [] = Unit {0}
IsStack b n (c ∷ rest) = (c.0 ≤ n) × HasFormula b c.1 × IsStack b c.0 rest

abbrev pub state_of : Forms → Bool → List FormulaId → List (ℕ × FormulaId) → State
state_of b true known waiting = Open (formulas_at b known) (waiting_of b known waiting)
state_of b false known waiting = Between (waiting_of b known waiting)

pub record AreCases (b : Forms) (fs : List FormulaId) (ws : List (ℕ × FormulaId)) : Type 0 where
  pub known : HasFormulas b fs
  pub waiting : IsStack b (length fs) (reverse ws)

-- the next case is open now, or none waits
abbrev pub IsReopened : Bool → List FormulaId → List (ℕ × FormulaId) → Bool → List FormulaId → List (ℕ × FormulaId) → Type 0
IsReopened false old_known old_waiting now known waiting = (old_waiting ≡ []) × (now ≡ false) × (known ≡ old_known) × (waiting ≡ [])
IsReopened true old_known old_waiting now known waiting = (c : ℕ × FormulaId) × (old_waiting ≡ waiting ++ c ∷ []) × (now ≡ true) × (known ≡ take c.0 old_known ++ c.1 ∷ [])
