-- What holds of the choices while each `exists` is opened, one after the other.
use Rattle.std.specs.Prelude.{◌≡◌, ℕ, List, [], ◌∷◌, ◌++◌, map, true, false, Contains}
use Rattle.std.specs.List.{list_any}
use Rattle.ss_core.specs.Tree.{ClassTree}
use Rattle.ss_logic.specs.declared.Sort.{Sort}
use Rattle.ss_logic.specs.Terms.{Term}
use Rattle.ss_logic.specs.Formulas.{Formula, neg, avoids}
use Rattle.ss_logic_means.specs.Sorts.{AreWellFormed}
use Rattle.ss_logic.specs.Opened.{is_numbered}
use Rattle.ss_logic_means.specs.Origins.{Choice, opened_by, chosen_by, AreAccepted}

-- a constant that isn't among the terms doesn't occur in the formula
abbrev pub Avoids : List Term → Formula → Type 0
Avoids used f = (s : Sort) (k : ℕ) → list_any (is_numbered s k) used ≡ false → avoids s k f ≡ true

-- The list is the premises and the denied goal, opened by the choices. Constants that aren't among the terms are new.
pub record IsStart (cs : List ClassTree) (premises : List Formula) (goal : Formula) (used : List Term) (fs : List Formula) (choices : List Choice) : Type 0 where
  pub opened : map (opened_by choices) (premises ++ neg goal ∷ []) ≡ fs
  pub given : (f : Formula) → Contains (goal ∷ premises) f → Avoids used f
  pub known : (f : Formula) → Contains (map chosen_by choices) f → Avoids used f
  pub listed : (f : Formula) → Contains fs f → Avoids used f
  pub formed : AreWellFormed cs [] (goal ∷ premises) → AreWellFormed cs [] fs
  pub accepted : AreWellFormed cs [] (goal ∷ premises) → AreAccepted cs premises goal choices
