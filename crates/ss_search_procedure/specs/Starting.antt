-- The begin of a path: the choices, then the premises and the denied goal, and what instances say.
use Rattle.std.specs.Prelude.{◌≡◌, ℕ, List, [], ◌∷◌, drop, true}
use Rattle.ss_core.specs.Tree.{ClassTree}
use Rattle.ss_logic.specs.Formulas.{Formula, is_well_formed}
use Rattle.ss_logic_means.specs.Scenes.{AreInvariants}
use Rattle.ss_logic_means.specs.Sorts.{AreWellFormed}
use Rattle.ss_logic_means.specs.Origins.{Choice, Origin, opened_by, chosen_by, AreAccepted, IsOrigin, AreOrigins}
use Rattle.ss_terms.specs.Forms.{Forms, formula_at, HasFormula}
use Rattle.ss_rules_opened.specs.Views.{origins_at}
use Rattle.ss_search_path.specs.Paths.{Makes}
use Rattle.ss_search_path.specs.declared.standing.Given.{Given}
use Rattle.ss_search_path.specs.Standing.{choices_in, body_of, line_from}
use Rattle.ss_search_procedure.specs.declared.choosing.Said.{Said}

-- the numbers of what a choice makes known, and of its body
pub record IsSaid (b : Forms) (s : Said) (c : Choice) : Type 0 where
  pub has_formula : HasFormula b s.formula
  pub formula : formula_at b s.formula ≡ chosen_by c
  pub has_body : HasFormula b s.body
  pub body : formula_at b s.body ≡ body_of c

-- The formulas are those of an obligation that is well formed, opened by the choices, and instances. A derivation may make the choices.
pub record IsGround (cs : List ClassTree) (premises : List Formula) (goal : Formula) (g : Given) (fs : List Formula) : Type 0 where
  pub formed : AreWellFormed cs [] (goal ∷ premises)
  pub invariants : AreInvariants cs
  pub accepted : AreAccepted cs premises goal (choices_in g)
  pub origins : AreOrigins cs premises goal (choices_in g) fs (origins_at g.bank.now g.origins.now)

-- one formula of them, by its origin
pub record ComesFrom (cs : List ClassTree) (premises : List Formula) (goal : Formula) (choices : List Choice) (o : Origin) (f : Formula) : Type 0 where
  pub given : AreWellFormed cs [] (goal ∷ premises)
  pub invariants : AreInvariants cs
  pub before : List Formula
  pub before_formed : AreWellFormed cs [] before
  pub formed : is_well_formed cs [] f ≡ true
  pub origin : IsOrigin cs premises goal choices before o f

-- The line of the origin makes a fact known. The formula is that fact, opened by the choices from one on.
pub record IsStated (cs : List ClassTree) (premises : List Formula) (goal : Formula) (choices : List Choice) (o : Origin) (fact : Formula) (from : ℕ) (f : Formula) : Type 0 where
  pub makes : (known : List Formula) → Makes cs premises goal known (line_from o 0) fact
  pub opened : opened_by (drop from choices) fact ≡ f
