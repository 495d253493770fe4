-- What the ground form in code stands for, and where its formulas come from.
use Rattle.std.specs.Prelude.{ℕ, ◌+◌, ◌==◌, List, [], ◌∷◌, Option, Some, None, if◌then◌else◌}
use Rattle.ss_core.specs.Tree.{ClassTree}
use Rattle.ss_logic.specs.Formulas as logic
use Rattle.ss_logic_means.specs.Sorts.{AreWellFormed}
use Rattle.ss_logic_means.specs.Origins.{AreAccepted}
use Rattle.ss_terms.specs.Forms.{Forms, formulas_at, HasFormulas}
use Rattle.ss_rules_opened.specs.declared.opening.Choice.{Choice}
use Rattle.ss_rules_opened.specs.Choices.{choices_at, HasChoices}
use Rattle.ss_rules_opened.specs.declared.origins.Source.{Source}
use Rattle.ss_rules_opened.specs.declared.origins.Source.TheVariants as source
use Rattle.ss_rules_opened.specs.declared.origins.Origin.{Origin}
use Rattle.ss_rules_opened.specs.Views.{ComeFrom}
use Rattle.ss_rules.specs.declared.form.GroundForm.{GroundForm}
use Rattle.ss_rules.specs.declared.form.GroundForm.TheVariants as ground
use Rattle.ss_rules.specs.declared.form.Grounded.{Grounded}

abbrev pub ground_at : Forms → GroundForm → Option (List logic.Formula)
ground_at b (ground.Formulas fs) = Some (formulas_at b fs.items)
ground_at b ground.TooMany = None

abbrev pub HasGround : Forms → GroundForm → Type 0
HasGround b (ground.Formulas fs) = HasFormulas b fs.items
HasGround b ground.TooMany = Unit {0}

abbrev pub grounded_at : Forms → Option Grounded → Option (List logic.Formula)
grounded_at b None = None
grounded_at b (Some g) = Some (formulas_at b g.formulas.items)

-- Each formula comes from its origin. Where the premises and the goal are well formed, the lines that make the choices are steps.
pub record IsGrounded (cs : List ClassTree) (premises : List logic.Formula) (goal : logic.Formula) (b : Forms) (fs : List logic.Formula) (origins : List Origin) (choices : List Choice) : Type 0 where
  pub has_choices : HasChoices b choices
  pub come : ComeFrom cs premises goal (choices_at b choices) b fs origins
  pub accepted : AreWellFormed cs [] (goal ∷ premises) → AreAccepted cs premises goal (choices_at b choices)

-- what the formula at a place of so many comes from at the start
abbrev pub start_source : ℕ → ℕ → Source
start_source place count = if place + 1 == count then source.Denied else source.Premise place
