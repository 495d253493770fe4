-- The choices that a bank's numbers stand for.
use Rattle.std.specs.Prelude.{List, [], ◌∷◌, ◌++◌, map}
use Rattle.ss_core.specs.Tree.{ClassTree}
use Rattle.ss_logic.specs.Terms.{Term}
use Rattle.ss_logic.specs.Formulas.{Formula, Exists}
use Rattle.ss_logic.specs.Opened.{fresh_constants}
use Rattle.ss_logic_means.specs.Origins as spec
use Rattle.ss_logic_means.specs.Starting.{IsStart}
use Rattle.ss_terms.specs.Forms.{Forms, terms_at, formula_at, HasTerms, HasFormula}
use Rattle.ss_rules_opened.specs.declared.opening.Choice.{Choice}

abbrev pub choice_of : Formula → List Term → spec.Choice
choice_of f ts = record { whole = f; constants = ts }

-- the choices with that at an `exists`, where these terms are in use
abbrev pub choices_after : Formula → List Term → List spec.Choice → List spec.Choice
choices_after (Exists ss f) used choices = choices ++ choice_of (Exists ss f) (fresh_constants ss used) ∷ []
choices_after f used choices = choices

abbrev pub choice_at : Forms → Choice → spec.Choice
choice_at b c = choice_of (formula_at b c.whole) (terms_at b c.constants.items)

abbrev pub choices_at : Forms → List Choice → List spec.Choice
choices_at b choices = map (choice_at b) choices

abbrev pub HasChoices : Forms → List Choice → Type 0
HasChoices b [] = Unit {0}
HasChoices b (c ∷ choices) = HasFormula b c.whole × HasTerms b c.constants.items × HasChoices b choices

-- where the list starts a ground form by the choices, the other one does too
abbrev pub StillStart : List ClassTree → List Term → List Formula → List spec.Choice → List Formula → List spec.Choice → Type 0
StillStart cs used fs choices gs more = (premises : List Formula) (goal : Formula) → IsStart cs premises goal used fs choices → (others : List Term) × IsStart cs premises goal others gs more
