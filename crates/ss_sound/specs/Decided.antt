-- What was found of one obligation.
use Rattle.std.specs.Prelude.{List, Result, Ok, Err}
use Rattle.ss_core.specs.Tree.{ClassTree}
use Rattle.ss_logic.specs.Formulas.{Formula}
use Rattle.ss_logic_means.specs.Steps as tree
use Rattle.ss_logic_means.specs.Steps.{Derives}
use Rattle.ss_vcgen_heaps.specs.Positions.{Obligation}
use Rattle.ss_deriv.specs.declared.line.Line.{Line}
use Rattle.ss_search_answers.specs.Found.{IsRefutedBy, IsShort, IsOver}
use Rattle.ss_search_answers.specs.declared.answers.Options.{Options}
use Rattle.ss_search_answers.specs.declared.answers.Budget.{Budget}
use Rattle.ss_search_answers.specs.declared.answers.Budget.TheVariants as budget
use Rattle.ss_logic_countermodels.specs.declared.Countermodel.{Countermodel}
use Rattle.ss_sound.specs.declared.decision.Decision.{Decision}
use Rattle.ss_sound.specs.declared.decision.Decision.TheVariants as decision

-- the lines derive the goal from the premises, so that it is true in every structure in which they are
abbrev pub IsDerivedBy : List ClassTree → Obligation → List tree.Line → Type 0
IsDerivedBy cs o lines = Derives cs o.premises o.goal lines

-- the budget of the options, which isn't enough for the ground form of the premises and the denied goal
abbrev pub IsSpentOn : List ClassTree → Options → List Formula → Formula → Budget → Type 0
IsSpentOn cs p premises goal (budget.Splits splits) = IsShort cs p premises goal splits
IsSpentOn cs p premises goal (budget.Instances limit) = IsOver cs p premises goal limit

-- the model refutes the ground form of the obligation
abbrev pub IsCountered : List ClassTree → Options → Obligation → Countermodel → Type 0
IsCountered cs p o m = IsRefutedBy cs p o.premises o.goal m

-- this budget isn't enough for the ground form of the obligation
abbrev pub IsOverBudget : List ClassTree → Options → Obligation → Budget → Type 0
IsOverBudget cs p o c = IsSpentOn cs p o.premises o.goal c

-- where there is a derivation, this holds of it
abbrev pub IfDerived : {E : Type 0} → Result Decision E → (List Line → Type 0) → Type 0
IfDerived (Ok (decision.Derived d)) P = P d
IfDerived _ P = Unit {0}

-- where there is a model, this holds of it
abbrev pub IfRefuted : {E : Type 0} → Result Decision E → (Countermodel → Type 0) → Type 0
IfRefuted (Ok (decision.Refuted m)) P = P m
IfRefuted _ P = Unit {0}

-- where a budget ran out, this holds of it
abbrev pub IfOver : {E : Type 0} → Result Decision E → (Budget → Type 0) → Type 0
IfOver (Ok (decision.Over c)) P = P c
IfOver _ P = Unit {0}
