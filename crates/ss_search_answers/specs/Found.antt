-- What a search found.
use Rattle.std.specs.Prelude.{◌≡◌, ℕ, List, Some, None}
use Rattle.ss_core.specs.Tree.{ClassTree}
use Rattle.ss_logic.specs.Formulas.{Formula}
use Rattle.ss_logic.specs.Ground.{ground_form}
use Rattle.ss_logic_countermodels.specs.declared.Countermodel.{Countermodel}
use Rattle.ss_logic_countermodels.specs.Refuting.{Model, Refutes, RefutesGround}
use Rattle.ss_deriv.specs.declared.line.Line.{Line}
use Rattle.ss_search_procedure_rules.specs.Closed.{AreEnough}
use Rattle.ss_search_answers.specs.declared.answers.Options.{Options}
use Rattle.ss_search_answers.specs.declared.answers.Found.{Found}
use Rattle.ss_search_answers.specs.declared.answers.Found.TheVariants as found

-- the model refutes the ground form, by the rounds and the limit of the options
abbrev pub IsRefutedBy : List ClassTree → Options → List Formula → Formula → Countermodel → Type 0
IsRefutedBy cs p premises goal m = RefutesGround cs premises goal p.rounds p.instances m

-- the limit is that of the options, and the ground form has more formulas
abbrev pub IsOver : List ClassTree → Options → List Formula → Formula → ℕ → Type 0
IsOver cs p premises goal limit = (limit ≡ p.instances) × (ground_form cs premises goal p.rounds p.instances ≡ None)

-- the splits are those of the options, and for the ground form so many aren't enough
pub record IsShort (cs : List ClassTree) (p : Options) (premises : List Formula) (goal : Formula) (splits : ℕ) : Type 0 where
  pub same : splits ≡ p.splits
  pub formulas : List Formula
  pub ground : ground_form cs premises goal p.rounds p.instances ≡ Some formulas
  pub short : AreEnough cs formulas p.splits → ⊥

-- The ground form keeps to the limit of the options, no model refutes it, and their splits are enough for it.
pub record HasNoModelWithin (cs : List ClassTree) (p : Options) (premises : List Formula) (goal : Formula) : Type 0 where
  pub formulas : List Formula
  pub ground : ground_form cs premises goal p.rounds p.instances ≡ Some formulas
  pub none : (m : Model) → Refutes cs m formulas → ⊥
  pub enough : AreEnough cs formulas p.splits

-- ---- the answers

-- where a derivation was found, this holds of its lines
abbrev pub IfProved : Found → (List Line → Type 0) → Type 0
IfProved (found.Proved d) P = P d
IfProved _ P = Unit {0}

-- where a model was found, this holds of it
abbrev pub IfCountered : Found → (Countermodel → Type 0) → Type 0
IfCountered (found.Countered m) P = P m
IfCountered _ P = Unit {0}

-- where the splits aren't enough, this holds of them
abbrev pub IfSpent : Found → (ℕ → Type 0) → Type 0
IfSpent (found.Spent splits) P = P splits
IfSpent _ P = Unit {0}

-- where the ground form has too many formulas, this holds of their limit
abbrev pub IfTooMany : Found → (ℕ → Type 0) → Type 0
IfTooMany (found.TooMany limit) P = P limit
IfTooMany _ P = Unit {0}

-- a derivation was found, or memory ran out
abbrev pub IsProvedOrMemory : Found → Type 0
IsProvedOrMemory (found.Proved d) = Unit {0}
IsProvedOrMemory found.Memory = Unit {0}
IsProvedOrMemory _ = ⊥
