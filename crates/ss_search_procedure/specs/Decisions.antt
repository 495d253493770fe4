-- Decisions of the formulas that are settled, and what was tried of them.
use Rattle.std.specs.Prelude.{◌≡◌, ◌⊎◌, ℕ, List, [], ◌∷◌, length, take, true, Some, slice_get}
use Rattle.std.specs.List.{Contains}
use Rattle.ss_core.specs.Tree.{ClassTree}
use Rattle.ss_logic.specs.Formulas.{Formula, is_well_formed, neg}
use Rattle.ss_logic_countermodels.specs.Refuting.{told_in, told}
use Rattle.ss_terms.specs.declared.forms.FormulaId.{FormulaId}
use Rattle.ss_terms.specs.Forms.{Forms, formula_at, formulas_at, HasFormula, HasFormulas, IsBankOf}
use Rattle.ss_deriv.specs.declared.line.Line.{Line}
use Rattle.ss_deriv.specs.Lines.{lines_of}
use Rattle.ss_search_clashes.specs.Closing.{Closes}
use Rattle.ss_search_path.specs.declared.path.Path.{Path}
use Rattle.ss_search_path.specs.Paths.{EndsWith, IsMark, IsPath, IsSupposed}
use Rattle.ss_logic.specs.Includes.{Includes}
use Rattle.ss_search_procedure_rules.specs.Closed.{OccursIn, Closed}
use Rattle.ss_search_path.specs.Standing.{IsGiven}
use Rattle.ss_search_reaching.specs.declared.reaching.Reaching.{Reaching}
use Rattle.ss_search_reaching.specs.declared.reaching.Marks.{Marks}
use Rattle.ss_search_reaching.specs.Reaching.{facts_of, reached_of, IsReaching, Shows, Grows, ReachesOn}
use Rattle.ss_search_procedure.specs.declared.setting.Settling.{Settling}

abbrev pub bank_of : Settling → Forms
bank_of s = s.given.bank.now

-- the formulas that are settled
abbrev pub settled_ones : Settling → List Formula
settled_ones s = formulas_at (bank_of s) s.formulas.now

abbrev pub decisions_of : Settling → List Formula
decisions_of s = formulas_at (bank_of s) s.decisions.now

-- the reached formulas
abbrev pub reached_in : Settling → Reaching → List Formula
reached_in s r = reached_of s.given r

-- the decisions are what is told in the formulas
pub record IsSetting (s : Settling) : Type 0 where
  pub given : IsGiven s.given
  pub formulas : HasFormulas (bank_of s) s.formulas.now
  pub in_bank : HasFormulas (bank_of s) s.decisions.now
  pub decisions : decisions_of s ≡ told (settled_ones s)

-- the formulas are reached, and what occurs in what is reached is a decision
pub record IsState (s : Settling) (r : Reaching) : Type 0 where
  pub reaching : IsReaching s.given r
  pub decisions : (p : Formula) → OccursIn (reached_in s r) p → Contains (decisions_of s) p
  pub known : Includes (reached_in s r) (settled_ones s)

-- what is told in the formula is a decision
pub record IsAmong (s : Settling) (f : Formula) : Type 0 where
  pub told : (p : Formula) → Contains (told_in f) p → Contains (decisions_of s) p

-- a decision, or the negation of one
abbrev pub IsSide : Settling → Formula → Type 0
IsSide s f = Contains (decisions_of s) f ⊎ Contains (decisions_of s) (neg f)

-- what is reached stays, in front of what is added
pub record GoesOn (s : Settling) (old new : Reaching) : Type 0 where
  pub state : IsState s new
  pub grows : Grows s.given old new

-- ---- what was tried

-- neither the formula nor its negation is reached
pub record IsUnknown (known : List Formula) (f : Formula) : Type 0 where
  pub itself : Contains known f → ⊥
  pub negation : Contains known (neg f) → ⊥

-- a decision, or the negation of one, that is unknown
pub record IsOpenDecision (s : Settling) (r : Reaching) (f : FormulaId) : Type 0 where
  pub has : HasFormula (bank_of s) f
  pub side : IsSide s (formula_at (bank_of s) f)
  pub unknown : IsUnknown (reached_in s r) (formula_at (bank_of s) f)

-- the formula is reached, or its negation, or beside what is reached it isn't closed at this depth
abbrev pub IsTried : List ClassTree → ℕ → List Formula → Formula → Type 0
IsTried cs depth known p = Contains known p ⊎ Contains known (neg p) ⊎ (Closed cs depth (p ∷ known) → ⊥)

-- a formula was tried, and its negation
abbrev pub AreTried : List ClassTree → ℕ → List Formula → Formula → Type 0
AreTried cs depth known p = IsTried cs depth known p × IsTried cs depth known (neg p)

-- of each of these formulas one side is reached
abbrev pub AreDecided : List Formula → List Formula → Type 0
AreDecided known ps = (p : Formula) → Contains ps p → Contains known p ⊎ Contains known (neg p)

-- the first so many decisions
abbrev pub first_decisions : Settling → ℕ → List Formula
first_decisions s n = formulas_at (bank_of s) (take n s.decisions.now)

-- the formula is the decision at this place, or its negation
abbrev pub IsNext : Settling → ℕ → Formula → Type 0
IsNext s n f = (p : FormulaId) × (slice_get s.decisions.now n ≡ Some p) × ((f ≡ formula_at (bank_of s) p) ⊎ (f ≡ neg (formula_at (bank_of s) p)))

-- ---- lines

-- what is reached is shown, in a program in which the decisions are well formed
pub record IsShown (cs : List ClassTree) (s : Settling) (r : Reaching) : Type 0 where
  pub bank : IsBankOf cs (bank_of s)
  pub formed : (p : Formula) → Contains (decisions_of s) p → is_well_formed cs [] p ≡ true
  pub shows : Shows cs s.given r

-- from where what is reached is shown the path goes on to where it is
abbrev pub ReachesBy : Settling → Reaching → Reaching → Type 0
ReachesBy s old new = (cs : List ClassTree) (premises : List Formula) (goal : Formula) → IsShown cs s old → ReachesOn cs premises goal s.given old new

-- and the lines close the case at its end
abbrev pub ClosesBy : Settling → Reaching → Reaching → List Line → Type 0
ClosesBy s old new lines = (cs : List ClassTree) (premises : List Formula) (goal : Formula) → IsShown cs s old → Closes cs premises goal (facts_of s.given new) (lines_of (bank_of s) lines)

-- the formula is the last fact
abbrev pub IsLast : Forms → Formula → Path → Type 0
IsLast b f p = (front : List FormulaId) × EndsWith b front f p.known.items

-- At these marks the formula was supposed for a trial, which goes on to a later state.
pub record IsTrialOf (s : Settling) (m : Marks) (p : FormulaId) (at now : Reaching) : Type 0 where
  pub state : IsState s at
  pub reached : m.reached ≡ length at.reached.known.items
  pub path : IsMark m.path at.path
  pub trial : Reaching
  pub begun : IsSupposed (bank_of s) p at.path trial.path
  pub shown : (cs : List ClassTree) → IsShown cs s at → IsShown cs s trial
  pub on : GoesOn s at now
  pub reaches : ReachesBy s trial now

-- What is reached is as before the trial, and the facts stay in front.
pub record IsAsBefore (s : Settling) (at new : Reaching) : Type 0 where
  pub goes_on : GoesOn s at new
  pub same : reached_in s new ≡ reached_in s at

-- the path leads from nothing to where what is reached is shown
pub record HasLed (cs : List ClassTree) (premises : List Formula) (goal : Formula) (s : Settling) (r : Reaching) : Type 0 where
  pub shown : IsShown cs s r
  pub path : IsPath cs premises goal (bank_of s) [] r.path
