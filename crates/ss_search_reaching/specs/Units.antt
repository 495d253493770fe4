-- What reached `or`s are beside the literals of a table, with lines.
use Rattle.std.specs.Prelude.{◌≡◌, ℕ, List, map, Option, Some, None, slice_get}
use Rattle.ss_core.specs.Tree.{ClassTree}
use Rattle.ss_logic.specs.Formulas.{Formula}
use Rattle.ss_terms.specs.declared.forms.FormulaId.{FormulaId}
use Rattle.ss_terms.specs.Forms.{formula_at}
use Rattle.ss_deriv.specs.Lines.{lines_of}
use Rattle.ss_equality_rules.specs.declared.Merge.{Merge}
use Rattle.ss_equality_rules.specs.Equal as equal
use Rattle.ss_search_clashes.specs.Closing.{Closes}
use Rattle.ss_search_path.specs.declared.path.Path.{Path}
use Rattle.ss_search_path.specs.Paths.{known_on, GoesOn}
use Rattle.ss_search_reached.specs.declared.looking.Looking.{Looking}
use Rattle.ss_search_reached.specs.Looks.{known_at, IsLooking, IsPartOf}
use Rattle.ss_search_reached.specs.Following.{IsOpenBranch}
use Rattle.ss_search_path.specs.declared.standing.Given.{Given}
use Rattle.ss_search_path.specs.declared.standing.Standing.{Standing}
use Rattle.ss_search_path.specs.Standing.{IsGuardedAt, Stands}
use Rattle.ss_search_reaching.specs.Refuting.{bank_of, AreShown, IsShown, or_of, IsRefuting}
use Rattle.ss_search_reaching.specs.declared.branches.Beside.{Beside}
use Rattle.ss_search_reaching.specs.declared.branches.Resolved.{Resolved}
use Rattle.ss_search_reaching.specs.declared.branches.Resolved.TheVariants as resolved

-- both look at the same known formulas, beside the same table
pub record IsBeside (p : Beside) (c : equal.Equations) : Type 0 where
  pub looking : IsLooking p.looking c
  pub refuting : IsRefuting p.refuting c
  pub bank : p.looking.bank.now ≡ bank_of p.refuting
  pub known : p.looking.known.now ≡ p.refuting.known.now

-- what the formula is beside the known ones
abbrev pub IsResolved : Looking → Formula → Resolved → Type 0
IsResolved s f (resolved.Closed lines) = Unit {0}
IsResolved s f (resolved.One part standing) = IsPartOf s f part
IsResolved s f resolved.Open = IsOpenBranch (known_at s) (known_at s) f

-- the part that follows
abbrev pub part_of : Resolved → Option FormulaId
part_of (resolved.Closed lines) = None
part_of (resolved.One part standing) = Some part
part_of resolved.Open = None

-- the lines close the case in which these facts are known; the part stands among them
abbrev pub StandsOrCloses : List ClassTree → List Formula → Formula → Given → List Formula → Resolved → Type 0
StandsOrCloses cs premises goal g facts (resolved.Closed lines) = Closes cs premises goal facts (lines_of g.bank.now lines.items)
StandsOrCloses cs premises goal g facts (resolved.One part standing) = Stands cs g facts standing (formula_at g.bank.now part)
StandsOrCloses cs premises goal g facts resolved.Open = Unit {0}

-- the path goes on to one at whose end this is so
pub record LeadsToOne (cs : List ClassTree) (premises : List Formula) (goal : Formula) (g : Given) (old new : Path) (u : Resolved) : Type 0 where
  pub goes_on : GoesOn cs premises goal g.bank.now old new
  pub grounded : StandsOrCloses cs premises goal g (known_on g.bank.now new) u

-- where the fact at the place is the `or` of these parts
abbrev pub UnitFrom : Beside → List Merge → Path → ℕ → ℕ → List FormulaId → Path → Resolved → Type 0
UnitFrom p ms old place from parts new u = (cs : List ClassTree) (premises : List Formula) (goal : Formula) →
    IsShown cs p.refuting ms (known_on (bank_of p.refuting) old) place from (or_of (bank_of p.refuting) parts) → LeadsToOne cs premises goal p.refuting.given old new u

-- where the `or` of these is guarded by this origin
abbrev pub UnitGuarded : Beside → List Merge → Path → ℕ → List FormulaId → Path → Resolved → Type 0
UnitGuarded p ms old origin parts new u = (cs : List ClassTree) (premises : List Formula) (goal : Formula) →
    AreShown cs p.refuting ms (known_on (bank_of p.refuting) old) → IsGuardedAt cs p.refuting.given origin (or_of (bank_of p.refuting) parts) → LeadsToOne cs premises goal p.refuting.given old new u

-- where the formula stands so
abbrev pub UnitStanding : Beside → List Merge → Path → Standing → Formula → Path → Resolved → Type 0
UnitStanding p ms old standing f new u = (cs : List ClassTree) (premises : List Formula) (goal : Formula) →
    AreShown cs p.refuting ms (known_on (bank_of p.refuting) old) → Stands cs p.refuting.given (known_on (bank_of p.refuting) old) standing f → LeadsToOne cs premises goal p.refuting.given old new u

-- ---- what follows, each with its standing

abbrev pub formulas_in : List (FormulaId × Standing) → List FormulaId
formulas_in us = map (λ u. u.0) us

pub record AllStand (cs : List ClassTree) (g : Given) (facts : List Formula) (us : List (FormulaId × Standing)) : Type 0 where
  pub each : (i : ℕ) (u : FormulaId × Standing) → slice_get us i ≡ Some u → Stands cs g facts u.1 (formula_at g.bank.now u.0)
