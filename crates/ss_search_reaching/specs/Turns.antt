-- What follows of all reached `or`s in a turn.
use Rattle.std.specs.Prelude.{◌≡◌, ℕ, List, [], ◌∷◌, ◌++◌, Option, Some, None, slice_get, Vec}
use Rattle.std.specs.declared.alloc.Global.{Global}
use Rattle.ss_core.specs.Tree.{ClassTree}
use Rattle.ss_logic.specs.Formulas.{Formula}
use Rattle.ss_terms.specs.declared.forms.FormulaId.{FormulaId}
use Rattle.ss_terms.specs.Forms.{Forms, formula_at}
use Rattle.ss_deriv.specs.declared.line.Line.{Line}
use Rattle.ss_deriv.specs.Lines.{lines_of}
use Rattle.ss_equality_rules.specs.declared.Merge.{Merge}
use Rattle.ss_search_clashes.specs.Closing.{Closes}
use Rattle.ss_search_path.specs.declared.path.Path.{Path}
use Rattle.ss_search_path.specs.Paths.{known_on, GoesOn}
use Rattle.ss_search_reached.specs.Following.{AreUnits}
use Rattle.ss_search_path.specs.declared.standing.Given.{Given}
use Rattle.ss_search_path.specs.declared.standing.Standing.{Standing}
use Rattle.ss_search_path.specs.Standing.{Stands}
use Rattle.ss_search_reaching.specs.declared.basic.Refuting.{Refuting}
use Rattle.ss_search_reaching.specs.Refuting.{bank_of, AreShown}
use Rattle.ss_search_reaching.specs.declared.branches.Beside.{Beside}
use Rattle.ss_search_reaching.specs.declared.branches.Resolved.{Resolved}
use Rattle.ss_search_reaching.specs.declared.branches.Resolved.TheVariants as resolved
use Rattle.ss_search_reaching.specs.declared.reaching.Reaching.{Reaching}
use Rattle.ss_search_reaching.specs.declared.turns.Turn.{Turn}
use Rattle.ss_search_reaching.specs.declared.turns.Turn.TheVariants as turn
use Rattle.ss_search_reaching.specs.Reaching.{Shows, Grows}
use Rattle.ss_search_reaching.specs.Units.{formulas_in, AllStand}

-- the formula that follows is added, with its standing; or the lines that close the case are given
abbrev pub IsAdded : Resolved → List (FormulaId × Standing) → List (FormulaId × Standing) → Option (Vec Line Global) → Type 0
IsAdded (resolved.Closed lines) old new o = o ≡ Some lines
IsAdded (resolved.One part standing) old new o = (o ≡ None) × (new ≡ old ++ (part, standing) ∷ [])
IsAdded resolved.Open old new o = (o ≡ None) × (new ≡ old)

abbrev pub IfOpen : Type 0 → Turn → Type 0
IfOpen P (turn.Closed lines) = Unit {0}
IfOpen P (turn.Open us) = P

-- with what follows each `or` among these has a part that is known, or two that may hold
abbrev pub FollowOf : Forms → List FormulaId → Turn → Type 0
FollowOf b known (turn.Closed lines) = Unit {0}
FollowOf b known (turn.Open us) = AreUnits b known known (formulas_in us.items)

abbrev pub AreFollowing : Beside → Turn → Type 0
AreFollowing p t = FollowOf p.looking.bank.now p.looking.known.now t

-- the lines close the case in which these facts are known; what follows stands among them
abbrev pub AllStandOrClose : List ClassTree → List Formula → Formula → Given → List Formula → Turn → Type 0
AllStandOrClose cs premises goal g facts (turn.Closed lines) = Closes cs premises goal facts (lines_of g.bank.now lines.items)
AllStandOrClose cs premises goal g facts (turn.Open us) = AllStand cs g facts us.items

pub record LeadsToAll (cs : List ClassTree) (premises : List Formula) (goal : Formula) (g : Given) (old new : Path) (t : Turn) : Type 0 where
  pub goes_on : GoesOn cs premises goal g.bank.now old new
  pub grounded : AllStandOrClose cs premises goal g (known_on g.bank.now new) t

-- where each known formula stands as is said
abbrev pub UnitsFrom : Refuting → List Merge → Path → List Standing → Path → Turn → Type 0
UnitsFrom s ms old standings new t = (cs : List ClassTree) (premises : List Formula) (goal : Formula) → AreShown cs s ms (known_on (bank_of s) old) →
    ((k : ℕ) (f : FormulaId) (st : Standing) → slice_get s.known.now k ≡ Some f → slice_get standings k ≡ Some st → Stands cs s.given (known_on (bank_of s) old) st (formula_at (bank_of s) f)) →
    LeadsToAll cs premises goal s.given old new t

-- the same of what is reached
abbrev pub IfFollows : Given → Reaching → Turn → Type 0
IfFollows g r t = FollowOf g.bank.now r.reached.known.items t

-- what is reached stays, and what follows is as is said
pub record Turns (g : Given) (old new : Reaching) (t : Turn) : Type 0 where
  pub grows : Grows g old new
  pub known : new.reached.known.items ≡ old.reached.known.items
  pub follows : IfFollows g old t

abbrev pub TurnFrom : Given → Reaching → Reaching → Turn → Type 0
TurnFrom g old new t = (cs : List ClassTree) (premises : List Formula) (goal : Formula) → Shows cs g old → Shows cs g new × LeadsToAll cs premises goal g old.path new.path t
