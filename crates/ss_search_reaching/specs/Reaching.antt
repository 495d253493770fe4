-- What is reached, where it stands among the facts of a path, and the path.
use Rattle.std.specs.Prelude.{◌≡◌, ℕ, List, length, map, take}
use Rattle.ss_core.specs.Tree.{ClassTree}
use Rattle.ss_logic.specs.Formulas.{Formula}
use Rattle.ss_deriv.specs.declared.line.Line.{Line}
use Rattle.ss_deriv.specs.Lines.{lines_of}
use Rattle.ss_search_clashes.specs.Closing.{Closes}
use Rattle.ss_search_clashes.specs.Said.{AreKnown}
use Rattle.ss_search_path.specs.Paths.{known_on, GoesOn}
use Rattle.ss_search_reached.specs.Known.{known_in, IsReached, Remembers}
use Rattle.ss_search_reached.specs.Following as following
use Rattle.ss_search_path.specs.declared.standing.Given.{Given}
use Rattle.ss_search_path.specs.declared.standing.Standing.{Standing}
use Rattle.ss_search_path.specs.declared.standing.Standing.TheVariants.{Fact, Guarded}
use Rattle.ss_search_path.specs.Standing.{AreStanding}
use Rattle.ss_search_reaching.specs.declared.reaching.Reaching.{Reaching}

-- The place of a fact. What is guarded is an `or`, which isn't asked at its place, so any number does.
abbrev pub place_of : Standing → ℕ
place_of (Fact place from) = place
place_of (Guarded origin) = 0

-- the facts at the end of the path
abbrev pub facts_of : Given → Reaching → List Formula
facts_of g r = known_on g.bank.now r.path

-- the reached formulas
abbrev pub reached_of : Given → Reaching → List Formula
reached_of g r = known_in g.bank.now r.reached

-- each reached formula has a standing, and the place of it
pub record IsReaching (g : Given) (r : Reaching) : Type 0 where
  pub reached : IsReached g.bank.now r.reached
  pub long : length r.standings.items ≡ length r.reached.known.items
  pub places : r.places.items ≡ map place_of r.standings.items

-- Each reached formula stands among the facts as is said, and the equality of each merge at its reason.
pub record Shows (cs : List ClassTree) (g : Given) (r : Reaching) : Type 0 where
  pub standing : AreStanding cs g (facts_of g r) (reached_of g r) r.standings.items
  pub merges : AreKnown cs g.bank.now r.reached.congruence.merges (length (facts_of g r)) (facts_of g r)

-- What is reached grows, and so do the facts. The standings and the merges stay in front of those that are added.
pub record Grows (g : Given) (old new : Reaching) : Type 0 where
  pub state : IsReaching g new
  pub reached : following.Grows g.bank.now old.reached new.reached
  pub standings : take (length old.standings.items) new.standings.items ≡ old.standings.items
  pub merges : Remembers old.reached new.reached
  pub facts : take (length old.path.known.items) new.path.known.items ≡ old.path.known.items

-- ---- from a state that shows what is reached

-- the path goes on to one at whose end it is shown
pub record ReachesOn (cs : List ClassTree) (premises : List Formula) (goal : Formula) (g : Given) (old new : Reaching) : Type 0 where
  pub shows : Shows cs g new
  pub goes_on : GoesOn cs premises goal g.bank.now old.path new.path

abbrev pub ReachesFrom : Given → Reaching → Reaching → Type 0
ReachesFrom g old new = (cs : List ClassTree) (premises : List Formula) (goal : Formula) → Shows cs g old → ReachesOn cs premises goal g old new

-- the lines close the case at the end of the new path
abbrev pub ClosesFrom : Given → Reaching → Reaching → List Line → Type 0
ClosesFrom g old new lines = (cs : List ClassTree) (premises : List Formula) (goal : Formula) → Shows cs g old → Closes cs premises goal (facts_of g new) (lines_of g.bank.now lines)

-- The first choice that opens a fact. Of what is guarded any number does likewise.
abbrev pub start_of : Standing → ℕ
start_of (Fact place from) = from
start_of (Guarded origin) = 0
