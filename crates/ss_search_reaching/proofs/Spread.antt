-- The parts of a reached `and` that is the fact at a place.
use Rattle.std.proofs.Common.{subst, ◌≡◌, ℕ, List, [], ◌∷◌, length, map, take, Some, ap}
use Rattle.std.specs.Prelude.{slice_get}
use Rattle.ss_core.specs.Tree.{ClassTree}
use Rattle.ss_logic.specs.Formulas.{Formula, Formulas, And, Or, formula_list, formulas_from, neg}
use Rattle.ss_terms.specs.declared.forms.FormulaId.{FormulaId}
use Rattle.ss_terms.specs.Forms.{formula_at, formulas_at}
use Rattle.ss_search_path.specs.declared.path.Path.{Path}
use Rattle.ss_search_path.specs.Paths.{known_on, GoesOn, IsSame}
use Rattle.ss_search_path.proofs.Going.{goes_nowhere, goes_through}
use Rattle.ss_search_reached.proofs.Fronts.{front_trans}
use Rattle.ss_search_path.specs.declared.standing.Given.{Given}
use Rattle.ss_search_path.specs.declared.standing.Standing.{Standing}
use Rattle.ss_search_path.specs.declared.standing.Standing.TheVariants.{Fact, Guarded}
use Rattle.ss_search_path.specs.Standing.{IsOpenedFact, Stands, AreChosen}
use Rattle.ss_search_path.proofs.StandingFacts.{known_more, longer_standing, longer_opened}
use Rattle.ss_search_reaching.specs.Refuting.{and_of}
use Rattle.ss_search_path.proofs.Longer.{merges_longer}
use Rattle.ss_search_reaching.proofs.Shown.{map_at, part_there}
use Rattle.ss_search_reaching.specs.declared.reaching.Reaching.{Reaching}
use Rattle.ss_search_reaching.specs.Reaching.{place_of, start_of, facts_of, reached_of, Shows, Grows, ReachesOn, ReachesFrom}

-- what is reached, on a path that went on
abbrev pub on_path : Reaching → Path → Reaching
on_path r p = record { reached = r.reached; standings = r.standings; places = r.places; path = p }

module _ (g : Given) (r : Reaching) (p : Path) (kept : take (length r.path.known.items) p.known.items ≡ r.path.known.items) where
  pub longer_shows : (cs : List ClassTree) → Shows cs g r → Shows cs g (on_path r p)
  longer_shows cs h =
      let front = known_more g.bank.now r.path p kept in
      record {
        standing = longer_standing cs g (known_on g.bank.now r.path) (known_on g.bank.now p) front (reached_of g r) r.standings.items h.standing;
        merges = merges_longer cs g.bank.now (known_on g.bank.now r.path) (known_on g.bank.now p) front r.reached.congruence.merges h.merges;
      }

  pub longer_grows : (new : Reaching) → Grows g (on_path r p) new → Grows g r new
  longer_grows new h = record {
    state = h.state;
    reached = h.reached;
    standings = h.standings;
    merges = h.merges;
    facts = front_trans r.path.known.items p.known.items new.path.known.items kept h.facts;
  }

-- what stands and is an `and` is a fact
pub and_stands : (cs : List ClassTree) (g : Given) (facts : List Formula) (s : Standing) (fs : Formulas) → Stands cs g facts s (And fs) → IsOpenedFact cs g facts (place_of s) (start_of s) (And fs)
and_stands cs g facts (Fact place from) fs h = h
and_stands cs g facts (Guarded origin) fs h =
    let both : And fs ≡ Or (formulas_from (neg h.guarded.guard ∷ h.guarded.body ∷ [])) = h.guarded.is in
    cc

-- the facts are the same
pub facts_same : (g : Given) (r s : Reaching) → IsSame r.path s.path → facts_of g s ≡ facts_of g r
facts_same g r s same = ap (λ (fs : List FormulaId). map (formula_at g.bank.now) fs) same.known

-- ---- one part

module _ (g : Given) (old : Reaching) (p : Path) (new : Reaching) (place from at later : ℕ) (parts : List FormulaId) (part : ℕ) (f : FormulaId) (f_at : slice_get parts part ≡ Some f)
    (kept : take (length old.path.known.items) p.known.items ≡ old.path.known.items)
    (goes_on : (cs : List ClassTree) (premises : List Formula) (goal : Formula) (fs : Formulas) (x : Formula) → AreChosen cs g (facts_of g old) → IsOpenedFact cs g (facts_of g old) place from (And fs) → slice_get (formula_list fs) part ≡ Some x →
    GoesOn cs premises goal g.bank.now old.path p)
    (opened : (cs : List ClassTree) (fs : Formulas) (x : Formula) → AreChosen cs g (facts_of g old) → IsOpenedFact cs g (facts_of g old) place from (And fs) → slice_get (formula_list fs) part ≡ Some x →
    IsOpenedFact cs g (known_on g.bank.now p) at later x)
    (same : IsSame p new.path)
    (shows : (cs : List ClassTree) → Shows cs g (on_path old p) → Stands cs g (known_on g.bank.now p) (Fact at later) (formula_at g.bank.now f) → Shows cs g new) where
  pub part_reaches : (cs : List ClassTree) (premises : List Formula) (goal : Formula) → Shows cs g old → IsOpenedFact cs g (facts_of g old) place from (and_of g.bank.now parts) → ReachesOn cs premises goal g old new
  part_reaches cs premises goal h fact =
      let fs : Formulas = formulas_from (formulas_at g.bank.now parts) in
      let there = part_there g.bank.now parts part f f_at in
      record {
        shows = shows cs (longer_shows g old p kept cs h) (opened cs fs (formula_at g.bank.now f) h.standing.chosen fact there);
        goes_on = goes_through cs premises goal g.bank.now old.path p new.path (goes_on cs premises goal fs (formula_at g.bank.now f) h.standing.chosen fact there) (goes_nowhere cs premises goal g.bank.now p new.path same);
      }

-- ---- all parts, one after the other

-- the fact stays where it is
pub still_opened : (cs : List ClassTree) (g : Given) (old now : Reaching) (place from : ℕ) (f : Formula) → Grows g old now → IsOpenedFact cs g (facts_of g old) place from f → IsOpenedFact cs g (facts_of g now) place from f
still_opened cs g old now place from f grows h = longer_opened cs g (facts_of g old) (facts_of g now) (known_more g.bank.now old.path now.path grows.facts) place from f h

-- a reached `and` is the fact at the place of its standing
pub and_reaches : (g : Given) (old new : Reaching) (at : ℕ) (f : FormulaId) (s : Standing) (parts : List FormulaId) → slice_get old.reached.known.items at ≡ Some f → slice_get old.standings.items at ≡ Some s → formula_at g.bank.now f ≡ and_of g.bank.now parts →
    ((cs : List ClassTree) (premises : List Formula) (goal : Formula) → Shows cs g old → IsOpenedFact cs g (facts_of g old) (place_of s) (start_of s) (and_of g.bank.now parts) → ReachesOn cs premises goal g old new) → ReachesFrom g old new
and_reaches g old new at f s parts f_at s_at is reaches cs premises goal h =
    reaches cs premises goal h (and_stands cs g (facts_of g old) s (formulas_from (formulas_at g.bank.now parts))
    (subst (Stands cs g (facts_of g old) s) is (h.standing.each at (formula_at g.bank.now f) s (map_at (formula_at g.bank.now) old.reached.known.items at f f_at) s_at)))
