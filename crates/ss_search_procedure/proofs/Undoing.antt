-- A formula is supposed and reached, and after its trial what is reached is as before.
use Rattle.std.proofs.Common.{◌≡◌, ℕ, ◌-◌, ◌<◌, List, [], ◌∷◌, ◌++◌, length, take, true, Some, refl, sym, ◌∙◌, ap, subst, arith}
use Rattle.std.specs.Prelude.{slice_get}
use Rattle.std.proofs.lemmas.List.{length-map, map_push, length_push}
use Rattle.ss_core.specs.Tree.{ClassTree}
use Rattle.ss_logic.specs.Formulas.{Formula, is_well_formed}
use Rattle.ss_logic_means.specs.Steps.{is_cut}
use Rattle.ss_terms.specs.declared.forms.FormulaId.{FormulaId}
use Rattle.ss_terms.specs.Forms.{Forms, formula_at, formulas_at, HasFormula}
use Rattle.ss_equality_rules.specs.declared.Merge.{Merge}
use Rattle.ss_deriv.specs.declared.line.Line.{Line}
use Rattle.ss_deriv.specs.Lines.{lines_of}
use Rattle.ss_search_clashes.specs.Closing.{Closes}
use Rattle.ss_search_clashes.specs.Said.{AreKnown}
use Rattle.ss_search_path.specs.declared.path.Path.{Path}
use Rattle.ss_search_path.specs.Paths as paths
use Rattle.ss_search_path.specs.Paths.{known_on, opening, IsMark, IsSame, IsBack, IsSupposed, IsTrial}
use Rattle.ss_search_path.proofs.Going.{goes_nowhere, goes_through, trial_undone}
use Rattle.ss_search_procedure_rules.specs.Closed.{OccursIn}
use Rattle.ss_search_reached.specs.Known.{merges_at}
use Rattle.ss_search_reached.proofs.Fronts.{front_itself, front_push}
use Rattle.ss_search_reached.proofs.Kept.{at_now}
use Rattle.ss_search_path.specs.declared.standing.Standing.{Standing}
use Rattle.ss_search_path.specs.Standing.{AreStanding}
use Rattle.ss_search_path.proofs.StandingFacts.{known_more, longer_standing}
use Rattle.ss_search_path.proofs.Longer.{merges_longer}
use Rattle.ss_search_reaching.specs.declared.reaching.Reaching.{Reaching}
use Rattle.ss_search_reaching.specs.declared.reaching.Marks.{Marks}
use Rattle.ss_search_reaching.specs.Reaching.{facts_of, IsReaching, Shows, Grows}
use Rattle.ss_search_reaching.proofs.Learning.{nothing_grows}
use Rattle.ss_search_procedure.specs.declared.setting.Settling.{Settling}
use Rattle.ss_search_procedure.specs.Decisions.{bank_of, reached_in, IsState, GoesOn, IsShown, ReachesBy, ClosesBy, IsLast, IsTrialOf, IsAsBefore}
use Rattle.ss_search_procedure.proofs.Going.{on_and_on, on_grows}

-- ---- the last fact

at_end : {A : Type 0} (xs : List A) (x : A) → slice_get (xs ++ x ∷ []) (length xs) ≡ Some x
at_end [] x = refl
at_end (y ∷ xs) x = at_end xs x

pub some_last : (b : Forms) (f : Formula) (p : Path) → IsLast b f p → 0 < length p.known.items
some_last b f p h = let l = ap length h.1.numbers in omega (arith, l, length_push h.0 h.1.number)

pub last_fact : (b : Forms) (f : Formula) (p : Path) (n : ℕ) → IsLast b f p → n ≡ length p.known.items - 1 → slice_get (known_on b p) n ≡ Some f
last_fact b f p n h e =
    let front = formulas_at b h.0 in
    let known : known_on b p ≡ front ++ f ∷ [] = ap (formulas_at b) h.1.numbers ∙ map_push (formula_at b) h.0 h.1.number ∙ ap (λ (g : Formula). front ++ g ∷ []) h.1.is in
    let many : n ≡ length front = let l = ap length h.1.numbers in omega (arith, e, l, length_push h.0 h.1.number, length-map h.0 (formula_at b)) in
    ap (slice_get (known_on b p)) many ∙ ap (λ (fs : List Formula). slice_get fs (length front)) known ∙ at_end front f

-- ---- another path

pub begun_same : (b : Forms) (p : FormulaId) (at mid new : Path) → IsSupposed b p at mid → IsSame mid new → IsSupposed b p at new
begun_same b p at mid new h same = record { before = same.before ∙ h.before; behind = same.behind ∙ h.behind; known = same.known ∙ h.known }

pub supposed_front : (b : Forms) (p : FormulaId) (at trial : Path) → IsSupposed b p at trial → take (length at.known.items) trial.known.items ≡ at.known.items
supposed_front b p at trial h = front_push at.known.items trial.known.items (p ∷ []) h.known

pub supposed_last : (b : Forms) (p : FormulaId) (at trial : Path) → HasFormula b p → IsSupposed b p at trial → IsLast b (formula_at b p) trial
supposed_last b p at trial has h = (at.known.items, record { number = p; in_bank = has; is = refl; numbers = h.known })

module _ (s : Settling) where
  -- the same is reached, with more facts
  module _ (old : Reaching) (path : Path) (facts : take (length old.path.known.items) path.known.items ≡ old.path.known.items) where
    abbrev pub with_path : Reaching
    with_path = record { reached = old.reached; standings = old.standings; places = old.places; path = path }

    pub more_facts : IsState s old → GoesOn s old with_path
    more_facts h = on_grows s old with_path h (record { state = state; reached = g.reached; standings = g.standings; merges = g.merges; facts = facts })
      where
        g : Grows s.given old old
        g = nothing_grows s.given old h.reaching

        state : IsReaching s.given with_path
        state = record { reached = h.reaching.reached; long = h.reaching.long; places = h.reaching.places }

    pub shown_further : (cs : List ClassTree) → IsShown cs s old → IsShown cs s with_path
    shown_further cs h =
        let kept = known_more (bank_of s) old.path path facts in
        record {
          bank = h.bank;
          formed = h.formed;
          shows = record {
            standing = longer_standing cs s.given (facts_of s.given old) (known_on (bank_of s) path) kept (reached_in s old) old.standings.items h.shows.standing;
            merges = merges_longer cs (bank_of s) (facts_of s.given old) (known_on (bank_of s) path) kept old.reached.congruence.merges h.shows.merges;
          };
        }

-- ---- a trial

module _ (s : Settling) where
  -- a formula was supposed, and from there it went on
  abbrev pub trial_of : (m : Marks) (p : FormulaId) (at supposed now : Reaching) → IsState s at → m.reached ≡ length at.reached.known.items → IsMark m.path at.path → IsSupposed (bank_of s) p at.path supposed.path →
      ((cs : List ClassTree) → IsShown cs s at → IsShown cs s supposed) → GoesOn s at supposed → GoesOn s supposed now → ReachesBy s supposed now → IsTrialOf s m p at now
  trial_of m p at supposed now state reached path begun shown first later reaches = record {
    state = state;
    reached = reached;
    path = path;
    trial = supposed;
    begun = begun;
    shown = shown;
    on = on_and_on s at supposed now first later;
    reaches = reaches;
  }

-- ---- after a trial

module _ (s : Settling) (m : Marks) (p : FormulaId) (at now : Reaching) (t : IsTrialOf s m p at now) (after : Reaching) (state : IsReaching s.given after)
    (reached : reached_in s after ≡ take m.reached (reached_in s now)) (standings : after.standings.items ≡ take m.reached now.standings.items)
    (merges : after.reached.congruence.merges ≡ take (merges_at now.reached.merges.items now.reached.congruence.merges m.reached) now.reached.congruence.merges)
    (counts : after.reached.merges.items ≡ take m.reached now.reached.merges.items)
    (rest : List FormulaId) (known : after.path.known.items ≡ take m.path.known now.path.known.items ++ rest) where
  pub same : reached_in s after ≡ reached_in s at
  same = reached ∙ ap (λ (n : ℕ). take n (reached_in s now)) (t.reached ∙ sym (length-map at.reached.known.items (formula_at (bank_of s)))) ∙ t.on.grows.reached.front

  standings_same : after.standings.items ≡ at.standings.items
  standings_same = standings ∙ ap (λ (n : ℕ). take n now.standings.items) (t.reached ∙ sym t.state.reaching.long) ∙ t.on.grows.standings

  merges_same : after.reached.congruence.merges ≡ at.reached.congruence.merges
  merges_same = merges ∙ ap (λ (n : ℕ). take (merges_at now.reached.merges.items now.reached.congruence.merges n) now.reached.congruence.merges) t.reached
      ∙ ap (λ (n : ℕ). take n now.reached.congruence.merges) t.on.grows.merges.next ∙ t.on.grows.merges.begins

  counts_same : after.reached.merges.items ≡ at.reached.merges.items
  counts_same = counts ∙ ap (λ (n : ℕ). take n now.reached.merges.items) (t.reached ∙ sym t.state.reaching.reached.kept.long) ∙ t.on.grows.merges.counts

  known_same : after.path.known.items ≡ at.path.known.items ++ rest
  known_same = known ∙ ap (λ (fs : List FormulaId). fs ++ rest) (ap (λ (n : ℕ). take n now.path.known.items) t.path.known ∙ t.on.grows.facts)

  facts_front : take (length at.path.known.items) after.path.known.items ≡ at.path.known.items
  facts_front = front_push at.path.known.items after.path.known.items rest known_same

  grows : Grows s.given at after
  grows = record {
    state = state;
    reached = record {
      reached = state.reached;
      front = ap (take (length (reached_in s at))) same ∙ front_itself (reached_in s at);
      occurs = λ x o. subst (λ (fs : List Formula). OccursIn fs x) same o;
    };
    standings = ap (take (length at.standings.items)) standings_same ∙ front_itself at.standings.items;
    merges = record {
      counts = ap (take (length at.reached.merges.items)) counts_same ∙ front_itself at.reached.merges.items;
      begins = ap (take (length at.reached.congruence.merges)) merges_same ∙ front_itself at.reached.congruence.merges;
      next = ap (λ (ns : List ℕ). merges_at ns after.reached.congruence.merges (length at.reached.known.items)) counts_same
          ∙ ap (λ (ms : List Merge). merges_at at.reached.merges.items ms (length at.reached.known.items)) merges_same
          ∙ at_now (bank_of s) at.reached.known.items at.reached.merges.items at.reached.congruence t.state.reaching.reached.kept;
    };
    facts = facts_front;
  }

  pub as_before : IsAsBefore s at after
  as_before = record { goes_on = on_grows s at after t.state grows; same = same }

  shows_before : (cs : List ClassTree) → Shows cs s.given at → Shows cs s.given after
  shows_before cs h =
      let kept = known_more (bank_of s) at.path after.path facts_front in
      record {
        standing = subst (λ (ss : List Standing). AreStanding cs s.given (facts_of s.given after) (reached_in s after) ss) (sym standings_same)
            (subst (λ (fs : List Formula). AreStanding cs s.given (facts_of s.given after) fs at.standings.items) (sym same)
            (longer_standing cs s.given (facts_of s.given at) (facts_of s.given after) kept (reached_in s at) at.standings.items h.standing));
        merges = subst (λ (ms : List Merge). AreKnown cs (bank_of s) ms (length (facts_of s.given after)) (facts_of s.given after)) (sym merges_same)
            (merges_longer cs (bank_of s) (facts_of s.given at) (facts_of s.given after) kept at.reached.congruence.merges h.merges);
      }

  module _ (mid : Path) (same_path : IsSame now.path mid) where
    trial_goes_on : (cs : List ClassTree) (premises : List Formula) (goal : Formula) → IsShown cs s at → IsTrial cs premises goal (bank_of s) m.path (opening (is_cut (formula_at (bank_of s) p)) p) p at.path t.trial.path mid
    trial_goes_on cs premises goal h =
        let r = t.reaches cs premises goal (t.shown cs h) in
        record {
          mark = t.path;
          begun = t.begun;
          since = goes_through cs premises goal (bank_of s) t.trial.path now.path mid r.goes_on (goes_nowhere cs premises goal (bank_of s) now.path mid same_path);
          kept = ap (take (length at.path.known.items)) same_path.known ∙ t.on.grows.facts;
        }

    -- the trial is undone
    pub reaches_before : IsBack m.path mid after.path → ReachesBy s at after
    reaches_before back cs premises goal h = record {
      shows = shows_before cs h.shows;
      goes_on = goes_nowhere cs premises goal (bank_of s) at.path after.path
          (trial_undone cs premises goal (bank_of s) m.path (opening (is_cut (formula_at (bank_of s) p)) p) p at.path t.trial.path mid (trial_goes_on cs premises goal h) after.path back);
    }

    -- the trial is closed, and what was supposed denied
    pub reaches_denied : (closing : List Line) → ClosesBy s t.trial now closing →
        ((cs : List ClassTree) → IsShown cs s at → is_well_formed cs [] (formula_at (bank_of s) p) ≡ true) →
        ((cs : List ClassTree) (premises : List Formula) (goal : Formula) (before trial : Path) → IsTrial cs premises goal (bank_of s) m.path (opening (is_cut (formula_at (bank_of s) p)) p) p before trial mid →
        Closes cs premises goal (known_on (bank_of s) mid) (lines_of (bank_of s) closing) → is_well_formed cs [] (formula_at (bank_of s) p) ≡ true → paths.GoesOn cs premises goal (bank_of s) before after.path) → ReachesBy s at after
    reaches_denied closing closes formed says cs premises goal h = record {
      shows = shows_before cs h.shows;
      goes_on = says cs premises goal at.path t.trial.path (trial_goes_on cs premises goal h)
          (subst (λ (fs : List Formula). Closes cs premises goal fs (lines_of (bank_of s) closing)) (ap (formulas_at (bank_of s)) (sym same_path.known)) (closes cs premises goal (t.shown cs h)))
          (formed cs h);
    }
